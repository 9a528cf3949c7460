use Rattle.std.proofs.Common.{List, map, ap}
use lib.ListN.{length-map}
use Rattle.patterns.specs.Lanes.{LaneView, renewed}
use Rattle.board.specs.contracts.board.Board.{the_view}
use Rattle.board.proofs.Limits.{roles_map, formed_map, lanes_known}
use Rattle.board.proofs.Moves.{renewed_pattern}
use Rattle.board.proofs.board.Board.renew.Goals as goal

pub invariant_of-self : goal.invariant_of-self
invariant_of-self c =
    let b = the_view c.self.inside in
    (lanes_known b c.self.inside.used c.self.invariant.0 _ (length-map b.lanes (map renewed)) (roles_map renewed renewed_pattern b.shares b.lanes) (formed_map renewed renewed_pattern b.lanes) _ c.renew.ensures.after, c.self.invariant.1)

pub returns : goal.returns
returns c =
    let b = the_view c.self.inside in
    rw (← c.self.view_is) (ap (λ (t : List (List LaneView)). record { first = b.first; shares = b.shares; lanes = t; slots = b.slots }) c.renew.ensures.after)
