use Rattle.std.proofs.Common.{List, map, refl, ap}
use lib.ListN.{length-map}
use Rattle.patterns.specs.Lanes.{LaneView, started}
use Rattle.board.specs.contracts.board.Board.{the_view}
use Rattle.board.proofs.Limits.{roles_map, formed_map, lanes_known}
use Rattle.board.proofs.board.Board.start.Goals as goal

pub invariant_of-self : goal.invariant_of-self
invariant_of-self c =
    let b = the_view c.self.inside in
    (lanes_known b c.self.inside.used c.self.invariant.0 _ (length-map b.lanes (map (started b.first))) (roles_map (started b.first) (λ l. refl) b.shares b.lanes) (formed_map (started b.first) (λ l. refl) b.lanes) _ c.start_at.ensures, c.self.invariant.1)

pub returns : goal.returns
returns c =
    let b = the_view c.self.inside in
    rw (← c.self.view_is) (ap (λ (t : List (List LaneView)). record { first = b.first; shares = b.shares; lanes = t; slots = b.slots }) c.start_at.ensures)
