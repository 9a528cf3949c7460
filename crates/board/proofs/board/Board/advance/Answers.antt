use Rattle.std.proofs.Common.{◌/◌, ◌%◌, List, ap}
use Rattle.patterns.specs.Lanes.{LaneView, advanced, changed}
use Rattle.board.specs.contracts.board.Board.{the_view}
use Rattle.board.proofs.Limits.{lanes_known, length_changed}
use Rattle.board.proofs.Moves.{advanced_pattern, roles_changed, formed_changed}
use Rattle.board.proofs.board.Board.advance.Goals as goal

pub invariant_of-self : goal.invariant_of-self
invariant_of-self c =
    let b = the_view c.self.inside in
    let g = advanced c.args.event (c.args.slot % 8) in
    let same = advanced_pattern c.args.event (c.args.slot % 8) in
    let d = c.args.slot / 64 in
    let i = c.args.slot / 8 % 8 in
    (lanes_known b c.self.inside.used c.self.invariant.0 _ (length_changed (λ ls. changed g ls i) b.lanes d) (roles_changed g same b.shares b.lanes d i) (formed_changed g same b.lanes d i) _ c.advance.ensures, c.self.invariant.1)

pub returns : goal.returns
returns c =
    let b = the_view c.self.inside in
    rw (← c.self.view_is) (ap (λ (t : List (List LaneView)). record { first = b.first; shares = b.shares; lanes = t; slots = b.slots }) c.advance.ensures)
