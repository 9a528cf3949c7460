use Rattle.std.proofs.Common.{◌≡◌, drop}
use Rattle.std.specs.VecDeque.{deque_items, deque_capacity}
use Rattle.interface.specs.Slots.{dones_of}
use Rattle.holder.specs.Holding.{slot_by, all_added}
use Rattle.holder.proofs.holder.add_dones.Given as goal

abbrev pub invariant-loop-e : goal.invariant-loop-e
invariant-loop-e g l =
    let key = slot_by g.E.OfRequest.request in
    let p = g.T.Test.passes l.test in
    (all_added g.row.ROOM (dones_of key p (drop l.e-index l.entries)) (deque_items l.events) ≡ all_added g.row.ROOM (dones_of key p l.entries) (deque_items l.initial.events))
    × (deque_capacity l.events ≡ deque_capacity l.initial.events)
