use Rattle.std.proofs.Common.{◌≡◌, ◌+◌, ◌≤◌, min, length}
use Rattle.interface.specs.Emptied.{emptied}
use Rattle.arrivals.specs.Driving.{filled}
use Rattle.arrivals.proofs.Filling.{filled_at}
use Rattle.arrivals.proofs.driving.drain.Given as goal

abbrev pub invariant-loop-event : goal.invariant-loop-event
invariant-loop-event g l =
    let m = g.C.Controller in
    (l.n ≤ length l.out)
    × (min (l.n + length (m.meaning.ready (m.state l.controller))) (length l.out) ≡ min (length (m.meaning.ready (m.state l.initial.controller))) (length l.initial.out))
    × (filled_at l.n (m.meaning.ready (m.state l.controller)) l.out ≡ filled (m.meaning.ready (m.state l.initial.controller)) l.initial.out)
    × (emptied m.meaning (m.meaning.ready (m.state l.controller)) (m.state l.controller) ≡ emptied m.meaning (m.meaning.ready (m.state l.initial.controller)) (m.state l.initial.controller))

abbrev pub decreases-loop-event : goal.decreases-loop-event
decreases-loop-event g l = length (g.C.Controller.meaning.ready (g.C.Controller.state l.controller))
