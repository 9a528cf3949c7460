use Rattle.std.proofs.Common.{◌≡◌, ◌+◌, drop}
use Rattle.arrivals.specs.Driving.{taken_count, taken_state}
use Rattle.arrivals.proofs.driving.take_all.Given as goal

abbrev pub invariant-loop-taken : goal.invariant-loop-taken
invariant-loop-taken g l =
    let m = g.C.Controller in
    (l.taken + taken_count m.meaning l.step (drop l.taken l.arrivals) (m.state l.controller)
    ≡ taken_count m.meaning l.step l.arrivals (m.state l.initial.controller))
    × (taken_state m.meaning l.step (drop l.taken l.arrivals) (m.state l.controller)
    ≡ taken_state m.meaning l.step l.arrivals (m.state l.initial.controller))
