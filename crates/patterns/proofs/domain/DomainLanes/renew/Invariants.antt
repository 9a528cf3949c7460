use Rattle.std.proofs.Common.{◌≡◌, ◌++◌, map, take, drop}
use Rattle.patterns.specs.Lanes.{renewed}
use Rattle.patterns.proofs.domain.DomainLanes.renew.Given as goal

abbrev pub invariant-loop-lane : goal.invariant-loop-lane
invariant-loop-lane l = l.lane-items ≡ map renewed (take l.lane-index l.fn.self) ++ drop l.lane-index l.fn.self
