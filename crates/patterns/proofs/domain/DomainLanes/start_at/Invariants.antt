use Rattle.std.proofs.Common.{◌≡◌, ◌++◌, map, take, drop}
use Rattle.patterns.specs.Lanes.{started}
use Rattle.patterns.proofs.domain.DomainLanes.start_at.Given as goal

abbrev pub invariant-loop-lane : goal.invariant-loop-lane
invariant-loop-lane l = l.lane-items ≡ map (started l.tick) (take l.lane-index l.fn.self) ++ drop l.lane-index l.fn.self
