use Rattle.std.proofs.Common.{◌≡◌, ◌++◌, map, take, drop}
use Rattle.patterns.specs.Lanes.{started}
use Rattle.patterns.proofs.table.LaneTable.start_at.Given as goal

abbrev pub invariant-loop-domain : goal.invariant-loop-domain
invariant-loop-domain l = l.domain-items ≡ map (map (started l.tick)) (take l.domain-index l.fn.self) ++ drop l.domain-index l.fn.self
