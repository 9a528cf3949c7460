use Rattle.std.proofs.Common.{◌≡◌, ◌++◌, map, take, drop}
use Rattle.patterns.specs.Lanes.{renewed}
use Rattle.patterns.proofs.table.LaneTable.renew.Given as goal

abbrev pub invariant-loop-domain : goal.invariant-loop-domain
invariant-loop-domain l = l.domain-items ≡ map (map renewed) (take l.domain-index l.fn.self) ++ drop l.domain-index l.fn.self
