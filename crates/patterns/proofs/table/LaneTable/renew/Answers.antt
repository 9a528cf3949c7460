use Rattle.std.proofs.Common.{map, rules, subst}
use Rattle.interface.proofs.Loops.{map_turn, map_long}
use Rattle.patterns.specs.Lanes.{renewed}
use Rattle.patterns.specs.Tables.{FewLanes}
use Rattle.patterns.proofs.Few.{few_mapped}
use Rattle.patterns.proofs.Lasts.{ends_with_the_last}
use Rattle.patterns.proofs.table.LaneTable.renew.Goals as goal

pub returns-clause-ends : goal.returns-clause-ends
returns-clause-ends c = ends_with_the_last

pub loop-domain-preserved : goal.loop-domain-preserved
loop-domain-preserved c =
    let t = c.args.self.now in
    map_turn (map renewed) t c.loop-domain.domain-items c.loop-domain.domain-index _ c.renew.new.self (search rules)
    (map_long (map renewed) t c.loop-domain.domain-items c.loop-domain.domain-index c.loop-domain.invariant) c.loop-domain.invariant c.renew.ensures

pub invariant_of-self : goal.invariant_of-self
invariant_of-self c =
    let t = c.args.self.now in
    (c.self.invariant.0, few_mapped renewed t c.loop-domain.domain-items _ c.self.inside.domains.len c.loop-domain.domain-index c.loop-domain.invariant (search rules) (search rules) (subst FewLanes c.self.view_is c.self.invariant.1))
