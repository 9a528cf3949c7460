use Rattle.std.proofs.Common.{ap, ◌∙◌, rules}
use Rattle.patterns.specs.Lanes.{advanced}
use Rattle.patterns.specs.contracts.domain.DomainLanes.{the_view}
use Rattle.patterns.proofs.Places.{placed, changed_past}
use Rattle.patterns.proofs.domain.DomainLanes.advance.Goals as goal
use Rattle.patterns.proofs.domain.DomainLanes.advance.Goals.{in-Some, in_default}

pub returns-clause-value : goal.returns-clause-value
returns-clause-value c = rw (← c.self.view_is) (elim c.match-get_mut.branch [
  | in-Some w ↦ ap the_view w.self-inside-is ∙ placed (advanced c.args.event c.args.vertex) c.self.inside.lanes.items c.args.number _ _ w.in-Some.ensures.value w.advance.ensures
  | in_default w ↦ ap the_view w.self-inside-is ∙ changed_past (advanced c.args.event c.args.vertex) c.self.inside.lanes.items c.args.number (search rules)
])
