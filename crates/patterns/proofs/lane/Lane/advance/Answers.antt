use Rattle.std.proofs.Common.{ap, ◌∙◌, rules}
use Rattle.patterns.specs.Moves.{moved}
use Rattle.patterns.specs.contracts.lane.Lane.{the_view}
use Rattle.patterns.proofs.Places.{placed, changed_past}
use Rattle.patterns.proofs.lane.Lane.advance.Goals as goal
use Rattle.patterns.proofs.lane.Lane.advance.Goals.{in-Some, in_default}

pub returns : goal.returns
returns c = rw (← c.self.view_is) (elim c.match-get_mut.branch [
  | in-Some w ↦
      let vs = placed (moved c.args.event) c.self.inside.vertices.items c.args.vertex _ _ w.in-Some.ensures.value w.advance.ensures in
      ap the_view w.self-inside-is ∙ cc vs
  | in_default w ↦
      let kept = changed_past (moved c.args.event) c.self.inside.vertices.items c.args.vertex (search rules) in
      ap the_view w.self-inside-is ∙ cc kept
])
