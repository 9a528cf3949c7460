use Rattle.std.proofs.Common.{List, ap, ◌∙◌, rules}
use Rattle.patterns.specs.Lanes.{LaneView, advanced, changed}
use Rattle.patterns.specs.contracts.table.LaneTable.{the_view}
use Rattle.patterns.proofs.Places.{placed, changed_past}
use Rattle.patterns.proofs.table.LaneTable.advance.Goals as goal
use Rattle.patterns.proofs.table.LaneTable.advance.Goals.{in-Some, in_default}

pub returns : goal.returns
returns c =
    let move : List LaneView → List LaneView = λ ls. changed (advanced c.args.event c.args.vertex) ls c.args.number in
    rw (← c.self.view_is) (elim c.match-get_mut.branch [
      | in-Some w ↦ ap the_view w.self-inside-is ∙ placed move c.self.inside.domains.items c.args.domain _ _ w.in-Some.ensures.value w.advance.ensures.value
      | in_default w ↦ ap the_view w.self-inside-is ∙ changed_past move c.self.inside.domains.items c.args.domain (search rules)
    ])
