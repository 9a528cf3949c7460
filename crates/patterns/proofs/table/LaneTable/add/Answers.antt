use Rattle.std.proofs.Common.{ap, ◌∙◌, rules}
use Rattle.patterns.specs.Tables.{with_lane}
use Rattle.patterns.specs.contracts.table.LaneTable.{the_view}
use Rattle.patterns.proofs.Places.{placed, changed_past}
use Rattle.patterns.proofs.table.LaneTable.add.Goals as goal
use Rattle.patterns.proofs.table.LaneTable.add.Goals.{in-Some, in-None}

pub returns-clause-after : goal.returns-clause-after
returns-clause-after c =
    let move = with_lane c.args.free c.args.lane.vertices.now c.args.lane.edges.now c.args.lane.rest in
    rw (← c.self.view_is) (elim c.match-get_mut.branch [
      | in-Some w ↦ ap the_view w.self-inside-is ∙ placed move c.self.inside.domains.items c.args.domain _ _ w.in-Some.ensures.value w.add.ensures.after
      | in-None w ↦ ap the_view w.self-inside-is ∙ changed_past move c.self.inside.domains.items c.args.domain (search rules)
    ])
