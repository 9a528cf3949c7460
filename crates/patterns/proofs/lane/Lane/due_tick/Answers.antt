use Rattle.patterns.specs.contracts.lane.Lane.{the_view}
use Rattle.patterns.proofs.Attained.{is_due}
use Rattle.patterns.proofs.lane.Lane.due_tick.Goals as goal

pub returns : goal.returns
returns c =
    let h = is_due (the_view c.self.inside) c.as_slice-2.result.now c.as_slice.result.now c.args.vertex c.due_among.result c.due_among.ensures c.as_slice-2.ensures.value c.as_slice.ensures.value in
    rw (← c.self.view_is) (record { value = h.0; greatest = h.1 })
