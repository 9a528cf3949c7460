use Rattle.std.proofs.Common.{sym, ap, ◌∙◌}
use Rattle.holder.specs.Holding.{with_dones}
use Rattle.held.specs.Entries.{request_of, expired}
use Rattle.held.specs.Rows.{rows_of}
use Rattle.held.proofs.Held.{pass_is}
use Rattle.held.proofs.tables.Table.step.Goals as goal

pub returns-clause-after : goal.returns-clause-after
returns-clause-after c =
    rw (← c.self.view_is) (ap rows_of (c.add_dones.ensures ∙ ap (with_dones 33 request_of expired) c.update.ensures.after) ∙ pass_is c.self.inside.holder c.update.ensures.few (sym c.has_events.ensures ∙ c.if-has_events.false))
