use Rattle.std.proofs.Common.{ap, ◌∙◌}
use Rattle.holder.specs.Holding.{admission}
use Rattle.held.specs.Entries.{request_of}
use Rattle.held.proofs.Held.{admission_is, take_is}
use Rattle.held.proofs.tables.Table.take.Goals as goal

pub returns : goal.returns
returns c = rw (← c.self.view_is) (record {
  answer = c.admit.ensures.answer ∙ ap (admission request_of 32 c.self.inside.holder) c.new.ensures ∙ admission_is c.args.span c.self.inside.holder c.args.request;
  after = take_is c.args.span c.self.inside.holder c.admit.new.self c.args.request c.new.result c.new.ensures c.admit.ensures.after;
})
