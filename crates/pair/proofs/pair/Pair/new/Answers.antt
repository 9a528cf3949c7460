use Rattle.std.proofs.Common.{rules}
use Rattle.pair.proofs.Joining.{pairs}
use Rattle.pair.proofs.pair.Pair.new.Goals as goal

pub returns-in_err-table : goal.returns-in_err-table
returns-in_err-table g c = record {
  made = search rules;
  pairs = pairs g.A.Controller.meaning g.B.Controller.meaning g.met.A.Controller.lawful g.met.B.Controller.lawful g.met.A.CountableSpan.span_fits g.met.B.CountableSpan.span_fits (g.A.Controller.state c.args.first) (g.B.Controller.state c.args.second);
}

pub returns : goal.returns
returns g c = record {
  made = search rules;
  pairs = pairs g.A.Controller.meaning g.B.Controller.meaning g.met.A.Controller.lawful g.met.B.Controller.lawful g.met.A.CountableSpan.span_fits g.met.B.CountableSpan.span_fits (g.A.Controller.state c.args.first) (g.B.Controller.state c.args.second);
}
