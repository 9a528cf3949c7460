use Rattle.std.proofs.Common.{arith, rules}
use Rattle.level.proofs.Delaying.{levels}
use Rattle.level.proofs.level.Level.new.Goals as goal

pub returns-in_err-table : goal.returns-in_err-table
returns-in_err-table g c = record { made = search rules; levels = levels g.C.Controller.meaning g.met.C.Controller.lawful g.met.C.CountableSpan.span_fits c.args.delay (omega arith) (g.C.Controller.state c.args.below) }

pub returns : goal.returns
returns g c = record { made = search rules; levels = levels g.C.Controller.meaning g.met.C.Controller.lawful g.met.C.CountableSpan.span_fits c.args.delay (omega arith) (g.C.Controller.state c.args.below) }
