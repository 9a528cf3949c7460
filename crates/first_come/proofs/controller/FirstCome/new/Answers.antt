use Rattle.std.proofs.Common.{rules}
use Rattle.std.proofs.lemmas.Result.{IfOk-from_err}
use Rattle.first_come.proofs.Service.{first_come}
use Rattle.first_come.proofs.Completion.{done_in_time}
use Rattle.first_come.proofs.controller.FirstCome.new.Goals as goal

pub returns-in_err-table : goal.returns-in_err-table
returns-in_err-table c = record { made = IfOk-from_err c.from_residual.result _ c.from_residual.ensures.0; first_come = first_come; done_in_time = done_in_time }

pub returns : goal.returns
returns c = record { made = search rules; first_come = first_come; done_in_time = done_in_time }
