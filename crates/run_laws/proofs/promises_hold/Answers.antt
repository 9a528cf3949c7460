use Rattle.run_laws.proofs.Promises.{promises}
use Rattle.run_laws.proofs.promises_hold.Goals as goal

pub returns : goal.returns
returns c = promises
