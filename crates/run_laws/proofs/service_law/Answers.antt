use Rattle.run_laws.proofs.Service.{in_time}
use Rattle.run_laws.proofs.service_law.Goals as goal

pub returns : goal.returns
returns c = in_time
