use Rattle.run_laws.proofs.Isolation.{apart}
use Rattle.run_laws.proofs.isolation_law.Goals as goal

pub returns : goal.returns
returns c = apart
