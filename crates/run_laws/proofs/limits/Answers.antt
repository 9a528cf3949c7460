use Rattle.run_laws.proofs.Bounds.{limits}
use Rattle.run_laws.proofs.limits.Goals as goal

pub returns : goal.returns
returns c = limits
