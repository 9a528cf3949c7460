use Rattle.run_laws.proofs.Cases.{cases_hold}
use Rattle.run_laws.proofs.worked_cases.Goals as goal

pub returns : goal.returns
returns c = cases_hold
