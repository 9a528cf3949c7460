use Rattle.run_laws.proofs.Record.{shows}
use Rattle.run_laws.proofs.record_law.Goals as goal

pub returns : goal.returns
returns c = shows
