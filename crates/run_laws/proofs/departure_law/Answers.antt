use Rattle.run_laws.proofs.DepartureLaw.{departure_law}
use Rattle.run_laws.proofs.departure_law.Goals as goal

pub returns : goal.returns
returns c = departure_law
