use Rattle.run_laws.proofs.OwnLines.{lines_own}
use Rattle.run_laws.proofs.line_law.Goals as goal

pub returns : goal.returns
returns c = lines_own
