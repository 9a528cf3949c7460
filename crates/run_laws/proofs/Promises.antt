-- All promises, from the laws of the interface.
use Rattle.std.proofs.Common.{ℕ, List}
use Rattle.interface.specs.Lawful.{Lawful}
use Rattle.interface.specs.Meaning.{Meaning}
use Rattle.run_laws.specs.Laws.{Promises}
use Rattle.run_laws.proofs.Record.{shows}
use Rattle.run_laws.proofs.Isolation.{apart}
use Rattle.run_laws.proofs.Service.{in_time}
use Rattle.run_laws.proofs.DepartureLaw.{departure_law}
use Rattle.run_laws.proofs.OwnLines.{lines_own}
use Rattle.run_laws.proofs.Bounds.{limits}

pub promises : (m : Meaning (List ℕ)) → Lawful m → Promises m
promises m l = record { record_law = shows m l; isolation_law = apart m l; service_law = in_time m l; departure_law = departure_law m l; line_law = lines_own m; limits = limits m l }
