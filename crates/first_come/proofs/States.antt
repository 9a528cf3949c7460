-- States by their parts.
use Rattle.std.proofs.Common.{◌≡◌}
use Rattle.held.specs.Rows.{Rows}
use Rattle.first_come.specs.State.{State}

-- a state with other rows
abbrev pub with_rows : State → Rows → State
with_rows s t = record { rows = t; gaps = s.gaps }

pub state_path : (a b : State) → a.rows ≡ b.rows → a.gaps ≡ b.gaps → a ≡ b
state_path a b p q = λ i. record { rows = p i; gaps = q i }
