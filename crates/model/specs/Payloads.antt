-- What a slot carries.
use Rattle.std.specs.Prelude.{ℕ, Some, None, Option}
use Rattle.model.specs.declared.Real.{Real}

-- a real request, or nothing real
abbrev pub Payload : Type 0
Payload = Option Real

abbrev pub fake : Payload
fake = None

-- a real request with its row and serial
abbrev pub real : ℕ → ℕ → Payload
real row serial = Some (record { row = row; serial = serial })
