-- How a controller is driven with arrivals.
use Rattle.std.specs.Prelude.{ℕ, suc, Bool, true, false, cond, ◌&&◌, List, [], ◌∷◌, Some, None, Option, nat_le}
use Rattle.interface.specs.Meaning.{Meaning, Call, after, take_refusal}
use Rattle.interface.specs.declared.Event.{Event}
use Rattle.arrivals.specs.declared.reading.Arrival.{Arrival}

abbrev pub is_none : Option ℕ → Bool
is_none None = true
is_none (Some n) = false

-- the arrival has come, and the controller takes it
abbrev pub admits : {S : Type 0} → Meaning S → ℕ → Arrival → S → Bool
admits m step a s = nat_le a.step step && is_none (take_refusal m s a.request)

-- the state after one arrival was offered: one that has not come, or that is refused, changes nothing
abbrev pub offered : {S : Type 0} → Meaning S → ℕ → Arrival → S → S
offered m step a s = cond (nat_le a.step step) (after m (Call.take a.request) s) s

-- how many of the arrivals are taken, in their order, up to the first that is not
abbrev pub taken_count : {S : Type 0} → Meaning S → ℕ → List Arrival → S → ℕ
taken_count m step [] s = 0
taken_count m step (a ∷ rest) s = cond (admits m step a s) (suc (taken_count m step rest (offered m step a s))) 0

-- the state after that
abbrev pub taken_state : {S : Type 0} → Meaning S → ℕ → List Arrival → S → S
taken_state m step [] s = s
taken_state m step (a ∷ rest) s = cond (admits m step a s) (taken_state m step rest (offered m step a s)) (offered m step a s)

-- the front of a list, written over by as many of the events as fit
abbrev pub filled : List Event → List Event → List Event
filled [] out = out
filled (e ∷ es) [] = []
filled (e ∷ es) (o ∷ out) = e ∷ filled es out
