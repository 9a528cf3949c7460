-- Lists of things that each have a slot.
use Rattle.std.specs.Prelude.{ℕ, suc, Bool, cond, List, [], ◌∷◌, Some, None, Option, ◌==◌}
use Rattle.interface.specs.declared.Event.{Event}
use Rattle.interface.specs.declared.Event.TheVariants.{Issue, Done}

-- the first place where a test passes, or else the length
abbrev pub place : {X : Type 0} → (X → Bool) → List X → ℕ
place p [] = 0
place p (x ∷ xs) = cond (p x) 0 (suc (place p xs))

abbrev pub has_in : {X : Type 0} → (X → ℕ) → ℕ → X → Bool
has_in key n x = key x == n

-- the same list, without the first that has the slot
abbrev pub dropped : {X : Type 0} → (X → ℕ) → ℕ → List X → List X
dropped key n [] = []
dropped key n (x ∷ xs) = cond (has_in key n x) xs (x ∷ dropped key n xs)

-- the list after an event was collected
abbrev pub dropped_by : {X : Type 0} → (X → ℕ) → Option Event → List X → List X
dropped_by key None xs = xs
dropped_by key (Some (Issue n)) xs = xs
dropped_by key (Some (Done n)) xs = dropped key n xs

-- a Done for each that passes a test
abbrev pub dones_of : {X : Type 0} → (X → ℕ) → (X → Bool) → List X → List Event
dones_of key p [] = []
dones_of key p (x ∷ xs) = cond (p x) (Done (key x) ∷ dones_of key p xs) (dones_of key p xs)

-- those that do not pass a test
abbrev pub failing : {X : Type 0} → (X → Bool) → List X → List X
failing p [] = []
failing p (x ∷ xs) = cond (p x) (failing p xs) (x ∷ failing p xs)

-- those that pass a test
abbrev pub passing : {X : Type 0} → (X → Bool) → List X → List X
passing p [] = []
passing p (x ∷ xs) = cond (p x) (x ∷ passing p xs) (passing p xs)
