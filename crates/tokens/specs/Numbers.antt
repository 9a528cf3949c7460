-- The number that digits spell in base ten. A byte below the digit 0 counts as 0; in a run of digits there is none.
use Rattle.std.specs.Prelude.{ℕ, ◌+◌, ◌-◌, ◌*◌, Bool, cond, ◌&&◌, List, [], ◌∷◌, length, Some, None, Option, ◌==◌, nat_lt, slice_index}

-- the value of digits that stand after those of v
abbrev pub value_from : ℕ → List ℕ → ℕ
value_from v [] = v
value_from v (d ∷ ds) = value_from (v * 10 + (d - 48)) ds

abbrev pub value : List ℕ → ℕ
value ds = value_from 0 ds

-- the digit 0, and more after it
abbrev pub has_leading_zero : List ℕ → Bool
has_leading_zero ds = nat_lt 1 (length ds) && slice_index ds 0 == 48

-- 10^18
abbrev pub greatest : ℕ
greatest = 1000000000000000000

abbrev pub number_of : List ℕ → Option ℕ
number_of ds = cond (has_leading_zero ds) None (cond (nat_lt greatest (value ds)) None (Some (value ds)))
