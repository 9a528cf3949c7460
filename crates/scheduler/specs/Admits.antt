-- The checks of a tick.
use Rattle.std.specs.Prelude.{ℕ, ◌^◌, Bool, not, ◌||◌, None, Option, nat_le, nat_lt}
use Rattle.interface.specs.Meaning.{check}

-- at the tick of this number, with buffers for l lines and n notices, once the run has begun or before
abbrev pub tick_checks : Bool → ℕ → ℕ → ℕ → Option ℕ
tick_checks begun number l n = check (not begun) 1 (check (nat_lt l 96 || nat_lt n 32) 15 (check (nat_le (10 ^ 18) number) 16 None))
