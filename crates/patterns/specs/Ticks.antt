-- The numbers that a tick may have.
use Rattle.std.specs.Prelude.{ℕ, ◌^◌, cond, Some, None, Option, nat_le}

-- at most 10^18
abbrev pub tick_number : ℕ → Option ℕ
tick_number n = cond (nat_le n (10 ^ 18)) (Some n) None
