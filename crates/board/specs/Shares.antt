-- The numbers that a share may have.
use Rattle.std.specs.Prelude.{ℕ, cond, ◌||◌, Some, None, Option, nat_lt}

-- 1 to 16
abbrev pub share_number : ℕ → Option ℕ
share_number n = cond (nat_lt n 1 || nat_lt 16 n) None (Some n)
