-- The classes of bytes: the space, the letters A to Z and a to z, and the digits 0 to 9.
use Rattle.std.specs.Prelude.{ℕ, Bool, ◌==◌}
use Rattle.std.specs.Char.{is_ascii_digit, is_ascii_alphabetic}
use Rattle.tokens.specs.declared.runs.Class.{Class}
use Rattle.tokens.specs.declared.runs.Class.TheVariants.{Space, Letter, Digit}

abbrev pub in_class : Class → ℕ → Bool
in_class Space b = b == 32
in_class Letter b = is_ascii_alphabetic b
in_class Digit b = is_ascii_digit b
