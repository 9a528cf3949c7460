use Rattle.std.proofs.Common.{◌≡◌, ◌≤◌, drop}
use Rattle.tokens.specs.Numbers.{value_from, greatest}
use Rattle.tokens.proofs.numbers.number.Given as goal

abbrev pub invariant-loop-digit : goal.invariant-loop-digit
invariant-loop-digit l = (value_from l.value (drop l.digit-index l.digits) ≡ value_from 0 l.digits) × (l.value ≤ greatest)
