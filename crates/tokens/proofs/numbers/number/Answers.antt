use Rattle.std.proofs.Common.{◌≡◌, ◌+◌, ◌*◌, drop, arith}
use Rattle.std.proofs.lemmas.Grind.{common_steps}
use Rattle.tokens.specs.Numbers.{value_from}
use Rattle.tokens.proofs.Values.{too_large}
use Rattle.tokens.proofs.numbers.number.Goals as goal

pub returns-then-value-gt-GREATEST : goal.returns-then-value-gt-GREATEST
returns-then-value-gt-GREATEST c =
    let i = c.loop-digit.digit-index in
    let h : value_from (c.loop-digit.value * 10 + c.from.result) (drop (i + 1) c.args.digits.now) ≡ value_from 0 c.args.digits.now = grind (arith, common_steps) in
    too_large (c.loop-digit.value * 10 + c.from.result) (drop (i + 1) c.args.digits.now) c.args.digits.now h (omega arith)
