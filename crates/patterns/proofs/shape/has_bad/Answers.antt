use Rattle.std.proofs.Common.{true, false, sym, ◌∙◌}
use Rattle.patterns.proofs.Looks.{bad_front, bad_end}
use Rattle.patterns.proofs.shape.has_bad.Goals as goal

pub returns-then-is_bad : goal.returns-then-is_bad
returns-then-is_bad c = sym (bad_front c.args.vertices c.args.edges.now c.loop-number.number _ true c.loop-number-test.true c.if-is_bad.ensures) ∙ c.loop-number.invariant

pub loop-number-preserved : goal.loop-number-preserved
loop-number-preserved c = sym (bad_front c.args.vertices c.args.edges.now c.loop-number.number _ false c.loop-number-test.true c.if-is_bad.ensures) ∙ c.loop-number.invariant

pub returns : goal.returns
returns c = sym (bad_end c.args.vertices c.args.edges.now c.loop-number.number c.loop-number-test.false) ∙ c.loop-number.invariant
