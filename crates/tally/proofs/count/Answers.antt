use Rattle.std.proofs.Common.{ap, ◌∙◌, arith}
use Rattle.tally.specs.Counts.{is_taken, is_issued, is_done}
use Rattle.tally.proofs.Step.{one, same, all}
use Rattle.tally.proofs.count.Goals as goal
use Rattle.tally.proofs.count.Goals.{in-T, in-I, in-D}

pub loop-line-preserved : goal.loop-line-preserved
loop-line-preserved c =
    let ls = c.args.lines.now in
    let i = c.loop-line.line-index in
    let lt = c.loop-line-test.true in
    let inv = c.loop-line.invariant in
    elim c.match-line.branch [
      | in-T w ↦ (
        w.taken-is ∙ one is_taken ls i _ _ lt inv.0 (ap is_taken w.in-T.is),
        w.issued-is ∙ same is_issued ls i _ _ lt inv.1 (ap is_issued w.in-T.is),
        w.done-is ∙ same is_done ls i _ _ lt inv.2 (ap is_done w.in-T.is),
        omega arith,
        omega arith,
        omega arith,
      )
      | in-I w ↦ (
        w.taken-is ∙ same is_taken ls i _ _ lt inv.0 (ap is_taken w.in-I.is),
        w.issued-is ∙ one is_issued ls i _ _ lt inv.1 (ap is_issued w.in-I.is),
        w.done-is ∙ same is_done ls i _ _ lt inv.2 (ap is_done w.in-I.is),
        omega arith,
        omega arith,
        omega arith,
      )
      | in-D w ↦ (
        w.taken-is ∙ same is_taken ls i _ _ lt inv.0 (ap is_taken w.in-D.is),
        w.issued-is ∙ same is_issued ls i _ _ lt inv.1 (ap is_issued w.in-D.is),
        w.done-is ∙ one is_done ls i _ _ lt inv.2 (ap is_done w.in-D.is),
        omega arith,
        omega arith,
        omega arith,
      )
    ]

pub returns : goal.returns
returns c =
    let ls = c.args.lines.now in
    let i = c.loop-line.line-index in
    let le = c.loop-line-test.false in
    let t = all is_taken ls i _ le c.loop-line.invariant.0 in
    let u = all is_issued ls i _ le c.loop-line.invariant.1 in
    let v = all is_done ls i _ le c.loop-line.invariant.2 in
    cc
