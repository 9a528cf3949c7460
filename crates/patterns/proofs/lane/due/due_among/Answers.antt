use Rattle.std.proofs.Common.{ℕ, ◌+◌, drop, Option, sym, ap, ◌∙◌, rules}
use Rattle.patterns.specs.Lanes.{done_by}
use Rattle.patterns.proofs.Latest.{latest_is}
use Rattle.patterns.proofs.Releases.{onward, releases, passed, released, blocked}
use Rattle.patterns.proofs.lane.due.due_among.Goals as goal
use Rattle.patterns.proofs.lane.due.due_among.Goals.{then-comes_into+in_ok-done, else-comes_into}

pub returns-in_err-done : goal.returns-in_err-done
returns-in_err-done c =
    let e = sym (blocked (done_by c.args.vertices.now) c.args.edges.now c.args.start c.args.vertex c.loop-edge.latest c.loop-edge.edge-index _ c.loop-edge-test.true c.if-comes_into.ensures c.in_err-done.ensures) ∙ c.loop-edge.invariant in
    search (rules, e)

pub loop-edge-preserved : goal.loop-edge-preserved
loop-edge-preserved c =
    let done = done_by c.args.vertices.now in
    let es = c.args.edges.now in
    let i = c.loop-edge.edge-index in
    let left : Option ℕ → Option ℕ = λ o. onward c.args.start o (releases done c.args.vertex (drop (i + 1) es)) in
    elim c.if-comes_into.branch [
      | then-comes_into+in_ok-done w ↦
          ap left (w.latest-is ∙ w.max-latest.ensures ∙ latest_is c.loop-edge.latest w.release.result)
          ∙ released done es c.args.start c.args.vertex c.loop-edge.latest i _ w.in_ok-done.done.number w.release.result c.loop-edge-test.true w.if-comes_into.ensures w.in_ok-done.ensures w.release.ensures
          ∙ c.loop-edge.invariant
      | else-comes_into w ↦
          ap left w.latest-is
          ∙ passed done es c.args.start c.args.vertex c.loop-edge.latest i _ c.loop-edge-test.true w.if-comes_into.ensures
          ∙ c.loop-edge.invariant
    ]
