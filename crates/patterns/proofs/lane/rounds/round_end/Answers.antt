use Rattle.std.proofs.Common.{ℕ, length, refl, ap, ◌∙◌, rules}
use Rattle.std.specs.Option.{option_map}
use Rattle.patterns.specs.Lanes.{done_by}
use Rattle.patterns.specs.declared.tick.Tick.{Tick}
use Rattle.patterns.proofs.Latest.{later_is}
use Rattle.patterns.proofs.Ends.{done_read, ended_more, not_ended}
use Rattle.patterns.proofs.lane.rounds.round_end.Goals as goal

pub returns-in_err-done : goal.returns-in_err-done
returns-in_err-done c =
    let vs = c.args.vertices.now in
    let i = c.loop-vertex.vertex-index in
    let e = not_ended (done_by vs) (length vs) i c.loop-vertex-test.true (c.in_err-done.ensures ∙ done_read vs i c.vertex-item.result c.loop-vertex-test.true c.vertex-item.is) in
    search (rules, e)

pub loop-vertex-preserved : goal.loop-vertex-preserved
loop-vertex-preserved c =
    let vs = c.args.vertices.now in
    let i = c.loop-vertex.vertex-index in
    let number : Tick → ℕ = λ t. t.number in
    ended_more (done_by vs) i (option_map number c.loop-vertex.last) c.in_ok-done.done.number (option_map number c.max-last.result) c.loop-vertex.invariant
    (c.in_ok-done.ensures ∙ done_read vs i c.vertex-item.result c.loop-vertex-test.true c.vertex-item.is)
    (ap (option_map number) c.max-last.ensures ∙ later_is number _ (λ a b. refl) c.loop-vertex.last c.in_ok-done.done)
