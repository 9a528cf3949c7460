use Rattle.std.proofs.Common.{◌+◌, List, drop, sym, ap, ◌∙◌}
use Rattle.patterns.specs.declared.vertex.Vertex.{Vertex}
use Rattle.board.specs.Leaving.{lane_leaving, request_from, all_added}
use Rattle.board.proofs.Leaves.{lane_goes, lane_stays, lane_none, none_added, one_added}
use Rattle.board.proofs.departures.Departures.add_lane.Goals as goal
use Rattle.board.proofs.departures.Departures.add_lane.Goals.{then-leaves, else-leaves}

pub loop-number-preserved : goal.loop-number-preserved
loop-number-preserved c =
    let vs = c.vertices-vertices.result.now in
    let i = c.loop-number.number in
    let l = c.args.lane.now in
    let v = c.index-vertices-number.result in
    let qs = c.loop-number.self in
    let rest = lane_leaving c.args.tick l c.args.domain c.args.base (i + 1) (drop (i + 1) vs) in
    elim c.if-leaves.branch [
      | then-leaves w ↦
          ap (λ x. all_added rest x) w.self-is
          ∙ ap (all_added rest) w.add.ensures
          ∙ sym (one_added (request_from c.args.domain (c.args.base + i) v) rest qs)
          ∙ ap (λ ps. all_added ps qs) (sym (lane_goes c.args.tick l c.args.domain c.args.base vs i v c.loop-number-test.true c.index-vertices-number.is (sym c.leaves.ensures ∙ w.if-leaves.true)))
          ∙ c.loop-number.invariant
      | else-leaves w ↦
          ap (λ x. all_added rest x) w.self-is
          ∙ ap (λ ps. all_added ps qs) (sym (lane_stays c.args.tick l c.args.domain c.args.base vs i v c.loop-number-test.true c.index-vertices-number.is (sym c.leaves.ensures ∙ w.if-leaves.false)))
          ∙ c.loop-number.invariant
    ]

pub returns : goal.returns
returns c =
    let vs = c.vertices-vertices.result.now in
    let l = c.args.lane.now in
    let qs = c.loop-number.self in
    sym (none_added qs)
    ∙ ap (λ ps. all_added ps qs) (sym (lane_none c.args.tick l c.args.domain c.args.base vs c.loop-number.number c.loop-number-test.false))
    ∙ c.loop-number.invariant
    ∙ ap (λ (xs : List Vertex). all_added (lane_leaving c.args.tick l c.args.domain c.args.base 0 xs) c.args.self.now) c.vertices-vertices.ensures
