use Rattle.std.proofs.Common.{◌≡◌, ℕ, ◌+◌, ◌*◌, ◌<◌, ◌≤◌, true, List, [], length, get_or, drop, Some, None, refl, sym, ap, ◌∙◌, arith}
use Rattle.std.specs.List.{slice_get}
use Rattle.std.proofs.lemmas.Option.{slice_get_read}
use Rattle.patterns.specs.Lanes.{LaneView}
use Rattle.board.specs.Sets.{formed}
use Rattle.board.specs.Boards.{BoardView}
use Rattle.board.specs.Leaving.{lane_leaving, lanes_leaving, all_added}
use Rattle.board.proofs.Leaves.{few_lanes, few_vertices, lanes_front, lanes_none, open_none, closed_lanes, none_added, all_added_append}
use Rattle.board.proofs.departures.Departures.add_domain.Goals as goal

-- the lanes of a domain, as they are read
module _ (b : BoardView) (form : formed b.lanes ≡ true) (d : ℕ) (ls : List LaneView) (read : ls ≡ get_or b.lanes d []) where
  few : length ls ≤ 8
  few = let h = few_lanes b.lanes form d in let m = ap (λ (vs : List LaneView). length vs) read in omega (arith, h, m)

  there : (i : ℕ) (l : LaneView) → i < length ls → l ≡ get_or ls i l → Some l ≡ slice_get (get_or b.lanes d []) i
  there i l lt is = sym (slice_get_read ls (length ls) i l refl lt is) ∙ ap (λ (vs : List LaneView). slice_get vs i) read

  small : (i : ℕ) (l : LaneView) → i < length ls → l ≡ get_or ls i l → length l.vertices ≤ 8
  small i l lt is = few_vertices b.lanes form d i l (there i l lt is)

pub returns-then-is_open : goal.returns-then-is_open
returns-then-is_open c =
    let b = c.args.board.now in
    let qs = c.args.self.now in
    sym (none_added qs) ∙ ap (λ ps. all_added ps qs) (sym (open_none c.args.tick c.args.domain (get_or b.shares c.args.domain None) (get_or b.lanes c.args.domain []) c.if-is_open.ensures))

pub overflow_cast-base-in-loop-number : goal.overflow_cast-base-in-loop-number
overflow_cast-base-in-loop-number c = let h = few c.args.board.now c.known.ensures.board.in_form c.args.domain c.lanes-lanes.result.now c.lanes-lanes.ensures in omega (arith, h, c.loop-number-test.true)

pub overflow_mul-base-in-loop-number : goal.overflow_mul-base-in-loop-number
overflow_mul-base-in-loop-number c = let h = few c.args.board.now c.known.ensures.board.in_form c.args.domain c.lanes-lanes.result.now c.lanes-lanes.ensures in omega (arith, h, c.loop-number-test.true)

pub overflow_add-base : goal.overflow_add-base
overflow_add-base c = let h = few c.args.board.now c.known.ensures.board.in_form c.args.domain c.lanes-lanes.result.now c.lanes-lanes.ensures in omega (arith, h, c.loop-number-test.true, c.requires)

pub add_lane-requires : goal.add_lane-requires
add_lane-requires c =
    let h = few c.args.board.now c.known.ensures.board.in_form c.args.domain c.lanes-lanes.result.now c.lanes-lanes.ensures in
    let s = small c.args.board.now c.known.ensures.board.in_form c.args.domain c.lanes-lanes.result.now c.lanes-lanes.ensures c.loop-number.number c.index-lanes-number.result c.loop-number-test.true c.index-lanes-number.is in
    omega (arith, h, s, c.loop-number-test.true, c.requires)

pub loop-number-preserved : goal.loop-number-preserved
loop-number-preserved c =
    let ls = get_or c.args.board.now.lanes c.args.domain [] in
    let i = c.loop-number.number in
    let d = c.args.domain in
    let l = c.index-lanes-number.result in
    let qs = c.loop-number.self in
    let later = lanes_leaving c.args.tick d (i + 1) (drop (i + 1) ls) in
    ap (all_added later) c.add_lane.ensures
    ∙ sym (all_added_append (lane_leaving c.args.tick l d (d * 64 + i * 8) 0 l.vertices) later qs)
    ∙ ap (λ ps. all_added ps qs) (sym (lanes_front c.args.tick d ls i l (there c.args.board.now c.known.ensures.board.in_form d c.lanes-lanes.result.now c.lanes-lanes.ensures i l c.loop-number-test.true c.index-lanes-number.is)))
    ∙ c.loop-number.invariant

pub returns : goal.returns
returns c =
    let b = c.args.board.now in
    let ls = get_or b.lanes c.args.domain [] in
    let qs = c.loop-number.self in
    let m = ap (λ (vs : List LaneView). length vs) c.lanes-lanes.ensures in
    sym (none_added qs)
    ∙ ap (λ ps. all_added ps qs) (sym (lanes_none c.args.tick c.args.domain ls c.loop-number.number (omega (arith, c.loop-number-test.false, m))))
    ∙ c.loop-number.invariant
    ∙ ap (λ ps. all_added ps c.args.self.now) (closed_lanes c.args.tick c.args.domain (get_or b.shares c.args.domain None) ls c.if-is_open.ensures)
