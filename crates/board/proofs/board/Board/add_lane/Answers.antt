use Rattle.std.proofs.Common.{◌≡◌, ◌-◌, List, length, sym, refl, ap, ◌∙◌, subst, rules}
use Rattle.model.specs.Calls.{lane}
use Rattle.patterns.specs.Lanes.{LaneView, changed}
use Rattle.patterns.specs.Tables.{with_lane, table_refusal}
use Rattle.board.specs.Boards.{BoardView, Known, slots_set}
use Rattle.board.specs.contracts.board.Board.{the_view}
use Rattle.board.proofs.Limits.{lane_barred, as_refused, lane_not, lane_done, lane_known, known_after, refused_view, accepted_view}
use Rattle.model.specs.Refusals.{number, refusal_of}
use Rattle.patterns.specs.declared.setting.LaneRefusal.{LaneRefusal}
use Rattle.patterns.specs.declared.setting.LaneRefusal.TheVariants as lane_refusal
use Rattle.patterns.specs.Shape.{number as lane_number}
use Rattle.board.proofs.board.Board.add_lane.Goals as goal

-- the scheduler's refusal of a lane has the number of the lane's
same_number : (r : LaneRefusal) → lane_number r ≡ number (refusal_of r)
same_number lane_refusal.Domain = refl
same_number lane_refusal.Count = refl
same_number lane_refusal.Bank = refl
same_number lane_refusal.Edge = refl
same_number lane_refusal.Places = refl

-- the board with these lanes
abbrev with_lanes : List (List LaneView) → BoardView → BoardView
with_lanes ts b = record { first = b.first; shares = b.shares; lanes = ts; slots = b.slots }

pub returns-then-takes_no_lane : goal.returns-then-takes_no_lane
returns-then-takes_no_lane c =
    let b = c.args.self.now in
    let e = lane_barred b (slots_set b) c.known.ensures.board c.args.places c.args.domain c.args.setting.vertices.now c.args.setting.edges.now c.args.setting.rest c.if-takes_no_lane.ensures in
    record { answer = e; after = refused_view b c.args.places (lane c.args.domain c.args.setting.vertices.now c.args.setting.edges.now c.args.setting.rest) 2 e }

pub invariant_of-self : goal.invariant_of-self
invariant_of-self c =
    let b = c.args.self.now in
    let a = the_view c.self.inside in
    let used = slots_set b in
    let k = c.known.ensures.board in
    let ts = c.add.new.self in
    let d = c.args.domain in
    let vs = c.args.setting.vertices.now in
    let es = c.args.setting.edges.now in
    let rest = c.args.setting.rest in
    let open-to = sym c.if-takes_no_lane.ensures in
    let moved = c.add.ensures.after ∙ ap (λ f. changed (with_lane f vs es rest) a.lanes d) c.free-free.ensures ∙ ap (λ (x : BoardView). changed (with_lane (c.args.places - used) vs es rest) x.lanes d) c.self.view_is in
    let e = c.in_err-add.ensures.answer ∙ ap (λ f. table_refusal a.lanes d f vs es rest) c.free-free.ensures ∙ ap (λ (x : BoardView). table_refusal x.lanes d (c.args.places - used) vs es rest) c.self.view_is in
    let same = lane_not b used k c.args.places d vs es rest ts open-to moved _ e in
    (subst (λ x. Known x c.self.inside.used) (sym (ap (with_lanes ts) c.self.view_is ∙ ap (λ t. with_lanes t b) same ∙ sym c.self.view_is)) c.self.invariant.0, c.self.invariant.1)

pub returns-in_err-add-clause-answer : goal.returns-in_err-add-clause-answer
returns-in_err-add-clause-answer c =
    let b = c.args.self.now in
    let a = the_view c.self.inside in
    let used = slots_set b in
    let k = c.known.ensures.board in
    let ts = c.add.new.self in
    let d = c.args.domain in
    let vs = c.args.setting.vertices.now in
    let es = c.args.setting.edges.now in
    let rest = c.args.setting.rest in
    let open-to = sym c.if-takes_no_lane.ensures in
    let moved = c.add.ensures.after ∙ ap (λ f. changed (with_lane f vs es rest) a.lanes d) c.free-free.ensures ∙ ap (λ (x : BoardView). changed (with_lane (c.args.places - used) vs es rest) x.lanes d) c.self.view_is in
    let e = c.in_err-add.ensures.answer ∙ ap (λ f. table_refusal a.lanes d f vs es rest) c.free-free.ensures ∙ ap (λ (x : BoardView). table_refusal x.lanes d (c.args.places - used) vs es rest) c.self.view_is in
    let answer = e ∙ as_refused b used k c.args.places d vs es rest ts open-to moved in
    search (rules, answer, same_number)

pub returns-in_err-add-clause-after : goal.returns-in_err-add-clause-after
returns-in_err-add-clause-after c =
    let b = c.args.self.now in
    let a = the_view c.self.inside in
    let used = slots_set b in
    let k = c.known.ensures.board in
    let ts = c.add.new.self in
    let d = c.args.domain in
    let vs = c.args.setting.vertices.now in
    let es = c.args.setting.edges.now in
    let rest = c.args.setting.rest in
    let open-to = sym c.if-takes_no_lane.ensures in
    let moved = c.add.ensures.after ∙ ap (λ f. changed (with_lane f vs es rest) a.lanes d) c.free-free.ensures ∙ ap (λ (x : BoardView). changed (with_lane (c.args.places - used) vs es rest) x.lanes d) c.self.view_is in
    let e = c.in_err-add.ensures.answer ∙ ap (λ f. table_refusal a.lanes d f vs es rest) c.free-free.ensures ∙ ap (λ (x : BoardView). table_refusal x.lanes d (c.args.places - used) vs es rest) c.self.view_is in
    let answer = e ∙ as_refused b used k c.args.places d vs es rest ts open-to moved in
    let same = lane_not b used k c.args.places d vs es rest ts open-to moved _ e in
    ap (with_lanes ts) c.self.view_is ∙ ap (λ t. with_lanes t b) same ∙ refused_view b c.args.places (lane d vs es rest) _ answer

pub invariant_of-self-2 : goal.invariant_of-self-2
invariant_of-self-2 c =
    let b = c.args.self.now in
    let a = the_view c.self.inside in
    let used = slots_set b in
    let k = c.known.ensures.board in
    let ts = c.add.new.self in
    let d = c.args.domain in
    let vs = c.args.setting.vertices.now in
    let es = c.args.setting.edges.now in
    let rest = c.args.setting.rest in
    let open-to = sym c.if-takes_no_lane.ensures in
    let moved = c.add.ensures.after ∙ ap (λ f. changed (with_lane f vs es rest) a.lanes d) c.free-free.ensures ∙ ap (λ (x : BoardView). changed (with_lane (c.args.places - used) vs es rest) x.lanes d) c.self.view_is in
    let e = c.in_ok-add.ensures.answer ∙ ap (λ f. table_refusal a.lanes d f vs es rest) c.free-free.ensures ∙ ap (λ (x : BoardView). table_refusal x.lanes d (c.args.places - used) vs es rest) c.self.view_is in
    (known_after (length vs) c.self.invariant.0 c.self.view_is (lane_known b used k c.args.places d vs es rest ts open-to moved e) (ap (with_lanes ts) c.self.view_is), c.self.invariant.1)

pub returns-clause-answer : goal.returns-clause-answer
returns-clause-answer c =
    let b = c.args.self.now in
    let a = the_view c.self.inside in
    let used = slots_set b in
    let k = c.known.ensures.board in
    let ts = c.add.new.self in
    let d = c.args.domain in
    let vs = c.args.setting.vertices.now in
    let es = c.args.setting.edges.now in
    let rest = c.args.setting.rest in
    let open-to = sym c.if-takes_no_lane.ensures in
    let moved = c.add.ensures.after ∙ ap (λ f. changed (with_lane f vs es rest) a.lanes d) c.free-free.ensures ∙ ap (λ (x : BoardView). changed (with_lane (c.args.places - used) vs es rest) x.lanes d) c.self.view_is in
    let e = c.in_ok-add.ensures.answer ∙ ap (λ f. table_refusal a.lanes d f vs es rest) c.free-free.ensures ∙ ap (λ (x : BoardView). table_refusal x.lanes d (c.args.places - used) vs es rest) c.self.view_is in
    e ∙ as_refused b used k c.args.places d vs es rest ts open-to moved

pub returns-clause-after : goal.returns-clause-after
returns-clause-after c =
    let b = c.args.self.now in
    let a = the_view c.self.inside in
    let used = slots_set b in
    let k = c.known.ensures.board in
    let ts = c.add.new.self in
    let d = c.args.domain in
    let vs = c.args.setting.vertices.now in
    let es = c.args.setting.edges.now in
    let rest = c.args.setting.rest in
    let open-to = sym c.if-takes_no_lane.ensures in
    let moved = c.add.ensures.after ∙ ap (λ f. changed (with_lane f vs es rest) a.lanes d) c.free-free.ensures ∙ ap (λ (x : BoardView). changed (with_lane (c.args.places - used) vs es rest) x.lanes d) c.self.view_is in
    let e = c.in_ok-add.ensures.answer ∙ ap (λ f. table_refusal a.lanes d f vs es rest) c.free-free.ensures ∙ ap (λ (x : BoardView). table_refusal x.lanes d (c.args.places - used) vs es rest) c.self.view_is in
    let answer = e ∙ as_refused b used k c.args.places d vs es rest ts open-to moved in
    ap (with_lanes ts) c.self.view_is
    ∙ accepted_view b _ c.args.places (lane d vs es rest) answer (ap (λ t. with_lanes t b) (lane_done b used k c.args.places d vs es rest ts open-to moved e))
