use Rattle.std.proofs.Common.{◌≡◌, false, refl, ap, ◌∙◌, rules}
use Rattle.model.specs.Refusals as refusals
use Rattle.model.specs.Calls.{lane}
use Rattle.board.specs.Boards.{slots_set, settings_of}
use Rattle.board.proofs.Limits.{lane_sets}
use Rattle.scheduler.specs.Schedulers.{Standing, has_begun, running_at}
use Rattle.scheduler.proofs.Begins.{fresh_kept}
use Rattle.scheduler.proofs.Outcomes.{unbegun, late_after, late_reply, set_reply, set_after}
use Rattle.scheduler.proofs.scheduler.Scheduler.lane.Goals as goal

pub returns-in_err-check_setting : goal.returns-in_err-check_setting
returns-in_err-check_setting g c =
    let m = g.C.Controller in
    let s = c.args.self.now in
    let answer = late_reply m.meaning (has_begun s) (settings_of s.board) (running_at m.state s) _ c.in_err-check_setting.ensures (lane c.args.domain c.args.vertices.now c.args.edges.now c.args.rest) in
    record {
      answer = search (rules, answer);
      after = late_after m.meaning (has_begun s) (settings_of s.board) (running_at m.state s) _ c.in_err-check_setting.ensures (lane c.args.domain c.args.vertices.now c.args.edges.now c.args.rest);
    }

pub invariant_of-self : goal.invariant_of-self
invariant_of-self g c =
    let m = g.C.Controller in
    let o = c.self.inside in
    let s : Standing _ = record { next = o.tick; controller = o.front.controller; board = o.front.board; store = o.store } in
    let no : has_begun s ≡ false = ap has_begun c.self.view_is ∙ unbegun (has_begun c.args.self.now) c.in_ok-check_setting.ensures in
    let places = m.meaning.places (m.state s.controller) in
    fresh_kept (has_begun s) s.board c.add_lane.new.self.board s.store places (lane c.args.domain c.args.vertices.now c.args.edges.now c.args.rest) no c.add_lane.ensures.after c.self.invariant

pub returns : goal.returns
returns g c =
    let m = g.C.Controller in
    let o = c.self.inside in
    let s : Standing _ = record { next = o.tick; controller = o.front.controller; board = o.front.board; store = o.store } in
    let no : has_begun s ≡ false = ap has_begun c.self.view_is ∙ unbegun (has_begun c.args.self.now) c.in_ok-check_setting.ensures in
    let t : Standing _ = record { next = s.next; controller = c.add_lane.new.self.controller; board = c.add_lane.new.self.board; store = s.store } in
    let places = m.meaning.places (m.state s.controller) in
    rw (← c.self.view_is) (record {
      answer = set_reply m.meaning s.board t.board (running_at m.state s) (running_at m.state t) (lane c.args.domain c.args.vertices.now c.args.edges.now c.args.rest) places (refusals.refused c.add_lane.result) refl c.add_lane.ensures.answer c.add_lane.ensures.after c.add_lane.ensures.same (λ e. lane_sets s.board (slots_set o.front.board) c.known.ensures.board places c.args.domain c.args.vertices.now c.args.edges.now c.args.rest e) (has_begun s) no;
      after = set_after m.meaning s.board t.board (running_at m.state s) (running_at m.state t) (lane c.args.domain c.args.vertices.now c.args.edges.now c.args.rest) places (refusals.refused c.add_lane.result) refl c.add_lane.ensures.answer c.add_lane.ensures.after c.add_lane.ensures.same (λ e. lane_sets s.board (slots_set o.front.board) c.known.ensures.board places c.args.domain c.args.vertices.now c.args.edges.now c.args.rest e) (has_begun s) no;
    })
