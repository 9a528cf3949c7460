use Rattle.std.proofs.Common.{◌≡◌, false, refl, ap, ◌∙◌, rules}
use Rattle.model.specs.Refusals as refusals
use Rattle.model.specs.Calls.{opens}
use Rattle.board.specs.Boards.{settings_of}
use Rattle.board.proofs.Roles.{open_settled}
use Rattle.scheduler.specs.Schedulers.{Standing, has_begun, running_at}
use Rattle.scheduler.proofs.Begins.{fresh_kept}
use Rattle.scheduler.proofs.Outcomes.{unbegun, late_after, late_reply, set_reply, set_after}
use Rattle.scheduler.proofs.scheduler.Scheduler.open.Goals as goal

pub returns-in_err-check_setting : goal.returns-in_err-check_setting
returns-in_err-check_setting g c =
    let m = g.C.Controller in
    let s = c.args.self.now in
    let answer = late_reply m.meaning (has_begun s) (settings_of s.board) (running_at m.state s) _ c.in_err-check_setting.ensures (opens c.args.domain c.args.share) in
    record {
      answer = search (rules, answer);
      after = late_after m.meaning (has_begun s) (settings_of s.board) (running_at m.state s) _ c.in_err-check_setting.ensures (opens c.args.domain c.args.share);
    }

pub invariant_of-self : goal.invariant_of-self
invariant_of-self g c =
    let m = g.C.Controller in
    let o = c.self.inside in
    let s : Standing _ = record { next = o.tick; controller = o.front.controller; board = o.front.board; store = o.store } in
    let no : has_begun s ≡ false = ap has_begun c.self.view_is ∙ unbegun (has_begun c.args.self.now) c.in_ok-check_setting.ensures in
    let places = m.meaning.places (m.state s.controller) in
    fresh_kept (has_begun s) s.board c.open.new.self.board s.store places (opens c.args.domain c.args.share) no c.open.ensures.after c.self.invariant

pub returns : goal.returns
returns g c =
    let m = g.C.Controller in
    let o = c.self.inside in
    let s : Standing _ = record { next = o.tick; controller = o.front.controller; board = o.front.board; store = o.store } in
    let no : has_begun s ≡ false = ap has_begun c.self.view_is ∙ unbegun (has_begun c.args.self.now) c.in_ok-check_setting.ensures in
    let t : Standing _ = record { next = s.next; controller = c.open.new.self.controller; board = c.open.new.self.board; store = s.store } in
    let places = m.meaning.places (m.state s.controller) in
    rw (← c.self.view_is) (record {
      answer = set_reply m.meaning s.board t.board (running_at m.state s) (running_at m.state t) (opens c.args.domain c.args.share) places (refusals.refused c.open.result) refl c.open.ensures.answer c.open.ensures.after c.open.ensures.same (λ e. open_settled s.board c.args.domain c.args.share) (has_begun s) no;
      after = set_after m.meaning s.board t.board (running_at m.state s) (running_at m.state t) (opens c.args.domain c.args.share) places (refusals.refused c.open.result) refl c.open.ensures.answer c.open.ensures.after c.open.ensures.same (λ e. open_settled s.board c.args.domain c.args.share) (has_begun s) no;
    })
