use Rattle.std.proofs.Common.{◌≡◌, false, refl, ap, ◌∙◌, rules}
use Rattle.model.specs.Refusals as refusals
use Rattle.model.specs.Calls.{first}
use Rattle.board.specs.Boards.{settings_of}
use Rattle.board.proofs.Roles.{first_settled}
use Rattle.scheduler.specs.Schedulers.{Standing, has_begun, running_at}
use Rattle.scheduler.proofs.Begins.{fresh_kept}
use Rattle.scheduler.proofs.Outcomes.{unbegun, late_after, late_reply, set_reply, set_after}
use Rattle.scheduler.proofs.scheduler.Scheduler.first.Goals as goal

pub returns-in_err-check_setting : goal.returns-in_err-check_setting
returns-in_err-check_setting g c =
    let m = g.C.Controller in
    let s = c.args.self.now in
    let answer = late_reply m.meaning (has_begun s) (settings_of s.board) (running_at m.state s) _ c.in_err-check_setting.ensures (first c.args.number) in
    record {
      answer = search (rules, answer);
      after = late_after m.meaning (has_begun s) (settings_of s.board) (running_at m.state s) _ c.in_err-check_setting.ensures (first c.args.number);
    }

pub invariant_of-self : goal.invariant_of-self
invariant_of-self g c =
    let m = g.C.Controller in
    let o = c.self.inside in
    let s : Standing _ = record { next = o.tick; controller = o.front.controller; board = o.front.board; store = o.store } in
    let no : has_begun s ≡ false = ap has_begun c.self.view_is ∙ unbegun (has_begun c.args.self.now) c.in_ok-check_setting.ensures in
    let places = m.meaning.places (m.state s.controller) in
    fresh_kept (has_begun s) s.board c.set_first.new.self s.store places (first c.args.number) no (c.set_first.ensures.after places) c.self.invariant

pub returns : goal.returns
returns g c =
    let m = g.C.Controller in
    let o = c.self.inside in
    let s : Standing _ = record { next = o.tick; controller = o.front.controller; board = o.front.board; store = o.store } in
    let no : has_begun s ≡ false = ap has_begun c.self.view_is ∙ unbegun (has_begun c.args.self.now) c.in_ok-check_setting.ensures in
    let t : Standing _ = record { next = s.next; controller = s.controller; board = c.set_first.new.self; store = s.store } in
    let places = m.meaning.places (m.state s.controller) in
    rw (← c.self.view_is) (record {
      answer = set_reply m.meaning s.board t.board (running_at m.state s) (running_at m.state t) (first c.args.number) places (refusals.refused c.set_first.result) refl (c.set_first.ensures.answer places) (c.set_first.ensures.after places) refl (λ e. first_settled s.board c.args.number) (has_begun s) no;
      after = set_after m.meaning s.board t.board (running_at m.state s) (running_at m.state t) (first c.args.number) places (refusals.refused c.set_first.result) refl (c.set_first.ensures.answer places) (c.set_first.ensures.after places) refl (λ e. first_settled s.board c.args.number) (has_begun s) no;
    })
