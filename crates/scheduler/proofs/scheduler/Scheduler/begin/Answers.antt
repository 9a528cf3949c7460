use Rattle.std.proofs.Common.{◌≡◌, false, ap, ◌∙◌, rules}
use Rattle.board.specs.Boards.{settings_of}
use Rattle.scheduler.specs.Schedulers.{Standing, has_begun, next_number, running_at}
use Rattle.scheduler.proofs.Begins.{begin_after, begin_reply}
use Rattle.scheduler.proofs.Outcomes.{unbegun, again_after, again_reply}
use Rattle.scheduler.proofs.scheduler.Scheduler.begin.Goals as goal

pub returns-in_err-check_setting : goal.returns-in_err-check_setting
returns-in_err-check_setting g c =
    let m = g.C.Controller in
    let s = c.args.self.now in
    let answer = again_reply m.meaning (has_begun s) (settings_of s.board) (running_at m.state s) _ c.in_err-check_setting.ensures in
    record {
      answer = search (rules, answer);
      after = again_after m.meaning (has_begun s) (settings_of s.board) (running_at m.state s) _ c.in_err-check_setting.ensures;
    }

pub returns : goal.returns
returns g c =
    let m = g.C.Controller in
    let o = c.self.inside in
    let s : Standing _ = record { next = o.tick; controller = o.front.controller; board = o.front.board; store = o.store } in
    let no : has_begun s ≡ false = ap has_begun c.self.view_is ∙ unbegun (has_begun c.args.self.now) c.in_ok-check_setting.ensures in
    rw (← c.self.view_is) (record {
      answer = begin_reply m.meaning (has_begun s) (settings_of s.board) (running_at m.state s) no;
      after = begin_after m.meaning (has_begun s) (next_number s) c.start.result (m.state s.controller) s.board c.start.new.board s.store no c.start.ensures.after c.start.ensures.value c.self.invariant;
    })
