use Rattle.std.proofs.Common.{◌≡◌, length, sym, ap, ◌∙◌, rules}
use Rattle.model.specs.Settings.{Settings}
use Rattle.model.specs.Ticks.{lines, notices}
use Rattle.model.specs.Calls.{running, ticked, outcome, ticks}
use Rattle.board.specs.Boards.{settings_of}
use Rattle.store.specs.Pages.{page, wrote_all}
use Rattle.scheduler.specs.Admits.{tick_checks}
use Rattle.scheduler.specs.Schedulers.{Standing, has_begun, next_number, running_at, view}
use Rattle.scheduler.specs.Views.{tables_of, running_of, state_of}
use Rattle.scheduler.proofs.Ticking.{refused_told, refused_lines, refused_notices, refused_reply, refused_after, good_reply, good_after, counts_are, lines_are, notices_are}
use Rattle.scheduler.proofs.scheduler.Scheduler.tick.Goals as goal

pub returns-in_err-tick : goal.returns-in_err-tick
returns-in_err-tick g c =
    let m = g.C.Controller in
    let o = c.self.inside in
    let s : Standing _ = record { next = o.tick; controller = o.front.controller; board = o.front.board; store = o.store } in
    let k = settings_of s.board in
    let l = length c.args.lines.now in
    let n = length c.args.notices.now in
    let y = (outcome m.meaning (view m.state s) (ticks l n)).reply in
    let is = refused_reply m.meaning (has_begun s) k (running_at m.state s) l n _ c.in_err-tick.ensures.refusal in
    let answer = refused_told l n y _ is in
    rw (← c.self.view_is) (record {
      answer = search (rules, answer);
      after = refused_after m.meaning (has_begun s) k (running_at m.state s) l n _ c.in_err-tick.ensures.refusal;
      lines = refused_lines l n y _ is c.args.lines.now;
      notices = refused_notices l n y _ is c.args.notices.now;
    })

pub returns : goal.returns
returns g c =
    let m = g.C.Controller in
    let s = c.args.self.now in
    let k = settings_of s.board in
    let l = length c.args.lines.now in
    let n = length c.args.notices.now in
    let y = (outcome m.meaning (view m.state s) (ticks l n)).reply in
    let at : c.in_ok-tick.tick.number ≡ next_number s = c.in_ok-tick.ensures.value ∙ ap next_number c.self.view_is in
    let good = c.in_ok-tick.ensures.refusal ∙ ap (λ (x : Standing _). tick_checks (has_begun x) (next_number x) l n) c.self.view_is in
    let is = good_reply m.meaning (has_begun s) k (running_at m.state s) l n good in
    let bus = lines m.meaning k (next_number s) (m.state s.controller) (tables_of s.board s.store) in
    let told = notices m.meaning k (next_number s) (m.state s.controller) (tables_of s.board s.store) in
    let ls = c.pass.ensures.lines.1 ∙ ap (wrote_all (lines m.meaning k c.in_ok-tick.tick.number (m.state s.controller) (tables_of s.board s.store))) c.new-lines.ensures.empty ∙ ap (λ i. wrote_all (lines m.meaning k i (m.state s.controller) (tables_of s.board s.store)) (page c.args.lines.now 0)) at in
    let ns = c.pass.ensures.notices.1 ∙ ap (wrote_all (notices m.meaning k c.in_ok-tick.tick.number (m.state s.controller) (tables_of s.board s.store))) c.new-notices.ensures.empty ∙ ap (λ i. wrote_all (notices m.meaning k i (m.state s.controller) (tables_of s.board s.store)) (page c.args.notices.now 0)) at in
    let z = c.pass.new.self in
    let counted = counts_are y bus told is c.args.lines.now c.pass.new.lines.buffer.now c.args.notices.now c.pass.new.notices.buffer.now c.pass.new.lines.written c.pass.new.notices.written ls ns in
    let written = lines_are y bus told is c.args.lines.now c.pass.new.lines.buffer.now c.args.notices.now c.pass.new.notices.buffer.now c.pass.new.lines.written c.pass.new.notices.written ls ns in
    let noted = notices_are y bus told is c.args.lines.now c.pass.new.lines.buffer.now c.args.notices.now c.pass.new.notices.buffer.now c.pass.new.lines.written c.pass.new.notices.written ls ns in
    record {
      answer = search (rules, counted);
      after =
          ap (λ h. state_of h (settings_of z.board) (running_at m.state z)) c.pass.ensures.begun
          ∙ ap (λ (h : Settings). running h (running_at m.state z)) c.pass.ensures.settings
          ∙ ap (running k) c.pass.ensures.running
          ∙ ap (λ i. running k (ticked m.meaning k (running_of i (m.state s.controller) s.board s.store))) at
          ∙ sym (good_after m.meaning (has_begun s) k (running_at m.state s) l n good);
      lines = search (rules, written);
      notices = search (rules, noted);
    }
