use Rattle.std.proofs.Common.{◌≡◌, true, false, get_or, None, ap, ◌∙◌, rules}
use Rattle.board.specs.Boards.{slots_set, settings_of}
use Rattle.board.specs.Slots.{turn_of}
use Rattle.scheduler.specs.Schedulers.{Standing, has_begun, next_number, running_at}
use Rattle.scheduler.proofs.Outcomes.{early_after, early_reply}
use Rattle.scheduler.proofs.Submitted.{sound, refused_reply, refused_after, serial_is, joined_after, sent_after}
use Rattle.scheduler.proofs.scheduler.Scheduler.submit.Goals as goal

pub returns-then-is_none : goal.returns-then-is_none
returns-then-is_none g c =
    let m = g.C.Controller in
    let o = c.self.inside in
    let s : Standing _ = record { next = o.tick; controller = o.front.controller; board = o.front.board; store = o.store } in
    let no : has_begun s ≡ false = search rules in
    rw (← c.self.view_is) (record {
      answer = early_reply m.meaning (has_begun s) (settings_of s.board) (running_at m.state s) c.args.domain c.args.bank c.args.kind c.args.row no;
      after = early_after m.meaning (has_begun s) (settings_of s.board) (running_at m.state s) c.args.domain c.args.bank c.args.kind c.args.row no;
    })

pub returns-in_err-check_submit : goal.returns-in_err-check_submit
returns-in_err-check_submit g c =
    let m = g.C.Controller in
    let o = c.self.inside in
    let s : Standing _ = record { next = o.tick; controller = o.front.controller; board = o.front.board; store = o.store } in
    let ok = sound o.front.board o.store c.known.ensures.board c.known.ensures.slots c.known.ensures.shares c.known-2.ensures in
    let begun : has_begun s ≡ true = search rules in
    let answer = refused_reply s.board s.store (slots_set o.front.board) ok (next_number s) (m.state s.controller) c.args.domain c.args.bank c.args.kind c.args.row m.meaning (has_begun s) begun _ c.in_err-check_submit.ensures in
    rw (← c.self.view_is) (record {
      answer = search (rules, answer);
      after = refused_after s.board s.store (slots_set o.front.board) ok (next_number s) (m.state s.controller) c.args.domain c.args.bank c.args.kind c.args.row m.meaning (has_begun s) begun _ c.in_err-check_submit.ensures;
    })

pub returns-in-Some : goal.returns-in-Some
returns-in-Some g c =
    let m = g.C.Controller in
    let o = c.self.inside in
    let s : Standing _ = record { next = o.tick; controller = o.front.controller; board = o.front.board; store = o.store } in
    let ok = sound o.front.board o.store c.known.ensures.board c.known.ensures.slots c.known.ensures.shares c.known-2.ensures in
    let begun : has_begun s ≡ true = search rules in
    let i = c.serial-serial.result in
    let is = c.serial-serial.ensures in
    let turn = c.in-Some.ensures.value ∙ ap (λ j. turn_of c.args.domain j (get_or s.board.shares c.args.domain None)) is in
    rw (← c.self.view_is) (record {
      answer = serial_is s.board s.store (slots_set o.front.board) ok (next_number s) (m.state s.controller) c.args.domain c.args.bank c.args.kind c.args.row m.meaning (has_begun s) begun c.in_ok-check_submit.ensures i is;
      after = sent_after s.board s.store (slots_set o.front.board) ok (next_number s) (m.state s.controller) c.args.domain c.args.bank c.args.kind c.args.row m.meaning (has_begun s) begun c.in_ok-check_submit.ensures
          c.in-Some.slot (m.state c.send.new.self.controller) c.send.new.self.board c.carry.new.self c.count.new.self i is turn
          c.send.ensures.board c.send.ensures.controller c.carry.ensures c.count.ensures.after;
    })

pub returns-in-None : goal.returns-in-None
returns-in-None g c =
    let m = g.C.Controller in
    let o = c.self.inside in
    let s : Standing _ = record { next = o.tick; controller = o.front.controller; board = o.front.board; store = o.store } in
    let ok = sound o.front.board o.store c.known.ensures.board c.known.ensures.slots c.known.ensures.shares c.known-2.ensures in
    let begun : has_begun s ≡ true = search rules in
    let i = c.serial-serial.result in
    let is = c.serial-serial.ensures in
    let turn = c.in-None.ensures.value ∙ ap (λ j. turn_of c.args.domain j (get_or s.board.shares c.args.domain None)) is in
    rw (← c.self.view_is) (record {
      answer = serial_is s.board s.store (slots_set o.front.board) ok (next_number s) (m.state s.controller) c.args.domain c.args.bank c.args.kind c.args.row m.meaning (has_begun s) begun c.in_ok-check_submit.ensures i is;
      after = joined_after s.board s.store (slots_set o.front.board) ok (next_number s) (m.state s.controller) c.args.domain c.args.bank c.args.kind c.args.row m.meaning (has_begun s) begun c.in_ok-check_submit.ensures c.join.new.self turn c.join.ensures.after;
    })
