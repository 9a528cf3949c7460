use Rattle.std.proofs.Common.{length, ap, ◌∙◌, rules}
use Rattle.model.specs.Calls.{sets, opens, lane, first, begins, submit, ticks}
use Rattle.scheduler.specs.Histories.{made_call}
use Rattle.scheduler.specs.Schedulers.{view, replied, serial_reply}
use Rattle.scheduler.proofs.Calling.{told_at, tick_told_at, after_at, lines_at, notices_at, quiet_lines, quiet_notices, set_lines, set_notices, serial_lines, serial_notices}
use Rattle.scheduler.proofs.scheduler.Scheduler.perform.Goals as goal

pub returns-in-Open : goal.returns-in-Open
returns-in-Open g c =
    let m = g.C.Controller in
    let w = view m.state c.args.self.now in
    let l = length c.args.lines.now in
    let n = length c.args.notices.now in
    let k = sets (opens c.in-Open.domain c.in-Open.share) in
    let made = ap (made_call l n) c.in-Open.is in
    let y = replied c.open.result in
    record {
      answer = told_at m.meaning w l n c.args.call k made _ y (search rules) c.open.ensures.answer;
      after = after_at m.meaning w l n c.args.call k made _ c.open.ensures.after;
      lines = quiet_lines m.meaning w l n c.args.call k made y c.args.lines.now (set_lines c.open.result) c.open.ensures.answer;
      notices = quiet_notices m.meaning w l n c.args.call k made y c.args.notices.now (set_notices c.open.result) c.open.ensures.answer;
    }

pub returns-in-Lane : goal.returns-in-Lane
returns-in-Lane g c =
    let m = g.C.Controller in
    let w = view m.state c.args.self.now in
    let l = length c.args.lines.now in
    let n = length c.args.notices.now in
    let k = sets (lane c.in-Lane.domain c.in-Lane.setting.vertices.now c.in-Lane.setting.edges.now c.in-Lane.setting.rest) in
    let made = ap (made_call l n) c.in-Lane.is in
    let y = replied c.lane.result in
    record {
      answer = told_at m.meaning w l n c.args.call k made _ y (search rules) c.lane.ensures.answer;
      after = after_at m.meaning w l n c.args.call k made _ c.lane.ensures.after;
      lines = quiet_lines m.meaning w l n c.args.call k made y c.args.lines.now (set_lines c.lane.result) c.lane.ensures.answer;
      notices = quiet_notices m.meaning w l n c.args.call k made y c.args.notices.now (set_notices c.lane.result) c.lane.ensures.answer;
    }

pub returns-in-First : goal.returns-in-First
returns-in-First g c =
    let m = g.C.Controller in
    let w = view m.state c.args.self.now in
    let l = length c.args.lines.now in
    let n = length c.args.notices.now in
    let k = sets (first c.in-First.number) in
    let made = ap (made_call l n) c.in-First.is in
    let y = replied c.first.result in
    record {
      answer = told_at m.meaning w l n c.args.call k made _ y (search rules) c.first.ensures.answer;
      after = after_at m.meaning w l n c.args.call k made _ c.first.ensures.after;
      lines = quiet_lines m.meaning w l n c.args.call k made y c.args.lines.now (set_lines c.first.result) c.first.ensures.answer;
      notices = quiet_notices m.meaning w l n c.args.call k made y c.args.notices.now (set_notices c.first.result) c.first.ensures.answer;
    }

pub returns-in-Begin : goal.returns-in-Begin
returns-in-Begin g c =
    let m = g.C.Controller in
    let w = view m.state c.args.self.now in
    let l = length c.args.lines.now in
    let n = length c.args.notices.now in
    let k = begins in
    let made = ap (made_call l n) c.in-Begin.is in
    let y = replied c.begin.result in
    record {
      answer = told_at m.meaning w l n c.args.call k made _ y (search rules) c.begin.ensures.answer;
      after = after_at m.meaning w l n c.args.call k made _ c.begin.ensures.after;
      lines = quiet_lines m.meaning w l n c.args.call k made y c.args.lines.now (set_lines c.begin.result) c.begin.ensures.answer;
      notices = quiet_notices m.meaning w l n c.args.call k made y c.args.notices.now (set_notices c.begin.result) c.begin.ensures.answer;
    }

pub returns-in-Submit : goal.returns-in-Submit
returns-in-Submit g c =
    let m = g.C.Controller in
    let w = view m.state c.args.self.now in
    let l = length c.args.lines.now in
    let n = length c.args.notices.now in
    let k = submit c.in-Submit.domain c.in-Submit.bank c.in-Submit.kind c.in-Submit.row in
    let made = ap (made_call l n) c.in-Submit.is in
    let y = serial_reply c.submit.result in
    record {
      answer = told_at m.meaning w l n c.args.call k made _ y (search rules) c.submit.ensures.answer;
      after = after_at m.meaning w l n c.args.call k made _ c.submit.ensures.after;
      lines = quiet_lines m.meaning w l n c.args.call k made y c.args.lines.now (serial_lines c.submit.result) c.submit.ensures.answer;
      notices = quiet_notices m.meaning w l n c.args.call k made y c.args.notices.now (serial_notices c.submit.result) c.submit.ensures.answer;
    }

pub returns-in-Tick : goal.returns-in-Tick
returns-in-Tick g c =
    let m = g.C.Controller in
    let w = view m.state c.args.self.now in
    let l = length c.args.lines.now in
    let n = length c.args.notices.now in
    let k = ticks l n in
    let made = ap (made_call l n) c.in-Tick.is in
    record {
      answer = tick_told_at m.meaning w l n c.args.call k made _ (search rules ∙ c.tick.ensures.answer);
      after = after_at m.meaning w l n c.args.call k made _ c.tick.ensures.after;
      lines = lines_at m.meaning w l n c.args.call k made c.args.lines.now c.tick.new.lines c.tick.ensures.lines;
      notices = notices_at m.meaning w l n c.args.call k made c.args.notices.now c.tick.new.notices c.tick.ensures.notices;
    }
