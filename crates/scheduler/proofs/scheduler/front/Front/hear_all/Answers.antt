use Rattle.std.proofs.Common.{sym, ap, ◌∙◌}
use Rattle.interface.specs.Emptied.{emptied}
use Rattle.interface.proofs.Emptying.{turn_ready, turn_emptied, last_after, first_none}
use Rattle.store.specs.Written.{page_of}
use Rattle.scheduler.proofs.Loops.{heard_turn, lines_turn, notices_turn, heard_end, lines_end, notices_end}
use Rattle.scheduler.proofs.scheduler.front.Front.hear_all.Goals as goal

pub loop-event-preserved : goal.loop-event-preserved
loop-event-preserved g c =
    let m = g.C.Controller in
    let l = g.met.C.Controller.lawful in
    let s = m.state c.loop-event.self.controller in
    let t = m.state c.collect.new.self in
    let e = c.in-Some.event in
    let some = c.in-Some.ensures.answer in
    let went = c.collect.ensures.after in
    let front = turn_ready m.meaning l s t e some went in
    let n = c.args.tick in
    let fs = m.meaning.ready s in
    let es = m.meaning.ready t in
    let b = c.loop-event.self.board in
    let b' = c.apply.new.board in
    let v = c.args.store.now in (
      turn_emptied m.meaning l s t e some went ∙ c.loop-event.invariant.0,
      heard_turn n e es fs b b' v front c.apply.ensures ∙ c.loop-event.invariant.1,
      c.write_line.ensures.0 ∙ c.loop-event.invariant.2,
      c.write_notice.ensures.0 ∙ c.loop-event.invariant.3,
      lines_turn n e es fs b b' v front c.apply.ensures (page_of c.loop-event.lines) (page_of c.write_line.new.lines) c.write_line.ensures.1 ∙ c.loop-event.invariant.4,
      notices_turn n e es fs b b' v front c.apply.ensures (page_of c.loop-event.notices) (page_of c.write_notice.new.notices) c.write_notice.ensures.1 ∙ c.loop-event.invariant.5,
    )

pub returns : goal.returns
returns g c =
    let m = g.C.Controller in
    let s = m.state c.loop-event.self.controller in
    let t = m.state c.collect.new.self in
    let none = c.in_default.ensures.answer in
    let es = m.meaning.ready s in
    let empty = first_none es none in
    let n = c.args.tick in
    let b = c.loop-event.self.board in
    let v = c.args.store.now in
    record {
      controller = last_after m.meaning s t none c.collect.ensures.after ∙ ap (λ x. emptied m.meaning x s) (sym empty) ∙ c.loop-event.invariant.0;
      board = heard_end n es b v empty ∙ c.loop-event.invariant.1;
      lines = (c.loop-event.invariant.2, lines_end n es b v empty (page_of c.loop-event.lines) ∙ c.loop-event.invariant.4);
      notices = (c.loop-event.invariant.3, notices_end n es b v empty (page_of c.loop-event.notices) ∙ c.loop-event.invariant.5);
    }
