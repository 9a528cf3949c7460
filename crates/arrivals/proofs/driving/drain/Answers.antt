use Rattle.std.proofs.Common.{◌<◌, ◌≤◌, length, set, sym, ap, ◌∙◌, add-one, arith, length-set}
use Rattle.interface.specs.Emptied.{emptied}
use Rattle.interface.proofs.Emptying.{turn_ready, turn_emptied, last_after, first_none}
use Rattle.arrivals.proofs.Filling.{filled_at, filled_at_more, filled_at_full, filled_at_end}
use Rattle.arrivals.proofs.driving.drain.Goals as goal

pub loop-event-preserved-then-n-out : goal.loop-event-preserved-then-n-out
loop-event-preserved-then-n-out g c =
    let m = g.C.Controller in
    let r = m.meaning in
    let s = m.state c.loop-event.controller in
    let t = m.state c.collect.new.self in
    let e = c.in-Some.event in
    let out = c.loop-event.out in
    let n = c.loop-event.n in
    let some = c.in-Some.ensures.answer in
    let went = c.collect.ensures.after in
    let front = turn_ready r g.met.C.Controller.lawful s t e some went in
    let long = ap length front in
    let below : n < length out = omega arith in (
      simp length-set (omega arith),
      simp length-set (omega (arith, long, c.loop-event.invariant.1)),
      ap (λ k. filled_at k (r.ready t) (set out n e)) (add-one n) ∙ sym (filled_at_more n out e (r.ready t) below) ∙ ap (λ es. filled_at n es out) (sym front) ∙ c.loop-event.invariant.2,
      turn_emptied r g.met.C.Controller.lawful s t e some went ∙ c.loop-event.invariant.3,
    )

pub loop-event-preserved : goal.loop-event-preserved
loop-event-preserved g c =
    let m = g.C.Controller in
    let r = m.meaning in
    let s = m.state c.loop-event.controller in
    let t = m.state c.collect.new.self in
    let e = c.in-Some.event in
    let out = c.loop-event.out in
    let n = c.loop-event.n in
    let some = c.in-Some.ensures.answer in
    let went = c.collect.ensures.after in
    let front = turn_ready r g.met.C.Controller.lawful s t e some went in
    let long = ap length front in
    let above : length out ≤ n = omega arith in (
      omega arith,
      omega (arith, long, c.loop-event.invariant.1),
      sym (filled_at_full n out e (r.ready t) above) ∙ ap (λ es. filled_at n es out) (sym front) ∙ c.loop-event.invariant.2,
      turn_emptied r g.met.C.Controller.lawful s t e some went ∙ c.loop-event.invariant.3,
    )

pub returns : goal.returns
returns g c =
    let m = g.C.Controller in
    let r = m.meaning in
    let s = m.state c.loop-event.controller in
    let t = m.state c.collect.new.self in
    let none = c.in_default.ensures.answer in
    let empty = first_none (r.ready s) none in
    let same = last_after r s t none c.collect.ensures.after in
    let short = ap length empty in
    record {
      count = omega (arith, short, c.loop-event.invariant.1, c.loop-event.invariant.0);
      events = sym (filled_at_end c.loop-event.n c.loop-event.out) ∙ ap (λ es. filled_at c.loop-event.n es c.loop-event.out) (sym empty) ∙ c.loop-event.invariant.2;
      after = same ∙ ap (λ es. emptied r es s) (sym empty) ∙ c.loop-event.invariant.3;
      none = ap r.ready same ∙ empty;
    }
