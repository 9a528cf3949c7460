use Rattle.std.proofs.Common.{sym, ap, ◌∙◌}
use Rattle.interface.specs.Emptied.{emptied}
use Rattle.interface.proofs.Emptying.{turn_ready, turn_emptied, last_after, first_none}
use Rattle.layer.specs.Forwards.{forwards}
use Rattle.layer.specs.Contents.{contents_of, gathered}
use Rattle.layer.proofs.Tables.{handed_on, kept_back, gathered_none}
use Rattle.layer.proofs.table.Table.gather.Goals as goal

pub loop-event-preserved-then-forwards : goal.loop-event-preserved-then-forwards
loop-event-preserved-then-forwards g c =
    let m = g.C.Controller in
    let l = g.met.C.Controller.lawful in
    let s = m.state c.loop-event.below in
    let t = m.state c.collect.new.self in
    let e = c.in-Some.event in
    let some = c.in-Some.ensures.answer in
    let went = c.collect.ensures.after in
    let h = c.loop-event.self-inside.holder in (
      turn_emptied m.meaning l s t e some went ∙ c.loop-event.invariant.0,
      let f = forwards c.args.forward in
          handed_on f e (m.meaning.ready t) h c.update.new.self c.add.new.self (sym c.forwards.ensures ∙ c.if-forwards.true) c.update.ensures.after c.add.ensures
          ∙ ap (λ es. gathered f es (contents_of h)) (sym (turn_ready m.meaning l s t e some went)) ∙ c.loop-event.invariant.1,
    )

pub loop-event-preserved : goal.loop-event-preserved
loop-event-preserved g c =
    let m = g.C.Controller in
    let l = g.met.C.Controller.lawful in
    let s = m.state c.loop-event.below in
    let t = m.state c.collect.new.self in
    let e = c.in-Some.event in
    let some = c.in-Some.ensures.answer in
    let went = c.collect.ensures.after in
    let h = c.loop-event.self-inside.holder in (
      turn_emptied m.meaning l s t e some went ∙ c.loop-event.invariant.0,
      let f = forwards c.args.forward in
          kept_back f e (m.meaning.ready t) h c.update.new.self (sym c.forwards.ensures ∙ c.if-forwards.false) c.update.ensures.after
          ∙ ap (λ es. gathered f es (contents_of h)) (sym (turn_ready m.meaning l s t e some went)) ∙ c.loop-event.invariant.1,
    )

pub returns : goal.returns
returns g c =
    let m = g.C.Controller in
    let s = m.state c.loop-event.below in
    let t = m.state c.collect.new.self in
    let none = c.in_default.ensures.answer in
    let empty = first_none (m.meaning.ready s) none in
    record {
      below = last_after m.meaning s t none c.collect.ensures.after ∙ ap (λ es. emptied m.meaning es s) (sym empty) ∙ c.loop-event.invariant.0;
      after = let f = forwards c.args.forward in rw (← c.self.view_is) (gathered_none f (contents_of c.loop-event.self-inside.holder) ∙ ap (λ es. gathered f es (contents_of c.loop-event.self-inside.holder)) (sym empty) ∙ c.loop-event.invariant.1);
    }
