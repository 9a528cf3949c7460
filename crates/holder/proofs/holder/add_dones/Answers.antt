use Rattle.std.proofs.Common.{◌+◌, [], drop, sym, refl, ap, ◌∙◌, arith}
use Rattle.std.specs.VecDeque.{deque_items, deque_capacity}
use Rattle.interface.specs.Slots.{dones_of}
use Rattle.interface.specs.declared.Request.{Request}
use Rattle.interface.specs.declared.Event.TheVariants.{Done}
use Rattle.interface.proofs.Slots.{dones_here, dones_not, dones_end}
use Rattle.holder.specs.Holding.{slot_by, added, all_added}
use Rattle.holder.proofs.holder.add_dones.Goals as goal
use Rattle.holder.proofs.holder.add_dones.Goals.{then-passes, else-passes}

pub add-requires : goal.add-requires
add-requires g c = omega (arith, c.loop-e.invariant.1, c.requires)

pub loop-e-preserved : goal.loop-e-preserved
loop-e-preserved g c =
    let key = slot_by g.E.OfRequest.request in
    let p = g.T.Test.passes c.args.test.now in
    let es = c.args.entries.now in
    let i = c.loop-e.e-index in
    elim c.if-passes.branch [
      | then-passes w ↦
          let q = sym (ap p c.e-item.is) ∙ sym c.passes.ensures ∙ w.if-passes.true in
          let slot = ap (λ (r : Request). r.slot) w.request.ensures ∙ ap key c.e-item.is in
          let here = dones_here key p [] _ es i c.e-item.result c.loop-e-test.true q refl in (
            ap (λ v. all_added g.row.ROOM (dones_of key p (drop (i + 1) es)) (deque_items v)) w.events-is
                ∙ ap (all_added g.row.ROOM (dones_of key p (drop (i + 1) es))) w.add.ensures.items
                ∙ ap (λ n. all_added g.row.ROOM (dones_of key p (drop (i + 1) es)) (added g.row.ROOM (Done n) (deque_items c.loop-e.events))) slot
                ∙ ap (λ ds. all_added g.row.ROOM ds (deque_items c.loop-e.events)) here
                ∙ c.loop-e.invariant.0,
            ap deque_capacity w.events-is ∙ w.add.ensures.capacity ∙ c.loop-e.invariant.1,
          )
      | else-passes w ↦
          let q = sym (ap p c.e-item.is) ∙ sym c.passes.ensures ∙ w.if-passes.false in (
            ap (λ v. all_added g.row.ROOM (dones_of key p (drop (i + 1) es)) (deque_items v)) w.events-is
                ∙ ap (λ ds. all_added g.row.ROOM ds (deque_items c.loop-e.events)) (dones_not key p es i c.e-item.result c.loop-e-test.true q)
                ∙ c.loop-e.invariant.0,
            ap deque_capacity w.events-is ∙ c.loop-e.invariant.1,
          )
    ]

pub returns : goal.returns
returns g c =
    let key = slot_by g.E.OfRequest.request in
    let p = g.T.Test.passes c.args.test.now in
    let end = dones_end key p [] c.args.entries.now c.loop-e.e-index c.loop-e-test.false in
    record {
      items = ap (λ es. all_added g.row.ROOM es (deque_items c.loop-e.events)) (sym end) ∙ c.loop-e.invariant.0;
      capacity = c.loop-e.invariant.1;
    }
