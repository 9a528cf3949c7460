use Rattle.std.proofs.Common.{◌≡◌, map, length, sym, refl, ap, ◌∙◌}
use lib.ListN.{length-map}
use Rattle.std.proofs.lemmas.List.{with_items_is}
use Rattle.interface.proofs.Loops.{map_turn, map_done}
use Rattle.holder.specs.Holding.{updated}
use Rattle.holder.proofs.Holdings.{holding_path}
use Rattle.holder.proofs.holder.Holder.update.Goals as goal

pub loop-e-preserved : goal.loop-e-preserved
loop-e-preserved g c =
    map_turn (g.C.Change.changed c.args.change.now) c.deref_mut-e-items.result.now c.loop-e.e-items c.loop-e.e-index c.e-item.result c.changed.result c.loop-e-test.true c.loop-e.auto.e-items c.loop-e.invariant c.changed.ensures

pub returns-clause-after : goal.returns-clause-after
returns-clause-after g c =
    let f = g.C.Change.changed c.args.change.now in
    let es = c.self.inside.entries in
    let new : c.loop-e.e-items ≡ map f es.items = c.loop-e.invariant ∙ map_done f _ c.loop-e.e-index c.loop-e-test.false ∙ ap (map f) c.deref_mut-e-items.ensures.value in
    let long : length c.loop-e.e-items ≡ es.len = ap length new ∙ length-map es.items f ∙ sym es.ok.0 in
    holding_path _ (updated f (record { entries = es.items; events = c.self.inside.events.items })) (with_items_is es c.loop-e.e-items long ∙ new) refl ∙ ap (updated f) c.self.view_is
