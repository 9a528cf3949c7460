use Rattle.std.proofs.Common.{◌≡◌, sym, refl, ap, ◌∙◌}
use Rattle.interface.specs.Meaning.{Call, accepted, refused, take_refusal}
use Rattle.interface.proofs.Codes.{after_is, take_is}
use Rattle.layer.proofs.Synced.{admission_is}
use Rattle.level.specs.Level.{view, span_over, meaning_over, level_codes, level_of, level_back}
use Rattle.level.proofs.level.LevelController.take.Goals as goal

pub returns : goal.returns
returns g c =
    let m = g.C.Controller in
    let r = meaning_over m.meaning in
    let x = view m.state c.args.self.now in
    let q = c.args.request in
    let a : take_refusal r x q ≡ refused c.hold.result =
    admission_is r x q (span_over m.meaning x) x.table refl (g.met.C.Controller.lawful.places_most x.below) ∙ sym c.hold.ensures.answer in
    record {
      answer = take_is level_codes level_of level_back r q x _ a;
      after = after_is level_codes level_of level_back r (Call.take q) x _ (c.hold.ensures.after ∙ ap (λ v. accepted v (r.taken x q) x) (sym a));
    }
