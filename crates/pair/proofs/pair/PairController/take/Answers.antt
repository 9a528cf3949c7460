use Rattle.std.proofs.Common.{◌≡◌, sym, refl, ap, ◌∙◌}
use Rattle.interface.specs.Meaning.{Call, accepted, refused, take_refusal}
use Rattle.interface.proofs.Codes.{after_is, take_is}
use Rattle.layer.proofs.Synced.{admission_is}
use Rattle.pair.specs.Pair.{view, span_of, meaning_of, pair_codes, pair_of, pair_back}
use Rattle.pair.specs.Lawfulness.{pair_places}
use Rattle.pair.proofs.pair.PairController.take.Goals as goal

pub returns : goal.returns
returns g c =
    let m = g.A.Controller.meaning in
    let n = g.B.Controller.meaning in
    let r = meaning_of m n in
    let x = view g.A.Controller.state g.B.Controller.state c.args.self.now in
    let q = c.args.request in
    let a : take_refusal r x q ≡ refused c.hold.result = admission_is r x q (span_of m n x) x.table refl (pair_places m n g.met.A.Controller.lawful x) ∙ sym c.hold.ensures.answer in
    record {
      answer = take_is pair_codes pair_of pair_back r q x _ a;
      after = after_is pair_codes pair_of pair_back r (Call.take q) x _ (c.hold.ensures.after ∙ ap (λ v. accepted v (r.taken x q) x) (sym a));
    }
