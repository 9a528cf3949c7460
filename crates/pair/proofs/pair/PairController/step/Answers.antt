use Rattle.std.proofs.Common.{sym, ap, ◌∙◌}
use Rattle.interface.specs.Meaning.{Call, accepted}
use Rattle.interface.proofs.Codes.{after_is, step_is}
use Rattle.pair.specs.Pair.{view, meaning_of, pair_codes, pair_of, pair_back}
use Rattle.pair.proofs.pair.PairController.step.Goals as goal

pub returns : goal.returns
returns g c =
    let r = meaning_of g.A.Controller.meaning g.B.Controller.meaning in
    let x = view g.A.Controller.state g.B.Controller.state c.args.self.now in
    record {
      answer = step_is pair_codes pair_of pair_back r x _ (sym c.pass.ensures.answer);
      after = after_is pair_codes pair_of pair_back r Call.step x _ (c.pass.ensures.after ∙ ap (λ v. accepted v (r.stepped x) x) c.pass.ensures.answer);
    }
