use Rattle.std.proofs.Common.{sym, ap, ◌∙◌}
use Rattle.interface.specs.Meaning.{Call, accepted}
use Rattle.interface.proofs.Codes.{after_is, step_is}
use Rattle.level.specs.Level.{view, meaning_over, level_codes, level_of, level_back}
use Rattle.level.proofs.level.LevelController.step.Goals as goal

pub returns : goal.returns
returns g c =
    let m = g.C.Controller in
    let r = meaning_over m.meaning in
    let x = view m.state c.args.self.now in
    record {
      answer = step_is level_codes level_of level_back r x _ (sym c.pass.ensures.answer);
      after = after_is level_codes level_of level_back r Call.step x _ (c.pass.ensures.after ∙ ap (λ v. accepted v (r.stepped x) x) c.pass.ensures.answer);
    }
