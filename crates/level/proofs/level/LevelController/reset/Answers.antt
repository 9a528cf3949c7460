use Rattle.interface.specs.Meaning.{Call}
use Rattle.interface.proofs.Codes.{after_is}
use Rattle.level.specs.Level.{view, meaning_over, level_codes, level_of, level_back}
use Rattle.level.proofs.level.LevelController.reset.Goals as goal

pub returns : goal.returns
returns g c =
    let m = g.C.Controller in
    after_is level_codes level_of level_back (meaning_over m.meaning) Call.reset (view m.state c.args.self.now) _ c.clear.ensures
