use Rattle.interface.specs.Meaning.{Call}
use Rattle.interface.proofs.Codes.{after_is, collect_is}
use Rattle.layer.specs.Contents.{Contents}
use Rattle.layer.proofs.Tables.{collect_any}
use Rattle.level.specs.Level.{State, meaning_over, level_codes, level_of, level_back}
use Rattle.level.proofs.level.LevelController.collect.Goals as goal

pub returns : goal.returns
returns g c =
    let m = g.C.Controller in
    let r = meaning_over m.meaning in
    rw (← c.self.view_is) (
    let x : State = record { delay = c.self.inside.delay; table = c.self.inside.table; below = m.state c.self.inside.below } in
    let put : Contents → State = λ t. record { delay = x.delay; table = t; below = x.below } in
    record {
      answer = collect_is level_codes level_of level_back r x _ (cc);
      after = after_is level_codes level_of level_back r Call.collect x _ (cc (collect_any put x.table));
    })
