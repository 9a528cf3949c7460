use Rattle.std.proofs.Common.{sym, ap, ◌∙◌}
use Rattle.level.specs.Level.{State, level_back}
use Rattle.level.proofs.level.LevelController.places.Goals as goal

pub returns : goal.returns
returns g c =
    let m = g.C.Controller in
    rw (← c.self.view_is) (c.places.ensures ∙ ap (λ (x : State). m.meaning.places x.below) (sym (level_back (record { delay = c.self.inside.delay; table = c.self.inside.table; below = m.state c.self.inside.below }))))
