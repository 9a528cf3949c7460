-- States of a level.
use Rattle.std.specs.Prelude.{◌≡◌}
use Rattle.level.specs.Level.{State}

pub state_path : (a b : State) → a.delay ≡ b.delay → a.table ≡ b.table → a.below ≡ b.below → a ≡ b
state_path a b d t k = λ i. record { delay = d i; table = t i; below = k i }
