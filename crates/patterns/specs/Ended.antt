-- What it is for a round to have ended, said without computing it.
use Rattle.std.specs.Prelude.{◌≡◌, ℕ, ◌<◌, ◌≤◌, ◌⊎◌, Some, None, Option}
use Rattle.patterns.specs.Due.{round_end}

module _ (done : ℕ → Option ℕ) where
  -- vertex k is done, at a tick not after c
  abbrev pub DoneBy : ℕ → ℕ → Type 0
  DoneBy c k = (m : ℕ) × (done k ≡ Some m) × (m ≤ c)

  -- the round of n vertices has ended at c: each is done by c, and one of them at c itself; it has not: one is not done
  abbrev pub EndedAt : ℕ → Option ℕ → Type 0
  EndedAt n None = (n ≡ 0) ⊎ ((k : ℕ) × (k < n) × (done k ≡ None))
  EndedAt n (Some c) = ((k : ℕ) → k < n → DoneBy c k) × ((k : ℕ) × (k < n) × (done k ≡ Some c))

-- the round's end as it is computed is the tick of the last Done, once all vertices are done
abbrev pub EndsWithTheLast : Type 0
EndsWithTheLast = (done : ℕ → Option ℕ) (n : ℕ) → EndedAt done n (round_end done n)
