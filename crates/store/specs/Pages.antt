-- Buffers that are written from the front: what fits is written, and the rest of the buffer stays.
use Rattle.std.specs.Prelude.{ℕ, ◌+◌, cond, List, [], ◌∷◌, length, nat_lt, slice_set}

-- what a buffer holds, and how many of its items are written
pub record Page (X : Type 0) : Type 0 where
  pub items : List X
  pub count : ℕ

abbrev pub page : {X : Type 0} → List X → ℕ → Page X
page xs n = record { items = xs; count = n }

-- one more, if it fits
abbrev pub wrote : {X : Type 0} → X → Page X → Page X
wrote x p = cond (nat_lt p.count (length p.items)) (page (slice_set p.items p.count x) (p.count + 1)) p

-- one after the other
abbrev pub wrote_all : {X : Type 0} → List X → Page X → Page X
wrote_all [] p = p
wrote_all (x ∷ xs) p = wrote_all xs (wrote x p)

-- a list over the front of another, as far as that goes
unfoldable pub filled : {X : Type 0} → List X → List X → List X
filled [] ys = ys
filled (x ∷ xs) [] = []
filled (x ∷ xs) (y ∷ ys) = x ∷ filled xs ys
