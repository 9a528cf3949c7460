-- Buffers that are filled from a place on.
use Rattle.std.proofs.Common.{◌≡◌, ℕ, zero, suc, ◌<◌, ◌≤◌, List, [], ◌∷◌, ◌++◌, length, take, drop, set, refl, ap, arith}
use Rattle.interface.specs.declared.Event.{Event}
use Rattle.arrivals.specs.Driving.{filled}

-- filled from the place n on
abbrev pub filled_at : ℕ → List Event → List Event → List Event
filled_at n es out = take n out ++ filled es (drop n out)

pub filled_at_more : (n : ℕ) (out : List Event) (e : Event) (es : List Event) → n < length out → filled_at n (e ∷ es) out ≡ filled_at (suc n) es (set out n e)
filled_at_more n [] e es h = absurd (omega arith)
filled_at_more zero (o ∷ out) e es h = refl
filled_at_more (suc n) (o ∷ out) e es h = let k : n < length out = omega arith in ap (λ l. o ∷ l) (filled_at_more n out e es k)

pub filled_at_full : (n : ℕ) (out : List Event) (e : Event) (es : List Event) → length out ≤ n → filled_at n (e ∷ es) out ≡ filled_at n es out
filled_at_full zero [] e [] h = refl
filled_at_full zero [] e (f ∷ es) h = refl
filled_at_full (suc n) [] e [] h = refl
filled_at_full (suc n) [] e (f ∷ es) h = refl
filled_at_full zero (o ∷ out) e es h = absurd (omega arith)
filled_at_full (suc n) (o ∷ out) e es h = let k : length out ≤ n = omega arith in ap (λ l. o ∷ l) (filled_at_full n out e es k)

pub filled_at_end : (n : ℕ) (out : List Event) → filled_at n [] out ≡ out
filled_at_end zero [] = refl
filled_at_end zero (o ∷ out) = refl
filled_at_end (suc n) [] = refl
filled_at_end (suc n) (o ∷ out) = ap (λ l. o ∷ l) (filled_at_end n out)
