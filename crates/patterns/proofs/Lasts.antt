-- The end of a round as it is computed is the tick of the last Done.
use Rattle.std.proofs.Common.{◌≡◌, ℕ, zero, suc, ◌<◌, ◌≤◌, max, Bool, true, false, eqb, leb, Some, None, Option, sym, refl, ap, ◌∙◌, subst, inl, inr, arith, eqb-true, leb-false, leb-true}
use borrow.Author.Tests.{eqb-false}
use Rattle.patterns.specs.Due.{later, round_end}
use Rattle.patterns.specs.Ended.{DoneBy, EndedAt, EndsWithTheLast}

module _ (done : ℕ → Option ℕ) where
  -- one vertex more, and what holds of those before it
  extended : (P : ℕ → Type 0) (n : ℕ) → ((k : ℕ) → k < n → P k) → P n → (k : ℕ) → k < suc n → P k
  extended P n below here k lt = go (eqb k n) refl
    where
      go : (b : Bool) → eqb k n ≡ b → P k
      go true q = subst P (sym (eqb-true k n q)) here
      go false q = let ne = eqb-false k n q in below k (omega (arith, lt, ne))

  first : (d : Option ℕ) → done 0 ≡ d → EndedAt done 1 d
  first None e = inr (0, omega arith, e)
  first (Some c) e = (extended (DoneBy done c) 0 (λ k lt. absurd (omega (arith, lt))) (c, e, omega arith), (0, omega arith, e))

  widened : (n c t : ℕ) → c ≤ t → ((k : ℕ) → k < n → DoneBy done c k) → (k : ℕ) → k < n → DoneBy done t k
  widened n c t le all k lt = let h = all k lt in (h.0, h.1, omega (arith, h.2, le))

  next : (n : ℕ) (o d : Option ℕ) → EndedAt done (suc n) o → done (suc n) ≡ d → EndedAt done (suc (suc n)) (later o d)
  next n None d (inl z) e = absurd (omega (arith, z))
  next n None d (inr h) e = inr (h.0, omega (arith, h.1), h.2)
  next n (Some c) None h e = inr (suc n, omega arith, e)
  next n (Some c) (Some m) h e = (extended (DoneBy done (max c m)) (suc n) (widened (suc n) c (max c m) (omega arith) h.0) (m, e, omega arith), go (leb m c) refl)
    where
      go : (b : Bool) → leb m c ≡ b → (k : ℕ) × (k < suc (suc n)) × (done k ≡ Some (max c m))
      go true q = let le = leb-true m c q in (h.1.0, omega (arith, h.1.1), h.1.2 ∙ ap Some (omega (arith, le)))
      go false q = let lt = leb-false m c q in (suc n, omega arith, e ∙ ap Some (omega (arith, lt)))

  ended : (n : ℕ) → EndedAt done n (round_end done n)
  ended zero = inl refl
  ended (suc zero) = first (done 0) refl
  ended (suc (suc n)) = next n (round_end done (suc n)) (done (suc n)) (ended (suc n)) refl

pub ends_with_the_last : EndsWithTheLast
ends_with_the_last done n = ended done n
