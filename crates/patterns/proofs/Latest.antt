-- The later of two ticks, where there may be none so far.
use Rattle.std.proofs.Common.{Ordering, ◌≡◌, ℕ, max, Bool, true, false, cond, ◌==◌, ltb, Some, None, Option, sym, refl, ap, ◌∙◌, arith, ltb-true, ltb-false}
use Rattle.std.specs.declared.cmp.Ordering.TheVariants.{Less, Equal, Greater}
use Rattle.std.specs.Option.{option_map, option_cmp}
use Rattle.std.specs.Ordering.{is_lt, nat_cmp, ord_max}

abbrev pub later_of : Option ℕ → ℕ → ℕ
later_of None t = t
later_of (Some s) t = max s t

-- the greater of two values that compare by a number
pub later_is : {X : Type 0} (v : X → ℕ) (cmp : X → X → Ordering) → ((x y : X) → cmp x y ≡ nat_cmp (v x) (v y)) → (o : Option X) (x : X) → option_map v (ord_max (option_cmp cmp) o (Some x)) ≡ Some (later_of (option_map v o) (v x))
later_is v cmp same None x = refl
later_is v cmp same (Some y) x = ap (λ c. option_map v (cond (is_lt c) (Some y) (Some x))) (same x y) ∙ go (ltb (v x) (v y)) (v x == v y) refl
  where
    go : (s t : Bool) → ltb (v x) (v y) ≡ s → option_map v (cond (is_lt (cond s Less (cond t Equal Greater))) (Some y) (Some x)) ≡ Some (max (v y) (v x))
    go true t e = let lt = ltb-true (v x) (v y) e in ap Some (omega (arith, lt))
    go false true e = let le = ltb-false (v x) (v y) e in ap Some (omega (arith, le))
    go false false e = let le = ltb-false (v x) (v y) e in ap Some (omega (arith, le))

pub latest_is : (o : Option ℕ) (t : ℕ) → ord_max (option_cmp nat_cmp) o (Some t) ≡ Some (later_of o t)
latest_is o t = sym (same (ord_max (option_cmp nat_cmp) o (Some t))) ∙ later_is (λ n. n) nat_cmp (λ a b. refl) o t ∙ ap (λ x. Some (later_of x t)) (same o)
  where
    same : (o : Option ℕ) → option_map (λ n. n) o ≡ o
    same None = refl
    same (Some n) = refl
