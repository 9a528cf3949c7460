-- Arrivals that are taken one after the other.
use Rattle.std.proofs.Common.{◌≡◌, ℕ, suc, ◌+◌, ◌<◌, true, false, cond, List, ◌∷◌, length, get_or, drop, sym, ap, ◌∙◌, add-one, drop-cons}
use Rattle.interface.specs.Meaning.{Meaning}
use Rattle.arrivals.specs.declared.reading.Arrival.{Arrival}
use Rattle.arrivals.specs.Driving.{admits, offered, taken_count, taken_state}

module _ {S : Type 0} (m : Meaning S) (step : ℕ) (xs : List Arrival) where
  front : (i : ℕ) (d : Arrival) → i < length xs → drop i xs ≡ get_or xs i d ∷ drop (i + 1) xs
  front i d h = drop-cons xs i d h ∙ ap (λ k. get_or xs i d ∷ drop k xs) (sym (add-one i))

  pub one_taken : (i : ℕ) (d : Arrival) (s t : S) → i < length xs → admits m step (get_or xs i d) s ≡ true → t ≡ offered m step (get_or xs i d) s
      → (taken_count m step (drop i xs) s ≡ suc (taken_count m step (drop (i + 1) xs) t)) × (taken_state m step (drop i xs) s ≡ taken_state m step (drop (i + 1) xs) t)
  one_taken i d s t h y n = (
    ap (λ l. taken_count m step l s) (front i d h) ∙ ap (λ b. cond b (suc (taken_count m step (drop (i + 1) xs) (offered m step (get_or xs i d) s))) 0) y ∙ ap (λ u. suc (taken_count m step (drop (i + 1) xs) u)) (sym n),
    ap (λ l. taken_state m step l s) (front i d h) ∙ ap (λ b. cond b (taken_state m step (drop (i + 1) xs) (offered m step (get_or xs i d) s)) (offered m step (get_or xs i d) s)) y ∙ ap (taken_state m step (drop (i + 1) xs)) (sym n),
  )

  pub none_taken : (i : ℕ) (d : Arrival) (s t : S) → i < length xs → admits m step (get_or xs i d) s ≡ false → t ≡ offered m step (get_or xs i d) s
      → (taken_count m step (drop i xs) s ≡ 0) × (taken_state m step (drop i xs) s ≡ t)
  none_taken i d s t h y n = (
    ap (λ l. taken_count m step l s) (front i d h) ∙ ap (λ b. cond b (suc (taken_count m step (drop (i + 1) xs) (offered m step (get_or xs i d) s))) 0) y,
    ap (λ l. taken_state m step l s) (front i d h) ∙ ap (λ b. cond b (taken_state m step (drop (i + 1) xs) (offered m step (get_or xs i d) s)) (offered m step (get_or xs i d) s)) y ∙ sym n,
  )
