-- The place at which a slot is held.
use Rattle.std.proofs.Common.{◌≡◌, ℕ, suc, ◌+◌, ◌<◌, ◌≤◌, Bool, true, false, cond, not, ltb, List, [], ◌∷◌, length, Some, None, refl, arith, ltb-true, ltb-false}
use Rattle.std.specs.List.{remove, position, position_or_len}
use Rattle.interface.specs.Slots.{place, has_in, dropped}
use Rattle.interface.proofs.Slots.{dropped_there, dropped_not}

-- where a test first passes
pub found_at : {X : Type 0} (p : X → Bool) (xs : List X) (i : ℕ) → position p xs ≡ Some i → (i ≡ position_or_len p xs) × (position_or_len p xs < length xs)
found_at p xs i e = go (ltb (position_or_len p xs) (length xs)) refl e
  where
    go : (b : Bool) → ltb (position_or_len p xs) (length xs) ≡ b → cond b (Some (position_or_len p xs)) None ≡ Some i → (i ≡ position_or_len p xs) × (position_or_len p xs < length xs)
    go true k f = (cc, ltb-true _ _ k)
    go false k f = let z : ◌≡◌ {A = ℕ} 0 1 = cc in absurd (omega arith)

pub found_nowhere : {X : Type 0} (p : X → Bool) (xs : List X) → position p xs ≡ None → length xs ≤ position_or_len p xs
found_nowhere p xs e = go (ltb (position_or_len p xs) (length xs)) refl e
  where
    go : (b : Bool) → ltb (position_or_len p xs) (length xs) ≡ b → cond b (Some (position_or_len p xs)) None ≡ None → length xs ≤ position_or_len p xs
    go true k f = let z : ◌≡◌ {A = ℕ} 0 1 = cc in absurd (omega arith)
    go false k f = ltb-false _ _ k

-- the place of a test, in the interface's words
pub place_is : {X : Type 0} (p : X → Bool) (xs : List X) → position_or_len p xs ≡ place p xs
place_is p [] = refl
place_is p (x ∷ xs) = go (p x) (place_is p xs)
  where
    go : (b : Bool) → position_or_len p xs ≡ place p xs → cond (not b) (1 + position_or_len p xs) 0 ≡ cond b 0 (suc (place p xs))
    go true e = refl
    go false e = omega (arith, e)

module _ {X : Type 0} (key : X → ℕ) (n : ℕ) where
  pub dropped_found : (xs : List X) (i : ℕ) → position (has_in key n) xs ≡ Some i → dropped key n xs ≡ remove xs i
  dropped_found xs i e =
      let f = found_at (has_in key n) xs i e in
      let same = place_is (has_in key n) xs in
      let d = dropped_there key n xs (omega (arith, f.1, same)) in
      cc

  pub dropped_absent : (xs : List X) → position (has_in key n) xs ≡ None → dropped key n xs ≡ xs
  dropped_absent xs e =
      let far = found_nowhere (has_in key n) xs e in
      let same = place_is (has_in key n) xs in
      dropped_not key n xs (omega (arith, far, same))
