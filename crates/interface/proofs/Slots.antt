-- Lists of things that each have a slot.
use Rattle.std.proofs.Common.{◌≡◌, ℕ, zero, suc, ◌+◌, ◌<◌, ◌≤◌, Bool, true, false, cond, ◌&&◌, ◌||◌, eqb, ltb, List, [], ◌∷◌, ◌++◌, map, length, get_or, drop, Some, None, Option, sym, refl, ap, ◌∙◌, subst, append_assoc, append-nil, add-one, arith, drop-cons, ltb-false, ltb-true, le-ltb, lt-ltb, ne_eqb, eqb-true}
use borrow.Author.Tests.{both_ways}
use Rattle.std.specs.List.{remove}
use Rattle.interface.specs.Meaning.{Held, first, any, has_slot}
use Rattle.interface.specs.Lawful.{issues, ends, without, ended, Standing, standing, slot_of, events_of, Proper}
use Rattle.interface.specs.Slots.{place, has_in, dropped, dropped_by, dones_of, failing}
use Rattle.interface.specs.declared.Event.{Event}
use Rattle.interface.specs.declared.Event.TheVariants.{Issue, Done}
use Rattle.interface.proofs.Bools.{or_false, or_both, or_left, or_true, eqb_comm, same}

-- ---- places

pub place_drop_all : {X : Type 0} (p : X → Bool) (xs : List X) (i : ℕ) → length xs ≤ i → place p (drop i xs) ≡ 0
place_drop_all p [] zero h = refl
place_drop_all p [] (suc i) h = refl
place_drop_all p (x ∷ xs) zero h = absurd (omega arith)
place_drop_all p (x ∷ xs) (suc i) h = let k : length xs ≤ i = omega arith in place_drop_all p xs i k

suc_ltb : (m n : ℕ) → ltb m n ≡ ltb (suc m) (suc n)
suc_ltb m n = go (ltb m n) refl
  where
    go : (b : Bool) → ltb m n ≡ b → b ≡ ltb (suc m) (suc n)
    go true e = let k = ltb-true m n e in sym (lt-ltb _ _ (omega arith))
    go false e = let k = ltb-false m n e in sym (le-ltb _ _ (omega arith))

pub first_at : {X : Type 0} (xs : List X) (v : X) → (length xs ≡ 0 → ⊥) → v ≡ get_or xs 0 v → first xs ≡ Some v
first_at [] v h e = absurd (h refl)
first_at (x ∷ xs) v h e = ap Some (sym e)

pub map_append : {X Y : Type 0} (f : X → Y) (xs : List X) (x : X) → map f (xs ++ (x ∷ [])) ≡ map f xs ++ (f x ∷ [])
map_append f [] x = refl
map_append f (y ∷ xs) x = ap (λ l. f y ∷ l) (map_append f xs x)

pub proper_none : (s : Standing) (es : List Event) → es ≡ [] → Proper s es
proper_none s es e = subst (Proper s) (sym e) tt

-- ---- the events of one slot

events_of_append_at : (n : ℕ) (x : Event) (ds bs : List Event) (b : Bool) → events_of n (ds ++ bs) ≡ events_of n ds ++ events_of n bs → cond b (x ∷ events_of n (ds ++ bs)) (events_of n (ds ++ bs)) ≡ cond b (x ∷ events_of n ds) (events_of n ds) ++ events_of n bs
events_of_append_at n x ds bs true e = ap (λ l. x ∷ l) e
events_of_append_at n x ds bs false e = e

pub events_of_append : (n : ℕ) (ds bs : List Event) → events_of n (ds ++ bs) ≡ events_of n ds ++ events_of n bs
events_of_append n [] bs = refl
events_of_append n (x ∷ ds) bs = events_of_append_at n x ds bs (eqb (slot_of x) n) (events_of_append n ds bs)

pub events_of_skip : (n m : ℕ) (ds : List Event) (t : Bool) → eqb m n ≡ false → events_of n (cond t (Done m ∷ ds) ds) ≡ events_of n ds
events_of_skip n m ds true e = ap (λ b. cond b (Done m ∷ events_of n ds) (events_of n ds)) e
events_of_skip n m ds false e = refl

pub events_of_one : (m : ℕ) (ds : List Event) (t : Bool) → events_of m ds ≡ [] → events_of m (cond t (Done m ∷ ds) ds) ≡ cond t (Done m ∷ []) []
events_of_one m ds true e = ap (λ b. cond b (Done m ∷ events_of m ds) (events_of m ds)) (same m) ∙ ap (λ l. Done m ∷ l) e
events_of_one m ds false e = e

pub done_more : (n m : ℕ) (t : Bool) (ds : List Event) → any (ends n) ds ≡ true → any (ends n) (cond t (Done m ∷ ds) ds) ≡ true
done_more n m true ds e = or_true (eqb m n) _ e
done_more n m false ds e = e

done_none : (n m : ℕ) (ds : List Event) (t : Bool) → eqb m n ≡ false → any (ends n) ds ≡ false → any (ends n) (cond t (Done m ∷ ds) ds) ≡ false
done_none n m ds true e k = or_both (eqb m n) _ e k
done_none n m ds false e k = k

pub ends_append : (n : ℕ) (es ds : List Event) → any (ends n) ds ≡ true → any (ends n) (es ++ ds) ≡ true
ends_append n [] ds e = e
ends_append n (x ∷ es) ds e = or_true (ends n x) _ (ends_append n es ds e)

ends_before_at : (n : ℕ) (es ds : List Event) (b : Bool) → (any (ends n) es ≡ true → any (ends n) (es ++ ds) ≡ true) → (b || any (ends n) es) ≡ true → (b || any (ends n) (es ++ ds)) ≡ true
ends_before_at n es ds true ih k = refl
ends_before_at n es ds false ih k = ih k

pub ends_before : (n : ℕ) (es ds : List Event) → any (ends n) es ≡ true → any (ends n) (es ++ ds) ≡ true
ends_before n [] ds e = absurd (both_ways false refl e)
ends_before n (x ∷ es) ds e = ends_before_at n es ds (ends n x) (ends_before n es ds) e

pub issues_append : (n : ℕ) (es ds : List Event) → any (issues n) ds ≡ false → any (issues n) (es ++ ds) ≡ any (issues n) es
issues_append n [] ds e = e
issues_append n (x ∷ es) ds e = ap (λ b. issues n x || b) (issues_append n es ds e)

issues_done : (n m : ℕ) (ds : List Event) (t : Bool) → any (issues n) ds ≡ false → any (issues n) (cond t (Done m ∷ ds) ds) ≡ false
issues_done n m ds true e = e
issues_done n m ds false e = e

module _ {X : Type 0} (key : X → ℕ) where
  -- ---- slots that are held once

  abbrev pub Apart : List X → Type 0
  Apart [] = Unit {0}
  Apart (x ∷ xs) = (any (has_in key (key x)) xs ≡ false) × Apart xs

  pub some_map : (f : X → X) → ((x : X) → key (f x) ≡ key x) → (n : ℕ) (xs : List X) → any (has_in key n) (map f xs) ≡ any (has_in key n) xs
  some_map f e n [] = refl
  some_map f e n (x ∷ xs) = ap (λ k. eqb k n || any (has_in key n) (map f xs)) (e x) ∙ ap (λ b. has_in key n x || b) (some_map f e n xs)

  pub apart_map : (f : X → X) → ((x : X) → key (f x) ≡ key x) → (xs : List X) → Apart xs → Apart (map f xs)
  apart_map f e [] a = tt
  apart_map f e (x ∷ xs) a = (ap (λ k. any (has_in key k) (map f xs)) (e x) ∙ some_map f e (key x) xs ∙ a.0, apart_map f e xs a.1)

  some_dropped_at : (n m : ℕ) (x : X) (xs : List X) (b : Bool) → (has_in key n x || any (has_in key n) xs) ≡ false → any (has_in key n) (dropped key m xs) ≡ false → any (has_in key n) (cond b xs (x ∷ dropped key m xs)) ≡ false
  some_dropped_at n m x xs true e ih = (or_false (has_in key n x) _ e).1
  some_dropped_at n m x xs false e ih = or_both (has_in key n x) _ (or_false (has_in key n x) _ e).0 ih

  pub some_dropped : (n m : ℕ) (xs : List X) → any (has_in key n) xs ≡ false → any (has_in key n) (dropped key m xs) ≡ false
  some_dropped n m [] e = refl
  some_dropped n m (x ∷ xs) e = some_dropped_at n m x xs (has_in key m x) e (some_dropped n m xs (or_false (has_in key n x) _ e).1)

  apart_dropped_at : (m : ℕ) (x : X) (xs : List X) (b : Bool) → Apart (x ∷ xs) → Apart (dropped key m xs) → Apart (cond b xs (x ∷ dropped key m xs))
  apart_dropped_at m x xs true a l = a.1
  apart_dropped_at m x xs false a l = (some_dropped (key x) m xs a.0, l)

  pub apart_dropped : (m : ℕ) (xs : List X) → Apart xs → Apart (dropped key m xs)
  apart_dropped m [] a = tt
  apart_dropped m (x ∷ xs) a = apart_dropped_at m x xs (has_in key m x) a (apart_dropped m xs a.1)

  pub some_append : (n : ℕ) (xs : List X) (x : X) → any (has_in key n) xs ≡ false → has_in key n x ≡ false → any (has_in key n) (xs ++ (x ∷ [])) ≡ false
  some_append n [] x e k = or_both (has_in key n x) false k refl
  some_append n (y ∷ xs) x e k = or_both (has_in key n y) _ (or_false (has_in key n y) _ e).0 (some_append n xs x (or_false (has_in key n y) _ e).1 k)

  pub apart_append : (xs : List X) (x : X) → Apart xs → any (has_in key (key x)) xs ≡ false → Apart (xs ++ (x ∷ []))
  apart_append [] x a e = (refl, tt)
  apart_append (y ∷ xs) x a e =
      let k = or_false (has_in key (key x) y) _ e in
      (some_append (key y) xs x a.0 (eqb_comm (key x) (key y) ∙ k.0), apart_append xs x a.1 k.1)

  length_dropped_at : (m : ℕ) (x : X) (xs : List X) (b : Bool) → length (dropped key m xs) ≤ length xs → length (cond b xs (x ∷ dropped key m xs)) ≤ suc (length xs)
  length_dropped_at m x xs true e = omega arith
  length_dropped_at m x xs false e = omega arith

  pub length_dropped : (m : ℕ) (xs : List X) → length (dropped key m xs) ≤ length xs
  length_dropped m [] = omega arith
  length_dropped m (x ∷ xs) = length_dropped_at m x xs (has_in key m x) (length_dropped m xs)

  pub some_self : (n : ℕ) (xs : List X) (m : ℕ) → any (has_in key m) xs ≡ false → any (has_in key n) xs ≡ true → eqb m n ≡ false
  some_self n xs m a b = ne_eqb m n (λ e. both_ways (any (has_in key n) xs) (ap (λ k. any (has_in key k) xs) (sym e) ∙ a) b)

  -- ---- the place of a slot

  dropped_cons : (n : ℕ) (x : X) (xs : List X) (b : Bool) → cond b 0 (suc (place (has_in key n) xs)) < suc (length xs) → (place (has_in key n) xs < length xs → remove xs (place (has_in key n) xs) ≡ dropped key n xs)
      → remove (x ∷ xs) (cond b 0 (suc (place (has_in key n) xs))) ≡ cond b xs (x ∷ dropped key n xs)
  dropped_cons n x xs true h ih = refl
  dropped_cons n x xs false h ih = ap (λ l. x ∷ l) (ih (omega arith))

  dropped_keeps : (n : ℕ) (x : X) (xs : List X) (b : Bool) → suc (length xs) ≤ cond b 0 (suc (place (has_in key n) xs)) → (length xs ≤ place (has_in key n) xs → dropped key n xs ≡ xs) → cond b xs (x ∷ dropped key n xs) ≡ x ∷ xs
  dropped_keeps n x xs true h ih = absurd (omega arith)
  dropped_keeps n x xs false h ih = ap (λ l. x ∷ l) (ih (omega arith))

  pub dropped_there : (n : ℕ) (xs : List X) → place (has_in key n) xs < length xs → remove xs (place (has_in key n) xs) ≡ dropped key n xs
  dropped_there n [] h = absurd (omega arith)
  dropped_there n (x ∷ xs) h = dropped_cons n x xs (has_in key n x) h (dropped_there n xs)

  pub dropped_not : (n : ℕ) (xs : List X) → length xs ≤ place (has_in key n) xs → dropped key n xs ≡ xs
  dropped_not n [] h = refl
  dropped_not n (x ∷ xs) h = dropped_keeps n x xs (has_in key n x) h (dropped_not n xs)

  -- ---- a Done for each that passes a test

  pub events_of_none : (p : X → Bool) (n : ℕ) (xs : List X) → any (has_in key n) xs ≡ false → events_of n (dones_of key p xs) ≡ []
  events_of_none p n [] e = refl
  events_of_none p n (x ∷ xs) e =
      let j = or_false (has_in key n x) _ e in
      events_of_skip n (key x) (dones_of key p xs) (p x) j.0 ∙ events_of_none p n xs j.1

  pub ends_none : (p : X → Bool) (n : ℕ) (xs : List X) → any (has_in key n) xs ≡ false → any (ends n) (dones_of key p xs) ≡ false
  ends_none p n [] e = refl
  ends_none p n (x ∷ xs) e =
      let j = or_false (has_in key n x) _ e in
      done_none n (key x) (dones_of key p xs) (p x) j.0 (ends_none p n xs j.1)

  -- no Done is an Issue
  pub issues_none : (p : X → Bool) (n : ℕ) (xs : List X) → any (issues n) (dones_of key p xs) ≡ false
  issues_none p n [] = refl
  issues_none p n (x ∷ xs) = issues_done n (key x) (dones_of key p xs) (p x) (issues_none p n xs)

  dones_next : (p : X → Bool) (xs : List X) (i : ℕ) (d : X) → i < length xs → dones_of key p (drop i xs) ≡ cond (p (get_or xs i d)) (Done (key (get_or xs i d)) ∷ dones_of key p (drop (i + 1) xs)) (dones_of key p (drop (i + 1) xs))
  dones_next p xs i d h =
      ap (dones_of key p) (drop-cons xs i d h) ∙ ap (λ k. cond (p (get_or xs i d)) (Done (key (get_or xs i d)) ∷ dones_of key p (drop k xs)) (dones_of key p (drop k xs))) (sym (add-one i))

  pub dones_here : (p : X → Bool) (es fs : List Event) (xs : List X) (i : ℕ) (d : X) → i < length xs → p (get_or xs i d) ≡ true → fs ≡ es ++ (Done (key (get_or xs i d)) ∷ [])
      → fs ++ dones_of key p (drop (i + 1) xs) ≡ es ++ dones_of key p (drop i xs)
  dones_here p es fs xs i d h t e =
      ap (λ l. l ++ dones_of key p (drop (i + 1) xs)) e ∙ append_assoc es _ _
      ∙ ap (λ l. es ++ l) (sym (dones_next p xs i d h ∙ ap (λ b. cond b (Done (key (get_or xs i d)) ∷ dones_of key p (drop (i + 1) xs)) (dones_of key p (drop (i + 1) xs))) t))

  pub dones_not : (p : X → Bool) (xs : List X) (i : ℕ) (d : X) → i < length xs → p (get_or xs i d) ≡ false → dones_of key p (drop (i + 1) xs) ≡ dones_of key p (drop i xs)
  dones_not p xs i d h t = sym (dones_next p xs i d h ∙ ap (λ b. cond b (Done (key (get_or xs i d)) ∷ dones_of key p (drop (i + 1) xs)) (dones_of key p (drop (i + 1) xs))) t)

  pub dones_end : (p : X → Bool) (es : List Event) (xs : List X) (i : ℕ) → length xs ≤ i → es ++ dones_of key p (drop i xs) ≡ es
  dones_end p es [] zero h = append-nil es
  dones_end p es [] (suc i) h = append-nil es
  dones_end p es (x ∷ xs) zero h = absurd (omega arith)
  dones_end p es (x ∷ xs) (suc i) h = let k : length xs ≤ i = omega arith in dones_end p es xs i k

  -- ---- those that do not pass a test

  some_failing_at : (n : ℕ) (x : X) (us : List X) (b : Bool) (t : Bool) → (has_in key n x || t) ≡ false → (t ≡ false → any (has_in key n) us ≡ false) → any (has_in key n) (cond b us (x ∷ us)) ≡ false
  some_failing_at n x us true t e ih = ih (or_false (has_in key n x) t e).1
  some_failing_at n x us false t e ih = or_both (has_in key n x) _ (or_false (has_in key n x) t e).0 (ih (or_false (has_in key n x) t e).1)

  pub some_failing : (p : X → Bool) (n : ℕ) (xs : List X) → any (has_in key n) xs ≡ false → any (has_in key n) (failing p xs) ≡ false
  some_failing p n [] e = refl
  some_failing p n (x ∷ xs) e = some_failing_at n x (failing p xs) (p x) (any (has_in key n) xs) e (some_failing p n xs)

  -- ---- the Dones that are ready name things that pass a test

  abbrev pub marked : (X → Bool) → ℕ → List X → Bool
  marked p n xs = any (λ x. has_in key n x && p x) xs

  abbrev pub Traced : (X → Bool) → List Event → List X → Type 0
  Traced p [] xs = Unit {0}
  Traced p (Issue n ∷ es) xs = Traced p es xs
  Traced p (Done n ∷ es) xs = (marked p n xs ≡ true) × Traced p es (dropped key n xs)

  traced_cons : (p : X → Bool) (es : List Event) (x : X) (xs : List X) → any (ends (key x)) es ≡ false → Traced p es xs → Traced p es (x ∷ xs)
  traced_cons p [] x xs e t = tt
  traced_cons p (Issue n ∷ es) x xs e t = traced_cons p es x xs e t
  traced_cons p (Done n ∷ es) x xs e t =
      let j = or_false (eqb n (key x)) _ e in (
        or_true (has_in key n x && p x) _ t.0,
        subst (λ b. Traced p es (cond b xs (x ∷ dropped key n xs))) (sym (eqb_comm (key x) n ∙ j.0)) (traced_cons p es x (dropped key n xs) j.1 t.1),
      )

  traced_dones_at : (p q : X → Bool) (x : X) (xs : List X) (t : Bool) → (t ≡ true → p x ≡ true) → any (has_in key (key x)) xs ≡ false → Traced p (dones_of key q xs) xs → Traced p (cond t (Done (key x) ∷ dones_of key q xs) (dones_of key q xs)) (x ∷ xs)
  traced_dones_at p q x xs true e a ih = (
    or_left (has_in key (key x) x && p x) _ (ap (λ b. b && p x) (same (key x)) ∙ e refl),
    subst (λ b. Traced p (dones_of key q xs) (cond b xs (x ∷ dropped key (key x) xs))) (sym (same (key x))) ih,
  )
  traced_dones_at p q x xs false e a ih = traced_cons p (dones_of key q xs) x xs (ends_none q (key x) xs a) ih

  pub traced_dones : (p q : X → Bool) → ((x : X) → q x ≡ true → p x ≡ true) → (xs : List X) → Apart xs → Traced p (dones_of key q xs) xs
  traced_dones p q i [] a = tt
  traced_dones p q i (x ∷ xs) a = traced_dones_at p q x xs (q x) (i x) a.0 (traced_dones p q i xs a.1)

  marked_append_at : (p : X → Bool) (n : ℕ) (xs : List X) (x : X) (b : Bool) → (marked p n xs ≡ true → marked p n (xs ++ (x ∷ [])) ≡ true) → (b || marked p n xs) ≡ true → (b || marked p n (xs ++ (x ∷ []))) ≡ true
  marked_append_at p n xs x true ih e = refl
  marked_append_at p n xs x false ih e = ih e

  pub marked_append : (p : X → Bool) (n : ℕ) (xs : List X) (x : X) → marked p n xs ≡ true → marked p n (xs ++ (x ∷ [])) ≡ true
  marked_append p n [] x e = absurd (both_ways false refl e)
  marked_append p n (y ∷ xs) x e = marked_append_at p n xs x (has_in key n y && p y) (marked_append p n xs x) e

  dropped_append_at : (p : X → Bool) (n : ℕ) (y : X) (xs : List X) (x : X) (b d : Bool) → (marked p n xs ≡ true → dropped key n (xs ++ (x ∷ [])) ≡ dropped key n xs ++ (x ∷ [])) → ((b && d) || marked p n xs) ≡ true
      → cond b (xs ++ (x ∷ [])) (y ∷ dropped key n (xs ++ (x ∷ []))) ≡ cond b xs (y ∷ dropped key n xs) ++ (x ∷ [])
  dropped_append_at p n y xs x true d ih e = refl
  dropped_append_at p n y xs x false d ih e = ap (λ l. y ∷ l) (ih e)

  pub dropped_append : (p : X → Bool) (n : ℕ) (xs : List X) (x : X) → marked p n xs ≡ true → dropped key n (xs ++ (x ∷ [])) ≡ dropped key n xs ++ (x ∷ [])
  dropped_append p n [] x e = absurd (both_ways false refl e)
  dropped_append p n (y ∷ xs) x e = dropped_append_at p n y xs x (has_in key n y) (p y) (dropped_append p n xs x) e

  pub traced_append : (p : X → Bool) (es : List Event) (xs : List X) (x : X) → Traced p es xs → Traced p es (xs ++ (x ∷ []))
  traced_append p [] xs x t = tt
  traced_append p (Issue n ∷ es) xs x t = traced_append p es xs x t
  traced_append p (Done n ∷ es) xs x t = (marked_append p n xs x t.0, subst (Traced p es) (sym (dropped_append p n xs x t.0)) (traced_append p es (dropped key n xs) x t.1))

  pub marked_has : (p : X → Bool) (n : ℕ) (xs : List X) → any (has_in key n) xs ≡ false → marked p n xs ≡ true → ⊥
  marked_has p n [] a e = both_ways false refl e
  marked_has p n (x ∷ xs) a e =
      let j = or_false (has_in key n x) _ a in
      marked_has p n xs j.1 (sym (ap (λ b. (b && p x) || marked p n xs) j.0) ∙ e)

  failing_dropped_at : (p : X → Bool) (n : ℕ) (x : X) (xs : List X) (b d : Bool) → eqb (key x) n ≡ b → any (has_in key (key x)) xs ≡ false → ((b && d) || marked p n xs) ≡ true → (marked p n xs ≡ true → failing p (dropped key n xs) ≡ failing p xs)
      → p x ≡ d → failing p (cond b xs (x ∷ dropped key n xs)) ≡ cond d (failing p xs) (x ∷ failing p xs)
  failing_dropped_at p n x xs true true e a m ih k = refl
  failing_dropped_at p n x xs true false e a m ih k = absurd (marked_has p n xs (ap (λ j. any (has_in key j) xs) (sym (eqb-true _ _ e)) ∙ a) m)
  failing_dropped_at p n x xs false d e a m ih k = ap (λ b. cond b (failing p (dropped key n xs)) (x ∷ failing p (dropped key n xs))) k ∙ ap (λ l. cond d l (x ∷ l)) (ih m)

  -- a Done that is ready ends one that passes the test
  pub failing_dropped : (p : X → Bool) (n : ℕ) (xs : List X) → Apart xs → marked p n xs ≡ true → failing p (dropped key n xs) ≡ failing p xs
  failing_dropped p n [] a m = refl
  failing_dropped p n (x ∷ xs) a m = failing_dropped_at p n x xs (has_in key n x) (p x) refl a.0 m (failing_dropped p n xs a.1) refl

  -- ---- the readings

  module _ (entry : X → Held) (fits : (x : X) → (entry x).request.slot ≡ key x) where
    pub some_entries : (n : ℕ) (xs : List X) → any (has_slot n) (map entry xs) ≡ any (has_in key n) xs
    some_entries n [] = refl
    some_entries n (x ∷ xs) = ap (λ k. eqb k n || any (has_slot n) (map entry xs)) (fits x) ∙ ap (λ b. has_in key n x || b) (some_entries n xs)

    held_cons : (n : ℕ) (xs : List X) (b : Bool) → any (has_in key n) xs ≡ ltb (place (has_in key n) xs) (length xs)
        → (b || any (has_in key n) xs) ≡ ltb (cond b 0 (suc (place (has_in key n) xs))) (suc (length xs))
    held_cons n xs true ih = sym (lt-ltb _ _ (omega arith))
    held_cons n xs false ih = ih ∙ suc_ltb (place (has_in key n) xs) (length xs)

    pub held_at : (n : ℕ) (xs : List X) → any (has_in key n) xs ≡ ltb (place (has_in key n) xs) (length xs)
    held_at n [] = refl
    held_at n (x ∷ xs) = held_cons n xs (has_in key n x) (held_at n xs)

    pub held_there : (n : ℕ) (xs : List X) → place (has_in key n) xs < length xs → any (has_slot n) (map entry xs) ≡ true
    held_there n xs h = some_entries n xs ∙ held_at n xs ∙ lt-ltb _ _ h

    pub held_not : (n : ℕ) (xs : List X) → length xs ≤ place (has_in key n) xs → any (has_slot n) (map entry xs) ≡ false
    held_not n xs h = some_entries n xs ∙ held_at n xs ∙ le-ltb _ _ h

    without_none_at : (n : ℕ) (x : X) (xs : List X) (b : Bool) → b ≡ false → without n (map entry xs) ≡ map entry xs → cond b (without n (map entry xs)) (entry x ∷ without n (map entry xs)) ≡ entry x ∷ map entry xs
    without_none_at n x xs true e k = absurd (both_ways true e refl)
    without_none_at n x xs false e k = ap (λ l. entry x ∷ l) k

    without_none : (n : ℕ) (xs : List X) → any (has_in key n) xs ≡ false → without n (map entry xs) ≡ map entry xs
    without_none n [] e = refl
    without_none n (x ∷ xs) e = let k = or_false (has_in key n x) _ e in without_none_at n x xs (has_slot n (entry x)) (ap (λ j. eqb j n) (fits x) ∙ k.0) (without_none n xs k.1)

    dropped_entries_at : (n : ℕ) (x : X) (xs : List X) (b : Bool) → has_in key n x ≡ b → any (has_in key (key x)) xs ≡ false → map entry (dropped key n xs) ≡ without n (map entry xs)
        → map entry (cond b xs (x ∷ dropped key n xs)) ≡ cond b (without n (map entry xs)) (entry x ∷ without n (map entry xs))
    dropped_entries_at n x xs true e a k = sym (without_none n xs (ap (λ m. any (has_in key m) xs) (sym (eqb-true _ _ e)) ∙ a))
    dropped_entries_at n x xs false e a k = ap (λ l. entry x ∷ l) k

    dropped_entries : (n : ℕ) (xs : List X) → Apart xs → map entry (dropped key n xs) ≡ without n (map entry xs)
    dropped_entries n [] a = refl
    dropped_entries n (x ∷ xs) a =
        dropped_entries_at n x xs (has_in key n x) refl a.0 (dropped_entries n xs a.1)
        ∙ ap (λ j. cond (eqb j n) (without n (map entry xs)) (entry x ∷ without n (map entry xs))) (sym (fits x))

    pub collected_held : (o : Option Event) (xs : List X) → Apart xs → map entry (dropped_by key o xs) ≡ ended o (map entry xs)
    collected_held None xs a = refl
    collected_held (Some (Issue n)) xs a = refl
    collected_held (Some (Done n)) xs a = dropped_entries n xs a

    pub standing_none : (n : ℕ) (xs : List X) → any (has_in key n) xs ≡ false → standing n (map entry xs) ≡ Standing.absent
    standing_none n [] e = refl
    standing_none n (x ∷ xs) e =
        let j = or_false (has_in key n x) _ e in
        ap (λ b. cond b (cond (entry x).issued Standing.in_flight Standing.waiting) (standing n (map entry xs))) (ap (λ k. eqb k n) (fits x) ∙ j.0) ∙ standing_none n xs j.1

-- ---- those that do not pass a test

length_failing_at : {X : Type 0} (x : X) (us : List X) (b : Bool) (k : ℕ) → length us ≤ k → length (cond b us (x ∷ us)) ≤ suc k
length_failing_at x us true k h = omega arith
length_failing_at x us false k h = omega arith

pub length_failing : {X : Type 0} (p : X → Bool) (xs : List X) → length (failing p xs) ≤ length xs
length_failing p [] = omega arith
length_failing p (x ∷ xs) = length_failing_at x (failing p xs) (p x) (length xs) (length_failing p xs)

failing_append_at : {X : Type 0} (y x : X) (us vs : List X) (b : Bool) → vs ≡ us ++ (x ∷ []) → cond b vs (y ∷ vs) ≡ cond b us (y ∷ us) ++ (x ∷ [])
failing_append_at y x us vs true e = e
failing_append_at y x us vs false e = ap (λ l. y ∷ l) e

pub failing_append : {X : Type 0} (p : X → Bool) (xs : List X) (x : X) → p x ≡ false → failing p (xs ++ (x ∷ [])) ≡ failing p xs ++ (x ∷ [])
failing_append p [] x e = ap (λ b. cond b [] (x ∷ [])) e
failing_append p (y ∷ xs) x e = failing_append_at y x (failing p xs) (failing p (xs ++ (x ∷ []))) (p y) (failing_append p xs x e)
