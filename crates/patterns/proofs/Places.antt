-- A list with one element changed, seen through a view of its elements.
use Rattle.std.proofs.Common.{◌≡◌, ℕ, zero, suc, ◌<◌, ◌≤◌, List, [], ◌∷◌, map, length, get_or, set, sym, refl, ap, ◌∙◌, arith}
use lib.ListN.{length-map}
use Rattle.std.proofs.lemmas.List.{map-set, get_or-map, get_or_past}
use Rattle.patterns.specs.Lanes.{changed}

set_changed : {X : Type 0} (f : X → X) (xs : List X) (i : ℕ) (d : X) → set xs i (f (get_or xs i d)) ≡ changed f xs i
set_changed f [] i d = refl
set_changed f (x ∷ xs) zero d = refl
set_changed f (x ∷ xs) (suc i) d = ap (λ l. x ∷ l) (set_changed f xs i d)

pub changed_past : {X : Type 0} (f : X → X) (xs : List X) (i : ℕ) → length xs ≤ i → xs ≡ changed f xs i
changed_past f [] i le = refl
changed_past f (x ∷ xs) zero le = absurd (omega arith)
changed_past f (x ∷ xs) (suc i) le = ap (λ l. x ∷ l) (changed_past f xs i (omega arith))

pub placed : {X : Type 0} (f : X → X) (xs : List X) (i : ℕ) (x w : X) → x ≡ get_or xs i x → w ≡ f x → set xs i w ≡ changed f xs i
placed f xs i x w read e = ap (set xs i) (e ∙ ap f read) ∙ set_changed f xs i x

module _ {X Y : Type 0} (view : X → Y) (f : Y → Y) (xs : List X) (i : ℕ) where
  get_or_viewed : (d : Y) (x : X) → i < length xs → x ≡ get_or xs i x → view x ≡ get_or (map view xs) i d
  get_or_viewed d x lt read = ap view read ∙ sym (get_or-map view xs i x d lt)

  pub viewed : (x w : X) → i < length xs → x ≡ get_or xs i x → view w ≡ f (view x) → map view (set xs i w) ≡ changed f (map view xs) i
  viewed x w lt read e = map-set view xs i w ∙ placed f (map view xs) i (view x) (view w) (get_or_viewed (view x) x lt read) e

  pub view_past : length xs ≤ i → map view xs ≡ changed f (map view xs) i
  view_past le = changed_past f (map view xs) i (omega (arith, length-map xs view))

  pub get_or_view_past : (d : Y) → length xs ≤ i → d ≡ get_or (map view xs) i d
  get_or_view_past d le = sym (get_or_past (map view xs) i d (omega (arith, length-map xs view)))
