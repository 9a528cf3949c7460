-- What the edges that are left add to the latest release so far.
use Rattle.std.proofs.Common.{◌≡◌, ℕ, ◌+◌, ◌<◌, ◌≤◌, max, true, false, List, [], ◌∷◌, map, length, get_or, drop, Some, None, Option, unwrap_or, sym, refl, ap, ◌∙◌, arith}
use Rattle.std.proofs.lemmas.List.{at_drop_more, at_drop_all}
use Rattle.std.proofs.lemmas.Bool.{cond-true, cond-false}
use Rattle.std.specs.Option.{option_map}
use Rattle.patterns.specs.declared.edge.Edge.{Edge}
use Rattle.patterns.proofs.Latest.{later_of}
use Rattle.patterns.specs.Due.{later, greatest, greatest_or, comes_into, incoming, release}

-- the greatest of what there is so far and what comes
abbrev pub onward : ℕ → Option ℕ → List (Option ℕ) → Option ℕ
onward start None xs = greatest_or start xs
onward start (Some t) xs = greatest (Some t) xs

later_max : (m t : ℕ) (z : Option ℕ) → later (Some (max m t)) z ≡ later (Some m) (later (Some t) z)
later_max m t None = refl
later_max m t (Some z) = ap Some (omega arith)

greatest_max : (m t : ℕ) (xs : List (Option ℕ)) → greatest (Some (max m t)) xs ≡ later (Some m) (greatest (Some t) xs)
greatest_max m t [] = refl
greatest_max m t (x ∷ xs) = later_max m t (greatest x xs)

onward_more : (start : ℕ) (l : Option ℕ) (t : ℕ) (xs : List (Option ℕ)) → onward start (Some (later_of l t)) xs ≡ onward start l (Some t ∷ xs)
onward_more start None t xs = refl
onward_more start (Some m) t xs = greatest_max m t xs

onward_none : (start : ℕ) (l : Option ℕ) (xs : List (Option ℕ)) → onward start l (None ∷ xs) ≡ None
onward_none start None [] = refl
onward_none start None (x ∷ xs) = refl
onward_none start (Some m) [] = refl
onward_none start (Some m) (x ∷ xs) = refl

onward_end : (start : ℕ) (l : Option ℕ) → onward start l [] ≡ Some (unwrap_or l start)
onward_end start None = refl
onward_end start (Some t) = refl

abbrev pub releases : (ℕ → Option ℕ) → ℕ → List Edge → List (Option ℕ)
releases done v es = map (release done) (incoming v es)

module _ (done : ℕ → Option ℕ) (es : List Edge) (start v : ℕ) (l : Option ℕ) (i : ℕ) (d : Edge) where
  pub passed : i < length es → false ≡ comes_into v (get_or es i d) → onward start l (releases done v (drop (i + 1) es)) ≡ onward start l (releases done v (drop i es))
  passed lt off =
      sym (at_drop_more (λ xs. onward start l (releases done v xs)) es i d lt ∙ ap (λ xs. onward start l (map (release done) xs)) (cond-false _ _ _ (sym off)))

  came : (o : Option ℕ) → i < length es → true ≡ comes_into v (get_or es i d) → o ≡ done (get_or es i d).source
      → onward start l (releases done v (drop i es)) ≡ onward start l (option_map (λ c. c + (get_or es i d).weight) o ∷ releases done v (drop (i + 1) es))
  came o lt on e =
      at_drop_more (λ xs. onward start l (releases done v xs)) es i d lt
      ∙ ap (λ xs. onward start l (map (release done) xs)) (cond-true _ _ _ (sym on))
      ∙ ap (λ x. onward start l (option_map (λ c. c + (get_or es i d).weight) x ∷ releases done v (drop (i + 1) es))) (sym e)

  pub released : (c t : ℕ) → i < length es → true ≡ comes_into v (get_or es i d) → Some c ≡ done (get_or es i d).source → t ≡ c + (get_or es i d).weight
      → onward start (Some (later_of l t)) (releases done v (drop (i + 1) es)) ≡ onward start l (releases done v (drop i es))
  released c t lt on e is =
      onward_more start l t (releases done v (drop (i + 1) es))
      ∙ ap (λ x. onward start l (Some x ∷ releases done v (drop (i + 1) es))) is
      ∙ sym (came (Some c) lt on e)

  pub blocked : i < length es → true ≡ comes_into v (get_or es i d) → None ≡ done (get_or es i d).source → onward start l (releases done v (drop i es)) ≡ None
  blocked lt on e = came None lt on e ∙ onward_none start l (releases done v (drop (i + 1) es))

  pub finished : length es ≤ i → onward start l (releases done v (drop i es)) ≡ Some (unwrap_or l start)
  finished le = at_drop_all (λ xs. onward start l (releases done v xs)) es i le ∙ onward_end start l
