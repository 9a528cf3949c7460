-- Due ticks and starts of rounds as the Done ticks come in.
use Rattle.std.proofs.Common.{◌≡◌, ℕ, zero, suc, ◌+◌, ◌<◌, ◌≤◌, max, Bool, true, false, cond, eqb, ◌⊎◌, List, [], ◌∷◌, ◌++◌, map, length, Some, None, Option, sym, refl, ap, ◌∙◌, inl, inr, arith}
use Rattle.std.proofs.lemmas.Bool.{eqb-true}
use Rattle.std.specs.Option.{option_map}
use Rattle.std.specs.List.{AllByRecursion}
use Rattle.patterns.specs.Due.{later, greatest, greatest_or, release, incoming, due, round_end}
use Rattle.patterns.specs.declared.edge.Edge.{Edge}
use Rattle.model.specs.Settings.{Pattern}
use Rattle.run_laws.specs.Departures.{nth, round_start, due_when, due_in_round}

-- ---- lists

pub nth_append : (xs ys : List ℕ) (r x : ℕ) → nth xs r ≡ Some x → nth (xs ++ ys) r ≡ Some x
nth_append [] ys r x e = absurd (let z : ◌≡◌ {A = ℕ} 0 1 = cc in omega arith)
nth_append (y ∷ xs) ys zero x e = e
nth_append (y ∷ xs) ys (suc r) x e = nth_append xs ys r x e

pub nth_past : (xs : List ℕ) (r : ℕ) → length xs ≤ r → nth xs r ≡ None
nth_past [] r h = refl
nth_past (x ∷ xs) zero h = absurd (omega arith)
nth_past (x ∷ xs) (suc r) h = nth_past xs r (omega arith)

pub nth_last : (xs : List ℕ) (r x : ℕ) → length xs ≡ r → nth (xs ++ (x ∷ [])) r ≡ Some x
nth_last [] zero x h = refl
nth_last [] (suc r) x h = absurd (omega arith)
nth_last (y ∷ xs) zero x h = absurd (omega arith)
nth_last (y ∷ xs) (suc r) x h = nth_last xs r x (omega arith)

-- what is there at r is there among the first
pub nth_length : (xs : List ℕ) (r x : ℕ) → nth xs r ≡ Some x → r < length xs
nth_length [] r x e = absurd (let z : ◌≡◌ {A = ℕ} 0 1 = cc in omega arith)
nth_length (y ∷ xs) zero x e = omega arith
nth_length (y ∷ xs) (suc r) x e = let h = nth_length xs r x e in omega arith

pub some_injective : (a b : ℕ) → Some a ≡ Some b → a ≡ b
some_injective a b e = cc

none_not : {A : Type 0} (x : ℕ) → None ≡ Some x → A
none_not x e = absurd (let z : ◌≡◌ {A = ℕ} 0 1 = cc in omega arith)

-- ---- the greatest over the edges that come in

-- a tick that has not come before n
abbrev pub Late : ℕ → Option ℕ → Type 0
Late n o = (t : ℕ) → o ≡ Some t → n ≤ t

abbrev Low : ℕ → List Edge → Type 0
Low n es = AllByRecursion (λ (e : Edge). e.source < n) es

pub incoming_low : (n i : ℕ) (es : List Edge) → i < n → AllByRecursion (λ (e : Edge). e.source < e.target) es → Low n (incoming i es)
incoming_low n i [] h a = tt
incoming_low n i (e ∷ es) h a = go (eqb e.target i) refl (incoming_low n i es h a.1)
  where
    go : (t : Bool) → eqb e.target i ≡ t → Low n (incoming i es) → Low n (cond t (e ∷ incoming i es) (incoming i es))
    go true z k = let same : e.target ≡ i = eqb-true e.target i z in let below : e.source < e.target = a.0 in (omega arith, k)
    go false z k = k

module _ (n : ℕ) (f g : ℕ → Option ℕ) where
  -- f and g agree on the vertices
  abbrev pub Agree : Type 0
  Agree = (u : ℕ) → u < n → f u ≡ g u

  -- g has all that f has
  abbrev pub Extends : Type 0
  Extends = (u : ℕ) → u < n → (x : ℕ) → f u ≡ Some x → g u ≡ Some x

  -- and what is new in g comes at k or later
  abbrev pub New : ℕ → Type 0
  New k = (u : ℕ) → u < n → f u ≡ None → Late k (g u)

  map_agree : (es : List Edge) → Low n es → Agree → map (release f) es ≡ map (release g) es
  map_agree [] l a = refl
  map_agree (e ∷ es) l a = ap (λ z. option_map (λ c. c + e.weight) z ∷ map (release f) es) (a e.source l.0) ∙ ap (λ z. release g e ∷ z) (map_agree es l.1 a)

  pub due_agree : (s i : ℕ) (es : List Edge) → i < n → AllByRecursion (λ (e : Edge). e.source < e.target) es → Agree → due s f es i ≡ due s g es i
  due_agree s i es h o a = ap (greatest_or s) (map_agree (incoming i es) (incoming_low n i es h o) a)

  later_some : (a b : Option ℕ) (t : ℕ) → later a b ≡ Some t → (x : ℕ) × (y : ℕ) × (a ≡ Some x) × (b ≡ Some y) × (max x y ≡ t)
  later_some None b t e = none_not t e
  later_some (Some x) None t e = none_not t e
  later_some (Some x) (Some y) t e = (x, y, refl, refl, some_injective (max x y) t e)

  mapped_some : (w : ℕ) (o : Option ℕ) (t : ℕ) → option_map (λ c. c + w) o ≡ Some t → (x : ℕ) × (o ≡ Some x) × (x + w ≡ t)
  mapped_some w None t e = none_not t e
  mapped_some w (Some x) t e = (x, refl, some_injective (x + w) t e)

  release_stays : (e : Edge) (t : ℕ) → e.source < n → Extends → release f e ≡ Some t → release g e ≡ Some t
  release_stays e t l ext h =
      let m = mapped_some e.weight (f e.source) t h in
      ap (option_map (λ c. c + e.weight)) (ext e.source l m.0 m.1) ∙ ap Some m.2

  greatest_stays : (e : Edge) (es : List Edge) (t : ℕ) → Low n (e ∷ es) → Extends → greatest (release f e) (map (release f) es) ≡ Some t → greatest (release g e) (map (release g) es) ≡ Some t
  greatest_stays e [] t l ext h = release_stays e t l.0 ext h
  greatest_stays e (d ∷ es) t l ext h =
      let m = later_some (release f e) (greatest (release f d) (map (release f) es)) t h in
      ap (λ z. later z (greatest (release g d) (map (release g) es))) (release_stays e m.0 l.0 ext m.2)
      ∙ ap (later (Some m.0)) (greatest_stays d es m.1 l.1 ext m.3)
      ∙ ap Some m.4

  or_stays : (s : ℕ) (es : List Edge) (t : ℕ) → Low n es → Extends → greatest_or s (map (release f) es) ≡ Some t → greatest_or s (map (release g) es) ≡ Some t
  or_stays s [] t l ext h = h
  or_stays s (e ∷ es) t l ext h = greatest_stays e es t l ext h

  -- a due tick stays what it is
  pub due_stays : (s i : ℕ) (es : List Edge) (t : ℕ) → i < n → AllByRecursion (λ (e : Edge). e.source < e.target) es → Extends → due s f es i ≡ Some t → due s g es i ≡ Some t
  due_stays s i es t h o ext d = or_stays s (incoming i es) t (incoming_low n i es h o) ext d

  release_new : (k : ℕ) (e : Edge) (t : ℕ) → e.source < n → Extends → New k → release g e ≡ Some t → (release f e ≡ Some t) ⊎ (k ≤ t)
  release_new k e t l ext new h = go (f e.source) refl
    where
      m : (x : ℕ) × (g e.source ≡ Some x) × (x + e.weight ≡ t)
      m = mapped_some e.weight (g e.source) t h

      go : (o : Option ℕ) → f e.source ≡ o → (option_map (λ c. c + e.weight) (f e.source) ≡ Some t) ⊎ (k ≤ t)
      go None z = let c = new e.source l z m.0 m.1 in let s = m.2 in inr (omega arith)
      go (Some y) z =
          let same : y ≡ m.0 = some_injective y m.0 (sym (ext e.source l y z) ∙ m.1) in
          inl (ap (option_map (λ c. c + e.weight)) z ∙ ap (λ v. Some (v + e.weight)) same ∙ ap Some m.2)

  greatest_new : (k : ℕ) (e : Edge) (es : List Edge) (t : ℕ) → Low n (e ∷ es) → Extends → New k → greatest (release g e) (map (release g) es) ≡ Some t → (greatest (release f e) (map (release f) es) ≡ Some t) ⊎ (k ≤ t)
  greatest_new k e [] t l ext new h = release_new k e t l.0 ext new h
  greatest_new k e (d ∷ es) t l ext new h =
      go (later_some (release g e) (greatest (release g d) (map (release g) es)) t h) (λ x z. release_new k e x l.0 ext new z) (λ y z. greatest_new k d es y l.1 ext new z)
    where
      go : (x : ℕ) × (y : ℕ) × (release g e ≡ Some x) × (greatest (release g d) (map (release g) es) ≡ Some y) × (max x y ≡ t)
          → ((x : ℕ) → release g e ≡ Some x → (release f e ≡ Some x) ⊎ (k ≤ x))
          → ((y : ℕ) → greatest (release g d) (map (release g) es) ≡ Some y → (greatest (release f d) (map (release f) es) ≡ Some y) ⊎ (k ≤ y))
          → (later (release f e) (greatest (release f d) (map (release f) es)) ≡ Some t) ⊎ (k ≤ t)
      go m one rest = both (one m.0 m.2) (rest m.1 m.3)
        where
          both : (release f e ≡ Some m.0) ⊎ (k ≤ m.0) → (greatest (release f d) (map (release f) es) ≡ Some m.1) ⊎ (k ≤ m.1) → (later (release f e) (greatest (release f d) (map (release f) es)) ≡ Some t) ⊎ (k ≤ t)
          both (inl a) (inl b) = inl (ap (λ z. later z (greatest (release f d) (map (release f) es))) a ∙ ap (later (Some m.0)) b ∙ ap Some m.4)
          both (inl a) (inr b) = let s = m.4 in inr (omega arith)
          both (inr a) b = let s = m.4 in inr (omega arith)

  or_new : (k s : ℕ) (es : List Edge) → Low n es → Extends → New k → Late k (greatest_or s (map (release f) es)) → Late k (greatest_or s (map (release g) es))
  or_new k s [] l ext new late t h = late t h
  or_new k s (e ∷ es) l ext new late t h = elim (greatest_new k e es t l ext new h) [ inl z ↦ late t z | inr z ↦ z ]

  -- a due tick that has not come before k has not, with what is new at k or later
  pub due_new : (k s i : ℕ) (es : List Edge) → i < n → AllByRecursion (λ (e : Edge). e.source < e.target) es → Extends → New k → Late k (due s f es i) → Late k (due s g es i)
  due_new k s i es h o ext new late = or_new k s (incoming i es) (incoming_low n i es h o) ext new late

  -- ---- ends of rounds

  pub end_agree : (j : ℕ) → j ≤ n → Agree → round_end f j ≡ round_end g j
  end_agree zero h a = refl
  end_agree (suc zero) h a = a 0 (omega arith)
  end_agree (suc (suc j)) h a = ap (λ z. later z (f (suc j))) (end_agree (suc j) (omega arith) a) ∙ ap (later (round_end g (suc j))) (a (suc j) (omega arith))

  pub end_stays : (j m : ℕ) → j ≤ n → Extends → round_end f j ≡ Some m → round_end g j ≡ Some m
  end_stays zero m h ext e = e
  end_stays (suc zero) m h ext e = ext 0 (omega arith) m e
  end_stays (suc (suc j)) m h ext e =
      let p = later_some (round_end f (suc j)) (f (suc j)) m e in
      ap (λ z. later z (g (suc j))) (end_stays (suc j) p.0 (omega arith) ext p.2) ∙ ap (later (Some p.0)) (ext (suc j) (omega arith) p.1 p.3) ∙ ap Some p.4

later_none : (o : Option ℕ) → later o None ≡ None
later_none None = refl
later_none (Some x) = refl

-- while one vertex is not done, the round has no end
pub end_none : (f : ℕ → Option ℕ) (n u : ℕ) → u < n → f u ≡ None → round_end f n ≡ None
end_none f zero u h e = absurd (omega arith)
end_none f (suc zero) u h e = let z : 0 ≡ u = omega arith in ap f z ∙ e
end_none f (suc (suc n)) u h e = elim (last (suc n)) [
  | inl z ↦ ap (later (round_end f (suc n))) (ap f z ∙ e) ∙ later_none (round_end f (suc n))
  | inr z ↦ ap (λ o. later o (f (suc n))) (end_none f (suc n) u z e)
]
  where
    last : (k : ℕ) → (suc n ≡ u) ⊎ (u < suc n)
    last k = elim (Rattle.std.proofs.lemmas.Bool.cases_eq (suc n) u) [ inl z ↦ inl z | inr z ↦ inr (omega (arith, z)) ]

-- where no vertex is done, only those without incoming edges are due
pub due_blank : (n k s i : ℕ) (f : ℕ → Option ℕ) (es : List Edge) → i < n → AllByRecursion (λ (e : Edge). e.source < e.target) es → ((u : ℕ) → u < n → f u ≡ None) → k ≤ s → Late k (due s f es i)
due_blank n k s i f es h o blank ks = go (incoming i es) (incoming_low n i es h o)
  where
    go : (ds : List Edge) → Low n ds → Late k (greatest_or s (map (release f) ds))
    go [] l t e = let same : s ≡ t = some_injective s t e in omega arith
    go (d ∷ []) l t e = none_not t (sym (ap (option_map (λ c. c + d.weight)) (blank d.source l.0)) ∙ e)
    go (d ∷ b ∷ ds) l t e = none_not t (sym (ap (λ z. later (option_map (λ c. c + d.weight) z) (greatest (release f b) (map (release f) ds))) (blank d.source l.0)) ∙ e)

-- ---- the rounds of a lane, as Done ticks come in

module _ (first : ℕ) (p : Pattern) (order : AllByRecursion (λ (e : Edge). e.source < e.target) p.edges) (dn en : ℕ → List ℕ)
    (more : (u r x : ℕ) → nth (dn u) r ≡ Some x → nth (en u) r ≡ Some x) where
  ext : (r : ℕ) → Extends (length p.spots) (λ u. nth (dn u) r) (λ u. nth (en u) r)
  ext r u h x e = more u r x e

  pub start_stays : (r s : ℕ) → round_start first p dn r ≡ Some s → round_start first p en r ≡ Some s
  start_stays zero s e = e
  start_stays (suc r) s e = go (round_end (λ u. nth (dn u) r) (length p.spots)) refl e
    where
      go : (o : Option ℕ) → round_end (λ u. nth (dn u) r) (length p.spots) ≡ o → option_map (λ c. c + p.rest) o ≡ Some s → option_map (λ c. c + p.rest) (round_end (λ u. nth (en u) r) (length p.spots)) ≡ Some s
      go None z w = none_not s w
      go (Some m) z w = ap (option_map (λ c. c + p.rest)) (end_stays (length p.spots) (λ u. nth (dn u) r) (λ u. nth (en u) r) (length p.spots) m (omega arith) (ext r) z) ∙ w

  pub round_stays : (r i t : ℕ) → i < length p.spots → due_in_round first p dn r i ≡ Some t → due_in_round first p en r i ≡ Some t
  round_stays r i t h e = go (round_start first p dn r) refl e
    where
      go : (o : Option ℕ) → round_start first p dn r ≡ o → due_when o (λ u. nth (dn u) r) p.edges i ≡ Some t → due_when (round_start first p en r) (λ u. nth (en u) r) p.edges i ≡ Some t
      go None z w = none_not t w
      go (Some s) z w = ap (λ o. due_when o (λ u. nth (en u) r) p.edges i) (start_stays r s z)
          ∙ due_stays (length p.spots) (λ u. nth (dn u) r) (λ u. nth (en u) r) s i p.edges t h order (ext r) w
