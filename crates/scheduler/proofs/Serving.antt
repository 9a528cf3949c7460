-- Whether a vertex of a domain has a bank and kind, over all vertices and over the domain's lanes.
use Rattle.std.proofs.Common.{◌≡◌, ℕ, zero, suc, ◌+◌, ◌*◌, ◌/◌, ◌%◌, ◌<◌, ◌≤◌, Bool, true, false, ◌&&◌, ◌||◌, eqb, List, [], ◌∷◌, ◌++◌, map, length, get_or, sym, refl, ap, ◌∙◌, arith}
use Rattle.std.proofs.lemmas.List.{get_or_past}
use Rattle.std.proofs.lemmas.Bool.{eqb-true, eqb-false, eq-eqb}
use Rattle.interface.specs.declared.Kind.{Kind}
use Rattle.interface.specs.Meaning.{any}
use Rattle.patterns.specs.declared.edge.Edge.{Edge}
use Rattle.patterns.specs.declared.vertex.Vertex.{Vertex}
use Rattle.patterns.specs.declared.setting.VertexSetting.{VertexSetting}
use Rattle.patterns.specs.Lanes.{LaneView}
use Rattle.model.specs.Settings.{Pattern, Role, unset, opened, protected, Settings, role_of, patterns_of, domain_of, pattern_at, vertices_from, lane_vertices, vertices_below, vertices}
use Rattle.model.specs.Settings as model
use Rattle.model.specs.Ticks.{alike}
use Rattle.model.specs.Calls.{serves}
use Rattle.board.specs.Sets.{spot_of, pattern_of}
use Rattle.board.specs.Slots.{vertex_serves, lane_serves}

abbrev spot_serves : ℕ → Kind → VertexSetting → Bool
spot_serves b k v = alike v.bank v.kind b k

serves_append : (d b : ℕ) (k : Kind) (xs ys : List model.Vertex) → serves d b k (xs ++ ys) ≡ (serves d b k xs || serves d b k ys)
serves_append d b k [] ys = refl
serves_append d b k (x ∷ xs) ys = ap (λ t. (eqb (domain_of x.slot) d && alike x.bank x.kind b k) || t) (serves_append d b k xs ys) ∙ or_assoc (eqb (domain_of x.slot) d && alike x.bank x.kind b k) (serves d b k xs) (serves d b k ys)
  where
    or_assoc : (s t u : Bool) → (s || (t || u)) ≡ ((s || t) || u)
    or_assoc true t u = refl
    or_assoc false t u = refl

-- the vertices of a lane of at most 8, from its number ℓ on
from_serves : (d b : ℕ) (k : Kind) (ℓ i : ℕ) (es : List Edge) (vs : List VertexSetting) → i + length vs ≤ 8
    → serves d b k (vertices_from (ℓ * 8) i es vs) ≡ (eqb (ℓ / 8) d && any (spot_serves b k) vs)
unfolding vertices_from
from_serves d b k ℓ i es [] few = and_false (eqb (ℓ / 8) d)
  where
    and_false : (t : Bool) → false ≡ (t && false)
    and_false true = refl
    and_false false = refl
from_serves d b k ℓ i es (v ∷ vs) few =
    let at : (ℓ * 8 + i) / 64 ≡ ℓ / 8 = omega arith in
    ap (λ e. (eqb e d && spot_serves b k v) || serves d b k (vertices_from (ℓ * 8) (suc i) es vs)) at
    ∙ ap (λ t. (eqb (ℓ / 8) d && spot_serves b k v) || t) (from_serves d b k ℓ (suc i) es vs (omega arith))
    ∙ both (eqb (ℓ / 8) d) (spot_serves b k v) (any (spot_serves b k) vs)
  where
    both : (t p q : Bool) → ((t && p) || (t && q)) ≡ (t && (p || q))
    both true p q = refl
    both false p q = refl

abbrev lane_term : Settings → ℕ → ℕ → Kind → ℕ → Bool
lane_term c d b k ℓ = eqb (ℓ / 8) d && any (spot_serves b k) (pattern_at c ℓ).spots

module _ (c : Settings) (d b : ℕ) (k : Kind) (few : (ℓ : ℕ) → ℓ < 64 → length (pattern_at c ℓ).spots ≤ 8) where
  below_more : (n : ℕ) → n < 64 → serves d b k (vertices_below c (suc n)) ≡ (serves d b k (vertices_below c n) || lane_term c d b k n)
  unfolding vertices_below lane_vertices
  below_more n lt =
      serves_append d b k (vertices_below c n) (vertices_from (n * 8) 0 (pattern_at c n).edges (pattern_at c n).spots)
      ∙ ap (λ t. serves d b k (vertices_below c n) || t) (from_serves d b k n 0 (pattern_at c n).edges (pattern_at c n).spots (let f = few n lt in omega arith))

  none_below : (n : ℕ) → n ≤ 64 → ((ℓ : ℕ) → lane_term c d b k ℓ ≡ false) → serves d b k (vertices_below c n) ≡ false
  unfolding vertices_below
  none_below zero le h = refl
  none_below (suc n) le h = below_more n (omega arith) ∙ ap (λ t. serves d b k (vertices_below c n) || t) (h n) ∙ ap (λ t. t || false) (none_below n (omega arith) h)

  some_below : (n ℓ : ℕ) → n ≤ 64 → ℓ < n → lane_term c d b k ℓ ≡ true → serves d b k (vertices_below c n) ≡ true
  some_below zero ℓ le lt e = absurd (omega arith)
  some_below (suc n) ℓ le lt e = below_more n (omega arith) ∙ go (λ l. some_below n ℓ (omega arith) l e) (eqb ℓ n) refl
    where
      or_true : (s t : Bool) → t ≡ true → (s || t) ≡ true
      or_true true t h = refl
      or_true false t h = h

      go : (ℓ < n → serves d b k (vertices_below c n) ≡ true) → (t : Bool) → eqb ℓ n ≡ t → (serves d b k (vertices_below c n) || lane_term c d b k n) ≡ true
      go earlier true q = or_true (serves d b k (vertices_below c n)) (lane_term c d b k n) (ap (lane_term c d b k) (sym (eqb-true ℓ n q)) ∙ e)
      go earlier false q = let ne = eqb-false ℓ n q in ap (λ t. t || lane_term c d b k n) (earlier (omega (arith, ne)))

-- ---- the lanes of one domain

spots_any : (b : ℕ) (k : Kind) (vs : List Vertex) → any (spot_serves b k) (map spot_of vs) ≡ any (vertex_serves b k) vs
spots_any b k [] = refl
spots_any b k (v ∷ vs) = ap (λ t. vertex_serves b k v || t) (spots_any b k vs)

-- the lane at a place serves, or there is none
get_or_serves : (b : ℕ) (k : Kind) (ls : List LaneView) (i : ℕ) → any (lane_serves b k) ls ≡ false → any (spot_serves b k) (get_or (map pattern_of ls) i (record { spots = []; edges = []; rest = 0 })).spots ≡ false
get_or_serves b k [] i e = ap (λ (p : Pattern). any (spot_serves b k) p.spots) (get_or_past [] i (record { spots = []; edges = []; rest = 0 }) (omega arith))
get_or_serves b k (l ∷ ls) zero e = spots_any b k l.vertices ∙ left (lane_serves b k l) (any (lane_serves b k) ls) e
  where
    left : (s t : Bool) → (s || t) ≡ false → s ≡ false
    left true t e = e
    left false t e = refl
get_or_serves b k (l ∷ ls) (suc i) e = get_or_serves b k ls i (right (lane_serves b k l) (any (lane_serves b k) ls) e)
  where
    right : (s t : Bool) → (s || t) ≡ false → t ≡ false
    right true t e = let z : ◌≡◌ {A = ℕ} 0 1 = (cc) in absurd (omega arith)
    right false t e = e

pub record Found (b : ℕ) (k : Kind) (ls : List LaneView) : Type 0 where
  pub at : ℕ
  pub inside : at < length ls
  pub served : any (spot_serves b k) (get_or (map pattern_of ls) at (record { spots = []; edges = []; rest = 0 })).spots ≡ true

found : (b : ℕ) (k : Kind) (ls : List LaneView) → any (lane_serves b k) ls ≡ true → Found b k ls
found b k [] e = let z : ◌≡◌ {A = ℕ} 0 1 = (cc) in absurd (omega arith)
found b k (l ∷ ls) e = go (lane_serves b k l) refl (λ h. found b k ls h)
  where
    go : (t : Bool) → lane_serves b k l ≡ t → (any (lane_serves b k) ls ≡ true → Found b k ls) → Found b k (l ∷ ls)
    go true q later = record { at = 0; inside = omega arith; served = spots_any b k l.vertices ∙ q }
    go false q later =
        let f = later (ap (λ t. t || any (lane_serves b k) ls) (sym q) ∙ e) in
        record { at = suc f.at; inside = (let i = f.inside in omega arith); served = f.served }

-- a domain that has lanes and no share
pub serves_is : (c : Settings) (d b : ℕ) (k : Kind) (ls : List LaneView) → d < 8 → length ls ≤ 8 → ((ℓ : ℕ) → ℓ < 64 → length (pattern_at c ℓ).spots ≤ 8)
    → patterns_of (role_of c d) ≡ map pattern_of ls → serves d b k (vertices c) ≡ any (lane_serves b k) ls
unfolding vertices pattern_at
serves_is c d b k ls low many few is = go (any (lane_serves b k) ls) refl
  where
    term : (ℓ : ℕ) → ℓ / 8 ≡ d → any (spot_serves b k) (pattern_at c ℓ).spots ≡ any (spot_serves b k) (get_or (map pattern_of ls) (ℓ % 8) (record { spots = []; edges = []; rest = 0 })).spots
    term ℓ q =
        ap (λ e. any (spot_serves b k) (get_or (patterns_of (role_of c e)) (ℓ % 8) (record { spots = []; edges = []; rest = 0 })).spots) q
        ∙ ap (λ (ps : List Pattern). any (spot_serves b k) (get_or ps (ℓ % 8) (record { spots = []; edges = []; rest = 0 })).spots) is

    none : any (lane_serves b k) ls ≡ false → (ℓ : ℕ) (t : Bool) → eqb (ℓ / 8) d ≡ t → (t && any (spot_serves b k) (pattern_at c ℓ).spots) ≡ false
    none e ℓ true q = term ℓ (eqb-true (ℓ / 8) d q) ∙ get_or_serves b k ls (ℓ % 8) e
    none e ℓ false q = refl

    go : (t : Bool) → any (lane_serves b k) ls ≡ t → serves d b k (vertices_below c 64) ≡ t
    go false e = none_below c d b k few 64 (omega arith) (λ ℓ. ap (λ t. t && any (spot_serves b k) (pattern_at c ℓ).spots) refl ∙ none e ℓ (eqb (ℓ / 8) d) refl)
    go true e =
        let f = found b k ls e in
        let ins = f.inside in
        let q : (d * 8 + f.at) / 8 ≡ d = omega (arith, ins) in
        let m : (d * 8 + f.at) % 8 ≡ f.at = omega (arith, ins) in
        some_below c d b k few 64 (d * 8 + f.at) (omega arith) (omega (arith, ins))
        (ap (λ t. t && any (spot_serves b k) (pattern_at c (d * 8 + f.at)).spots) (eq-eqb ((d * 8 + f.at) / 8) d q)
        ∙ term (d * 8 + f.at) q
        ∙ ap (λ i. any (spot_serves b k) (get_or (map pattern_of ls) i (record { spots = []; edges = []; rest = 0 })).spots) m
        ∙ f.served)
