-- How many slots the shares and vertices have together, and by how many a setting adds to them.
use Rattle.std.proofs.Common.{◌≡◌, ℕ, zero, suc, ◌+◌, ◌*◌, ◌/◌, ◌%◌, ◌<◌, Bool, true, false, eqb, List, [], ◌∷◌, ◌++◌, length, get_or, set, sym, refl, ap, ◌∙◌, arith, length-append}
use Rattle.std.proofs.lemmas.List.{get_or_past, get_or-set_same, get_or-set_other}
use Rattle.std.proofs.lemmas.Bool.{eqb-true, eqb-false}
use Rattle.patterns.specs.declared.edge.Edge.{Edge}
use Rattle.patterns.specs.declared.setting.VertexSetting.{VertexSetting}
use Rattle.model.specs.Settings.{Pattern, Role, unset, opened, protected, Settings, Vertex, role_of, share_of, patterns_of, is_opened, pattern_at, vertices_from, lane_vertices, vertices_below, vertices, slots_of, slots_from, open_slots, all_slots}
use Rattle.model.specs.Calls.{opens, settled}

-- f 0 + .. + f (k - 1)
total : (ℕ → ℕ) → ℕ → ℕ
total f zero = 0
total f (suc k) = total f k + f k

total_same : (f g : ℕ → ℕ) (k : ℕ) → ((e : ℕ) → e < k → f e ≡ g e) → total f k ≡ total g k
unfolding total
total_same f g zero h = refl
total_same f g (suc k) h = let a = total_same f g k (λ e lt. h e (omega arith)) in let b = h k (omega arith) in omega arith

total_grows : (f g : ℕ → ℕ) (d n k : ℕ) → ((e : ℕ) → (e ≡ d → ⊥) → f e ≡ g e) → f d ≡ g d + n → d < k → total f k ≡ total g k + n
unfolding total
total_grows f g d n zero h here lt = absurd (omega arith)
total_grows f g d n (suc k) h here lt = go (λ l. total_grows f g d n k h here l) (eqb k d) refl
  where
    go : (d < k → total f k ≡ total g k + n) → (t : Bool) → eqb k d ≡ t → total f k + f k ≡ total g k + g k + n
    go earlier true e =
        let is = eqb-true k d e in
        let a = total_same f g k (λ e lt. h e (λ q. (omega arith))) in
        let b : f k ≡ g k + n = ap f is ∙ here ∙ ap (λ x. g x + n) (sym is) in
        omega (arith, a, b)
    go earlier false e =
        let ne = eqb-false k d e in
        let a = earlier (omega (arith, ne)) in
        let b = h k ne in
        omega (arith, a, b)

abbrev spots_at : Settings → ℕ → ℕ
spots_at c ℓ = length (pattern_at c ℓ).spots

abbrev shares_at : Settings → ℕ → ℕ
shares_at c e = share_of (role_of c e)

from_length : (base i : ℕ) (es : List Edge) (vs : List VertexSetting) → length (vertices_from base i es vs) ≡ length vs
unfolding vertices_from
from_length base i es [] = refl
from_length base i es (v ∷ vs) = ap suc (from_length base (suc i) es vs)

below_length : (c : Settings) (k : ℕ) → length (vertices_below c k) ≡ total (spots_at c) k
unfolding vertices_below lane_vertices total
below_length c zero = refl
below_length c (suc k) =
    let a = length-append (vertices_below c k) (vertices_from (k * 8) 0 (pattern_at c k).edges (pattern_at c k).spots) in
    let b = below_length c k in
    let d = from_length (k * 8) 0 (pattern_at c k).edges (pattern_at c k).spots in
    omega (arith, a, b, d)

share_length : (a n : ℕ) → length (slots_from a n) ≡ n
unfolding slots_from
share_length a zero = refl
share_length a (suc n) = ap suc (share_length (suc a) n)

open_length : (c : Settings) (k : ℕ) → length (open_slots c k) ≡ total (shares_at c) k
unfolding open_slots total
open_length c zero = refl
open_length c (suc k) =
    let a = length-append (open_slots c k) (slots_from (k * 64) (share_of (role_of c k))) in
    let b = open_length c k in
    let d = share_length (k * 64) (share_of (role_of c k)) in
    omega (arith, a, b, d)

slots_length : (vs : List Vertex) → length (slots_of vs) ≡ length vs
slots_length [] = refl
slots_length (v ∷ vs) = ap suc (slots_length vs)

slot_count : (c : Settings) → length (all_slots c) ≡ total (spots_at c) 64 + total (shares_at c) 8
unfolding all_slots vertices
slot_count c =
    let a = length-append (slots_of (vertices_below c 64)) (open_slots c 8) in
    let b = slots_length (vertices_below c 64) in
    let d = below_length c 64 in
    let e = open_length c 8 in
    omega (arith, a, b, d, e)

-- ---- settings

role_there : (rs : List Role) (d : ℕ) (r : Role) → d < length rs → get_or (set rs d r) d unset ≡ r
role_there rs d r lt = get_or-set_same rs d r unset lt

role_else : (rs : List Role) (d e : ℕ) (r : Role) → (e ≡ d → ⊥) → get_or (set rs d r) e unset ≡ get_or rs e unset
role_else rs d e r ne = get_or-set_other rs d e r unset ne

abbrev with_role : Settings → ℕ → Role → Settings
with_role c d r = record { first = c.first; roles = set c.roles d r }

same_patterns : (c : Settings) (d : ℕ) (r : Role) → d < length c.roles → patterns_of r ≡ patterns_of (role_of c d) → (e : ℕ) → patterns_of (role_of (with_role c d r) e) ≡ patterns_of (role_of c e)
same_patterns c d r lt is e = go (eqb e d) refl
  where
    go : (t : Bool) → eqb e d ≡ t → patterns_of (get_or (set c.roles d r) e unset) ≡ patterns_of (get_or c.roles e unset)
    go true k =
        let at = eqb-true e d k in
        ap (λ x. patterns_of (get_or (set c.roles d r) x unset)) at
        ∙ ap patterns_of (role_there c.roles d r lt)
        ∙ is
        ∙ ap (λ x. patterns_of (get_or c.roles x unset)) (sym at)
    go false k = ap patterns_of (role_else c.roles d e r (eqb-false e d k))

same_shares : (c : Settings) (d : ℕ) (r : Role) → d < length c.roles → share_of r ≡ share_of (role_of c d) → (e : ℕ) → shares_at (with_role c d r) e ≡ shares_at c e
same_shares c d r lt is e = go (eqb e d) refl
  where
    go : (t : Bool) → eqb e d ≡ t → share_of (get_or (set c.roles d r) e unset) ≡ share_of (get_or c.roles e unset)
    go true k =
        let at = eqb-true e d k in
        ap (λ x. share_of (get_or (set c.roles d r) x unset)) at
        ∙ ap share_of (role_there c.roles d r lt)
        ∙ is
        ∙ ap (λ x. share_of (get_or c.roles x unset)) (sym at)
    go false k = ap share_of (role_else c.roles d e r (eqb-false e d k))

spots_from_patterns : (c e : Settings) → ((k : ℕ) → patterns_of (role_of c k) ≡ patterns_of (role_of e k)) → (ℓ : ℕ) → spots_at c ℓ ≡ spots_at e ℓ
unfolding pattern_at
spots_from_patterns c e h ℓ = ap (λ (ps : List Pattern). length (get_or ps (ℓ % 8) (record { spots = []; edges = []; rest = 0 })).spots) (h (ℓ / 8))

pub open_adds : (c : Settings) (d n : ℕ) → d < 8 → length c.roles ≡ 8 → role_of c d ≡ unset → length (all_slots (settled c (opens d n))) ≡ length (all_slots c) + n
unfolding settled
open_adds c d n lt eight is =
    let after = with_role c d (opened n) in
    let in_roles : d < length c.roles = omega arith in
    let spots = total_same (spots_at after) (spots_at c) 64 (λ ℓ k. spots_from_patterns after c (same_patterns c d (opened n) in_roles (ap patterns_of (sym is))) ℓ) in
    let here : shares_at after d ≡ shares_at c d + n = ap share_of (role_there c.roles d (opened n) in_roles) ∙ let z = ap share_of is in omega (arith, z) in
    let shares = total_grows (shares_at after) (shares_at c) d n 8 (λ e ne. ap share_of (role_else c.roles d e (opened n) ne)) here lt in
    let a = slot_count after in
    let b = slot_count c in
    omega (arith, a, b, spots, shares)

pub roles_only : (c e : Settings) → c.roles ≡ e.roles → length (all_slots c) ≡ length (all_slots e)
roles_only c e is =
    let spots = total_same (spots_at c) (spots_at e) 64 (λ ℓ k. spots_from_patterns c e (λ k. ap (λ (rs : List Role). patterns_of (get_or rs k unset)) is) ℓ) in
    let shares = total_same (shares_at c) (shares_at e) 8 (λ k lt. ap (λ (rs : List Role). share_of (get_or rs k unset)) is) in
    let a = slot_count c in
    let b = slot_count e in
    omega (arith, a, b, spots, shares)

-- ---- one lane more

pushed_else : (ps : List Pattern) (p none : Pattern) (i : ℕ) → (i ≡ length ps → ⊥) → get_or (ps ++ (p ∷ [])) i none ≡ get_or ps i none
pushed_else [] p none zero ne = absurd (ne refl)
pushed_else [] p none (suc i) ne = get_or_past [] i none (omega arith) ∙ sym (get_or_past [] (suc i) none (omega arith))
pushed_else (x ∷ ps) p none zero ne = refl
pushed_else (x ∷ ps) p none (suc i) ne = pushed_else ps p none i (λ e. ne (ap suc e))

pushed_here : (ps : List Pattern) (p none : Pattern) → get_or (ps ++ (p ∷ [])) (length ps) none ≡ p
pushed_here [] p none = refl
pushed_here (x ∷ ps) p none = pushed_here ps p none

abbrev spots_in : List Pattern → ℕ → ℕ
spots_in ps i = length (get_or ps i (record { spots = []; edges = []; rest = 0 })).spots

pub lane_adds : (c : Settings) (d : ℕ) (p : Pattern) → d < 8 → length c.roles ≡ 8 → is_opened (role_of c d) ≡ false → length (patterns_of (role_of c d)) < 8
    → length (all_slots (with_role c d (protected (patterns_of (role_of c d) ++ (p ∷ []))))) ≡ length (all_slots c) + length p.spots
unfolding pattern_at
lane_adds c d p lt eight closed few =
    let ps = patterns_of (role_of c d) in
    let r = protected (ps ++ (p ∷ [])) in
    let after = with_role c d r in
    let in_roles : d < length c.roles = omega arith in
    let none : share_of (role_of c d) ≡ 0 = no_share (role_of c d) closed in
    let shares = total_same (shares_at after) (shares_at c) 8 (λ e k. same_shares c d r in_roles (sym none) e) in
    let here : spots_at after (d * 8 + length ps) ≡ spots_at c (d * 8 + length ps) + length p.spots =
    let q : (d * 8 + length ps) / 8 ≡ d = omega arith in
    let m : (d * 8 + length ps) % 8 ≡ length ps = omega arith in
    let a : spots_at after (d * 8 + length ps) ≡ spots_in (ps ++ (p ∷ [])) (length ps) =
    ap (λ e. spots_in (patterns_of (get_or (set c.roles d r) e unset)) ((d * 8 + length ps) % 8)) q
    ∙ ap (λ (x : Role). spots_in (patterns_of x) ((d * 8 + length ps) % 8)) (role_there c.roles d r in_roles)
    ∙ ap (spots_in (ps ++ (p ∷ []))) m in
    let b : spots_at c (d * 8 + length ps) ≡ 0 =
    ap (λ e. spots_in (patterns_of (get_or c.roles e unset)) ((d * 8 + length ps) % 8)) q
    ∙ ap (spots_in ps) m
    ∙ ap (λ (x : Pattern). length x.spots) (get_or_past ps (length ps) (record { spots = []; edges = []; rest = 0 }) (omega arith)) in
    let e : spots_in (ps ++ (p ∷ [])) (length ps) ≡ length p.spots = ap (λ (x : Pattern). length x.spots) (pushed_here ps p (record { spots = []; edges = []; rest = 0 })) in
    omega (arith, a, b, e) in
    let else_same : (ℓ : ℕ) → (ℓ ≡ d * 8 + length ps → ⊥) → spots_at after ℓ ≡ spots_at c ℓ = λ ℓ ne. other c d p in_roles ℓ (eqb (ℓ / 8) d) refl (λ q m. ne (omega (arith, q, m))) in
    let spots = total_grows (spots_at after) (spots_at c) (d * 8 + length ps) (length p.spots) 64 else_same here (omega arith) in
    let a = slot_count after in
    let b = slot_count c in
    omega (arith, a, b, spots, shares)
  where
    no_share : (r : Role) → is_opened r ≡ false → share_of r ≡ 0
    no_share unset e = refl
    no_share (opened n) e = let z : ◌≡◌ {A = ℕ} 0 1 = (cc) in absurd (omega arith)
    no_share (protected ps) e = refl

    other : (c : Settings) (d : ℕ) (p : Pattern) → d < length c.roles → (ℓ : ℕ) (t : Bool) → eqb (ℓ / 8) d ≡ t → (ℓ / 8 ≡ d → ℓ % 8 ≡ length (patterns_of (role_of c d)) → ⊥)
        → spots_in (patterns_of (get_or (set c.roles d (protected (patterns_of (role_of c d) ++ (p ∷ [])))) (ℓ / 8) unset)) (ℓ % 8) ≡ spots_in (patterns_of (get_or c.roles (ℓ / 8) unset)) (ℓ % 8)
    other c d p lt ℓ true k ne =
        let q = eqb-true (ℓ / 8) d k in
        let ps = patterns_of (role_of c d) in
        let r = protected (ps ++ (p ∷ [])) in
        ap (λ e. spots_in (patterns_of (get_or (set c.roles d r) e unset)) (ℓ % 8)) q
        ∙ ap (λ (x : Role). spots_in (patterns_of x) (ℓ % 8)) (role_there c.roles d r lt)
        ∙ ap (λ (x : Pattern). length x.spots) (pushed_else ps p (record { spots = []; edges = []; rest = 0 }) (ℓ % 8) (ne q))
        ∙ ap (λ e. spots_in (patterns_of (get_or c.roles e unset)) (ℓ % 8)) (sym q)
    other c d p lt ℓ false k ne =
        ap (λ (x : Role). spots_in (patterns_of x) (ℓ % 8)) (role_else c.roles d (ℓ / 8) (protected (patterns_of (role_of c d) ++ (p ∷ []))) (eqb-false (ℓ / 8) d k))
