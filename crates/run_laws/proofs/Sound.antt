-- Settings that were accepted: small lanes, edges in order, and every vertex in a domain that is not open.
use Rattle.std.proofs.Common.{◌≡◌, ℕ, zero, suc, ◌+◌, ◌*◌, ◌/◌, ◌%◌, ◌<◌, ◌≤◌, Bool, true, false, not, ◌||◌, ltb, leb, List, [], ◌∷◌, ◌++◌, map, length, get_or, replicate, None, Option, refl, ap, ◌∙◌, arith}
use Rattle.std.proofs.ByRecursion.{All-append, All-set, All-weaker}
use Rattle.std.proofs.lemmas.List.{length-append}
use Rattle.std.proofs.lemmas.Bool.{ltb-false, leb-true, leb-false, or_parts, and_parts, not-false}
use Rattle.std.specs.List.{AllByRecursion}
use Rattle.interface.specs.Meaning.{any, check}
use Rattle.patterns.specs.Shape.{bad_edge, bad_edges, edge_of, high_bank, shape_checks, vertex_count}
use Rattle.patterns.specs.declared.edge.Edge.{Edge}
use Rattle.patterns.specs.declared.setting.EdgeSetting.{EdgeSetting}
use Rattle.patterns.specs.declared.setting.VertexSetting.{VertexSetting}
use Rattle.model.specs.Calls.{Setting, first, lane, opens, setting_refusal, settled}
use Rattle.model.specs.Settings.{Pattern, Role, Settings, Vertex, domain_of, is_open, is_opened, lane_of, lane_vertices, opened, pattern_at, patterns_of, protected, role_of, unset, vertices, vertices_below, vertices_from}

pub record SmallPattern (s : Pattern) : Type 0 where
  pub few : length s.spots ≤ 8
  pub banks : AllByRecursion (λ (p : VertexSetting). p.bank ≤ 7) s.spots
  pub order : AllByRecursion (λ (e : Edge). e.source < e.target) s.edges

abbrev pub Fair : Role → Type 0
Fair unset = Unit {0}
Fair (opened n) = (1 ≤ n) × (n ≤ 16)
Fair (protected ss) = Unit {0}

abbrev pub Small : Role → Type 0
Small p = (length (patterns_of p) ≤ 8) × AllByRecursion SmallPattern (patterns_of p) × Fair p

abbrev pub Sound : Settings → Type 0
Sound c = AllByRecursion Small c.roles

pub check_none : (t : Bool) (k : ℕ) (o : Option ℕ) → check t k o ≡ None → (t ≡ false) × (o ≡ None)
check_none true k o e = absurd (let z : ◌≡◌ {A = ℕ} 0 1 = cc in omega arith)
check_none false k o e = (refl, e)

pub role_small : (c : Settings) (d : ℕ) → Sound c → Small (role_of c d)
role_small c d h = go c.roles d h
  where
    go : (ps : List Role) (d : ℕ) → AllByRecursion Small ps → Small (get_or ps d unset)
    go [] d h = (omega arith, tt, tt)
    go (p ∷ ps) zero h = h.0
    go (p ∷ ps) (suc d) h = go ps d h.1

low_banks : (vs : List VertexSetting) → any high_bank vs ≡ false → AllByRecursion (λ v. v.bank ≤ 7) vs
low_banks [] e = tt
low_banks (v ∷ vs) e = let parts = or_parts (high_bank v) (any high_bank vs) e in (ltb-false 7 v.bank parts.0, low_banks vs parts.1)

good_edges : (n : ℕ) (earlier es : List EdgeSetting) → bad_edges n earlier es ≡ false → AllByRecursion (λ (x : Edge). x.source < x.target) (map edge_of es)
good_edges n earlier [] e = tt
good_edges n earlier (x ∷ es) e =
    let parts = or_parts (bad_edge n earlier x) (bad_edges n (earlier ++ (x ∷ [])) es) e in
    (leb-false x.target x.source (or_parts (leb x.target x.source) _ parts.0).0, good_edges n (earlier ++ (x ∷ [])) es parts.1)

-- the checks of a lane's vertices, edges and rest, passed
pub shape_fine : (vs : List VertexSetting) (es : List EdgeSetting) (rest : ℕ) (o : Option ℕ) → shape_checks vs es rest o ≡ None → SmallPattern (record { spots = vs; edges = map edge_of es; rest = rest }) × (o ≡ None)
shape_fine vs es rest o e =
    let one = check_none (not (vertex_count (length vs))) 4 _ e in
    let two = check_none (any high_bank vs) 5 _ one.1 in
    let three = check_none (bad_edges (length vs) [] es || ltb 1000 rest) 6 o two.1 in
    let counted = and_parts (leb 1 (length vs)) (leb (length vs) 8) (not-false _ one.0) in
    (record { few = leb-true (length vs) 8 counted.1; banks = low_banks vs two.0; order = good_edges (length vs) [] es (or_parts (bad_edges (length vs) [] es) (ltb 1000 rest) three.0).0 }, three.1)

pub settled_sound : (places : ℕ) (c : Settings) (s : Setting) → Sound c → setting_refusal places c s ≡ None → Sound (settled c s)
unfolding setting_refusal settled
settled_sound places c (opens d n) h e =
    let one = check_none _ _ _ e in
    let two = check_none _ _ _ one.1 in
    let few = or_parts (ltb n 1) (ltb 16 n) two.0 in
    All-set Small c.roles d (opened n) (omega arith, tt, (ltb-false n 1 few.0, ltb-false 16 n few.1)) h
settled_sound places c (lane d vs es rest) h e =
    let one = check_none _ _ _ e in
    let two = check_none _ 4 _ one.1 in
    let seven : length (patterns_of (role_of c d)) ≤ 7 = ltb-false 7 _ two.0 in
    let shape = shape_fine vs es rest _ two.1 in
    let old = role_small c d h in
    All-set Small c.roles d _ (simp length-append (omega arith), All-append SmallPattern (patterns_of (role_of c d)) (_ ∷ []) old.1 (shape.0, tt), tt) h
settled_sound places c (first n) h e = h

pub new_sound : Sound (record { first = 0; roles = replicate 8 unset })
new_sound = ((omega arith, tt, tt), ((omega arith, tt, tt), ((omega arith, tt, tt), ((omega arith, tt, tt), ((omega arith, tt, tt), ((omega arith, tt, tt), ((omega arith, tt, tt), ((omega arith, tt, tt), tt))))))))

pub pattern_small : (c : Settings) (ℓ : ℕ) → Sound c → SmallPattern (pattern_at c ℓ)
unfolding pattern_at
pattern_small c ℓ h = go (patterns_of (role_of c (ℓ / 8))) (ℓ % 8) (role_small c (ℓ / 8) h).1
  where
    go : (ss : List Pattern) (i : ℕ) → AllByRecursion SmallPattern ss → SmallPattern (get_or ss i (record { spots = []; edges = []; rest = 0 }))
    go [] i h = record { few = omega arith; banks = tt; order = tt }
    go (s ∷ ss) zero h = h.0
    go (s ∷ ss) (suc i) h = go ss i h.1

-- slots of one lane
pub lane_within : (base i : ℕ) (es : List Edge) (ss : List VertexSetting) → AllByRecursion (λ v. (base + i ≤ v.slot) × (v.slot < base + i + length ss)) (vertices_from base i es ss)
unfolding vertices_from
lane_within base i es [] = tt
lane_within base i es (s ∷ ss) = ((omega arith, omega arith), All-weaker _ _ (λ v h. (omega arith, omega arith)) (vertices_from base (suc i) es ss) (lane_within base (suc i) es ss))

-- a lane's vertices lie in the lane's slots, if it has no more than 8
pub lane_slots : (c : Settings) (ℓ : ℕ) → Sound c → AllByRecursion (λ v. lane_of v.slot ≡ ℓ) (lane_vertices c ℓ)
unfolding lane_vertices
lane_slots c ℓ h =
    let small : length (pattern_at c ℓ).spots ≤ 8 = (pattern_small c ℓ h).few in
    All-weaker _ (λ v. lane_of v.slot ≡ ℓ) (λ v k. omega arith) (vertices_from (ℓ * 8) 0 (pattern_at c ℓ).edges (pattern_at c ℓ).spots) (lane_within (ℓ * 8) 0 (pattern_at c ℓ).edges (pattern_at c ℓ).spots)

-- a lane with a vertex is a protected domain's
lane_shut : (c : Settings) (ℓ : ℕ) → AllByRecursion (λ v. is_open c (ℓ / 8) ≡ false) (lane_vertices c ℓ)
unfolding lane_vertices pattern_at vertices_from
lane_shut c ℓ = go (role_of c (ℓ / 8)) refl
  where
    go : (p : Role) → role_of c (ℓ / 8) ≡ p → AllByRecursion (λ v. is_opened p ≡ false) (vertices_from (ℓ * 8) 0 (get_or (patterns_of p) (ℓ % 8) (record { spots = []; edges = []; rest = 0 })).edges (get_or (patterns_of p) (ℓ % 8) (record { spots = []; edges = []; rest = 0 })).spots)
    go unset e = tt
    go (opened n) e = tt
    go (protected ss) e = always (vertices_from (ℓ * 8) 0 (get_or ss (ℓ % 8) (record { spots = []; edges = []; rest = 0 })).edges (get_or ss (ℓ % 8) (record { spots = []; edges = []; rest = 0 })).spots)
      where
        always : (vs : List Vertex) → AllByRecursion (λ v. false ≡ false) vs
        always [] = tt
        always (v ∷ vs) = (refl, always vs)

pub lane_closed : (c : Settings) (ℓ : ℕ) → Sound c → AllByRecursion (λ v. is_open c (domain_of v.slot) ≡ false) (lane_vertices c ℓ)
lane_closed c ℓ h = both (lane_vertices c ℓ) (lane_slots c ℓ h) (lane_shut c ℓ)
  where
    both : (vs : List Vertex) → AllByRecursion (λ v. lane_of v.slot ≡ ℓ) vs → AllByRecursion (λ v. is_open c (ℓ / 8) ≡ false) vs → AllByRecursion (λ v. is_open c (domain_of v.slot) ≡ false) vs
    both [] p q = tt
    both (v ∷ vs) p q = ((let e : v.slot / 8 ≡ ℓ = p.0 in let f : domain_of v.slot ≡ ℓ / 8 = omega arith in ap (is_open c) f ∙ q.0), both vs p.1 q.1)

pub below_all : (P : Vertex → Type 0) (c : Settings) (n : ℕ) → ((ℓ : ℕ) → ℓ < n → AllByRecursion P (lane_vertices c ℓ)) → AllByRecursion P (vertices_below c n)
unfolding vertices_below
below_all P c zero h = tt
below_all P c (suc n) h = All-append P (vertices_below c n) (lane_vertices c n) (below_all P c n (λ ℓ k. h ℓ (omega arith))) (h n (omega arith))

pub closed : (c : Settings) → Sound c → AllByRecursion (λ v. is_open c (domain_of v.slot) ≡ false) (vertices c)
unfolding vertices
closed c h = below_all _ c 64 (λ ℓ k. lane_closed c ℓ h)
