-- Vertices and their slots, and the tables after each part of a tick.
use Rattle.std.proofs.Common.{◌≡◌, ℕ, zero, suc, ◌+◌, ◌*◌, ◌<◌, ◌≤◌, Bool, true, false, cond, ◌||◌, eqb, ◌⊎◌, List, [], ◌∷◌, ◌++◌, length, get_or, sym, refl, ap, ◌∙◌, subst, inl, inr, arith}
use Rattle.std.proofs.ByRecursion.{All-weaker, All-append}
use Rattle.std.proofs.lemmas.Bool.{eqb-true, eqb-false, eq-eqb, ne_eqb, true≢false, or_parts, cases_eq}
use Rattle.std.specs.List.{AllByRecursion}
use Rattle.interface.specs.declared.Event.TheVariants.{Done, Issue}
use Rattle.interface.specs.declared.Event.{Event}
use Rattle.interface.specs.declared.Kind.TheVariants.{Read}
use Rattle.patterns.specs.declared.edge.Edge.{Edge}
use Rattle.patterns.specs.declared.setting.VertexSetting.{VertexSetting}
use Rattle.model.specs.Settings.{Settings, Vertex, domain_of, is_open, lane_vertices, pattern_at, vertices, vertices_below, vertices_from}
use Rattle.model.specs.Ticks.{Stage, Tables, completed, departed, done, finished, flying, leaves, leaving, payload_for, still, through}
use Rattle.run_laws.proofs.Holding.{in_slots, Apart, finishes}
use Rattle.run_laws.proofs.Sound.{Sound, pattern_small, lane_within, below_all}

abbrev pub is_flying : Stage → Bool
is_flying still = false
is_flying (flying b k c) = true
is_flying (done m) = false

-- membership
abbrev pub In : Vertex → List Vertex → Type 0
In v [] = ⊥
In v (w ∷ ws) = (v ≡ w) ⊎ In v ws

pub all_in : (P : Vertex → Type 0) (v : Vertex) (vs : List Vertex) → AllByRecursion P vs → In v vs → P v
all_in P v [] h i = elim i [ ]
all_in P v (w ∷ ws) h (inl e) = subst P (sym e) h.0
all_in P v (w ∷ ws) h (inr i) = all_in P v ws h.1 i

in_left : (v : Vertex) (us ws : List Vertex) → In v us → In v (us ++ ws)
in_left v [] ws i = elim i [ ]
in_left v (u ∷ us) ws (inl e) = inl e
in_left v (u ∷ us) ws (inr i) = inr (in_left v us ws i)

in_right : (v : Vertex) (us ws : List Vertex) → In v ws → In v (us ++ ws)
in_right v [] ws i = i
in_right v (u ∷ us) ws i = inr (in_right v us ws i)

unfoldable pub spot_at : List VertexSetting → ℕ → VertexSetting
spot_at ss i = get_or ss i (record { bank = 0; kind = Read })

unfoldable pub vertex_at : Settings → ℕ → ℕ → Vertex
vertex_at c ℓ i = record { slot = ℓ * 8 + i; bank = (spot_at (pattern_at c ℓ).spots i).bank; kind = (spot_at (pattern_at c ℓ).spots i).kind; edges = (pattern_at c ℓ).edges }

abbrev pub size : Settings → ℕ → ℕ
size c ℓ = length (pattern_at c ℓ).spots

from_in : (base j : ℕ) (es : List Edge) (ss : List VertexSetting) (i : ℕ) → i < length ss → In (record { slot = base + (j + i); bank = (spot_at ss i).bank; kind = (spot_at ss i).kind; edges = es }) (vertices_from base j es ss)
unfolding vertices_from spot_at
from_in base j es (s ∷ ss) zero h = let e : j + 0 ≡ j = omega arith in inl (rw e)
from_in base j es (s ∷ ss) (suc i) h = let e : suc j + i ≡ j + suc i = omega arith in inr (subst (λ k. In (record { slot = base + k; bank = (spot_at ss i).bank; kind = (spot_at ss i).kind; edges = es }) (vertices_from base (suc j) es ss)) e (from_in base (suc j) es ss i (omega arith)))
from_in base j es [] i h = absurd (omega arith)

pub in_lane : (c : Settings) (ℓ i : ℕ) → i < size c ℓ → In (vertex_at c ℓ i) (lane_vertices c ℓ)
unfolding vertex_at lane_vertices
in_lane c ℓ i h = let e : 0 + i ≡ i = omega arith in rw e at (from_in (ℓ * 8) 0 (pattern_at c ℓ).edges (pattern_at c ℓ).spots i h)

in_below : (c : Settings) (ℓ n : ℕ) (v : Vertex) → ℓ < n → In v (lane_vertices c ℓ) → In v (vertices_below c n)
unfolding vertices_below
in_below c ℓ zero v h i = absurd (omega arith)
in_below c ℓ (suc n) v h i = elim (cases_eq ℓ n) [ inl e ↦ in_right v (vertices_below c n) (lane_vertices c n) (subst (λ k. In v (lane_vertices c k)) e i) | inr ne ↦ in_left v (vertices_below c n) (lane_vertices c n) (in_below c ℓ n v (omega (arith, ne)) i) ]

pub in_vertices : (c : Settings) (ℓ : ℕ) (v : Vertex) → ℓ < 64 → In v (lane_vertices c ℓ) → In v (vertices c)
unfolding vertices
in_vertices c ℓ v h i = in_below c ℓ 64 v h i

-- no slot twice
not_in : (t : ℕ) (vs : List Vertex) → AllByRecursion (λ v. t < v.slot) vs → in_slots t vs ≡ false
not_in t [] h = refl
not_in t (v ∷ vs) h = let k : t < v.slot = h.0 in rw (ne_eqb v.slot t (λ e. omega arith)) (not_in t vs h.1)

apart_from : (base j : ℕ) (es : List Edge) (ss : List VertexSetting) → Apart (vertices_from base j es ss)
unfolding vertices_from
apart_from base j es [] = tt
apart_from base j es (s ∷ ss) = (not_in (base + j) (vertices_from base (suc j) es ss) (All-weaker _ _ (λ v k. omega arith) (vertices_from base (suc j) es ss) (lane_within base (suc j) es ss)), apart_from base (suc j) es ss)

in_append_slots : (t : ℕ) (us ws : List Vertex) → in_slots t us ≡ false → in_slots t ws ≡ false → in_slots t (us ++ ws) ≡ false
in_append_slots t [] ws e f = f
in_append_slots t (u ∷ us) ws e f = let p = or_parts (eqb u.slot t) (in_slots t us) e in rw p.0 (in_append_slots t us ws p.1 f)

apart_append : (us ws : List Vertex) → Apart us → Apart ws → AllByRecursion (λ u. AllByRecursion (λ w. u.slot < w.slot) ws) us → Apart (us ++ ws)
apart_append [] ws a b h = b
apart_append (u ∷ us) ws a b h = (in_append_slots u.slot us ws a.0 (not_in u.slot ws h.0), apart_append us ws a.1 b h.1)

lane_low : (c : Settings) (ℓ : ℕ) → Sound c → AllByRecursion (λ v. (ℓ * 8 ≤ v.slot) × (v.slot < suc ℓ * 8)) (lane_vertices c ℓ)
unfolding lane_vertices
lane_low c ℓ h = let few : size c ℓ ≤ 8 = (pattern_small c ℓ h).few in All-weaker _ _ (λ v k. (omega arith, omega arith)) (vertices_from (ℓ * 8) 0 (pattern_at c ℓ).edges (pattern_at c ℓ).spots) (lane_within (ℓ * 8) 0 (pattern_at c ℓ).edges (pattern_at c ℓ).spots)

apart_below : (c : Settings) → Sound c → (n : ℕ) → Apart (vertices_below c n) × AllByRecursion (λ v. v.slot < n * 8) (vertices_below c n)
unfolding vertices_below lane_vertices
apart_below c h zero = (tt, tt)
apart_below c h (suc n) =
    let ih = apart_below c h n in
    let low = lane_low c n h in (
      apart_append (vertices_below c n) (lane_vertices c n) ih.0 (apart_from (n * 8) 0 (pattern_at c n).edges (pattern_at c n).spots)
          (All-weaker _ _ (λ u k. All-weaker _ _ (λ w m. omega arith) (lane_vertices c n) low) (vertices_below c n) ih.1),
      All-append _ (vertices_below c n) (lane_vertices c n) (All-weaker _ _ (λ u k. omega arith) (vertices_below c n) ih.1) (All-weaker _ _ (λ u k. omega arith) (lane_vertices c n) low),
    )

pub apart_vertices : (c : Settings) → Sound c → Apart (vertices c)
unfolding vertices
apart_vertices c h = (apart_below c h 64).0

-- slots and banks fit
bank_from : (base j : ℕ) (es : List Edge) (ss : List VertexSetting) → AllByRecursion (λ p. p.bank ≤ 7) ss → AllByRecursion (λ v. v.bank ≤ 7) (vertices_from base j es ss)
unfolding vertices_from
bank_from base j es [] h = tt
bank_from base j es (s ∷ ss) h = (h.0, bank_from base (suc j) es ss h.1)

both_all : (P Q : Vertex → Type 0) (vs : List Vertex) → AllByRecursion P vs → AllByRecursion Q vs → AllByRecursion (λ v. P v × Q v) vs
both_all P Q [] p q = tt
both_all P Q (v ∷ vs) p q = ((p.0, q.0), both_all P Q vs p.1 q.1)

pub placed : (c : Settings) → Sound c → AllByRecursion (λ v. (v.slot ≤ 511) × (v.bank ≤ 7)) (vertices c)
unfolding vertices lane_vertices
placed c h = both_all _ _ (vertices_below c 64) (All-weaker _ _ (λ v k. omega arith) (vertices_below c 64) (apart_below c h 64).1) (below_all _ c 64 (λ ℓ k. bank_from (ℓ * 8) 0 (pattern_at c ℓ).edges (pattern_at c ℓ).spots (pattern_small c ℓ h).banks))

-- leaving
pub in_here : (v : Vertex) (vs : List Vertex) → In v vs → in_slots v.slot vs ≡ true
in_here v [] i = elim i [ ]
in_here v (w ∷ ws) (inl e) = rw (eq-eqb w.slot v.slot (ap (λ u. u.slot) (sym e)))
in_here v (w ∷ ws) (inr i) = or_yes (eqb w.slot v.slot) (in_here v ws i)
  where
    or_yes : (x : Bool) → in_slots v.slot ws ≡ true → (x || in_slots v.slot ws) ≡ true
    or_yes true e = refl
    or_yes false e = e

leaving_out : (n : ℕ) (b : Tables) (t : ℕ) (vs : List Vertex) → in_slots t vs ≡ false → in_slots t (leaving n b vs) ≡ false
unfolding leaving
leaving_out n b t [] e = refl
leaving_out n b t (w ∷ ws) e = go (leaves n b w) (leaving_out n b t ws (or_parts (eqb w.slot t) (in_slots t ws) e).1)
  where
    go : (x : Bool) → in_slots t (leaving n b ws) ≡ false → in_slots t (cond x (w ∷ leaving n b ws) (leaving n b ws)) ≡ false
    go true k = rw (or_parts (eqb w.slot t) (in_slots t ws) e).0 k
    go false k = k

pub leaving_apart : (n : ℕ) (b : Tables) (vs : List Vertex) → Apart vs → Apart (leaving n b vs)
unfolding leaving
leaving_apart n b [] a = tt
leaving_apart n b (w ∷ ws) a = go (leaves n b w) (leaving_apart n b ws a.1)
  where
    go : (x : Bool) → Apart (leaving n b ws) → Apart (cond x (w ∷ leaving n b ws) (leaving n b ws))
    go true k = (leaving_out n b w.slot ws a.0, k)
    go false k = k

pub leaving_leave : (P : Vertex → Type 0) (n : ℕ) (b : Tables) (vs : List Vertex) → AllByRecursion P vs → AllByRecursion (λ v. P v × (leaves n b v ≡ true)) (leaving n b vs)
unfolding leaving
leaving_leave P n b [] h = tt
leaving_leave P n b (w ∷ ws) h = go (leaves n b w) refl (leaving_leave P n b ws h.1)
  where
    go : (x : Bool) → leaves n b w ≡ x → AllByRecursion (λ v. P v × (leaves n b v ≡ true)) (leaving n b ws) → AllByRecursion (λ v. P v × (leaves n b v ≡ true)) (cond x (w ∷ leaving n b ws) (leaving n b ws))
    go true z k = ((h.0, z), k)
    go false z k = k

pub leaving_in : (n : ℕ) (b : Tables) (v : Vertex) (vs : List Vertex) → Apart vs → In v vs → in_slots v.slot (leaving n b vs) ≡ leaves n b v
unfolding leaving
leaving_in n b v [] a i = elim i [ ]
leaving_in n b v (w ∷ ws) a (inl e) = go (leaves n b w) refl
  where
    slots : v.slot ≡ w.slot
    slots = ap (λ u. u.slot) e

    go : (x : Bool) → leaves n b w ≡ x → in_slots v.slot (cond x (w ∷ leaving n b ws) (leaving n b ws)) ≡ leaves n b v
    go true z = rw (eq-eqb w.slot v.slot (sym slots)) (sym (ap (leaves n b) e ∙ z))
    go false z = ap (λ t. in_slots t (leaving n b ws)) slots ∙ leaving_out n b w.slot ws a.0 ∙ sym (ap (leaves n b) e ∙ z)
leaving_in n b v (w ∷ ws) a (inr i) = go (leaves n b w) (leaving_in n b v ws a.1 i)
  where
    other : eqb w.slot v.slot ≡ false
    other = ne_eqb w.slot v.slot (λ e. true≢false (sym (in_here v ws i) ∙ (ap (λ t. in_slots t ws) (sym e) ∙ a.0)))

    go : (x : Bool) → in_slots v.slot (leaving n b ws) ≡ leaves n b v → in_slots v.slot (cond x (w ∷ leaving n b ws) (leaving n b ws)) ≡ leaves n b v
    go true k = rw other k
    go false k = k

-- the tables after events, rounds and departures, slot by slot
ended_twice : (o : Bool) (n : ℕ) (x : Stage) → finished o n (finished o n x) ≡ finished o n x
ended_twice o n still = refl
ended_twice true n (flying b k c) = refl
ended_twice false n (flying b k c) = refl
ended_twice o n (done m) = refl

pub completed_at : (c : Settings) (n : ℕ) (t : ℕ) (es : List Event) (b : Tables) → (through (completed c n) es b).stage t ≡ cond (finishes t es) (finished (is_open c (domain_of t)) n (b.stage t)) (b.stage t)
unfolding through completed
completed_at c n t [] b = refl
completed_at c n t (Issue u ∷ es) b = completed_at c n t es b
completed_at c n t (Done u ∷ es) b = completed_at c n t es (completed c n (Done u) b) ∙ go (eqb t u) refl
  where
    o : ℕ → Bool
    o t = is_open c (domain_of t)

    done_once : (x : Bool) (y : Stage) → cond x (finished (o t) n (finished (o t) n y)) (finished (o t) n y) ≡ finished (o t) n y
    done_once true y = ended_twice (o t) n y
    done_once false y = refl

    go : (x : Bool) → eqb t u ≡ x → cond (finishes t es) (finished (o t) n (cond x (finished (o u) n (b.stage u)) (b.stage t))) (cond x (finished (o u) n (b.stage u)) (b.stage t)) ≡ cond (eqb u t || finishes t es) (finished (o t) n (b.stage t)) (b.stage t)
    go true e = let same : u ≡ t = sym (eqb-true t u e) in rw same (rw (eq-eqb t t refl) (done_once (finishes t es) (b.stage t)))
    go false e = rw (ne_eqb u t (λ z. eqb-false t u e (sym z)))

pub completed_start : (c : Settings) (n : ℕ) (es : List Event) (b : Tables) → (through (completed c n) es b).start ≡ b.start
unfolding through completed
completed_start c n [] b = refl
completed_start c n (Issue u ∷ es) b = completed_start c n es b
completed_start c n (Done u ∷ es) b = completed_start c n es (completed c n (Done u) b)

pub completed_queue : (c : Settings) (n : ℕ) (es : List Event) (b : Tables) → (through (completed c n) es b).queue ≡ b.queue
unfolding through completed
completed_queue c n [] b = refl
completed_queue c n (Issue u ∷ es) b = completed_queue c n es b
completed_queue c n (Done u ∷ es) b = completed_queue c n es (completed c n (Done u) b)

pub departed_start : (vs : List Vertex) (b : Tables) → (through departed vs b).start ≡ b.start
unfolding through departed
departed_start [] b = refl
departed_start (v ∷ vs) b = departed_start vs (departed v b)

pub departed_out : (t : ℕ) (vs : List Vertex) (b : Tables) → in_slots t vs ≡ false → (through departed vs b).stage t ≡ b.stage t
unfolding through departed
departed_out t [] b e = refl
departed_out t (v ∷ vs) b e =
    let p = or_parts (eqb v.slot t) (in_slots t vs) e in
    departed_out t vs (departed v b) p.1 ∙ ap (λ x. cond x (flying v.bank v.kind (payload_for v b)) (b.stage t)) (ne_eqb t v.slot (λ z. eqb-false v.slot t p.0 (sym z)))

pub departed_in : (t : ℕ) (vs : List Vertex) (b : Tables) → (in_slots t vs ≡ true) ⊎ (is_flying (b.stage t) ≡ true) → is_flying ((through departed vs b).stage t) ≡ true
unfolding through departed
departed_in t [] b (inl e) = absurd (true≢false (sym e))
departed_in t [] b (inr e) = e
departed_in t (v ∷ vs) b h = departed_in t vs (departed v b) (go (eqb v.slot t) refl h)
  where
    here : (x : Bool) → eqb t v.slot ≡ x → (x ≡ true) ⊎ (is_flying (b.stage t) ≡ true) → is_flying (cond x (flying v.bank v.kind (payload_for v b)) (b.stage t)) ≡ true
    here true z k = refl
    here false z (inl k) = absurd (true≢false (sym k))
    here false z (inr k) = k

    go : (x : Bool) → eqb v.slot t ≡ x → ((x || in_slots t vs) ≡ true) ⊎ (is_flying (b.stage t) ≡ true) → (in_slots t vs ≡ true) ⊎ (is_flying ((departed v b).stage t) ≡ true)
    go true z k = inr (here (eqb t v.slot) refl (inl (eq-eqb t v.slot (sym (eqb-true v.slot t z)))))
    go false z (inl k) = inl k
    go false z (inr k) = inr (here (eqb t v.slot) refl (inr k))
