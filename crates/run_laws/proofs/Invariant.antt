-- The state between calls: what is held flies, and every round is on time.
use Rattle.std.proofs.Common.{◌≡◌, ℕ, suc, ◌+◌, ◌*◌, ◌%◌, ◌<◌, ◌≤◌, Bool, true, false, cond, not, ◌&&◌, ◌||◌, ◌⊎◌, List, [], ◌∷◌, length, Some, None, Option, sym, refl, ap, ◌∙◌, subst, inl, inr, arith}
use Rattle.std.proofs.ByRecursion.{All-weaker}
use Rattle.std.proofs.lemmas.Bool.{true≢false, and_parts}
use Rattle.std.specs.List.{AllByRecursion}
use Rattle.interface.proofs.Bools.{or_true, or_right as or_none}
use Rattle.interface.specs.Emptied.{emptied}
use Rattle.interface.specs.Lawful.{Lawful}
use Rattle.interface.specs.Meaning.{Call, after}
use Rattle.interface.specs.declared.Kind.TheVariants.{Read}
use Rattle.patterns.specs.Due.{all_weights, due, later, next_start}
use Rattle.patterns.specs.declared.edge.Edge.{Edge}
use Rattle.patterns.specs.declared.setting.VertexSetting.{VertexSetting}
use Rattle.model.specs.Calls.{Running, ticked}
use Rattle.model.specs.Settings.{Settings, Vertex, domain_of, is_open, lane_of, lane_vertices, pattern_at, vertices, vertices_from}
use Rattle.model.specs.Ticks.{done_in, due_tick, lane_end, Stage, Tables, after_events, after_rounds, after_tick, controller_after, departed, departures, done, done_tick, finished, flying, is_due, is_still, leaves, renewed, rounds, step_events, still, taken_all, through}
use Rattle.model.specs.Payloads.{fake}
use Rattle.run_laws.proofs.Deadlines.{Into, sources_fine, done_by, done_all, Fine, Mid, events_fine, left_fine, stay_fine, last_by, last_now, Newer, newer_finished, none≢some, some_is}
use Rattle.run_laws.proofs.Departures.{is_flying, all_in, vertex_at, size, in_lane, in_vertices, apart_vertices, placed, leaving_in, leaving_apart, leaving_leave, completed_at, completed_start, departed_start, departed_out, departed_in}
use Rattle.run_laws.proofs.Holding.{in_slots, Apart, Passed, passed, Free, AllHeld, all_held, Reached, finishes, holds, Controller, left, span, places}
use Rattle.run_laws.proofs.Lanes.{lane_end_is, due_is, due_from, last_done, last_from, sources_into}
use Rattle.run_laws.proofs.Sound.{Sound, pattern_small, lane_closed}

abbrev pub slot_at : ℕ → ℕ → ℕ
slot_at ℓ i = ℓ * 8 + i

pub record Inv (r : Controller) (c : Settings) (x : Running) : Type 0 where
  pub reached : Reached r x.controller
  pub quiet : r.meaning.ready x.controller ≡ []
  pub held_is : (t : ℕ) → holds t (r.meaning.held x.controller) ≡ is_flying (x.tables.stage t)
  pub lanes : (ℓ : ℕ) → ℓ < 64 → (i : ℕ) → i < size c ℓ → Fine (span r) (x.tables.start ℓ) (pattern_at c ℓ).edges x.tick i (left r x.controller (slot_at ℓ i)) (x.tables.stage (slot_at ℓ i))
  pub unfinished : (ℓ : ℕ) → ℓ < 64 → last_done x.tables.stage (lane_vertices c ℓ) ≡ None
  pub starts : (ℓ : ℕ) → ℓ < 64 → x.tables.start ℓ ≤ x.tick + (pattern_at c ℓ).rest

-- a stage that flies is as good as any other that flies
fine_flying : (span start : ℕ) (es : List Edge) (n i l : ℕ) (x : Stage) → is_flying x ≡ true → Fine span start es n i l (flying 0 Read fake) → Fine span start es n i l x
fine_flying span start es n i l still e f = absurd (true≢false (sym e))
fine_flying span start es n i l (flying b k c) e f = f
fine_flying span start es n i l (done m) e f = absurd (true≢false (sym e))

pub fine_left : (span start : ℕ) (es : List Edge) (n i l k : ℕ) (x : Stage) → (is_flying x ≡ true → k ≡ l) → Fine span start es n i l x → Fine span start es n i k x
fine_left span start es n i l k still e f = f
fine_left span start es n i l k (flying b y c) e f = rw (e refl) f
fine_left span start es n i l k (done m) e f = f

mid_done_tick : (span start : ℕ) (es : List Edge) (n i l : ℕ) (x : Stage) (j : ℕ) → Mid span start es n i l x → done_tick x ≡ Some j → (j ≤ n) × (j ≤ done_by span start es i)
mid_done_tick span start es n i l still j m e = absurd (none≢some e)
mid_done_tick span start es n i l (flying b k c) j m e = absurd (none≢some e)
mid_done_tick span start es n i l (done y) j m e = let same : y ≡ j = cc in let p = m.0 in let q = m.1 in (omega arith, omega arith)

pub flying_finished : (o f : Bool) (n : ℕ) (x : Stage) → is_flying (cond f (finished o n x) x) ≡ (is_flying x && not f)
flying_finished o true n still = refl
flying_finished true true n (flying b k c) = refl
flying_finished false true n (flying b k c) = refl
flying_finished o true n (done m) = refl
flying_finished o false n still = refl
flying_finished o false n (flying b k c) = refl
flying_finished o false n (done m) = refl

flies_renewed : (o : Option ℕ) (x : Stage) → is_flying (renewed o x) ≡ is_flying x
flies_renewed None x = refl
flies_renewed (Some m) still = refl
flies_renewed (Some m) (flying b k c) = refl
flies_renewed (Some m) (done j) = refl

still_flies : (x : Stage) → is_still x ≡ true → is_flying x ≡ false
still_flies still e = refl
still_flies (flying b k c) e = absurd (true≢false (sym e))
still_flies (done m) e = refl

pub still_is : (x : Stage) → is_still x ≡ true → x ≡ still
still_is still e = refl
still_is (flying b k c) e = absurd (true≢false (sym e))
still_is (done m) e = absurd (true≢false (sym e))

-- what last_done says of each vertex
last_from_none : (s : ℕ → Stage) (vs : List Vertex) → last_from None s vs ≡ None
unfolding last_from
last_from_none s [] = refl
last_from_none s (v ∷ vs) = last_from_none s vs

pub last_none : (s : ℕ → Stage) (vs : List Vertex) → AllByRecursion (λ v. done_tick (s v.slot) ≡ None) vs → last_done s vs ≡ None
unfolding last_done
last_none s [] h = refl
last_none s (v ∷ vs) h = rw h.0 (last_from_none s vs)

last_from_cong : (s u : ℕ → Stage) (vs : List Vertex) → AllByRecursion (λ v. done_tick (u v.slot) ≡ done_tick (s v.slot)) vs → (o : Option ℕ) → last_from o u vs ≡ last_from o s vs
unfolding last_from
last_from_cong s u [] h o = refl
last_from_cong s u (v ∷ vs) h o = ap (λ z. last_from (later o z) u vs) h.0 ∙ last_from_cong s u vs h.1 (later o (done_tick (s v.slot)))

pub last_cong : (s u : ℕ → Stage) (vs : List Vertex) → AllByRecursion (λ v. done_tick (u v.slot) ≡ done_tick (s v.slot)) vs → last_done u vs ≡ last_done s vs
unfolding last_done
last_cong s u [] h = refl
last_cong s u (v ∷ vs) h = ap (λ z. last_from z u vs) h.0 ∙ last_from_cong s u vs h.1 (done_tick (s v.slot))

-- all done, if there is a last
later_some : (o d : Option ℕ) → (o ≡ None) ⊎ (d ≡ None) → later o d ≡ None
later_some None d h = refl
later_some (Some a) None h = refl
later_some (Some a) (Some b) (inl e) = absurd (none≢some (sym e))
later_some (Some a) (Some b) (inr e) = absurd (none≢some (sym e))

is_some : (o : Option ℕ) → (o ≡ None) ⊎ ((j : ℕ) × (o ≡ Some j))
is_some None = inl refl
is_some (Some j) = inr (j, refl)

from_all_done : (s : ℕ → Stage) (vs : List Vertex) (o : Option ℕ) (m : ℕ) → last_from o s vs ≡ Some m → ((j : ℕ) × (o ≡ Some j)) × AllByRecursion (λ v. (j : ℕ) × (done_tick (s v.slot) ≡ Some j)) vs
unfolding last_from
from_all_done s [] o m e = ((m, e), tt)
from_all_done s (v ∷ vs) o m e = go (from_all_done s vs (later o (done_tick (s v.slot))) m e) (is_some o) (is_some (done_tick (s v.slot)))
  where
    go : ((j : ℕ) × (later o (done_tick (s v.slot)) ≡ Some j)) × AllByRecursion (λ v. (j : ℕ) × (done_tick (s v.slot) ≡ Some j)) vs
        → (o ≡ None) ⊎ ((j : ℕ) × (o ≡ Some j)) → (done_tick (s v.slot) ≡ None) ⊎ ((j : ℕ) × (done_tick (s v.slot) ≡ Some j))
        → ((j : ℕ) × (o ≡ Some j)) × AllByRecursion (λ v. (j : ℕ) × (done_tick (s v.slot) ≡ Some j)) (v ∷ vs)
    go p (inl x) y = absurd (none≢some (sym (later_some o _ (inl x)) ∙ p.0.1))
    go p (inr x) (inl y) = absurd (none≢some (sym (later_some o _ (inr y)) ∙ p.0.1))
    go p (inr x) (inr y) = (x, (y, p.1))

pub all_done : (s : ℕ → Stage) (vs : List Vertex) (m : ℕ) → last_done s vs ≡ Some m → AllByRecursion (λ v. (j : ℕ) × (done_tick (s v.slot) ≡ Some j)) vs
unfolding last_done
all_done s [] m e = absurd (none≢some e)
all_done s (v ∷ vs) m e = from_all_done s vs (done_tick (s v.slot)) m e

-- in the middle of tick n, before departures: the round goes on, or has begun again
pub record Middle (r : Controller) (c : Settings) (n : ℕ) (old new : ℕ → Stage) (start start' : ℕ) (left : ℕ → ℕ) (ℓ : ℕ) : Type 0 where
  pub mids : (i : ℕ) → i < size c ℓ → Mid (span r) start' (pattern_at c ℓ).edges n i (left (slot_at ℓ i)) (new (slot_at ℓ i))
  pub starts : start' ≤ n + (pattern_at c ℓ).rest
  pub unfinished : last_done new (lane_vertices c ℓ) ≡ None
  pub moved : ((start' ≡ start) × ((i : ℕ) → i < size c ℓ → new (slot_at ℓ i) ≡ old (slot_at ℓ i)))
      ⊎ ((start' ≤ start + (size c ℓ * span r + all_weights (pattern_at c ℓ).edges + (pattern_at c ℓ).rest)) × ((i : ℕ) → i < size c ℓ → (new (slot_at ℓ i) ≡ still) × (is_still (old (slot_at ℓ i)) ≡ false)))

index_all : (P : ℕ → Type 0) (base j : ℕ) (es : List Edge) (ss : List VertexSetting) → ((i : ℕ) → i < length ss → P (base + (j + i))) → AllByRecursion (λ v. P v.slot) (vertices_from base j es ss)
unfolding vertices_from
index_all P base j es [] h = tt
index_all P base j es (s ∷ ss) h =
    let e : j + 0 ≡ j = omega arith in
    (subst (λ k. P (base + k)) e (h 0 (omega arith)), index_all P base (suc j) es ss (λ i k. let f : j + suc i ≡ suc j + i = omega arith in subst (λ z. P (base + z)) f (h (suc i) (omega arith))))

done_is : (x : Stage) (j : ℕ) → done_tick x ≡ Some j → x ≡ done j
done_is still j e = absurd (none≢some e)
done_is (flying b k c) j e = absurd (none≢some e)
done_is (done m) j e = ap done (some_is m j e)

-- the parts of a tick
module _ (r : Controller) (c : Settings) (x : Running) where
  abbrev pub controller_2 : List ℕ
  controller_2 = emptied r.meaning (step_events r.meaning x.controller) (after r.meaning Call.step x.controller)

  abbrev pub tables_1 : Tables
  tables_1 = after_events r.meaning c x.tick x.controller x.tables

  abbrev pub tables_2 : Tables
  tables_2 = after_rounds r.meaning c x.tick x.controller x.tables

  abbrev pub departing : List Vertex
  departing = departures r.meaning c x.tick x.controller x.tables

module _ (r : Controller) (laws : Lawful r.meaning) (c : Settings) (sound : Sound c) where
  pub slot_lane : (ℓ i : ℕ) → i < size c ℓ → lane_of (slot_at ℓ i) ≡ ℓ
  slot_lane ℓ i h = let few : size c ℓ ≤ 8 = (pattern_small c ℓ sound).few in omega arith

  slot_index : (ℓ i : ℕ) → i < size c ℓ → slot_at ℓ i % 8 ≡ i
  slot_index ℓ i h = let few : size c ℓ ≤ 8 = (pattern_small c ℓ sound).few in omega arith

  pub slot_closed : (ℓ i : ℕ) → i < size c ℓ → is_open c (domain_of (slot_at ℓ i)) ≡ false
  unfolding vertex_at
  slot_closed ℓ i h = all_in (λ v. is_open c (domain_of v.slot) ≡ false) (vertex_at c ℓ i) (lane_vertices c ℓ) (lane_closed c ℓ sound) (in_lane c ℓ i h)

  -- every vertex of a lane is one of these
  by_index : (P : ℕ → Type 0) (ℓ : ℕ) → ((i : ℕ) → i < size c ℓ → P (slot_at ℓ i)) → AllByRecursion (λ v. P v.slot) (lane_vertices c ℓ)
  unfolding lane_vertices
  by_index P ℓ h = index_all P (ℓ * 8) 0 (pattern_at c ℓ).edges (pattern_at c ℓ).spots (λ i k. let e : i ≡ 0 + i = omega arith in subst (λ z. P (ℓ * 8 + z)) e (h i k))

  module _ (x : Running) (inv : Inv r c x) where
    pub pass : Passed r laws x.controller (controller_2 r c x) (step_events r.meaning x.controller)
    pass = passed r laws x.controller inv.reached inv.quiet

    pub at_1 : (t : ℕ) → (tables_1 r c x).stage t ≡ cond (finishes t (step_events r.meaning x.controller)) (finished (is_open c (domain_of t)) x.tick (x.tables.stage t)) (x.tables.stage t)
    unfolding after_events
    at_1 t = completed_at c x.tick t (step_events r.meaning x.controller) x.tables

    pub held_1 : (t : ℕ) → holds t (r.meaning.held (controller_2 r c x)) ≡ is_flying ((tables_1 r c x).stage t)
    held_1 t = pass.keeps t ∙ ap (λ z. z && not (finishes t (step_events r.meaning x.controller))) (inv.held_is t) ∙ sym (flying_finished (is_open c (domain_of t)) (finishes t (step_events r.meaning x.controller)) x.tick (x.tables.stage t)) ∙ ap is_flying (sym (at_1 t))

    pub mid_1 : (ℓ : ℕ) → ℓ < 64 → (i : ℕ) → i < size c ℓ → Mid (span r) (x.tables.start ℓ) (pattern_at c ℓ).edges x.tick i (left r (controller_2 r c x) (slot_at ℓ i)) ((tables_1 r c x).stage (slot_at ℓ i))
    mid_1 ℓ hℓ i h = rw (at_1 (slot_at ℓ i), slot_closed ℓ i h) (events_fine (span r) (x.tables.start ℓ) (pattern_at c ℓ).edges x.tick i (left r x.controller (slot_at ℓ i)) (left r (controller_2 r c x) (slot_at ℓ i)) (x.tables.stage (slot_at ℓ i)) (finishes (slot_at ℓ i) (step_events r.meaning x.controller)) (inv.lanes ℓ hℓ i h) lefts)
      where
        flies : (s : Stage) → is_still s ≡ false → done_tick s ≡ None → is_flying s ≡ true
        flies still a b = absurd (true≢false a)
        flies (flying u k v) a b = refl
        flies (done m) a b = absurd (none≢some (sym b))

        lefts : is_still (x.tables.stage (slot_at ℓ i)) ≡ false → done_tick (x.tables.stage (slot_at ℓ i)) ≡ None → finishes (slot_at ℓ i) (step_events r.meaning x.controller) ≡ false → (left r (controller_2 r c x) (slot_at ℓ i) < left r x.controller (slot_at ℓ i)) × (1 ≤ left r (controller_2 r c x) (slot_at ℓ i))
        lefts a b f = let holding = inv.held_is (slot_at ℓ i) ∙ flies _ a b in (pass.falls (slot_at ℓ i) holding f, pass.lasts (slot_at ℓ i) holding f)

    pub start_1 : (ℓ : ℕ) → (tables_1 r c x).start ℓ ≡ x.tables.start ℓ
    unfolding after_events
    start_1 ℓ = ap (λ f. f ℓ) (completed_start c x.tick (step_events r.meaning x.controller) x.tables)

    pub at_2 : (ℓ i : ℕ) → i < size c ℓ → (tables_2 r c x).stage (slot_at ℓ i) ≡ renewed (last_done (tables_1 r c x).stage (lane_vertices c ℓ)) ((tables_1 r c x).stage (slot_at ℓ i))
    unfolding after_rounds rounds
    at_2 ℓ i h = ap (λ k. renewed (lane_end c (tables_1 r c x).stage k) ((tables_1 r c x).stage (slot_at ℓ i))) (slot_lane ℓ i h)
        ∙ ap (λ o. renewed o ((tables_1 r c x).stage (slot_at ℓ i))) (lane_end_is c (tables_1 r c x).stage ℓ)

    pub start_2 : (ℓ : ℕ) → (tables_2 r c x).start ℓ ≡ next_start (pattern_at c ℓ).rest (last_done (tables_1 r c x).stage (lane_vertices c ℓ)) (x.tables.start ℓ)
    unfolding after_rounds rounds
    start_2 ℓ = ap (next_start (pattern_at c ℓ).rest (lane_end c (tables_1 r c x).stage ℓ)) (start_1 ℓ)
        ∙ ap (λ o. next_start (pattern_at c ℓ).rest o (x.tables.start ℓ)) (lane_end_is c (tables_1 r c x).stage ℓ)

    pub flies_2 : (t : ℕ) → is_flying ((tables_2 r c x).stage t) ≡ is_flying ((tables_1 r c x).stage t)
    unfolding after_rounds rounds
    flies_2 t = flies_renewed (lane_end c (tables_1 r c x).stage (lane_of t)) ((tables_1 r c x).stage t)

    -- a round that ends now ends at this tick, and in time
    pub end_now : (ℓ : ℕ) → ℓ < 64 → (m : ℕ) → last_done (tables_1 r c x).stage (lane_vertices c ℓ) ≡ Some m → x.tick ≤ m
    end_now ℓ hℓ m e = last_now x.tick x.tables.stage (tables_1 r c x).stage (lane_vertices c ℓ) (by_index (λ t. Newer x.tick (done_tick (x.tables.stage t)) (done_tick ((tables_1 r c x).stage t))) ℓ (λ i h. rw (at_1 (slot_at ℓ i), slot_closed ℓ i h) (newer_finished x.tick (finishes (slot_at ℓ i) (step_events r.meaning x.controller)) (x.tables.stage (slot_at ℓ i))))) (inv.unfinished ℓ hℓ) m e

    end_by_now : (ℓ : ℕ) → ℓ < 64 → (m : ℕ) → last_done (tables_1 r c x).stage (lane_vertices c ℓ) ≡ Some m → m ≤ x.tick
    end_by_now ℓ hℓ m e = last_by x.tick (tables_1 r c x).stage (lane_vertices c ℓ) (by_index (λ t. (j : ℕ) → done_tick ((tables_1 r c x).stage t) ≡ Some j → j ≤ x.tick) ℓ (λ i h j f. (mid_done_tick (span r) (x.tables.start ℓ) (pattern_at c ℓ).edges x.tick i _ ((tables_1 r c x).stage (slot_at ℓ i)) j (mid_1 ℓ hℓ i h) f).0)) m e

    pub end_in_round : (ℓ : ℕ) → ℓ < 64 → (m : ℕ) → last_done (tables_1 r c x).stage (lane_vertices c ℓ) ≡ Some m → m ≤ x.tables.start ℓ + size c ℓ * span r + all_weights (pattern_at c ℓ).edges
    end_in_round ℓ hℓ m e = last_by _ (tables_1 r c x).stage (lane_vertices c ℓ) (by_index (λ t. (j : ℕ) → done_tick ((tables_1 r c x).stage t) ≡ Some j → j ≤ x.tables.start ℓ + size c ℓ * span r + all_weights (pattern_at c ℓ).edges) ℓ (λ i h j f. let a = (mid_done_tick (span r) (x.tables.start ℓ) (pattern_at c ℓ).edges x.tick i _ ((tables_1 r c x).stage (slot_at ℓ i)) j (mid_1 ℓ hℓ i h) f).1 in let b = done_all (span r) (x.tables.start ℓ) (pattern_at c ℓ).edges i (size c ℓ) h in omega arith)) m e

    pub middle : (ℓ : ℕ) → ℓ < 64 → Middle r c x.tick (tables_1 r c x).stage (tables_2 r c x).stage (x.tables.start ℓ) ((tables_2 r c x).start ℓ) (left r (controller_2 r c x)) ℓ
    unfolding vertex_at
    middle ℓ hℓ = go (last_done (tables_1 r c x).stage (lane_vertices c ℓ)) refl
      where
        go : (o : Option ℕ) → last_done (tables_1 r c x).stage (lane_vertices c ℓ) ≡ o → Middle r c x.tick (tables_1 r c x).stage (tables_2 r c x).stage (x.tables.start ℓ) ((tables_2 r c x).start ℓ) (left r (controller_2 r c x)) ℓ
        go None e = record {
          mids = λ i h. rw (starts, same i h) (mid_1 ℓ hℓ i h);
          starts = rw starts (inv.starts ℓ hℓ);
          unfinished = last_cong (tables_1 r c x).stage (tables_2 r c x).stage (lane_vertices c ℓ) (by_index (λ t. done_tick ((tables_2 r c x).stage t) ≡ done_tick ((tables_1 r c x).stage t)) ℓ (λ i h. ap done_tick (same i h))) ∙ e;
          moved = inl (starts, same);
        }
          where
            same : (i : ℕ) → i < size c ℓ → (tables_2 r c x).stage (slot_at ℓ i) ≡ (tables_1 r c x).stage (slot_at ℓ i)
            same i h = at_2 ℓ i h ∙ ap (λ o. renewed o ((tables_1 r c x).stage (slot_at ℓ i))) e

            starts : (tables_2 r c x).start ℓ ≡ x.tables.start ℓ
            starts = start_2 ℓ ∙ ap (λ o. next_start (pattern_at c ℓ).rest o (x.tables.start ℓ)) e
        go (Some m) e = record {
          mids = λ i h. rw (same i h).0 (rw starts (omega (arith, end_now ℓ hℓ m e)));
          starts = rw starts (omega (arith, end_by_now ℓ hℓ m e));
          unfinished = last_none (tables_2 r c x).stage (lane_vertices c ℓ) (by_index (λ t. done_tick ((tables_2 r c x).stage t) ≡ None) ℓ (λ i h. ap done_tick (same i h).0));
          moved = inr (rw starts (omega (arith, end_in_round ℓ hℓ m e)), same);
        }
          where
            starts : (tables_2 r c x).start ℓ ≡ m + (pattern_at c ℓ).rest
            starts = start_2 ℓ ∙ ap (λ o. next_start (pattern_at c ℓ).rest o (x.tables.start ℓ)) e

            was : (i : ℕ) → i < size c ℓ → (j : ℕ) × (done_tick ((tables_1 r c x).stage (slot_at ℓ i)) ≡ Some j)
            was i h = all_in (λ v. (j : ℕ) × (done_tick ((tables_1 r c x).stage v.slot) ≡ Some j)) (vertex_at c ℓ i) (lane_vertices c ℓ) (all_done (tables_1 r c x).stage (lane_vertices c ℓ) m e) (in_lane c ℓ i h)

            same : (i : ℕ) → i < size c ℓ → ((tables_2 r c x).stage (slot_at ℓ i) ≡ still) × (is_still ((tables_1 r c x).stage (slot_at ℓ i)) ≡ false)
            same i h = let d = done_is ((tables_1 r c x).stage (slot_at ℓ i)) (was i h).0 (was i h).1 in (at_2 ℓ i h ∙ ap (λ o. renewed o ((tables_1 r c x).stage (slot_at ℓ i))) e ∙ ap (renewed (Some m)) d, ap is_still d)

    pub departing_free : AllByRecursion (Free r laws (controller_2 r c x)) (departing r c x)
    unfolding departures leaves
    departing_free = All-weaker _ (Free r laws (controller_2 r c x)) free (departing r c x) (leaving_leave _ x.tick (tables_2 r c x) (vertices c) (placed c sound))
      where
        free : (v : Vertex) → ((v.slot ≤ 511) × (v.bank ≤ 7)) × (leaves x.tick (tables_2 r c x) v ≡ true) → Free r laws (controller_2 r c x) v
        free v p = (p.0.0, p.0.1, held_1 v.slot ∙ sym (flies_2 v.slot) ∙ still_flies ((tables_2 r c x).stage v.slot) (and_parts (is_still ((tables_2 r c x).stage v.slot)) (is_due x.tick (due_tick (tables_2 r c x) v)) p.1).0)

    pub departing_apart : Apart (departing r c x)
    unfolding departures
    departing_apart = leaving_apart x.tick (tables_2 r c x) (vertices c) (apart_vertices c sound)

    -- with room for all that leave
    module _ (room : length (r.meaning.held (controller_2 r c x)) + length (departing r c x) ≤ places r) where
      pub taking : AllHeld r laws (departing r c x) (controller_2 r c x) (taken_all r.meaning (departing r c x) (controller_2 r c x))
      taking = all_held r laws (departing r c x) (controller_2 r c x) pass.again departing_free departing_apart room

      pub held_3 : (t : ℕ) → holds t (r.meaning.held (taken_all r.meaning (departing r c x) (controller_2 r c x))) ≡ is_flying ((after_tick r.meaning c x.tick x.controller x.tables).stage t)
      unfolding after_tick
      held_3 t = taking.keeps t ∙ ap (λ z. z || in_slots t (departing r c x)) (held_1 t ∙ sym (flies_2 t)) ∙ go (in_slots t (departing r c x)) refl
        where
          go : (y : Bool) → in_slots t (departing r c x) ≡ y → (is_flying ((tables_2 r c x).stage t) || y) ≡ is_flying ((through departed (departing r c x) (tables_2 r c x)).stage t)
          go true e = or_true (is_flying ((tables_2 r c x).stage t)) true refl ∙ sym (departed_in t (departing r c x) (tables_2 r c x) (inl e))
          go false e = or_none (is_flying ((tables_2 r c x).stage t)) ∙ ap is_flying (sym (departed_out t (departing r c x) (tables_2 r c x) e))

      -- a vertex has left if it was to leave
      pub departing_at : (ℓ i : ℕ) → ℓ < 64 → i < size c ℓ → in_slots (slot_at ℓ i) (departing r c x) ≡ (is_still ((tables_2 r c x).stage (slot_at ℓ i)) && is_due x.tick (due_from ((tables_2 r c x).start ℓ) (tables_2 r c x).stage (sources_into (ℓ * 8) i (pattern_at c ℓ).edges)))
      unfolding departures leaves due_tick vertex_at
      departing_at ℓ i hℓ h = leaving_in x.tick (tables_2 r c x) (vertex_at c ℓ i) (vertices c) (apart_vertices c sound) (in_vertices c ℓ (vertex_at c ℓ i) hℓ (in_lane c ℓ i h))
          ∙ ap (λ k. is_still ((tables_2 r c x).stage (slot_at ℓ i)) && is_due x.tick (due ((tables_2 r c x).start k) (done_in (tables_2 r c x).stage k) (pattern_at c ℓ).edges (slot_at ℓ i % 8))) (slot_lane ℓ i h)
          ∙ ap (λ j. is_still ((tables_2 r c x).stage (slot_at ℓ i)) && is_due x.tick (due ((tables_2 r c x).start ℓ) (done_in (tables_2 r c x).stage ℓ) (pattern_at c ℓ).edges j)) (slot_index ℓ i h)
          ∙ ap (λ o. is_still ((tables_2 r c x).stage (slot_at ℓ i)) && is_due x.tick o) (due_is ((tables_2 r c x).start ℓ) (tables_2 r c x).stage ℓ i (pattern_at c ℓ).edges)

      pub fine_3 : (ℓ : ℕ) → ℓ < 64 → (i : ℕ) → i < size c ℓ → Fine (span r) ((tables_2 r c x).start ℓ) (pattern_at c ℓ).edges (suc x.tick) i (left r (taken_all r.meaning (departing r c x) (controller_2 r c x)) (slot_at ℓ i)) ((through departed (departing r c x) (tables_2 r c x)).stage (slot_at ℓ i))
      fine_3 ℓ hℓ i h = go (in_slots (slot_at ℓ i) (departing r c x)) refl
        where
          mid : Middle r c x.tick (tables_1 r c x).stage (tables_2 r c x).stage (x.tables.start ℓ) ((tables_2 r c x).start ℓ) (left r (controller_2 r c x)) ℓ
          mid = middle ℓ hℓ

          srcs : AllByRecursion (Into (ℓ * 8) i (pattern_at c ℓ).edges) (sources_into (ℓ * 8) i (pattern_at c ℓ).edges)
          srcs = sources_fine (ℓ * 8) i (pattern_at c ℓ).edges (pattern_small c ℓ sound).order

          go : (y : Bool) → in_slots (slot_at ℓ i) (departing r c x) ≡ y → Fine (span r) ((tables_2 r c x).start ℓ) (pattern_at c ℓ).edges (suc x.tick) i (left r (taken_all r.meaning (departing r c x) (controller_2 r c x)) (slot_at ℓ i)) ((through departed (departing r c x) (tables_2 r c x)).stage (slot_at ℓ i))
          go true e =
              let p = and_parts (is_still ((tables_2 r c x).stage (slot_at ℓ i))) _ (sym (departing_at ℓ i hℓ h) ∙ e) in
              let on_time = subst (λ z. Mid (span r) ((tables_2 r c x).start ℓ) (pattern_at c ℓ).edges x.tick i (left r (controller_2 r c x) (slot_at ℓ i)) z) (still_is ((tables_2 r c x).stage (slot_at ℓ i)) p.0) (mid.mids i h) in
              fine_flying (span r) ((tables_2 r c x).start ℓ) (pattern_at c ℓ).edges (suc x.tick) i _ ((through departed (departing r c x) (tables_2 r c x)).stage (slot_at ℓ i)) (departed_in (slot_at ℓ i) (departing r c x) (tables_2 r c x) (inl e))
              (left_fine (span r) ((tables_2 r c x).start ℓ) (pattern_at c ℓ).edges (ℓ * 8) x.tick (size c ℓ) (tables_2 r c x).stage (λ u. left r (controller_2 r c x) (slot_at ℓ u)) (laws.span_least r.origin) mid.mids i h (sources_into (ℓ * 8) i (pattern_at c ℓ).edges) srcs 0 Read fake on_time p.1 _ (taking.spanned (slot_at ℓ i) e))
          go false e = rw (departed_out (slot_at ℓ i) (departing r c x) (tables_2 r c x) e)
              (fine_left (span r) ((tables_2 r c x).start ℓ) (pattern_at c ℓ).edges (suc x.tick) i (left r (controller_2 r c x) (slot_at ℓ i)) _ ((tables_2 r c x).stage (slot_at ℓ i)) (λ f. taking.lefts (slot_at ℓ i) (held_1 (slot_at ℓ i) ∙ sym (flies_2 (slot_at ℓ i)) ∙ f))
              (stay_fine (span r) ((tables_2 r c x).start ℓ) (pattern_at c ℓ).edges (ℓ * 8) x.tick (size c ℓ) (tables_2 r c x).stage (λ u. left r (controller_2 r c x) (slot_at ℓ u)) (laws.span_least r.origin) mid.mids i h (sources_into (ℓ * 8) i (pattern_at c ℓ).edges) srcs ((tables_2 r c x).stage (slot_at ℓ i)) (left r (controller_2 r c x) (slot_at ℓ i)) (mid.mids i h)
              (λ z. ap (λ y. is_still y && is_due x.tick (due_from ((tables_2 r c x).start ℓ) (tables_2 r c x).stage (sources_into (ℓ * 8) i (pattern_at c ℓ).edges))) (sym z) ∙ sym (departing_at ℓ i hℓ h) ∙ e)))

      pub done_3 : (ℓ : ℕ) → ℓ < 64 → (i : ℕ) → i < size c ℓ → done_tick ((through departed (departing r c x) (tables_2 r c x)).stage (slot_at ℓ i)) ≡ done_tick ((tables_2 r c x).stage (slot_at ℓ i))
      done_3 ℓ hℓ i h = go (in_slots (slot_at ℓ i) (departing r c x)) refl
        where
          flies_done : (y : Stage) → is_flying y ≡ true → done_tick y ≡ None
          flies_done still e = refl
          flies_done (flying b k z) e = refl
          flies_done (done m) e = absurd (true≢false (sym e))

          go : (y : Bool) → in_slots (slot_at ℓ i) (departing r c x) ≡ y → done_tick ((through departed (departing r c x) (tables_2 r c x)).stage (slot_at ℓ i)) ≡ done_tick ((tables_2 r c x).stage (slot_at ℓ i))
          go true e = flies_done _ (departed_in (slot_at ℓ i) (departing r c x) (tables_2 r c x) (inl e)) ∙ sym (ap done_tick (still_is ((tables_2 r c x).stage (slot_at ℓ i)) (and_parts (is_still ((tables_2 r c x).stage (slot_at ℓ i))) _ (sym (departing_at ℓ i hℓ h) ∙ e)).0))
          go false e = ap done_tick (departed_out (slot_at ℓ i) (departing r c x) (tables_2 r c x) e)

      pub kept : Inv r c (ticked r.meaning c x)
      unfolding ticked controller_after after_tick
      kept = record {
        reached = taking.again;
        quiet = taking.quiet ∙ pass.quiet;
        held_is = held_3;
        lanes = λ ℓ hℓ i h. rw (ap (λ f. f ℓ) (departed_start (departing r c x) (tables_2 r c x))) (fine_3 ℓ hℓ i h);
        unfinished = λ ℓ hℓ. last_cong (tables_2 r c x).stage (through departed (departing r c x) (tables_2 r c x)).stage (lane_vertices c ℓ) (by_index (λ t. done_tick ((through departed (departing r c x) (tables_2 r c x)).stage t) ≡ done_tick ((tables_2 r c x).stage t)) ℓ (done_3 ℓ hℓ)) ∙ (middle ℓ hℓ).unfinished;
        starts = λ ℓ hℓ. rw (ap (λ f. f ℓ) (departed_start (departing r c x) (tables_2 r c x))) (let k = (middle ℓ hℓ).starts in omega arith);
      }
