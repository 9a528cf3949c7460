-- A waiting request leaves, and is answered, in time: one tick.
use Rattle.std.proofs.Common.{◌≡◌, ℕ, suc, ◌+◌, ◌*◌, ◌<◌, ◌≤◌, Bool, true, false, cond, ◌⊎◌, List, [], ◌∷◌, length, Some, None, Option, sym, refl, ap, ◌∙◌, subst, inl, inr, mul-le-mul_right, arith}
use Rattle.std.proofs.lemmas.Bool.{ne_eqb, true≢false, and_parts}
use Rattle.std.specs.List.{AllByRecursion}
use Rattle.interface.specs.Lawful.{Lawful}
use Rattle.interface.specs.Meaning.{Held}
use Rattle.interface.specs.declared.Kind.{Kind}
use Rattle.patterns.specs.Due.{all_weights, later}
use Rattle.patterns.specs.declared.edge.Edge.{Edge}
use Rattle.patterns.specs.declared.setting.VertexSetting.{VertexSetting}
use Rattle.model.specs.Calls.{Running, ticked}
use Rattle.model.specs.Settings.{Settings, Vertex, domain_of, lane_of, lane_vertices, pattern_at, vertices, vertices_from}
use Rattle.model.specs.Ticks.{lane_end, Stage, Tables, after_events, after_rounds, after_tick, controller_after, departed, departures, done, done_tick, finished, flying, is_still, leaves, leaving, notices, rounds, step_events, still, through}
use Rattle.run_laws.proofs.Deadlines.{done_all, Mid, mid_late, none≢some}
use Rattle.run_laws.proofs.Departures.{is_flying, In, leaving_in, apart_vertices, vertex_at, size, in_lane, in_vertices, completed_queue, departed_out, departed_in, departed_start}
use Rattle.run_laws.proofs.Holding.{in_slots, Free, finishes, holds, Controller, left, span, places}
use Rattle.run_laws.proofs.Invariant.{slot_at, Inv, Middle, controller_2, tables_1, tables_2, departing, middle, pass, at_1, departing_free, departing_apart, taking, departing_at, still_is, slot_closed}
use Rattle.run_laws.proofs.Lanes.{last_done, last_from}
use Rattle.run_laws.proofs.Queues.{carries, Absent, Waits, Silent, Only, pick, silent_notes, only_notes, silent_all, only_stays, only_ends, carries_renewed, over_departed, flying_departed, WaitingOn, Left, waits_departed}
use Rattle.run_laws.proofs.Sound.{Sound}

-- a lane that is not all done has one that is not done
undone_from : (s : ℕ → Stage) (base j : ℕ) (es : List Edge) (ss : List VertexSetting) (m : ℕ) → last_from (Some m) s (vertices_from base j es ss) ≡ None → (u : ℕ) × (u < length ss) × (done_tick (s (base + (j + u))) ≡ None)
unfolding last_from vertices_from
undone_from s base j es [] m e = absurd (none≢some (sym e))
undone_from s base j es (p ∷ ss) m e = go (done_tick (s (base + j))) refl e (λ k f. undone_from s base (suc j) es ss k f)
  where
    go : (o : Option ℕ) → done_tick (s (base + j)) ≡ o → last_from (later (Some m) o) s (vertices_from base (suc j) es ss) ≡ None → ((k : ℕ) → last_from (Some k) s (vertices_from base (suc j) es ss) ≡ None → (u : ℕ) × (u < length ss) × (done_tick (s (base + (suc j + u))) ≡ None)) → (u : ℕ) × (u < length (p ∷ ss)) × (done_tick (s (base + (j + u))) ≡ None)
    go None z f ih = let same : j ≡ j + 0 = omega arith in (0, omega arith, subst (λ y. done_tick (s (base + y)) ≡ None) same z)
    go (Some k) z f ih = let y = ih _ f in let h = y.1 in let same : suc j + y.0 ≡ j + suc y.0 = omega arith in (suc y.0, omega arith, subst (λ w. done_tick (s (base + w)) ≡ None) same y.2)

undone_all : (s : ℕ → Stage) (base : ℕ) (es : List Edge) (ss : List VertexSetting) (i : ℕ) → i < length ss → last_done s (vertices_from base 0 es ss) ≡ None → (u : ℕ) × (u < length ss) × (done_tick (s (base + u)) ≡ None)
unfolding last_done vertices_from
undone_all s base es [] i h e = absurd (omega arith)
undone_all s base es (p ∷ ss) i h e = go (done_tick (s (base + 0))) refl e
  where
    go : (o : Option ℕ) → done_tick (s (base + 0)) ≡ o → last_from o s (vertices_from base 1 es ss) ≡ None → (u : ℕ) × (u < length (p ∷ ss)) × (done_tick (s (base + u)) ≡ None)
    go None z f = (0, omega arith, z)
    go (Some k) z f = let y = undone_from s base 1 es ss k f in let h = y.1 in let same : 1 + y.0 ≡ suc y.0 = omega arith in (suc y.0, omega arith, subst (λ w. done_tick (s (base + w)) ≡ None) same y.2)

pub undone : (c : Settings) (ℓ : ℕ) (s : ℕ → Stage) (i : ℕ) → i < size c ℓ → last_done s (lane_vertices c ℓ) ≡ None → (u : ℕ) × (u < size c ℓ) × (done_tick (s (slot_at ℓ u)) ≡ None)
unfolding lane_vertices
undone c ℓ s i h e = undone_all s (ℓ * 8) (pattern_at c ℓ).edges (pattern_at c ℓ).spots i h e

free_out : (t : ℕ) (hs : List Held) (vs : List Vertex) → AllByRecursion (λ v. holds v.slot hs ≡ false) vs → holds t hs ≡ true → in_slots t vs ≡ false
free_out t hs [] h e = refl
free_out t hs (v ∷ vs) h e = rw (ne_eqb v.slot t (λ z. true≢false (sym e ∙ ap (λ y. holds y hs) (sym z) ∙ h.0))) (free_out t hs vs h.1 e)

pub carries_flies : (s : ℕ) (x : Stage) → carries s x ≡ true → is_flying x ≡ true
carries_flies s still e = e
carries_flies s (flying b k c) e = refl
carries_flies s (done m) e = e

still_completed : (f : Bool) (n : ℕ) (x : Stage) → is_still (cond f (finished false n x) x) ≡ is_still x
still_completed true n still = refl
still_completed true n (flying b k c) = refl
still_completed true n (done m) = refl
still_completed false n x = refl

in_leaving : (n : ℕ) (b : Tables) (v : Vertex) (vs : List Vertex) → In v vs → leaves n b v ≡ true → In v (leaving n b vs)
unfolding leaving
in_leaving n b v [] i e = elim i [ ]
in_leaving n b v (w ∷ ws) (inl z) e = rw (ap (leaves n b) (sym z) ∙ e) (inl z)
in_leaving n b v (w ∷ ws) (inr i) e = go (leaves n b w) (in_leaving n b v ws i e)
  where
    go : (x : Bool) → In v (leaving n b ws) → In v (cond x (w ∷ leaving n b ws) (leaving n b ws))
    go true k = inr k
    go false k = k

-- the vertex that a request waits for
pub record Meets (c : Settings) (d b : ℕ) (k : Kind) (ℓ i : ℕ) : Type 0 where
  pub lane_fits : ℓ < 64
  pub index_fits : i < size c ℓ
  pub domain_is : domain_of (slot_at ℓ i) ≡ d
  pub bank_is : (vertex_at c ℓ i).bank ≡ b
  pub kind_is : (vertex_at c ℓ i).kind ≡ k

abbrev pub round : Controller → Settings → ℕ → ℕ
round r c ℓ = size c ℓ * span r + all_weights (pattern_at c ℓ).edges + (pattern_at c ℓ).rest

pub record Over (d s : ℕ) (x : Running) : Type 0 where
  pub silent : Silent d s x.tables.stage
  pub absent : Absent s (x.tables.queue d)

pub record Flying (r : Controller) (d s W : ℕ) (x : Running) : Type 0 where
  pub slot : ℕ
  pub only : Only d s slot x.tables.stage
  pub absent : Absent s (x.tables.queue d)
  pub sure : x.tick + left r x.controller slot ≤ suc W
  pub left_some : 1 ≤ left r x.controller slot

pub record Queued (d s b : ℕ) (k : Kind) (ℓ i R W : ℕ) (x : Running) : Type 0 where
  pub older : ℕ
  pub silent : Silent d s x.tables.stage
  pub waits : Waits b k s older (x.tables.queue d)
  pub if_still : is_still (x.tables.stage (slot_at ℓ i)) ≡ true → x.tables.start ℓ + suc older * R ≤ W
  pub if_not : is_still (x.tables.stage (slot_at ℓ i)) ≡ false → x.tables.start ℓ + suc (suc older) * R ≤ W

module _ (r : Controller) (laws : Lawful r.meaning) (c : Settings) (sound : Sound c) (x : Running) (inv : Inv r c x) (room : length (r.meaning.held (controller_2 r c x)) + length (departing r c x) ≤ places r) (d s : ℕ) where
  abbrev noted : List ℕ
  noted = pick d s (notices r.meaning c x.tick x.controller x.tables)

  queue_2 : (tables_2 r c x).queue d ≡ x.tables.queue d
  unfolding after_rounds rounds after_events
  queue_2 = ap (λ f. f d) (completed_queue c x.tick (step_events r.meaning x.controller) x.tables)

  silent_2 : Silent d s (tables_1 r c x).stage → Silent d s (tables_2 r c x).stage
  unfolding after_rounds rounds
  silent_2 h t e = carries_renewed d s (lane_end c (tables_1 r c x).stage (lane_of t)) ((tables_1 r c x).stage t) ∙ h t e

  only_2 : (t : ℕ) → Only d s t (tables_1 r c x).stage → Only d s t (tables_2 r c x).stage
  unfolding after_rounds rounds
  only_2 t h = (h.0, carries_renewed d s _ ((tables_1 r c x).stage t) ∙ h.1, λ u e ne. carries_renewed d s _ ((tables_1 r c x).stage u) ∙ h.2 u e ne)

  pub over_tick : Over d s x → (noted ≡ []) × Over d s (ticked r.meaning c x)
  unfolding notices ticked after_tick after_events
  over_tick o =
      let z = over_departed d s (departing r c x) (tables_2 r c x) (subst (Absent s) (sym queue_2) o.absent) (silent_2 (silent_all d s c x.tick (step_events r.meaning x.controller) x.tables o.silent)) in
      (silent_notes d s c x.tick (step_events r.meaning x.controller) x.tables o.silent, record { silent = z.1; absent = z.0 })

  module _ (W : ℕ) where
    pub flying_tick : Flying r d s W x → ((noted ≡ []) × Flying r d s W (ticked r.meaning c x)) ⊎ ((noted ≡ x.tick ∷ []) × (x.tick ≤ W) × Over d s (ticked r.meaning c x))
    unfolding notices ticked after_tick after_events controller_after
    flying_tick f = go (finishes f.slot (step_events r.meaning x.controller)) refl
      where
        holding : holds f.slot (r.meaning.held x.controller) ≡ true
        holding = inv.held_is f.slot ∙ carries_flies s (x.tables.stage f.slot) f.only.1

        go : (y : Bool) → finishes f.slot (step_events r.meaning x.controller) ≡ y → ((noted ≡ []) × Flying r d s W (ticked r.meaning c x)) ⊎ ((noted ≡ x.tick ∷ []) × (x.tick ≤ W) × Over d s (ticked r.meaning c x))
        go true e =
            let z = over_departed d s (departing r c x) (tables_2 r c x) (subst (Absent s) (sym queue_2) f.absent) (silent_2 (only_ends d s c x.tick f.slot (step_events r.meaning x.controller) x.tables e f.only)) in
            inr (only_notes d s c x.tick f.slot (step_events r.meaning x.controller) x.tables f.only ∙ rw e, (let p = f.sure in let q = f.left_some in omega arith), record { silent = z.1; absent = z.0 })
        go false e =
            let only-1 = only_stays d s c x.tick f.slot (step_events r.meaning x.controller) x.tables e f.only in
            let held_2 : holds f.slot (r.meaning.held (controller_2 r c x)) ≡ true = (pass r laws c sound x inv).keeps f.slot ∙ rw (holding, e) in
            let out = free_out f.slot (r.meaning.held (controller_2 r c x)) (departing r c x) (all_third (departing r c x) (departing_free r laws c sound x inv)) held_2 in
            let z = flying_departed d s f.slot (departing r c x) (tables_2 r c x) out (subst (Absent s) (sym queue_2) f.absent) (only_2 f.slot only-1) in
            let falls = (pass r laws c sound x inv).falls f.slot holding e in
            let lasts = (pass r laws c sound x inv).lasts f.slot holding e in
            let lefts = (taking r laws c sound x inv room).lefts f.slot held_2 in
            inl (
              only_notes d s c x.tick f.slot (step_events r.meaning x.controller) x.tables f.only ∙ rw e,
              record { slot = f.slot; only = z.1; absent = z.0; sure = rw lefts (let p = f.sure in omega arith); left_some = rw lefts (lasts) },
            )
          where
            all_third : (vs : List Vertex) → AllByRecursion (Free r laws (controller_2 r c x)) vs → AllByRecursion (λ v. holds v.slot (r.meaning.held (controller_2 r c x)) ≡ false) vs
            all_third [] h = tt
            all_third (v ∷ vs) h = (h.0.2, all_third vs h.1)

    module _ (b : ℕ) (k : Kind) (ℓ i R : ℕ) (m : Meets c d b k ℓ i) (longest : round r c ℓ ≤ R) (q : Queued d s b k ℓ i R W x) where
      mid : Middle r c x.tick (tables_1 r c x).stage (tables_2 r c x).stage (x.tables.start ℓ) ((tables_2 r c x).start ℓ) (left r (controller_2 r c x)) ℓ
      mid = middle r laws c sound x inv ℓ m.lane_fits

      still_1 : is_still ((tables_1 r c x).stage (slot_at ℓ i)) ≡ is_still (x.tables.stage (slot_at ℓ i))
      still_1 = rw (at_1 r laws c sound x inv (slot_at ℓ i), slot_closed r laws c sound ℓ i m.index_fits) (still_completed (finishes (slot_at ℓ i) (step_events r.meaning x.controller)) x.tick (x.tables.stage (slot_at ℓ i)))

      -- what is left of the bound in the middle of the tick
      bounds : (is_still ((tables_2 r c x).stage (slot_at ℓ i)) ≡ true → (tables_2 r c x).start ℓ + suc q.older * R ≤ W) × (is_still ((tables_2 r c x).stage (slot_at ℓ i)) ≡ false → (tables_2 r c x).start ℓ + suc (suc q.older) * R ≤ W)
      bounds = go mid.moved
        where
          go : (((tables_2 r c x).start ℓ ≡ x.tables.start ℓ) × ((i : ℕ) → i < size c ℓ → (tables_2 r c x).stage (slot_at ℓ i) ≡ (tables_1 r c x).stage (slot_at ℓ i)))
              ⊎ (((tables_2 r c x).start ℓ ≤ x.tables.start ℓ + (size c ℓ * span r + all_weights (pattern_at c ℓ).edges + (pattern_at c ℓ).rest)) × ((i : ℕ) → i < size c ℓ → ((tables_2 r c x).stage (slot_at ℓ i) ≡ still) × (is_still ((tables_1 r c x).stage (slot_at ℓ i)) ≡ false)))
              → (is_still ((tables_2 r c x).stage (slot_at ℓ i)) ≡ true → (tables_2 r c x).start ℓ + suc q.older * R ≤ W) × (is_still ((tables_2 r c x).stage (slot_at ℓ i)) ≡ false → (tables_2 r c x).start ℓ + suc (suc q.older) * R ≤ W)
          go (inl p) =
              let as-was = ap is_still (p.1 i m.index_fits) ∙ still_1 in
              ((λ e. rw p.0 (q.if_still (sym as-was ∙ e))), (λ e. rw p.0 (q.if_not (sym as-was ∙ e))))
          go (inr p) =
              let z = p.1 i m.index_fits in
              let was = q.if_not (sym still_1 ∙ z.1) in
              let moved = p.0 in
              ((λ e. omega arith), (λ e. absurd (true≢false (ap is_still (sym z.0) ∙ e))))

      -- whatever leaves now is done in time
      in_time : x.tick + span r ≤ W
      in_time = go (is_still ((tables_2 r c x).stage (slot_at ℓ i))) refl
        where
          go : (y : Bool) → is_still ((tables_2 r c x).stage (slot_at ℓ i)) ≡ y → x.tick + span r ≤ W
          go true e =
              let now = subst (λ z. Mid (span r) ((tables_2 r c x).start ℓ) (pattern_at c ℓ).edges x.tick i (left r (controller_2 r c x) (slot_at ℓ i)) z) (still_is ((tables_2 r c x).stage (slot_at ℓ i)) e) (mid.mids i m.index_fits) in
              let all = done_all (span r) ((tables_2 r c x).start ℓ) (pattern_at c ℓ).edges i (size c ℓ) m.index_fits in
              let bound = bounds.0 e in
              omega arith
          go false e =
              let u = undone c ℓ (tables_2 r c x).stage i m.index_fits mid.unfinished in
              let now = mid_late (span r) ((tables_2 r c x).start ℓ) (pattern_at c ℓ).edges x.tick u.0 (left r (controller_2 r c x) (slot_at ℓ u.0)) ((tables_2 r c x).stage (slot_at ℓ u.0)) (laws.span_least r.origin) (mid.mids u.0 u.1) u.2 in
              let all = done_all (span r) ((tables_2 r c x).start ℓ) (pattern_at c ℓ).edges u.0 (size c ℓ) u.1 in
              let bound = bounds.1 e in
              let some_vertex : 1 ≤ size c ℓ = (let h = m.index_fits in omega arith) in
              let one : 1 * span r ≤ size c ℓ * span r = mul-le-mul_right (span r) some_vertex in
              omega arith

      pub queued_tick : (noted ≡ []) × (Queued d s b k ℓ i R W (ticked r.meaning c x) ⊎ Flying r d s W (ticked r.meaning c x))
      unfolding notices ticked after_tick after_events controller_after departures vertex_at
      queued_tick = (silent_notes d s c x.tick (step_events r.meaning x.controller) x.tables q.silent, go (waits_departed d s b k (departing r c x) (departing_apart r laws c sound x inv) q.older (tables_2 r c x) (silent_2 (silent_all d s c x.tick (step_events r.meaning x.controller) x.tables q.silent)) (subst (Waits b k s q.older) (sym queue_2) q.waits)))
        where
          start_3 : (through departed (departing r c x) (tables_2 r c x)).start ℓ ≡ (tables_2 r c x).start ℓ
          start_3 = ap (λ f. f ℓ) (departed_start (departing r c x) (tables_2 r c x))

          flies_not : (y : Stage) → is_flying y ≡ true → is_still y ≡ true → ⊥
          flies_not still e f = true≢false (sym e)
          flies_not (flying u v w) e f = true≢false (sym f)
          flies_not (done u) e f = true≢false (sym e)

          on : WaitingOn d s b k q.older (departing r c x) (through departed (departing r c x) (tables_2 r c x)) → (y : Bool) → in_slots (slot_at ℓ i) (departing r c x) ≡ y → Queued d s b k ℓ i R W (ticked r.meaning c x)
          on w true e =
              let near = w.nearer (vertex_at c ℓ i) (left_now e) (slot_is) m.bank_is m.kind_is in
              let was-still = (and_parts (is_still ((tables_2 r c x).stage (slot_at ℓ i))) _ (sym (departing_at r laws c sound x inv room ℓ i m.lane_fits m.index_fits) ∙ e)).0 in
              let bound = bounds.0 was-still in
              let same : q.older ≡ suc near.0 = near.1 in
              let shorter : (tables_2 r c x).start ℓ + suc (suc near.0) * R ≤ W = subst (λ j. (tables_2 r c x).start ℓ + suc j * R ≤ W) same bound in
              record { older = near.0; silent = w.silent; waits = near.2; if_still = λ f. absurd (flies_not _ (departed_in (slot_at ℓ i) (departing r c x) (tables_2 r c x) (inl e)) f); if_not = λ f. rw start_3 shorter }
            where
              slot_is : domain_of (vertex_at c ℓ i).slot ≡ d
              slot_is = m.domain_is

              left_now : in_slots (slot_at ℓ i) (departing r c x) ≡ true → In (vertex_at c ℓ i) (departing r c x)
              left_now e = in_leaving x.tick (tables_2 r c x) (vertex_at c ℓ i) (vertices c) (in_vertices c ℓ (vertex_at c ℓ i) m.lane_fits (in_lane c ℓ i m.index_fits))
                  (sym (leaving_in x.tick (tables_2 r c x) (vertex_at c ℓ i) (vertices c) (apart_vertices c sound) (in_vertices c ℓ (vertex_at c ℓ i) m.lane_fits (in_lane c ℓ i m.index_fits))) ∙ e)
          on w false e =
              let same = departed_out (slot_at ℓ i) (departing r c x) (tables_2 r c x) e in
              record { older = q.older; silent = w.silent; waits = w.waits; if_still = λ f. rw start_3 (bounds.0 (ap is_still (sym same) ∙ f)); if_not = λ f. rw start_3 (bounds.1 (ap is_still (sym same) ∙ f)) }

          go : Left d s (departing r c x) (through departed (departing r c x) (tables_2 r c x)) ⊎ WaitingOn d s b k q.older (departing r c x) (through departed (departing r c x) (tables_2 r c x)) → Queued d s b k ℓ i R W (ticked r.meaning c x) ⊎ Flying r d s W (ticked r.meaning c x)
          go (inl a) = let spanned = (taking r laws c sound x inv room).spanned a.slot a.left_now in
              inr (record { slot = a.slot; only = a.only; absent = a.absent; sure = (let k = spanned.1 in omega (arith, in_time)); left_some = spanned.0 })
          go (inr w) = inl (on w (in_slots (slot_at ℓ i) (departing r c x)) refl)
