-- What holds of every scheduler that calls lead to.
use Rattle.std.proofs.Common.{◌≡◌, ℕ, zero, suc, ◌*◌, ◌≤◌, Bool, true, false, cond, not, ◌||◌, eqb, ltb, List, [], ◌∷◌, ◌++◌, length, get_or, None, sym, refl, ap, ◌∙◌, subst, arith}
use Rattle.std.proofs.lemmas.List.{length-set}
use Rattle.std.proofs.lemmas.Bool.{eqb-true, true≢false, ltb-false, and_parts}
use Rattle.std.specs.List.{AllByRecursion}
use Rattle.interface.specs.Lawful.{Lawful}
use Rattle.interface.specs.declared.Kind.{Kind}
use Rattle.model.specs.Calls.{too_many, good, Call, Running, Setting, State, begins, enqueued, first, lane, opens, outcome, running, sets, setting, setting_refusal, settled, started, submit, submit_outcome, submit_refusal, submitted, taken_open, tick_outcome, tick_refusal, ticked, ticks}
use Rattle.model.specs.Settings.{blank, Role, Settings, Vertex, all_slots, domain_of, is_open, lane_vertices, open_slots, opened, pattern_at, patterns_of, protected, role_of, share_of, slots_from, slots_of, unset, vertices, vertices_below, vertices_from}
use Rattle.model.specs.Ticks.{after_tick, done_tick, put, step_events, still}
use Rattle.run_laws.specs.Runs.{state_after}
use Rattle.run_laws.proofs.Departures.{is_flying, departed_out}
use Rattle.run_laws.proofs.Holding.{in_slots, finishes, holds, Controller, places, Reached, by_start, same_places}
use Rattle.run_laws.proofs.Invariant.{Inv, kept, last_none, tables_2, departing, at_1, flies_2, flying_finished}
use Rattle.run_laws.proofs.Room.{Within, has, departing_has, room_for_tick}
use Rattle.run_laws.proofs.Sound.{shape_fine, Sound, settled_sound, new_sound, check_none}
use Rattle.run_laws.proofs.Steps.{by_refusal, by_refusal_eq, settings_at}
use Rattle.run_laws.proofs.Submits.{submit_keeps}

pub record Fits (r : Controller) (c : Settings) : Type 0 where
  pub sound : Sound c
  pub eight : length c.roles ≡ 8
  pub fit : length (all_slots c) ≤ places r

below_same : (n m : ℕ) (ps : List Role) (k : ℕ) → vertices_below (record { first = n; roles = ps }) k ≡ vertices_below (record { first = m; roles = ps }) k
unfolding vertices_below lane_vertices pattern_at
below_same n m ps zero = refl
below_same n m ps (suc k) = ap (λ z. z ++ lane_vertices (record { first = n; roles = ps }) k) (below_same n m ps k)

open_same : (n m : ℕ) (ps : List Role) (k : ℕ) → open_slots (record { first = n; roles = ps }) k ≡ open_slots (record { first = m; roles = ps }) k
unfolding open_slots
open_same n m ps zero = refl
open_same n m ps (suc k) = ap (λ z. z ++ slots_from (k * 64) (share_of (get_or ps k unset))) (open_same n m ps k)

all_same : (n m : ℕ) (ps : List Role) → all_slots (record { first = n; roles = ps }) ≡ all_slots (record { first = m; roles = ps })
unfolding all_slots vertices
all_same n m ps = ap (λ z. slots_of z ++ open_slots (record { first = n; roles = ps }) 8) (below_same n m ps 64) ∙ ap (λ z. slots_of (vertices_below (record { first = m; roles = ps }) 64) ++ z) (open_same n m ps 8)

pub put_grows : (x : Running) (e d : ℕ) → x.serial d ≤ put x.serial e (suc (x.serial e)) d
put_grows x e d = go (eqb d e) refl
  where
    go : (y : Bool) → eqb d e ≡ y → x.serial d ≤ cond y (suc (x.serial e)) (x.serial d)
    go true z = let same : x.serial d ≡ x.serial e = ap x.serial (eqb-true d e z) in omega arith
    go false z = omega arith

module _ (r : Controller) (laws : Lawful r.meaning) where
  eights : (c : Settings) → length c.roles ≡ 8 → (s : Setting) → length (settled c s).roles ≡ 8
  unfolding settled
  eights c h (opens d n) = length-set c.roles d _ ∙ h
  eights c h (lane d vs es rest) = length-set c.roles d _ ∙ h
  eights c h (first n) = h

  first_fits : (c : Settings) (n : ℕ) → length (all_slots c) ≤ places r → length (all_slots (settled c (first n))) ≤ places r
  unfolding settled
  first_fits c n h = subst (λ z. length z ≤ places r) (all_same c.first n c.roles) h

  enough : (c : Settings) → too_many (places r) c ≡ false → length (all_slots c) ≤ places r
  unfolding too_many
  enough c e = ltb-false (places r) (length (all_slots c)) e

  fitting : (c : Settings) → length (all_slots c) ≤ places r → (s : Setting) → setting_refusal (places r) c s ≡ None → length (all_slots (settled c s)) ≤ places r
  unfolding setting_refusal
  fitting c h (opens d n) e =
      let one = (check_none _ 2 _ e).1 in
      let two = (check_none (ltb n 1 || ltb 16 n) 3 _ one).1 in
      enough (settled c (opens d n)) (check_none _ 7 None two).0
  fitting c h (lane d vs es rest) e =
      let one = (check_none _ 2 _ e).1 in
      let two = (check_none (ltb 7 (length (patterns_of (role_of c d)))) 4 _ one).1 in
      enough (settled c (lane d vs es rest)) (check_none _ 7 None (shape_fine vs es rest _ two).1).0
  fitting c h (first n) e = first_fits c n h

  settled_fits : (c : Settings) (s : Setting) → Fits r c → setting_refusal (places r) c s ≡ None → Fits r (settled c s)
  settled_fits c s f e = record { sound = settled_sound (places r) c s f.sound e; eight = eights c f.eight s; fit = fitting c f.fit s e }

  pub new_fits : Fits r blank
  unfolding all_slots vertices vertices_below lane_vertices pattern_at vertices_from open_slots slots_from
  new_fits = record { sound = new_sound; eight = refl; fit = omega arith }

  abbrev pub Good : State → Type 0
  Good (setting c s) = Fits r c × (s ≡ r.meaning.start r.origin)
  Good (running c x) = Fits r c × Inv r c x × Within r laws c x

  pub started_good : (c : Settings) (s : List ℕ) → Good (setting c s) → Good (running c (started c s))
  unfolding started
  started_good c s g = (
    g.0,
    record {
      reached = subst (Reached r) (sym g.1) (by_start r laws);
      quiet = ap r.meaning.ready g.1 ∙ laws.start_ready r.origin;
      held_is = λ t. ap (λ z. holds t (r.meaning.held z)) g.1 ∙ ap (holds t) (laws.start_held r.origin);
      lanes = λ ℓ hℓ i h. omega arith;
      unfinished = λ ℓ hℓ. last_none (λ t. still) (lane_vertices c ℓ) (every (lane_vertices c ℓ));
      starts = λ ℓ hℓ. omega arith;
    },
    λ t e. absurd (true≢false (sym e)),
  )
    where
      every : (vs : List Vertex) → AllByRecursion (λ v. done_tick still ≡ None) vs
      every [] = tt
      every (v ∷ vs) = (refl, every vs)

  pub within_ticked : (c : Settings) → Fits r c → (x : Running) → Inv r c x → Within r laws c x → Within r laws c (ticked r.meaning c x)
  unfolding ticked after_tick
  within_ticked c f x inv win t e = go (in_slots t (departing r c x)) refl
    where
      go : (y : Bool) → in_slots t (departing r c x) ≡ y → has t (all_slots c) ≡ true
      go true z = departing_has r laws c x t z
      go false z = win t (and_parts (is_flying (x.tables.stage t)) (not (finishes t (step_events r.meaning x.controller)))
          (sym (flying_finished (is_open c (domain_of t)) (finishes t (step_events r.meaning x.controller)) x.tick (x.tables.stage t)) ∙ ap is_flying (sym (at_1 r laws c f.sound x inv t)) ∙ sym (flies_2 r laws c f.sound x inv t) ∙ ap is_flying (sym (departed_out t (departing r c x) (tables_2 r c x) z)) ∙ e)).0

  pub good_step : (m : State) (call : Call) → Good m → Good (outcome r.meaning m call).after
  unfolding outcome
  good_step (setting c s) (sets a) g = by_refusal_eq (λ u. Good u.after) (setting_refusal (r.meaning.places s) c a) (setting c s) (record { after = setting (settled c a) s; reply = good; bus = [] }) (λ k. g)
      (λ z. (settled_fits c a g.0 (subst (λ n. setting_refusal n c a ≡ None) (same_places r laws s (subst (Reached r) (sym g.1) (by_start r laws))) z), g.1))
  good_step (setting c s) begins g = started_good c s g
  good_step (setting c s) (submit d b k row) g = g
  good_step (setting c s) (ticks l n) g = g
  good_step (running c x) (sets s) g = g
  good_step (running c x) begins g = g
  good_step (running c x) (submit d b k row) g = by_refusal_eq (λ u. Good u.after) (submit_refusal c x d b k row) (running c x) (submit_outcome r.meaning c x d b k row) (λ k. g)
      (λ z. let y = submit_keeps r laws c g.0.sound g.0.eight g.0.fit x d b k row z g.1 g.2 in (g.0, y.0, y.1))
  good_step (running c x) (ticks l n) g = by_refusal (λ u. Good u.after) (tick_refusal x l n) (running c x) (tick_outcome r.meaning c x) (λ k. g)
      (g.0, kept r laws c g.0.sound x g.1 (room_for_tick r laws c g.0.sound x g.1 g.0.fit g.2), within_ticked c g.0 x g.1 g.2)

  pub good_all : (cs : List Call) (m : State) → Good m → Good (state_after r.meaning m cs)
  unfolding state_after
  good_all [] m g = g
  good_all (c ∷ cs) m g = good_all cs (outcome r.meaning m c).after (good_step m c g)

  -- serials and ticks only grow, and settings stay, once it runs
  abbrev pub serial_of : ℕ → State → ℕ
  serial_of d (setting c s) = 0
  serial_of d (running c x) = x.serial d

  abbrev pub clock : State → ℕ
  clock (setting c s) = 0
  clock (running c x) = x.tick

  submit_serial : (x : Running) (e b : ℕ) (k : Kind) (row : ℕ) (q : Role) (d : ℕ) → (x.serial d ≤ (submitted r.meaning x e b k row q).serial d) × ((submitted r.meaning x e b k row q).tick ≡ x.tick)
  unfolding submitted taken_open enqueued
  submit_serial x e b k row unset d = (omega arith, refl)
  submit_serial x e b k row (opened n) d = (put_grows x e d, refl)
  submit_serial x e b k row (protected ss) d = (put_grows x e d, refl)

  grow_step : (d : ℕ) (m : State) (call : Call) → (serial_of d m ≤ serial_of d (outcome r.meaning m call).after) × (clock m ≤ clock (outcome r.meaning m call).after)
  unfolding outcome ticked
  grow_step d (setting c s) (sets a) = by_refusal (λ u. (0 ≤ serial_of d u.after) × (0 ≤ clock u.after)) (setting_refusal (r.meaning.places s) c a) (setting c s) (record { after = setting (settled c a) s; reply = good; bus = [] }) (λ k. (omega arith, omega arith)) (omega arith, omega arith)
  grow_step d (setting c s) begins = (omega arith, omega arith)
  grow_step d (setting c s) (submit e b k row) = (omega arith, omega arith)
  grow_step d (setting c s) (ticks l n) = (omega arith, omega arith)
  grow_step d (running c x) (sets s) = (omega arith, omega arith)
  grow_step d (running c x) begins = (omega arith, omega arith)
  grow_step d (running c x) (submit e b k row) = by_refusal (λ u. (x.serial d ≤ serial_of d u.after) × (x.tick ≤ clock u.after)) (submit_refusal c x e b k row) (running c x) (submit_outcome r.meaning c x e b k row) (λ k. (omega arith, omega arith)) (let y = submit_serial x e b k row (role_of c e) d in let p = y.0 in let q = y.1 in (omega arith, omega arith))
  grow_step d (running c x) (ticks l n) = by_refusal (λ u. (x.serial d ≤ serial_of d u.after) × (x.tick ≤ clock u.after)) (tick_refusal x l n) (running c x) (tick_outcome r.meaning c x) (λ k. (omega arith, omega arith)) (omega arith, omega arith)

  pub grows : (d : ℕ) (cs : List Call) (m : State) → (serial_of d m ≤ serial_of d (state_after r.meaning m cs)) × (clock m ≤ clock (state_after r.meaning m cs))
  unfolding state_after
  grows d [] m = (omega arith, omega arith)
  grows d (c ∷ cs) m = let a = grow_step d m c in let b = grows d cs (outcome r.meaning m c).after in let a0 = a.0 in let a1 = a.1 in let b0 = b.0 in let b1 = b.1 in (omega arith, omega arith)

  pub stays_set : (cs : List Call) (c : Settings) (x : Running) → settings_at (state_after r.meaning (running c x) cs) ≡ c
  unfolding state_after outcome
  stays_set [] c x = refl
  stays_set (sets s ∷ cs) c x = stays_set cs c x
  stays_set (begins ∷ cs) c x = stays_set cs c x
  stays_set (submit e b k row ∷ cs) c x = by_refusal (λ u. settings_at (state_after r.meaning u.after cs) ≡ c) (submit_refusal c x e b k row) (running c x) (submit_outcome r.meaning c x e b k row) (λ j. stays_set cs c x) (stays_set cs c (submitted r.meaning x e b k row (role_of c e)))
  stays_set (ticks l n ∷ cs) c x = by_refusal (λ u. settings_at (state_after r.meaning u.after cs) ≡ c) (tick_refusal x l n) (running c x) (tick_outcome r.meaning c x) (λ j. stays_set cs c x) (stays_set cs c (ticked r.meaning c x))
