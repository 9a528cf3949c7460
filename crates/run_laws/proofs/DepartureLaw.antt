-- In every run every vertex leaves when its edges say.
use Rattle.std.proofs.Common.{◌≡◌, ℕ, suc, ◌+◌, ◌<◌, ◌≤◌, Bool, true, false, cond, ◌&&◌, eqb, List, [], ◌∷◌, ◌++◌, map, length, None, Option, sym, refl, ap, ◌∙◌, subst, inl, arith}
use mathlib.Core.Path.{fun_ext}
use Rattle.std.proofs.lemmas.List.{append-nil, append_assoc}
use Rattle.std.specs.List.{AllByRecursion}
use Rattle.interface.proofs.Bools.{eqb_comm}
use Rattle.interface.specs.Lawful.{Lawful}
use Rattle.interface.specs.Meaning.{Meaning}
use Rattle.interface.specs.declared.Kind.{Kind}
use Rattle.patterns.specs.Due.{round_end, next_start, longest_round}
use Rattle.patterns.specs.declared.edge.Edge.{Edge}
use Rattle.model.specs.Calls.{Call, sets, begins, submit, ticks, good, Running, setting, running, settled, setting_refusal, started, slot_in_turn, submit_refusal, enqueued, taken_open, submitted, submit_lines, tick_refusal, ticked, submit_outcome, tick_outcome, outcome}
use Rattle.model.specs.Settings.{Role, unset, opened, protected, Settings, role_of, pattern_at, lane_vertices}
use Rattle.model.specs.Ticks.{Stage, flying, done_tick, is_still, is_due, lane_end, finished, renewed, written, event_line, take_line, completed, departed, through, step_events, after_tick, controller_after, taken_all, lines}
use Rattle.model.specs.declared.Letter.TheVariants as letter
use Rattle.model.specs.declared.Line.{Line}
use Rattle.model.specs.Payloads.{real}
use Rattle.run_laws.specs.Departures.{is_T, is_D, line_ticks, takes_of, dones_of, Departs}
use Rattle.run_laws.specs.Laws.{DepartureLawOf}
use Rattle.run_laws.specs.Runs.{Entry, trace, run, set_by, settings, made_from, tick_count, strike, bus_record}
use Rattle.run_laws.proofs.Always.{Good, good_step, started_good, new_fits}
use Rattle.run_laws.proofs.Deadlines.{done_all, fine_late}
use Rattle.run_laws.proofs.Departures.{is_flying, size, departed_start, departed_in, departed_out}
use Rattle.run_laws.proofs.Holding.{Controller, span, places, left, finishes, in_slots}
use Rattle.run_laws.proofs.Invariant.{slot_at, tables_1, tables_2, controller_2, departing, pass, at_1, held_1, at_2, start_2, flies_2, end_now, end_in_round, departing_apart, departing_at, taking, slot_closed}
use Rattle.run_laws.proofs.LaneRounds as lane
use Rattle.run_laws.proofs.LaneRounds.{maybe, LaneAt, lane_same, departs}
use Rattle.run_laws.proofs.Lanes.{lane_end_is, due_is, last_done}
use Rattle.run_laws.proofs.Progress.{undone}
use Rattle.run_laws.proofs.Room.{room_for_tick}
use Rattle.run_laws.proofs.SlotLines.{ticks_append, struck_append, events_T, events_D, departs_T, departs_D}
use Rattle.run_laws.proofs.Sound.{Sound, pattern_small}
use Rattle.run_laws.proofs.Steps.{by_refusal_eq, made_by, made_running}
use Rattle.run_laws.proofs.Submits.{open_left, elsewhere, low_bank, free_slot}

module _ (r : Controller) (laws : Lawful r.meaning) (c : Settings) (sound : Sound c) where
  order : (ℓ : ℕ) → AllByRecursion (λ (e : Edge). e.source < e.target) (pattern_at c ℓ).edges
  order ℓ = (pattern_small c ℓ sound).order

  -- every lane agrees with the lines so far
  abbrev Agrees : Running → List Line → Type 0
  Agrees x ls = (ℓ : ℕ) → ℓ < 64 → LaneAt c.first (span r) (pattern_at c ℓ) (order ℓ) x.tick x.tick (x.tables.start ℓ)
      (λ i. x.tables.stage (slot_at ℓ i)) (λ i. left r x.controller (slot_at ℓ i)) (takes_of ls ℓ) (dones_of ls ℓ)

  end_is : (s : ℕ → Stage) (ℓ : ℕ) → round_end (λ u. done_tick (s (slot_at ℓ u))) (size c ℓ) ≡ last_done s (lane_vertices c ℓ)
  unfolding lane_end
  end_is s ℓ = lane_end_is c s ℓ

  -- ---- a tick

  module _ (x : Running) (ls : List Line) (g : Good r laws (running c x)) (agrees : Agrees x ls) (ℓ : ℕ) (hℓ : ℓ < 64) where
    room : length (r.meaning.held (controller_2 r c x)) + length (departing r c x) ≤ places r
    room = room_for_tick r laws c sound x g.1 g.0.fit g.2

    abbrev fin : ℕ → Bool
    fin i = finishes (slot_at ℓ i) (step_events r.meaning x.controller)

    abbrev left_2 : ℕ → ℕ
    left_2 i = left r (controller_2 r c x) (slot_at ℓ i)

    abbrev dones_2 : ℕ → List ℕ
    dones_2 i = dones_of ls ℓ i ++ maybe (fin i && is_flying (x.tables.stage (slot_at ℓ i))) x.tick

    falls : (i : ℕ) → i < size c ℓ → is_flying (x.tables.stage (slot_at ℓ i)) ≡ true → fin i ≡ false → (left_2 i < left r x.controller (slot_at ℓ i)) × (1 ≤ left_2 i)
    falls i h f e =
        let holding = g.1.held_is (slot_at ℓ i) ∙ f in
        ((pass r laws c sound x g.1).falls (slot_at ℓ i) holding e, (pass r laws c sound x g.1).lasts (slot_at ℓ i) holding e)

    lane_1 : LaneAt c.first (span r) (pattern_at c ℓ) (order ℓ) (suc x.tick) x.tick (x.tables.start ℓ) (λ i. (tables_1 r c x).stage (slot_at ℓ i)) left_2 (takes_of ls ℓ) dones_2
    lane_1 = lane_same c.first (span r) (pattern_at c ℓ) (order ℓ) (suc x.tick) x.tick (x.tables.start ℓ) _ (λ i. (tables_1 r c x).stage (slot_at ℓ i)) left_2 left_2 (takes_of ls ℓ) (takes_of ls ℓ) dones_2
        (λ i h. at_1 r laws c sound x g.1 (slot_at ℓ i) ∙ ap (λ o. cond (fin i) (finished o x.tick (x.tables.stage (slot_at ℓ i))) (x.tables.stage (slot_at ℓ i))) (slot_closed r laws c sound ℓ i h))
        (λ i h f. refl) (λ i h. refl)
        (lane.after_events c.first (span r) (pattern_at c ℓ) (order ℓ) x.tick (x.tables.start ℓ) (λ i. x.tables.stage (slot_at ℓ i)) (λ i. left r x.controller (slot_at ℓ i)) (takes_of ls ℓ) (dones_of ls ℓ) (agrees ℓ hℓ) fin left_2 falls)

    abbrev ended : Option ℕ
    ended = round_end (λ u. done_tick ((tables_1 r c x).stage (slot_at ℓ u))) (size c ℓ)

    ended_is : ended ≡ last_done (tables_1 r c x).stage (lane_vertices c ℓ)
    ended_is = end_is (tables_1 r c x).stage ℓ

    renewed_lane : LaneAt c.first (span r) (pattern_at c ℓ) (order ℓ) (suc x.tick) x.tick (next_start (pattern_at c ℓ).rest ended (x.tables.start ℓ)) (λ i. renewed ended ((tables_1 r c x).stage (slot_at ℓ i))) left_2 (takes_of ls ℓ) dones_2
    renewed_lane = lane.after_rounds c.first (span r) (pattern_at c ℓ) (order ℓ) (suc x.tick) x.tick (x.tables.start ℓ) (λ i. (tables_1 r c x).stage (slot_at ℓ i)) left_2 (takes_of ls ℓ) dones_2 lane_1
        (λ m e. end_now r laws c sound x g.1 ℓ hℓ m (sym ended_is ∙ e))
        (λ m e. let k = end_in_round r laws c sound x g.1 ℓ hℓ m (sym ended_is ∙ e) in omega arith)
        ended refl

    start_at_2 : (tables_2 r c x).start ℓ ≡ next_start (pattern_at c ℓ).rest ended (x.tables.start ℓ)
    start_at_2 = start_2 r laws c sound x g.1 ℓ ∙ ap (λ o. next_start (pattern_at c ℓ).rest o (x.tables.start ℓ)) (sym ended_is)

    lane_2 : LaneAt c.first (span r) (pattern_at c ℓ) (order ℓ) (suc x.tick) x.tick ((tables_2 r c x).start ℓ) (λ i. (tables_2 r c x).stage (slot_at ℓ i)) left_2 (takes_of ls ℓ) dones_2
    lane_2 = subst (λ s. LaneAt c.first (span r) (pattern_at c ℓ) (order ℓ) (suc x.tick) x.tick s (λ i. (tables_2 r c x).stage (slot_at ℓ i)) left_2 (takes_of ls ℓ) dones_2) (sym start_at_2)
        (lane_same c.first (span r) (pattern_at c ℓ) (order ℓ) (suc x.tick) x.tick (next_start (pattern_at c ℓ).rest ended (x.tables.start ℓ)) (λ i. renewed ended ((tables_1 r c x).stage (slot_at ℓ i))) (λ i. (tables_2 r c x).stage (slot_at ℓ i)) left_2 left_2 (takes_of ls ℓ) (takes_of ls ℓ) dones_2
        (λ i h. at_2 r laws c sound x g.1 ℓ i h ∙ ap (λ o. renewed o ((tables_1 r c x).stage (slot_at ℓ i))) (sym ended_is))
        (λ i h f. refl) (λ i h. refl) renewed_lane)

    abbrev goes : ℕ → Bool
    goes i = in_slots (slot_at ℓ i) (departing r c x)

    abbrev takes_4 : ℕ → List ℕ
    takes_4 i = takes_of ls ℓ i ++ maybe (goes i) x.tick

    lane_3 : LaneAt c.first (span r) (pattern_at c ℓ) (order ℓ) (suc x.tick) (suc x.tick) ((ticked r.meaning c x).tables.start ℓ) (λ i. (ticked r.meaning c x).tables.stage (slot_at ℓ i)) (λ i. left r (ticked r.meaning c x).controller (slot_at ℓ i)) takes_4 dones_2
    unfolding ticked after_tick controller_after
    lane_3 = subst (λ s. LaneAt c.first (span r) (pattern_at c ℓ) (order ℓ) (suc x.tick) (suc x.tick) s (λ i. (through departed (departing r c x) (tables_2 r c x)).stage (slot_at ℓ i)) (λ i. left r (taken_all r.meaning (departing r c x) (controller_2 r c x)) (slot_at ℓ i)) takes_4 dones_2) (sym (ap (λ f. f ℓ) (departed_start (departing r c x) (tables_2 r c x))))
        (lane.after_departures c.first (span r) (pattern_at c ℓ) (order ℓ) x.tick ((tables_2 r c x).start ℓ) (λ i. (tables_2 r c x).stage (slot_at ℓ i)) left_2 (takes_of ls ℓ) dones_2 lane_2
        goes (λ i h. departing_at r laws c sound x g.1 room ℓ i hℓ h ∙ ap (λ o. is_still ((tables_2 r c x).stage (slot_at ℓ i)) && is_due x.tick o) (sym (due_is ((tables_2 r c x).start ℓ) (tables_2 r c x).stage ℓ i (pattern_at c ℓ).edges)))
        (λ i. (through departed (departing r c x) (tables_2 r c x)).stage (slot_at ℓ i))
        (λ i e. departed_in (slot_at ℓ i) (departing r c x) (tables_2 r c x) (inl e))
        (λ i e. departed_out (slot_at ℓ i) (departing r c x) (tables_2 r c x) e)
        (λ i. left r (taken_all r.meaning (departing r c x) (controller_2 r c x)) (slot_at ℓ i))
        (λ i e. (taking r laws c sound x g.1 room).spanned (slot_at ℓ i) e)
        (λ i h f. (taking r laws c sound x g.1 room).lefts (slot_at ℓ i) (held_1 r laws c sound x g.1 (slot_at ℓ i) ∙ sym (flies_2 r laws c sound x g.1 (slot_at ℓ i)) ∙ f)))

    abbrev written_now : List Line
    written_now = map strike (lines r.meaning c x.tick x.controller x.tables)

    takes_now : (i : ℕ) → takes_of (ls ++ written_now) ℓ i ≡ takes_4 i
    unfolding lines
    takes_now i = ticks_append is_T (slot_at ℓ i) ls written_now
        ∙ ap (λ z. takes_of ls ℓ i ++ z) (struck_append is_T (slot_at ℓ i) (written (event_line x.tick) (completed c x.tick) (step_events r.meaning x.controller) x.tables) (written (take_line x.tick) departed (departing r c x) (tables_2 r c x))
        ∙ ap (λ z. z ++ line_ticks is_T (slot_at ℓ i) (map strike (written (take_line x.tick) departed (departing r c x) (tables_2 r c x)))) (events_T c (slot_at ℓ i) x.tick (step_events r.meaning x.controller) x.tables)
        ∙ departs_T (slot_at ℓ i) x.tick (departing r c x) (tables_2 r c x) (departing_apart r laws c sound x g.1))

    dones_now : (i : ℕ) → dones_of (ls ++ written_now) ℓ i ≡ dones_2 i
    unfolding lines
    dones_now i = ticks_append is_D (slot_at ℓ i) ls written_now
        ∙ ap (λ z. dones_of ls ℓ i ++ z) (struck_append is_D (slot_at ℓ i) (written (event_line x.tick) (completed c x.tick) (step_events r.meaning x.controller) x.tables) (written (take_line x.tick) departed (departing r c x) (tables_2 r c x))
        ∙ ap (λ z. line_ticks is_D (slot_at ℓ i) (map strike (written (event_line x.tick) (completed c x.tick) (step_events r.meaning x.controller) x.tables)) ++ z) (departs_D (slot_at ℓ i) x.tick (departing r c x) (tables_2 r c x))
        ∙ append-nil _
        ∙ events_D c (slot_at ℓ i) x.tick (step_events r.meaning x.controller) x.tables)

    tick_agrees : LaneAt c.first (span r) (pattern_at c ℓ) (order ℓ) (suc x.tick) (suc x.tick) ((ticked r.meaning c x).tables.start ℓ) (λ i. (ticked r.meaning c x).tables.stage (slot_at ℓ i)) (λ i. left r (ticked r.meaning c x).controller (slot_at ℓ i)) (takes_of (ls ++ written_now) ℓ) (dones_of (ls ++ written_now) ℓ)
    tick_agrees = subst (λ tk. LaneAt c.first (span r) (pattern_at c ℓ) (order ℓ) (suc x.tick) (suc x.tick) ((ticked r.meaning c x).tables.start ℓ) (λ i. (ticked r.meaning c x).tables.stage (slot_at ℓ i)) (λ i. left r (ticked r.meaning c x).controller (slot_at ℓ i)) tk (dones_of (ls ++ written_now) ℓ)) (sym (fun_ext takes_now))
        (subst (λ dn. LaneAt c.first (span r) (pattern_at c ℓ) (order ℓ) (suc x.tick) (suc x.tick) ((ticked r.meaning c x).tables.start ℓ) (λ i. (ticked r.meaning c x).tables.stage (slot_at ℓ i)) (λ i. left r (ticked r.meaning c x).controller (slot_at ℓ i)) takes_4 dn) (sym (fun_ext dones_now)) lane_3)

  -- ---- a submit

  module _ (x : Running) (ls : List Line) (g : Good r laws (running c x)) (agrees : Agrees x ls) (d b : ℕ) (k : Kind) (row : ℕ) (ok : submit_refusal c x d b k row ≡ None) where
    no_lines : (y : Running) → Agrees y ls → Agrees y (ls ++ [])
    no_lines y a = subst (Agrees y) (sym (append-nil ls)) a

    open_agrees : (share : ℕ) → role_of c d ≡ opened share → Agrees (submitted r.meaning x d b k row (opened share)) (ls ++ map strike (submit_lines x d b k row (opened share)))
    unfolding submitted taken_open submit_lines
    open_agrees share is ℓ hℓ = subst (λ dn. LaneAt c.first (span r) (pattern_at c ℓ) (order ℓ) x.tick x.tick (x.tables.start ℓ) (λ i. (submitted r.meaning x d b k row (opened share)).tables.stage (slot_at ℓ i)) (λ i. left r (submitted r.meaning x d b k row (opened share)).controller (slot_at ℓ i)) (takes_of (ls ++ one) ℓ) dn) (sym (fun_ext same_dones))
        (lane_same c.first (span r) (pattern_at c ℓ) (order ℓ) x.tick x.tick (x.tables.start ℓ) (λ i. x.tables.stage (slot_at ℓ i)) (λ i. (submitted r.meaning x d b k row (opened share)).tables.stage (slot_at ℓ i)) (λ i. left r x.controller (slot_at ℓ i)) (λ i. left r (submitted r.meaning x d b k row (opened share)).controller (slot_at ℓ i)) (takes_of ls ℓ) (takes_of (ls ++ one) ℓ) (dones_of ls ℓ)
        (λ i h. ap (λ t. cond t (flying b k (real row (x.serial d))) (x.tables.stage (slot_at ℓ i))) (apart i h))
        (λ i h f. open_left r laws c sound g.0.eight g.0.fit x d b k row share g.1 g.2 is low free (slot_at ℓ i) f)
        same_takes (agrees ℓ hℓ))
      where
        one : List Line
        one = map strike (submit_lines x d b k row (opened share))

        low : b ≤ 7
        low = low_bank r laws c sound g.0.eight g.0.fit x d b k row ok g.1 g.2

        free : is_still (x.tables.stage (slot_in_turn d share (x.serial d))) ≡ true
        free = free_slot r laws c sound g.0.eight g.0.fit x d b k row ok g.1 g.2 share is

        apart : (i : ℕ) → i < size c ℓ → eqb (slot_at ℓ i) (slot_in_turn d share (x.serial d)) ≡ false
        apart i h = elsewhere r laws c sound g.0.eight g.0.fit x d b k row share g.1 g.2 is low free ℓ i h

        same_takes : (i : ℕ) → i < size c ℓ → takes_of (ls ++ map strike (submit_lines x d b k row (opened share))) ℓ i ≡ takes_of ls ℓ i
        same_takes i h = ticks_append is_T (slot_at ℓ i) ls (map strike (submit_lines x d b k row (opened share)))
            ∙ ap (λ t. takes_of ls ℓ i ++ map (λ (l : Line). l.tick) (cond t (strike (record { letter = letter.T; tick = x.tick; domain = d; slot = slot_in_turn d share (x.serial d); bank = b; kind = k; row = row }) ∷ []) [])) (eqb_comm (slot_in_turn d share (x.serial d)) (slot_at ℓ i) ∙ apart i h)
            ∙ append-nil (takes_of ls ℓ i)

        same_dones : (i : ℕ) → dones_of (ls ++ map strike (submit_lines x d b k row (opened share))) ℓ i ≡ dones_of ls ℓ i
        same_dones i = ticks_append is_D (slot_at ℓ i) ls (map strike (submit_lines x d b k row (opened share))) ∙ append-nil (dones_of ls ℓ i)

    submit_agrees : (q : Role) → role_of c d ≡ q → Agrees (submitted r.meaning x d b k row q) (ls ++ map strike (submit_lines x d b k row q))
    unfolding submitted submit_lines enqueued
    submit_agrees unset is = no_lines x agrees
    submit_agrees (opened share) is = open_agrees share is
    submit_agrees (protected ps) is = no_lines (enqueued x d b k row) agrees

  submit_tick : (x : Running) (d b : ℕ) (k : Kind) (row : ℕ) (q : Role) → (submitted r.meaning x d b k row q).tick ≡ x.tick
  unfolding submitted taken_open enqueued
  submit_tick x d b k row unset = refl
  submit_tick x d b k row (opened share) = refl
  submit_tick x d b k row (protected ps) = refl

  -- ---- a run

  -- after the lines ls, from tick n on
  abbrev LawFrom : ℕ → List Line → List Entry → Type 0
  LawFrom n ls es = (ℓ i q : ℕ) → ℓ < 64 → i < size c ℓ
      → Departs c.first (n + tick_count es) (span r) (pattern_at c ℓ) (takes_of (ls ++ bus_record es) ℓ) (dones_of (ls ++ bus_record es) ℓ) i q

  move : (n m : ℕ) (ks ls : List Line) → n ≡ m → ks ≡ ls → (ℓ i q : ℕ) → Departs c.first n (span r) (pattern_at c ℓ) (takes_of ks ℓ) (dones_of ks ℓ) i q → Departs c.first m (span r) (pattern_at c ℓ) (takes_of ls ℓ) (dones_of ls ℓ) i q
  move n m ks ls e f ℓ i q h = subst (λ z. Departs c.first m (span r) (pattern_at c ℓ) (takes_of z ℓ) (dones_of z ℓ) i q) f (subst (λ z. Departs c.first z (span r) (pattern_at c ℓ) (takes_of ks ℓ) (dones_of ks ℓ) i q) e h)

  law_now : (x : Running) (ls : List Line) → Good r laws (running c x) → Agrees x ls → LawFrom x.tick ls []
  law_now x ls g agrees ℓ i q hℓ h = move x.tick (x.tick + 0) ls (ls ++ []) (omega arith) (sym (append-nil ls)) ℓ i q
      (departs c.first (span r) (pattern_at c ℓ) (order ℓ) x.tick (x.tables.start ℓ) (λ i. x.tables.stage (slot_at ℓ i)) (λ i. left r x.controller (slot_at ℓ i)) (takes_of ls ℓ) (dones_of ls ℓ) (agrees ℓ hℓ)
      (end_is x.tables.stage ℓ ∙ g.1.unfinished ℓ hℓ) early i q h)
    where
      early : x.tick ≤ x.tables.start ℓ + longest_round (span r) (size c ℓ) (pattern_at c ℓ).edges (pattern_at c ℓ).rest
      early =
          let u = undone c ℓ x.tables.stage i h (g.1.unfinished ℓ hℓ) in
          let a = fine_late (span r) (x.tables.start ℓ) (pattern_at c ℓ).edges x.tick u.0 (left r x.controller (slot_at ℓ u.0)) (x.tables.stage (slot_at ℓ u.0)) (g.1.lanes ℓ hℓ u.0 u.1) u.2 in
          let b = done_all (span r) (x.tables.start ℓ) (pattern_at c ℓ).edges u.0 (size c ℓ) u.1 in
          omega arith

  later : (x : Running) (m : ℕ) → (ticked r.meaning c x).tick + m ≡ x.tick + suc m
  unfolding ticked
  later x m = omega arith

  ticked_agrees : (x : Running) (ls : List Line) → Good r laws (running c x) → Agrees x ls → Agrees (ticked r.meaning c x) (ls ++ map strike (lines r.meaning c x.tick x.controller x.tables))
  unfolding ticked
  ticked_agrees x ls g a = tick_agrees x ls g a

  law_run : (cs : List Call) (x : Running) (ls : List Line) → Good r laws (running c x) → Agrees x ls → LawFrom x.tick ls (trace r.meaning (running c x) cs)
  unfolding trace outcome
  law_run [] x ls g a = law_now x ls g a
  law_run (sets z ∷ cs) x ls g a = law_run cs x ls g a
  law_run (begins ∷ cs) x ls g a = law_run cs x ls g a
  law_run (submit d b k row ∷ cs) x ls g a =
      by_refusal_eq (λ u. Good r laws u.after → LawFrom x.tick ls (record { tick = x.tick; call = submit d b k row; reply = u.reply; bus = u.bus } ∷ trace r.meaning u.after cs)) (submit_refusal c x d b k row) (running c x) (submit_outcome r.meaning c x d b k row)
      (λ j g'. law_run cs x ls g a)
      (λ ok g' ℓ i q hℓ h. move _ _ _ _ (ap (λ z. z + tick_count (trace r.meaning (running c (submitted r.meaning x d b k row (role_of c d))) cs)) (submit_tick x d b k row (role_of c d)))
      (append_assoc ls (map strike (submit_lines x d b k row (role_of c d))) (bus_record (trace r.meaning (running c (submitted r.meaning x d b k row (role_of c d))) cs))) ℓ i q
      (law_run cs (submitted r.meaning x d b k row (role_of c d)) (ls ++ map strike (submit_lines x d b k row (role_of c d))) g' (submit_agrees x ls g a d b k row ok (role_of c d) refl) ℓ i q hℓ h))
      (good_step r laws (running c x) (submit d b k row) g)
  law_run (ticks l n ∷ cs) x ls g a =
      by_refusal_eq (λ u. Good r laws u.after → LawFrom x.tick ls (record { tick = x.tick; call = ticks l n; reply = u.reply; bus = u.bus } ∷ trace r.meaning u.after cs)) (tick_refusal x l n) (running c x) (tick_outcome r.meaning c x)
      (λ j g'. law_run cs x ls g a)
      (λ ok g' ℓ i q hℓ h. move _ _ _ _ (later x (tick_count (trace r.meaning (running c (ticked r.meaning c x)) cs)))
      (append_assoc ls (map strike (lines r.meaning c x.tick x.controller x.tables)) (bus_record (trace r.meaning (running c (ticked r.meaning c x)) cs))) ℓ i q
      (law_run cs (ticked r.meaning c x) (ls ++ map strike (lines r.meaning c x.tick x.controller x.tables)) g' (ticked_agrees x ls g a) ℓ i q hℓ h))
      (good_step r laws (running c x) (ticks l n) g)

  started_agrees : (s : List ℕ) → Agrees (started c s) []
  unfolding started
  started_agrees s ℓ hℓ = lane.begins c.first (span r) (pattern_at c ℓ) (order ℓ) (λ i. left r s (slot_at ℓ i))

-- ---- from the first call on

module _ (r : Controller) (laws : Lawful r.meaning) where
  abbrev LawOf : Settings → List Entry → Type 0
  LawOf c es = (ℓ i q : ℕ) → ℓ < 64 → i < size c ℓ
      → Departs c.first (c.first + tick_count es) (span r) (pattern_at c ℓ) (takes_of (bus_record es) ℓ) (dones_of (bus_record es) ℓ) i q

  law_begun : (cs : List Call) (c : Settings) (s : List ℕ) → Good r laws (setting c s) → LawOf c (trace r.meaning (running c (started c s)) cs)
  unfolding started
  law_begun cs c s g = law_run r laws c g.0.sound cs (started c s) [] (started_good r laws c s g) (started_agrees r laws c g.0.sound s)

  law_set : (cs : List Call) (c : Settings) (s : List ℕ) → Good r laws (setting c s) → LawOf (made_by r.meaning (setting c s) cs) (trace r.meaning (setting c s) cs)
  unfolding trace outcome made_from
  law_set [] c s g = law_begun [] c s g
  law_set (sets z ∷ cs) c s g =
      by_refusal_eq (λ u. Good r laws u.after → LawOf (made_from c (set_by (sets z) u.reply ++ settings (trace r.meaning u.after cs))) (record { tick = c.first; call = sets z; reply = u.reply; bus = u.bus } ∷ trace r.meaning u.after cs)) (setting_refusal (r.meaning.places s) c z) (setting c s) (record { after = setting (settled c z) s; reply = good; bus = [] })
      (λ k g'. law_set cs c s g) (λ ok g'. law_set cs (settled c z) s g') (good_step r laws (setting c s) (sets z) g)
  law_set (begins ∷ cs) c s g = subst (λ z. LawOf z (trace r.meaning (running c (started c s)) cs)) (sym (made_running r.meaning c (started c s) cs)) (law_begun cs c s g)
  law_set (submit d b k row ∷ cs) c s g = law_set cs c s g
  law_set (ticks l n ∷ cs) c s g = law_set cs c s g

pub departure_law : (m : Meaning (List ℕ)) → Lawful m → DepartureLawOf m
unfolding run
departure_law m laws b cs ℓ i q hℓ h = law_set r laws cs _ (m.start b) (new_fits r laws, refl) ℓ i q hℓ h
  where
    r : Controller
    r = record { meaning = m; origin = b }
