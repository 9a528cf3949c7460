-- All lines of a vertex's slot carry the vertex's domain, bank and kind.
use Rattle.std.proofs.Common.{◌≡◌, ℕ, ◌≤◌, Bool, true, false, cond, eqb, List, [], ◌∷◌, ◌++◌, map, Some, None, Option, sym, refl, ap, ◌∙◌, subst, inl, inr, arith}
use Rattle.std.proofs.ByRecursion.{All-append, All-weaker}
use Rattle.std.proofs.lemmas.List.{map-append}
use Rattle.std.proofs.lemmas.Bool.{eqb-true, eq-eqb, true≢false, or_parts}
use Rattle.std.specs.List.{AllByRecursion}
use Rattle.interface.specs.Meaning.{Meaning}
use Rattle.interface.specs.declared.Event.{Event}
use Rattle.interface.specs.declared.Event.TheVariants.{Issue, Done}
use Rattle.interface.specs.declared.Kind.{Kind}
use Rattle.model.specs.Calls.{Call, sets, begins, submit, ticks, good, Running, setting, running, settled, setting_refusal, started, slot_in_turn, submit_refusal, enqueued, taken_open, submitted, submit_lines, tick_refusal, ticked, submit_outcome, tick_outcome, outcome}
use Rattle.model.specs.Settings.{Role, unset, opened, protected, Settings, blank, Vertex, role_of, is_opened, is_open, domain_of, vertices}
use Rattle.model.specs.Ticks.{Stage, still, flying, done, Tables, through, written, line_of, event_line, finished, completed, lane_end, renewed, rounds, departed, payload_for, take_line, step_events, after_events, after_rounds, departures, after_tick, lines}
use Rattle.model.specs.declared.Letter.{Letter}
use Rattle.model.specs.declared.Letter.TheVariants as letter
use Rattle.model.specs.declared.Line.{Line}
use Rattle.model.specs.Payloads.{real}
use Rattle.run_laws.specs.Laws.{OwnLine, LineLawOf}
use Rattle.run_laws.specs.Runs.{Entry, trace, run, set_by, settings, made_from, strike, bus_record}
use Rattle.run_laws.proofs.Departures.{In, all_in, apart_vertices, in_here, leaving_leave, completed_at}
use Rattle.run_laws.proofs.Holding.{finishes, in_slots, Apart}
use Rattle.run_laws.proofs.Sound.{Sound, Small, role_small, settled_sound, new_sound, closed}
use Rattle.run_laws.proofs.Steps.{by_refusal, by_refusal_eq, made_by, made_running}

-- ---- vertices by their slots

not_here : (t : ℕ) (ws : List Vertex) → in_slots t ws ≡ false → AllByRecursion (λ w. w.slot ≡ t → ⊥) ws
not_here t [] e = tt
not_here t (w ∷ ws) e = let p = or_parts (eqb w.slot t) (in_slots t ws) e in ((λ z. true≢false (sym (eq-eqb w.slot t z) ∙ p.0)), not_here t ws p.1)

module _ (v : Vertex) where
  -- what has the slot of v has its bank and kind
  abbrev Alike : Vertex → Type 0
  Alike w = w.slot ≡ v.slot → (w.bank ≡ v.bank) × (w.kind ≡ v.kind)

  alike_all : (ws : List Vertex) → Apart ws → In v ws → AllByRecursion Alike ws
  alike_all [] a i = tt
  alike_all (w ∷ ws) a (inl e) = ((λ z. (ap (λ u. u.bank) (sym e), ap (λ u. u.kind) (sym e))), All-weaker _ Alike (λ u no z. absurd (no (z ∙ ap (λ u. u.slot) e))) ws (not_here w.slot ws a.0))
  alike_all (w ∷ ws) a (inr i) = ((λ z. absurd (true≢false (sym (in_here v ws i) ∙ ap (λ t. in_slots t ws) (sym z) ∙ a.0))), alike_all ws a.1 i)

  -- ---- stages of the slot

  abbrev FliesAs : Stage → Type 0
  FliesAs still = Unit {0}
  FliesAs (flying b k p) = (b ≡ v.bank) × (k ≡ v.kind)
  FliesAs (done m) = Unit {0}

  as_finished : (o : Bool) (n : ℕ) (x : Stage) → FliesAs (finished o n x)
  as_finished o n still = tt
  as_finished true n (flying b k p) = tt
  as_finished false n (flying b k p) = tt
  as_finished o n (done m) = tt

  as_completed : (t o : Bool) (n : ℕ) (x : Stage) → FliesAs x → FliesAs (cond t (finished o n x) x)
  as_completed true o n x f = as_finished o n x
  as_completed false o n x f = f

  as_renewed : (o : Option ℕ) (x : Stage) → FliesAs x → FliesAs (renewed o x)
  as_renewed None x f = f
  as_renewed (Some m) still f = tt
  as_renewed (Some m) (flying b k p) f = f
  as_renewed (Some m) (done j) f = tt

  own_line : (l : Letter) (n u : ℕ) (x : Stage) → (u ≡ v.slot → FliesAs x) → AllByRecursion (OwnLine v) (map strike (line_of l n u x))
  own_line l n u still f = tt
  own_line l n u (flying b k p) f = ((λ e. (ap domain_of e, (f e).0, (f e).1)), tt)
  own_line l n u (done m) f = tt

  struck_all : (xs ys : List Line) → AllByRecursion (OwnLine v) (map strike xs) → AllByRecursion (OwnLine v) (map strike ys) → AllByRecursion (OwnLine v) (map strike (xs ++ ys))
  struck_all xs ys a b = subst (AllByRecursion (OwnLine v)) (sym (map-append strike xs ys)) (All-append (OwnLine v) (map strike xs) (map strike ys) a b)

  -- ---- a tick

  own_events : (c : Settings) (n : ℕ) (es : List Event) (b : Tables) → FliesAs (b.stage v.slot) → AllByRecursion (OwnLine v) (map strike (written (event_line n) (completed c n) es b))
  unfolding written event_line completed
  own_events c n [] b f = tt
  own_events c n (Issue u ∷ es) b f = struck_all (line_of letter.I n u (b.stage u)) (written (event_line n) (completed c n) es b) (own_line letter.I n u (b.stage u) (λ e. subst (λ t. FliesAs (b.stage t)) (sym e) f)) (own_events c n es b f)
  own_events c n (Done u ∷ es) b f = struck_all (line_of letter.D n u (b.stage u)) (written (event_line n) (completed c n) es (completed c n (Done u) b)) (own_line letter.D n u (b.stage u) (λ e. subst (λ t. FliesAs (b.stage t)) (sym e) f)) (own_events c n es (completed c n (Done u) b) (go (eqb v.slot u)))
    where
      go : (t : Bool) → FliesAs (cond t (finished (is_open c (domain_of u)) n (b.stage u)) (b.stage v.slot))
      go true = as_finished _ n (b.stage u)
      go false = f

  own_departures : (n : ℕ) (ws : List Vertex) (b : Tables) → AllByRecursion Alike ws → FliesAs (b.stage v.slot) → AllByRecursion (OwnLine v) (map strike (written (take_line n) departed ws b)) × FliesAs ((through departed ws b).stage v.slot)
  unfolding written take_line through departed
  own_departures n [] b a f = (tt, f)
  own_departures n (w ∷ ws) b a f = go (own_departures n ws (departed w b) a.1 (next (eqb v.slot w.slot) refl))
    where
      next : (t : Bool) → eqb v.slot w.slot ≡ t → FliesAs (cond t (flying w.bank w.kind (payload_for w b)) (b.stage v.slot))
      next true e = a.0 (sym (eqb-true v.slot w.slot e))
      next false e = f

      go : AllByRecursion (OwnLine v) (map strike (written (take_line n) departed ws (departed w b))) × FliesAs ((through departed ws (departed w b)).stage v.slot)
          → AllByRecursion (OwnLine v) (map strike (line_of letter.T n w.slot (flying w.bank w.kind (payload_for w b)) ++ written (take_line n) departed ws (departed w b))) × FliesAs ((through departed ws (departed w b)).stage v.slot)
      go y = (struck_all (line_of letter.T n w.slot (flying w.bank w.kind (payload_for w b))) (written (take_line n) departed ws (departed w b)) (own_line letter.T n w.slot (flying w.bank w.kind (payload_for w b)) a.0) y.0, y.1)

module _ (m : Meaning (List ℕ)) (c : Settings) (sound : Sound c) (v : Vertex) (inside : In v (vertices c)) where
  middle_of : (n : ℕ) (s : List ℕ) (b : Tables) → FliesAs v (b.stage v.slot) → FliesAs v ((after_rounds m c n s b).stage v.slot)
  unfolding after_rounds rounds after_events
  middle_of n s b f = as_renewed v (lane_end c (through (completed c n) (step_events m s) b).stage _) ((through (completed c n) (step_events m s) b).stage v.slot)
      (subst (FliesAs v) (sym (completed_at c n v.slot (step_events m s) b)) (as_completed v (finishes v.slot (step_events m s)) (is_open c (domain_of v.slot)) n (b.stage v.slot) f))

  own_tick : (n : ℕ) (s : List ℕ) (b : Tables) → FliesAs v (b.stage v.slot) → AllByRecursion (OwnLine v) (map strike (lines m c n s b)) × FliesAs v ((after_tick m c n s b).stage v.slot)
  unfolding lines after_tick departures
  own_tick n s b f = go (own_departures v n (departures m c n s b) (after_rounds m c n s b) alike middle)
    where
      alike : AllByRecursion (Alike v) (departures m c n s b)
      alike = All-weaker _ (Alike v) (λ w h. h.0) (departures m c n s b) (leaving_leave (Alike v) n (after_rounds m c n s b) (vertices c) (alike_all v (vertices c) (apart_vertices c sound) inside))

      middle : FliesAs v ((after_rounds m c n s b).stage v.slot)
      middle = middle_of n s b f

      go : AllByRecursion (OwnLine v) (map strike (written (take_line n) departed (departures m c n s b) (after_rounds m c n s b))) × FliesAs v ((through departed (departures m c n s b) (after_rounds m c n s b)).stage v.slot)
          → AllByRecursion (OwnLine v) (map strike (written (event_line n) (completed c n) (step_events m s) b ++ written (take_line n) departed (departures m c n s b) (after_rounds m c n s b))) × FliesAs v ((through departed (departures m c n s b) (after_rounds m c n s b)).stage v.slot)
      go y = (struck_all v (written (event_line n) (completed c n) (step_events m s) b) (written (take_line n) departed (departures m c n s b) (after_rounds m c n s b)) (own_events v c n (step_events m s) b f) y.0, y.1)

  -- ---- a submit

  own_submit : (x : Running) (d b : ℕ) (k : Kind) (row : ℕ) (q : Role) → role_of c d ≡ q → FliesAs v (x.tables.stage v.slot) → AllByRecursion (OwnLine v) (map strike (submit_lines x d b k row q)) × FliesAs v ((submitted m x d b k row q).tables.stage v.slot)
  unfolding submitted submit_lines taken_open enqueued
  own_submit x d b k row unset is f = (tt, f)
  own_submit x d b k row (opened share) is f = (((λ e. absurd (apart e)), tt), go (eqb v.slot (slot_in_turn d share (x.serial d))) refl)
    where
      apart : slot_in_turn d share (x.serial d) ≡ v.slot → ⊥
      apart e =
          let fair = (subst Small is (role_small c d sound)).2 in
          let few : share ≤ 16 = fair.1 in
          let some_slot : 1 ≤ share = fair.0 in
          let here : domain_of (slot_in_turn d share (x.serial d)) ≡ d = omega arith in
          true≢false (sym (ap is_opened is) ∙ ap (is_open c) (sym here ∙ ap domain_of e) ∙ all_in (λ w. is_open c (domain_of w.slot) ≡ false) v (vertices c) (closed c sound) inside)

      go : (t : Bool) → eqb v.slot (slot_in_turn d share (x.serial d)) ≡ t → FliesAs v (cond t (flying b k (real row (x.serial d))) (x.tables.stage v.slot))
      go true e = absurd (apart (sym (eqb-true v.slot _ e)))
      go false e = f
  own_submit x d b k row (protected ps) is f = (tt, f)

  -- ---- a run

  own_run : (cs : List Call) (x : Running) → FliesAs v (x.tables.stage v.slot) → AllByRecursion (OwnLine v) (bus_record (trace m (running c x) cs))
  unfolding trace outcome ticked
  own_run [] x f = tt
  own_run (sets z ∷ cs) x f = own_run cs x f
  own_run (begins ∷ cs) x f = own_run cs x f
  own_run (submit d b k row ∷ cs) x f = by_refusal (λ u. AllByRecursion (OwnLine v) (map strike u.bus ++ bus_record (trace m u.after cs))) (submit_refusal c x d b k row) (running c x) (submit_outcome m c x d b k row) (λ j. own_run cs x f)
      (let y = own_submit x d b k row (role_of c d) refl f in All-append (OwnLine v) (map strike (submit_lines x d b k row (role_of c d))) _ y.0 (own_run cs (submitted m x d b k row (role_of c d)) y.1))
  own_run (ticks l n ∷ cs) x f = by_refusal (λ u. AllByRecursion (OwnLine v) (map strike u.bus ++ bus_record (trace m u.after cs))) (tick_refusal x l n) (running c x) (tick_outcome m c x) (λ j. own_run cs x f)
      (let y = own_tick x.tick x.controller x.tables f in All-append (OwnLine v) (map strike (lines m c x.tick x.controller x.tables)) _ y.0 (own_run cs (ticked m c x) y.1))

-- what holds of each vertex holds of all
each : (P : Vertex → Type 0) (vs : List Vertex) → ((v : Vertex) → In v vs → P v) → AllByRecursion P vs
each P [] h = tt
each P (v ∷ vs) h = (h v (inl refl), each P vs (λ w i. h w (inr i)))

module _ (m : Meaning (List ℕ)) where
  abbrev LawOf : Settings → List Entry → Type 0
  LawOf c es = AllByRecursion (λ v. AllByRecursion (OwnLine v) (bus_record es)) (vertices c)

  begun : (cs : List Call) (c : Settings) (s : List ℕ) → Sound c → LawOf c (trace m (running c (started c s)) cs)
  unfolding started
  begun cs c s h = each (λ v. AllByRecursion (OwnLine v) (bus_record (trace m (running c (started c s)) cs))) (vertices c) (λ v i. own_run m c h v i cs (started c s) tt)

  own_set : (cs : List Call) (c : Settings) (s : List ℕ) → Sound c → LawOf (made_by m (setting c s) cs) (trace m (setting c s) cs)
  unfolding trace outcome made_from
  own_set [] c s h = each _ (vertices c) (λ v i. tt)
  own_set (sets z ∷ cs) c s h =
      by_refusal_eq (λ u. LawOf (made_from c (set_by (sets z) u.reply ++ settings (trace m u.after cs))) (record { tick = c.first; call = sets z; reply = u.reply; bus = u.bus } ∷ trace m u.after cs)) (setting_refusal (m.places s) c z) (setting c s) (record { after = setting (settled c z) s; reply = good; bus = [] })
      (λ k. own_set cs c s h) (λ ok. own_set cs (settled c z) s (settled_sound (m.places s) c z h ok))
  own_set (begins ∷ cs) c s h = subst (λ z. LawOf z (trace m (running c (started c s)) cs)) (sym (made_running m c (started c s) cs)) (begun cs c s h)
  own_set (submit d b k row ∷ cs) c s h = own_set cs c s h
  own_set (ticks l n ∷ cs) c s h = own_set cs c s h

pub lines_own : (m : Meaning (List ℕ)) → LineLawOf m
unfolding run
lines_own m b cs = own_set m cs blank (m.start b) new_sound
