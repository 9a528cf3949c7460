-- The bus record shows the open takings, and nothing more.
use Rattle.std.proofs.Common.{◌≡◌, ℕ, suc, Bool, true, false, cond, eqb, List, [], ◌∷◌, ◌++◌, map, sym, refl, ap, ◌∙◌, subst}
use mathlib.Core.Path.{fun_ext}
use Rattle.std.proofs.lemmas.List.{map-append, append_assoc}
use Rattle.std.proofs.lemmas.Bool.{eqb-true}
use Rattle.std.specs.List.{flat_map, AllByRecursion}
use Rattle.interface.specs.Lawful.{Lawful}
use Rattle.interface.specs.Meaning.{Meaning}
use Rattle.interface.specs.declared.Event.TheVariants.{Done, Issue}
use Rattle.interface.specs.declared.Event.{Event}
use Rattle.interface.specs.declared.Kind.{Kind}
use Rattle.model.specs.Calls.{Call, Reply, Running, begins, enqueued, good, new, outcome, refused, running, serial, sets, setting, setting_refusal, settled, slot_in_turn, started, submit, submit_lines, submit_outcome, submit_refusal, submitted, taken_open, tick_outcome, tick_refusal, ticked, ticks, wrote}
use Rattle.model.specs.Settings.{Role, Settings, Vertex, domain_of, is_open, is_opened, opened, protected, role_of, share_of, unset, vertices}
use Rattle.model.specs.Ticks.{Stage, Tables, after_rounds, completed, departed, departures, done, event_line, flying, leaves, leaving, line_of, lines, put, step_events, still, take_line, written}
use Rattle.model.specs.declared.Letter.TheVariants as letter
use Rattle.model.specs.declared.Letter.{Letter}
use Rattle.model.specs.declared.Line.{Line}
use Rattle.model.specs.Payloads.{fake, real}
use Rattle.run_laws.specs.Laws.{RecordLawOf}
use Rattle.run_laws.specs.Runs.{Entry, Taking, bus_record, made, made_from, one_more, run, settings, strike, taking_of, tick_count, trace}
use Rattle.run_laws.proofs.Masks.{masked, map_put, tables_path, mask, mask_completed, mask_departed, mask_written, tick_mask, controller_mask, rounds_mask, departures_mask}
use Rattle.run_laws.proofs.Rows.{Ev, took, passed, takes_in, passes, row_decided}
use Rattle.run_laws.proofs.Sound.{Sound, settled_sound, new_sound, closed}
use Rattle.run_laws.proofs.Steps.{by_refusal, by_refusal_eq, made_by, made_step, made_running}

abbrev all_hidden : ℕ → Bool
all_hidden d = true

abbrev struck : List Line → List Line
struck ls = map strike ls

line_same : (l : Letter) (n t : ℕ) (x : Stage) → struck (line_of l n t (masked true x)) ≡ struck (line_of l n t x)
line_same l n t still = refl
line_same l n t (flying b k c) = refl
line_same l n t (done m) = refl

event_same : (n : ℕ) (e : Event) (b : Tables) → struck (event_line n e (mask all_hidden b)) ≡ struck (event_line n e b)
unfolding event_line
event_same n (Issue t) b = line_same letter.I n t (b.stage t)
event_same n (Done t) b = line_same letter.D n t (b.stage t)

take_same : (n : ℕ) (v : Vertex) (b : Tables) → struck (take_line n v (mask all_hidden b)) ≡ struck (take_line n v b)
unfolding take_line
take_same n v b = refl

lines_same : (r : Meaning (List ℕ)) (c : Settings) (n : ℕ) (s : List ℕ) (b : Tables) → struck (lines r c n s (mask all_hidden b)) ≡ struck (lines r c n s b)
unfolding lines
lines_same r c n s b =
    map-append strike (written (event_line n) (completed c n) (step_events r s) (mask all_hidden b)) (written (take_line n) departed (departures r c n s (mask all_hidden b)) (after_rounds r c n s (mask all_hidden b)))
    ∙ ap (λ z. z ++ struck (written (take_line n) departed (departures r c n s (mask all_hidden b)) (after_rounds r c n s (mask all_hidden b)))) (mask_written all_hidden struck (map-append strike) (event_line n) (completed c n) (mask_completed all_hidden c n) (event_same n) (step_events r s) b)
    ∙ ap (λ z. struck (written (event_line n) (completed c n) (step_events r s) b) ++ struck (written (take_line n) departed z (after_rounds r c n s (mask all_hidden b)))) (departures_mask all_hidden r c n s b)
    ∙ ap (λ z. struck (written (event_line n) (completed c n) (step_events r s) b) ++ struck (written (take_line n) departed (departures r c n s b) z)) (sym (rounds_mask all_hidden r c n s b))
    ∙ ap (λ z. struck (written (event_line n) (completed c n) (step_events r s) b) ++ z) (mask_written all_hidden struck (map-append strike) (take_line n) departed (mask_departed all_hidden) (take_same n) (departures r c n s b) (after_rounds r c n s b))
    ∙ sym (map-append strike (written (event_line n) (completed c n) (step_events r s) b) (written (take_line n) departed (departures r c n s b) (after_rounds r c n s b)))

running_path : {n n' : ℕ} {s s' : List ℕ} {b b' : Tables} {a a' : ℕ → ℕ} → n ≡ n' → s ≡ s' → b ≡ b' → a ≡ a'
    → ◌≡◌ {A = Running} (record { tick = n; controller = s; tables = b; serial = a }) (record { tick = n'; controller = s'; tables = b'; serial = a' })
running_path p q u v = λ i. record { tick = p i; controller = q i; tables = u i; serial = v i }

module _ (r : Meaning (List ℕ)) (c : Settings) where
  abbrev public : Running → Running
  public x = record { tick = x.tick; controller = x.controller; tables = mask all_hidden x.tables; serial = λ d. cond (is_open c d) (x.serial d) 0 }

  abbrev open_slot : Running → ℕ → ℕ
  open_slot x d = slot_in_turn d (share_of (role_of c d)) (x.serial d)

  -- what the bus shows of a row of open takings and ticks
  replay : Running → List Ev → List Line
  replay x [] = []
  replay x (took d b k ∷ t) = record { letter = letter.T; tick = x.tick; domain = d; slot = open_slot x d; bank = b; kind = k; row = 0 } ∷ replay (taken_open r x d b k fake (open_slot x d)) t
  replay x (passed ∷ t) = struck (lines r c x.tick x.controller x.tables) ++ replay (ticked r c x) t

  public_ticked : (x : Running) → public (ticked r c x) ≡ ticked r c (public x)
  unfolding ticked
  public_ticked x = running_path refl (sym (controller_mask all_hidden r c x.tick x.controller x.tables)) (tick_mask all_hidden r c x.tick x.controller x.tables) refl

  abbrev ev_of : Call → Reply → List Ev
  ev_of (submit d b k row) (serial i) = cond (is_open c d) (took d b k ∷ []) []
  ev_of (submit d b k row) (refused j) = []
  ev_of (submit d b k row) good = []
  ev_of (submit d b k row) (wrote l m) = []
  ev_of (sets s) y = []
  ev_of begins y = []
  ev_of (ticks l m) (wrote ls ns) = passed ∷ []
  ev_of (ticks l m) (refused j) = []
  ev_of (ticks l m) good = []
  ev_of (ticks l m) (serial i) = []

  abbrev row_of_run : List Entry → List Ev
  row_of_run es = flat_map (λ e. ev_of e.call e.reply) es

  -- a taking of an open domain
  module _ (x : Running) (d b : ℕ) (k : Kind) (row : ℕ) where
    public_open : (share : ℕ) → role_of c d ≡ opened share → public (taken_open r x d b k (real row (x.serial d)) (slot_in_turn d share (x.serial d))) ≡ taken_open r (public x) d b k fake (open_slot (public x) d)
    unfolding taken_open
    public_open share e = rw e (running_path refl refl
        (tables_path (map_put (λ j y. masked (all_hidden (domain_of j)) y) x.tables.stage (slot_in_turn d share (x.serial d)) (flying b k (real row (x.serial d)))) refl refl)
        (map_put (λ j y. cond (is_open c j) y 0) x.serial d (suc (x.serial d)) ∙ ap (put (λ j. cond (is_open c j) (x.serial j) 0) d) here))
      where
        here : cond (is_open c d) (suc (x.serial d)) 0 ≡ suc (x.serial d)
        here = rw e

    public_shut : is_opened (role_of c d) ≡ false → public (enqueued x d b k row) ≡ public x
    unfolding enqueued
    public_shut e = running_path refl refl refl (fun_ext (λ j. go j (eqb j d) refl))
      where
        go : (j : ℕ) (t : Bool) → eqb j d ≡ t → cond (is_open c j) (cond t (suc (x.serial d)) (x.serial j)) 0 ≡ cond (is_open c j) (x.serial j) 0
        go j true z = let shut : is_open c j ≡ false = ap (is_open c) (eqb-true j d z) ∙ e in rw shut
        go j false z = refl

  shown : (cs : List Call) (x : Running) → bus_record (trace r (running c x) cs) ≡ replay (public x) (row_of_run (trace r (running c x) cs))
  unfolding trace outcome replay submitted submit_lines
  shown [] x = refl
  shown (sets s ∷ cs) x = shown cs x
  shown (begins ∷ cs) x = shown cs x
  shown (submit d b k row ∷ cs) x = by_refusal (λ u. struck u.bus ++ bus_record (trace r u.after cs) ≡ replay (public x) (ev_of (submit d b k row) u.reply ++ row_of_run (trace r u.after cs))) (submit_refusal c x d b k row) (running c x) (submit_outcome r c x d b k row)
      (λ k. shown cs x) (go (shown cs) (role_of c d) refl)
    where
      go : ((y : Running) → bus_record (trace r (running c y) cs) ≡ replay (public y) (row_of_run (trace r (running c y) cs)))
          → (q : Role) → role_of c d ≡ q
          → struck (submit_lines x d b k row q) ++ bus_record (trace r (running c (submitted r x d b k row q)) cs) ≡ replay (public x) (cond (is_opened q) (took d b k ∷ []) [] ++ row_of_run (trace r (running c (submitted r x d b k row q)) cs))
      go ih unset e = ih x
      go ih (opened share) e =
          let slots : slot_in_turn d share (x.serial d) ≡ open_slot (public x) d = rw e in
          ap (λ z. record { letter = letter.T; tick = x.tick; domain = d; slot = z; bank = b; kind = k; row = 0 } ∷ bus_record (trace r (running c (taken_open r x d b k (real row (x.serial d)) (slot_in_turn d share (x.serial d)))) cs)) slots
          ∙ ap (◌∷◌ (record { letter = letter.T; tick = x.tick; domain = d; slot = open_slot (public x) d; bank = b; kind = k; row = 0 })) (ih (taken_open r x d b k (real row (x.serial d)) (slot_in_turn d share (x.serial d))) ∙ ap (λ z. replay z (row_of_run (trace r (running c (taken_open r x d b k (real row (x.serial d)) (slot_in_turn d share (x.serial d)))) cs))) (public_open x d b k row share e))
      go ih (protected patterns) e = ih (enqueued x d b k row) ∙ ap (λ z. replay z (row_of_run (trace r (running c (enqueued x d b k row)) cs))) (public_shut x d b k row (ap is_opened e))
  shown (ticks l m ∷ cs) x = by_refusal (λ u. struck u.bus ++ bus_record (trace r u.after cs) ≡ replay (public x) (ev_of (ticks l m) u.reply ++ row_of_run (trace r u.after cs))) (tick_refusal x l m) (running c x) (tick_outcome r c x)
      (λ k. shown cs x)
      (ap (λ z. z ++ bus_record (trace r (running c (ticked r c x)) cs)) (sym (lines_same r c x.tick x.controller x.tables))
      ∙ ap (λ z. struck (lines r c x.tick x.controller (mask all_hidden x.tables)) ++ z) (shown cs (ticked r c x) ∙ ap (λ z. replay z (row_of_run (trace r (running c (ticked r c x)) cs))) (public_ticked x)))

  abbrev takings : List Entry → List Taking
  takings es = flat_map (λ e. taking_of c e.tick e.call e.reply) es

  takings_row : (cs : List Call) (x : Running) → takings (trace r (running c x) cs) ≡ takes_in x.tick (row_of_run (trace r (running c x) cs))
  unfolding trace outcome submitted taken_open enqueued ticked
  takings_row [] x = refl
  takings_row (sets s ∷ cs) x = takings_row cs x
  takings_row (begins ∷ cs) x = takings_row cs x
  takings_row (submit d b k row ∷ cs) x = by_refusal (λ u. taking_of c x.tick (submit d b k row) u.reply ++ takings (trace r u.after cs) ≡ takes_in x.tick (ev_of (submit d b k row) u.reply ++ row_of_run (trace r u.after cs))) (submit_refusal c x d b k row) (running c x) (submit_outcome r c x d b k row)
      (λ k. takings_row cs x) (add (is_open c d) (row_of_run (trace r (running c (submitted r x d b k row (role_of c d))) cs)) (go (takings_row cs) (role_of c d)))
    where
      go : ((y : Running) → takings (trace r (running c y) cs) ≡ takes_in y.tick (row_of_run (trace r (running c y) cs))) → (q : Role) → takings (trace r (running c (submitted r x d b k row q)) cs) ≡ takes_in x.tick (row_of_run (trace r (running c (submitted r x d b k row q)) cs))
      go ih unset = ih x
      go ih (opened share) = ih (submitted r x d b k row (opened share))
      go ih (protected patterns) = ih (submitted r x d b k row (protected patterns))

      add : (t : Bool) {ts : List Taking} (es : List Ev) → ts ≡ takes_in x.tick es → cond t (record { tick = x.tick; domain = d; bank = b; kind = k } ∷ []) [] ++ ts ≡ takes_in x.tick (cond t (took d b k ∷ []) [] ++ es)
      add true es e = ap (◌∷◌ (record { tick = x.tick; domain = d; bank = b; kind = k })) e
      add false es e = e
  takings_row (ticks l m ∷ cs) x = by_refusal (λ u. takings (trace r u.after cs) ≡ takes_in x.tick (ev_of (ticks l m) u.reply ++ row_of_run (trace r u.after cs))) (tick_refusal x l m) (running c x) (tick_outcome r c x)
      (λ k. takings_row cs x) (takings_row cs (ticked r c x))

  count_row : (cs : List Call) (x : Running) → tick_count (trace r (running c x) cs) ≡ passes (row_of_run (trace r (running c x) cs))
  unfolding trace outcome
  count_row [] x = refl
  count_row (sets s ∷ cs) x = count_row cs x
  count_row (begins ∷ cs) x = count_row cs x
  count_row (submit d b k row ∷ cs) x = by_refusal (λ u. one_more u.reply (tick_count (trace r u.after cs)) ≡ passes (ev_of (submit d b k row) u.reply ++ row_of_run (trace r u.after cs))) (submit_refusal c x d b k row) (running c x) (submit_outcome r c x d b k row)
      (λ k. count_row cs x) (add (is_open c d) (row_of_run (trace r (running c (submitted r x d b k row (role_of c d))) cs)) (count_row cs (submitted r x d b k row (role_of c d))))
    where
      add : (t : Bool) {n : ℕ} (es : List Ev) → n ≡ passes es → n ≡ passes (cond t (took d b k ∷ []) [] ++ es)
      add true es e = e
      add false es e = e
  count_row (ticks l m ∷ cs) x = by_refusal (λ u. one_more u.reply (tick_count (trace r u.after cs)) ≡ passes (ev_of (ticks l m) u.reply ++ row_of_run (trace r u.after cs))) (tick_refusal x l m) (running c x) (tick_outcome r c x)
      (λ k. count_row cs x) (ap suc (count_row cs (ticked r c x)))

  -- reading the takings back from the record
  abbrev seen : Letter → Line → List Taking
  seen letter.T l = cond (is_open c l.domain) (record { tick = l.tick; domain = l.domain; bank = l.bank; kind = l.kind } ∷ []) []
  seen letter.I l = []
  seen letter.D l = []

  abbrev read : List Line → List Taking
  read ls = flat_map (λ l. seen l.letter l) ls

  read_append : (ls ms : List Line) → read (ls ++ ms) ≡ read ls ++ read ms
  read_append [] ms = refl
  read_append (l ∷ ls) ms = ap (λ z. seen l.letter l ++ z) (read_append ls ms) ∙ sym (append_assoc (seen l.letter l) (read ls) (read ms))

  quiet : {A : Type 0} (P : A → Type 0) (out : A → Tables → List Line) (f : A → Tables → Tables) → ((x : A) (b : Tables) → P x → read (struck (out x b)) ≡ []) → (xs : List A) (b : Tables) → AllByRecursion P xs → read (struck (written out f xs b)) ≡ []
  unfolding written
  quiet P out f q [] b h = refl
  quiet P out f q (x ∷ xs) b h = ap read (map-append strike (out x b) (written out f xs (f x b))) ∙ read_append (struck (out x b)) (struck (written out f xs (f x b)))
      ∙ ap (λ z. z ++ read (struck (written out f xs (f x b)))) (q x b h.0) ∙ quiet P out f q xs (f x b) h.1

  every : {A : Type 0} (xs : List A) → AllByRecursion (λ x. Unit {0}) xs
  every [] = tt
  every (x ∷ xs) = (tt, every xs)

  event_quiet : (n : ℕ) (e : Event) (b : Tables) → read (struck (event_line n e b)) ≡ []
  unfolding event_line
  event_quiet n (Issue t) b = go (b.stage t)
    where
      go : (s : Stage) → read (struck (line_of letter.I n t s)) ≡ []
      go still = refl
      go (flying b k x) = refl
      go (done m) = refl
  event_quiet n (Done t) b = go (b.stage t)
    where
      go : (s : Stage) → read (struck (line_of letter.D n t s)) ≡ []
      go still = refl
      go (flying b k x) = refl
      go (done m) = refl

  take_quiet : (n : ℕ) (v : Vertex) (b : Tables) → is_open c (domain_of v.slot) ≡ false → read (struck (take_line n v b)) ≡ []
  unfolding take_line
  take_quiet n v b h = rw h

  leaving_all : (P : Vertex → Type 0) (n : ℕ) (b : Tables) (vs : List Vertex) → AllByRecursion P vs → AllByRecursion P (leaving n b vs)
  unfolding leaving
  leaving_all P n b [] h = tt
  leaving_all P n b (v ∷ vs) h = go (leaves n b v) (leaving_all P n b vs h.1)
    where
      go : (t : Bool) → AllByRecursion P (leaving n b vs) → AllByRecursion P (cond t (v ∷ leaving n b vs) (leaving n b vs))
      go true rest = (h.0, rest)
      go false rest = rest

  tick_quiet : Sound c → (n : ℕ) (s : List ℕ) (b : Tables) → read (struck (lines r c n s b)) ≡ []
  unfolding lines departures
  tick_quiet h n s b = ap read (map-append strike (written (event_line n) (completed c n) (step_events r s) b) (written (take_line n) departed (departures r c n s b) (after_rounds r c n s b)))
      ∙ read_append (struck (written (event_line n) (completed c n) (step_events r s) b)) (struck (written (take_line n) departed (departures r c n s b) (after_rounds r c n s b)))
      ∙ ap (λ z. z ++ read (struck (written (take_line n) departed (departures r c n s b) (after_rounds r c n s b)))) (quiet (λ e. Unit {0}) (event_line n) (completed c n) (λ e y u. event_quiet n e y) (step_events r s) b (every (step_events r s)))
      ∙ quiet (λ v. is_open c (domain_of v.slot) ≡ false) (take_line n) departed (take_quiet n) (departures r c n s b) (after_rounds r c n s b) (leaving_all _ n (after_rounds r c n s b) (vertices c) (closed c h))

  read_back : Sound c → (cs : List Call) (x : Running) → read (bus_record (trace r (running c x) cs)) ≡ takings (trace r (running c x) cs)
  unfolding trace outcome submit_lines
  read_back h [] x = refl
  read_back h (sets s ∷ cs) x = read_back h cs x
  read_back h (begins ∷ cs) x = read_back h cs x
  read_back h (submit d b k row ∷ cs) x = by_refusal (λ u. read (struck u.bus ++ bus_record (trace r u.after cs)) ≡ taking_of c x.tick (submit d b k row) u.reply ++ takings (trace r u.after cs)) (submit_refusal c x d b k row) (running c x) (submit_outcome r c x d b k row)
      (λ k. read_back h cs x) (go (bus_record (trace r (running c (submitted r x d b k row (role_of c d))) cs)) (takings (trace r (running c (submitted r x d b k row (role_of c d))) cs)) (read_back h cs (submitted r x d b k row (role_of c d))) (role_of c d) refl)
    where
      go : (ls : List Line) (ts : List Taking) → read ls ≡ ts → (q : Role) → role_of c d ≡ q → read (struck (submit_lines x d b k row q) ++ ls) ≡ cond (is_opened q) (record { tick = x.tick; domain = d; bank = b; kind = k } ∷ []) [] ++ ts
      go ls ts e unset z = e
      go ls ts e (opened share) z = rw (ap is_opened z, e)
      go ls ts e (protected patterns) z = e
  read_back h (ticks l m ∷ cs) x = by_refusal (λ u. read (struck u.bus ++ bus_record (trace r u.after cs)) ≡ takings (trace r u.after cs)) (tick_refusal x l m) (running c x) (tick_outcome r c x)
      (λ k. read_back h cs x)
      (read_append (struck (lines r c x.tick x.controller x.tables)) (bus_record (trace r (running c (ticked r c x)) cs))
      ∙ ap (λ z. z ++ read (bus_record (trace r (running c (ticked r c x)) cs))) (tick_quiet h x.tick x.controller x.tables)
      ∙ read_back h cs (ticked r c x))

-- what holds of the whole trace of a run, C being the settings that it made and s the controller's beginning state
record Facts (r : Meaning (List ℕ)) (C : Settings) (s : List ℕ) (es : List Entry) : Type 0 where
  is_shown : bus_record es ≡ replay r C (started C s) (row_of_run r C es)
  has_takings : takings r C es ≡ takes_in C.first (row_of_run r C es)
  has_ticks : tick_count es ≡ passes (row_of_run r C es)
  reads_back : read r C (bus_record es) ≡ takings r C es

module _ (r : Meaning (List ℕ)) (s : List ℕ) where
  public_started : (c : Settings) → public r c (started c s) ≡ started c s
  unfolding started
  public_started c = running_path refl refl refl (fun_ext (λ d. go (is_open c d)))
    where
      go : (t : Bool) → ◌≡◌ {A = ℕ} (cond t 0 0) 0
      go true = refl
      go false = refl

  begun : (c : Settings) → Sound c → (cs : List Call) → Facts r c s (trace r (running c (started c s)) cs)
  unfolding started
  begun c h cs = record {
    is_shown = shown r c cs (started c s) ∙ ap (λ z. replay r c z (row_of_run r c (trace r (running c (started c s)) cs))) (public_started c);
    has_takings = takings_row r c cs (started c s);
    has_ticks = count_row r c cs (started c s);
    reads_back = read_back r c h cs (started c s);
  }

  quiet_entry : (C : Settings) (n : ℕ) (call : Call) (y : Reply) (es : List Entry) → ev_of r C call y ≡ [] → taking_of C n call y ≡ [] → one_more y (tick_count es) ≡ tick_count es
      → Facts r C s es → Facts r C s (record { tick = n; call = call; reply = y; bus = [] } ∷ es)
  quiet_entry C n call y es p q t f = record {
    is_shown = rw p f.is_shown;
    has_takings = rw (p, q) f.has_takings;
    has_ticks = rw p (t ∙ f.has_ticks);
    reads_back = rw q f.reads_back;
  }

  facts : (C : Settings) (cs : List Call) (c : Settings) → Sound c → made_by r (setting c s) cs ≡ C → Facts r C s (trace r (setting c s) cs)
  unfolding trace outcome replay made_from
  facts C [] c h e = record { is_shown = refl; has_takings = refl; has_ticks = refl; reads_back = refl }
  facts C (sets z ∷ cs) c h e = by_refusal_eq (λ u. made_by r u.after cs ≡ C → Facts r C s (record { tick = c.first; call = sets z; reply = u.reply; bus = u.bus } ∷ trace r u.after cs)) (setting_refusal (r.places s) c z) (setting c s) (record { after = setting (settled c z) s; reply = good; bus = [] })
      (λ k e'. quiet_entry C c.first (sets z) (refused k) (trace r (setting c s) cs) refl refl refl (facts C cs c h e'))
      (λ ok e'. quiet_entry C c.first (sets z) good (trace r (setting (settled c z) s) cs) refl refl refl (facts C cs (settled c z) (settled_sound (r.places s) c z h ok) e'))
      (sym (made_step r (setting c s) (sets z) cs) ∙ e)
  facts C (begins ∷ cs) c h e = subst (λ z. Facts r z s (trace r (setting c s) (begins ∷ cs))) (sym (made_running r c (started c s) cs) ∙ e)
      (quiet_entry c c.first begins good (trace r (running c (started c s)) cs) refl refl refl (begun c h cs))
  facts C (submit d b k row ∷ cs) c h e = quiet_entry C c.first (submit d b k row) (refused 1) (trace r (setting c s) cs) refl refl refl (facts C cs c h e)
  facts C (ticks l m ∷ cs) c h e = quiet_entry C c.first (ticks l m) (refused 1) (trace r (setting c s) cs) refl refl refl (facts C cs c h e)

pub shows : (m : Meaning (List ℕ)) → Lawful m → RecordLawOf m
unfolding run
shows r lawful a b cs ds same_start same_settings same-ticks = (there, back)
  where
    C : Settings
    C = made (settings (trace r (new r a) cs))

    D : Settings
    D = made (settings (trace r (new r b) ds))

    same : D ≡ C
    same = ap made (sym same_settings)

    f : Facts r C (r.start a) (trace r (new r a) cs)
    f = facts r (r.start a) C cs _ new_sound refl

    g : Facts r C (r.start a) (trace r (new r b) ds)
    g = subst (λ s. Facts r C s (trace r (new r b) ds)) (sym same_start) (subst (λ z. Facts r z (r.start b) (trace r (new r b) ds)) same (facts r (r.start b) D ds _ new_sound refl))

    turned : takings r D (trace r (new r b) ds) ≡ takings r C (trace r (new r b) ds)
    turned = ap (λ z. takings r z (trace r (new r b) ds)) same

    there : bus_record (trace r (new r a) cs) ≡ bus_record (trace r (new r b) ds) → takings r C (trace r (new r a) cs) ≡ takings r D (trace r (new r b) ds)
    there e = sym f.reads_back ∙ ap (read r C) e ∙ g.reads_back ∙ sym turned

    back : takings r C (trace r (new r a) cs) ≡ takings r D (trace r (new r b) ds) → bus_record (trace r (new r a) cs) ≡ bus_record (trace r (new r b) ds)
    back e =
        let rows : row_of_run r C (trace r (new r a) cs) ≡ row_of_run r C (trace r (new r b) ds) = row_decided C.first _ _ (sym f.has_takings ∙ e ∙ turned ∙ g.has_takings) (sym f.has_ticks ∙ same-ticks ∙ g.has_ticks) in
        f.is_shown ∙ ap (replay r C (started C (r.start a))) rows ∙ sym g.is_shown
