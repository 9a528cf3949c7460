-- What holds of every run over a controller of kind m, if that keeps the interface's laws.
use Rattle.std.specs.Prelude.{◌≡◌, ℕ, ◌+◌, ◌<◌, ◌≤◌, true, false, ◌↔◌, List, [], ◌∷◌, ◌++◌, length, None, ◌≢◌}
use Rattle.std.specs.List.{AllByRecursion}
use Rattle.interface.specs.Emptied.{emptied}
use Rattle.interface.specs.Lawful.{Lawful}
use Rattle.interface.specs.Meaning as controller
use Rattle.interface.specs.Meaning.{Meaning, after, take_refusal, step_refusal}
use Rattle.interface.specs.declared.Kind.{Kind}
use Rattle.model.specs.Calls.{Call, submit, Reply, refused, good, serial, wrote, Running, running, new, limit, submit_refusal, slot_in_turn, outcome}
use Rattle.model.specs.Settings.{Pattern, Settings, opened, protected, Vertex, role_of, is_open, domain_of, pattern_at, vertices}
use Rattle.model.specs.declared.Line.{Line}
use Rattle.model.specs.Ticks.{request_of, step_events, departures}
use Rattle.run_laws.specs.Departures.{takes_of, dones_of, Departs}
use Rattle.run_laws.specs.Runs.{Entry, run, state_after, settings, made, tick_count, bus_record, open_takings, answers, others, wait_limit, answer_ticks, accepts, lasts}

-- The record law. With equal settings, controllers and tick counts, the bus records are equal exactly when the open domains
-- had the same requests taken in the same order at the same ticks.
abbrev pub RecordLawOf : Meaning (List ℕ) → Type 0
RecordLawOf m = (a b : List ℕ) (cs ds : List Call)
    → m.start a ≡ m.start b
    → settings (run m a cs) ≡ settings (run m b ds)
    → tick_count (run m a cs) ≡ tick_count (run m b ds)
    → (bus_record (run m a cs) ≡ bus_record (run m b ds)) ↔ (open_takings (run m a cs) ≡ open_takings (run m b ds))

-- The isolation law. If the calls of two runs differ only in the submits of one domain that is not open, every other domain
-- gets the same answers, in the same order, at the same ticks.
abbrev pub IsolationLawOf : Meaning (List ℕ) → Type 0
IsolationLawOf m = (a b : List ℕ) (p : ℕ) (cs ds : List Call)
    → m.start a ≡ m.start b
    → is_open (made (settings (run m a cs))) p ≡ false
    → others p cs ≡ others p ds
    → (d : ℕ) → (d ≢ p) → answers d (run m a cs) ≡ answers d (run m b ds)

-- The request of domain d with serial s, whose wait starts at tick n, is answered at most once, and exactly once from tick n
-- to tick n + w if tick n + w is accepted.
pub record AnsweredInTime (d s n w : ℕ) (es : List Entry) : Type 0 where
  pub at_most_once : length (answer_ticks d s es) ≤ 1
  pub if_it_lasts : lasts (n + w) es ≡ true → (t : ℕ) × (n ≤ t) × (t ≤ n + w) × (answer_ticks d s es ≡ t ∷ [])

-- The service law. Each protected request that is taken is answered at most once, and exactly once within
-- 2 × (k + 1) × R + S ticks if the run lasts.
abbrev pub ServiceLawOf : Meaning (List ℕ) → Type 0
ServiceLawOf m = (b : List ℕ) (before : List Call) (c : Settings) (x : Running) (d bank : ℕ) (kind : Kind) (row s : ℕ) (rest : List Call) (ps : List Pattern)
    → state_after m (new m b) before ≡ running c x
    → role_of c d ≡ protected ps
    → (outcome m (running c x) (submit d bank kind row)).reply ≡ serial s
    → AnsweredInTime d s x.tick (wait_limit (m.span b) c x d bank kind) (run m b (before ++ submit d bank kind row ∷ rest))

-- The departure law. In every run every vertex leaves, in every round, at the tick that its edges give in that round, as the
-- T and D lines of the bus record show it.
abbrev pub DepartureLawOf : Meaning (List ℕ) → Type 0
DepartureLawOf m = (b : List ℕ) (cs : List Call) (ℓ i r : ℕ)
    → ℓ < 64
    → i < length (pattern_at (made (settings (run m b cs))) ℓ).spots
    → Departs (made (settings (run m b cs))).first ((made (settings (run m b cs))).first + tick_count (run m b cs)) (m.span b)
    (pattern_at (made (settings (run m b cs))) ℓ) (takes_of (bus_record (run m b cs)) ℓ) (dones_of (bus_record (run m b cs)) ℓ) i r

-- A line of a vertex's slot carries its domain, bank and kind.
abbrev pub OwnLine : Vertex → Line → Type 0
OwnLine v l = l.slot ≡ v.slot → (l.domain ≡ domain_of v.slot) × (l.bank ≡ v.bank) × (l.kind ≡ v.kind)

-- The line law. In every run all lines of a vertex's slot, T, I and D, carry the vertex's domain, bank and kind.
abbrev pub LineLawOf : Meaning (List ℕ) → Type 0
LineLawOf m = (b : List ℕ) (cs : List Call)
    → AllByRecursion (λ v. AllByRecursion (OwnLine v) (bus_record (run m b cs))) (vertices (made (settings (run m b cs))))

-- ---- what the laws rest on

-- Each of the vertices is taken by the controller, one after the other, from state s on.
abbrev pub AllTaken : Meaning (List ℕ) → List Vertex → List ℕ → Type 0
AllTaken m [] s = Unit {0}
AllTaken m (v ∷ vs) s = (take_refusal m s (request_of v) ≡ None) × AllTaken m vs (after m (controller.Call.take (request_of v)) s)

-- The controller refuses nothing that a running scheduler asks of it: no step, no vertex's take, no taking of an open request.
pub record NeverRefused (m : Meaning (List ℕ)) (c : Settings) (x : Running) : Type 0 where
  pub step : step_refusal m x.controller ≡ None
  pub takes : AllTaken m (departures m c x.tick x.controller x.tables) (emptied m (step_events m x.controller) (after m controller.Call.step x.controller))
  pub open_take : (d bank : ℕ) (kind : Kind) (row share : ℕ) → role_of c d ≡ opened share → submit_refusal c x d bank kind row ≡ None
      → take_refusal m x.controller (record { slot = slot_in_turn d share (x.serial d); domain = d; bank = bank; kind = kind }) ≡ None

-- A refusal's number is one of 1 to 16, a serial is below 10^18, and a tick writes at most 96 lines and 32 notices.
abbrev pub SmallReply : Reply → Type 0
SmallReply (refused k) = (1 ≤ k) × (k ≤ 16)
SmallReply good = Unit {0}
SmallReply (serial i) = i < limit
SmallReply (wrote ls ns) = (length ls ≤ 96) × (length ns ≤ 32)

-- An accepted tick's number is below 10^18, and the next tick's number is at most that.
pub record SmallEntry (e : Entry) : Type 0 where
  pub tick : e.tick ≤ limit
  pub accepted : accepts e.tick e.tick e.reply ≡ true → e.tick < limit
  pub reply : SmallReply e.reply

-- The limits. In every run the controller refuses nothing, and no number grows beyond its limit.
abbrev pub LimitsOf : Meaning (List ℕ) → Type 0
LimitsOf m = (b : List ℕ) (cs : List Call)
    → AllByRecursion SmallEntry (run m b cs)
    × ((c : Settings) (x : Running) → state_after m (new m b) cs ≡ running c x → NeverRefused m c x)

-- ---- the whole

-- All that is promised of runs over controllers of one kind.
pub record Promises (m : Meaning (List ℕ)) : Type 0 where
  -- The bus record shows the open takings, and nothing more.
  pub record_law : RecordLawOf m
  -- What one protected domain submits, no other domain sees.
  pub isolation_law : IsolationLawOf m
  -- Each protected request that is taken is answered at most once, and in time if the run lasts.
  pub service_law : ServiceLawOf m
  -- Every vertex leaves, in every round, at the tick that its edges give.
  pub departure_law : DepartureLawOf m
  -- All lines of a vertex's slot carry the vertex's domain, bank and kind.
  pub line_law : LineLawOf m
  -- The controller refuses nothing, a tick writes at most 96 lines and 32 notices, and no number passes 10^18.
  pub limits : LimitsOf m

-- ---- the laws over every controller that keeps the interface's laws

abbrev pub RecordLaw : Type 0
RecordLaw = (m : Meaning (List ℕ)) → Lawful m → RecordLawOf m

abbrev pub IsolationLaw : Type 0
IsolationLaw = (m : Meaning (List ℕ)) → Lawful m → IsolationLawOf m

abbrev pub ServiceLaw : Type 0
ServiceLaw = (m : Meaning (List ℕ)) → Lawful m → ServiceLawOf m

abbrev pub DepartureLaw : Type 0
DepartureLaw = (m : Meaning (List ℕ)) → Lawful m → DepartureLawOf m

-- It rests on no law of the interface.
abbrev pub LineLaw : Type 0
LineLaw = (m : Meaning (List ℕ)) → LineLawOf m

abbrev pub Limits : Type 0
Limits = (m : Meaning (List ℕ)) → Lawful m → LimitsOf m
