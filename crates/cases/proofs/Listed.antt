-- Runs in which only the lane 0 moves, with the tables as lists: so a run of many ticks computes fast.
use Rattle.std.proofs.Common.{◌≡◌, ℕ, zero, suc, ◌<◌, ◌≤◌, Bool, true, false, cond, eqb, List, [], ◌∷◌, length, get_or, replicate, Some, None, Option, sym, refl, ap, ◌∙◌, arith}
use Rattle.std.proofs.ByRecursion.{All-weaker}
use Rattle.std.proofs.lemmas.Bool.{eqb-true}
use Rattle.std.specs.List.{AllByRecursion}
use Rattle.interface.specs.Meaning.{Meaning}
use Rattle.interface.specs.declared.Event.TheVariants.{Issue, Done}
use Rattle.interface.specs.declared.Event.{Event}
use Rattle.patterns.specs.Due.{next_start, round_end}
use Rattle.model.specs.Calls.{Call, ticks, Running, State, setting, running, next_tick, tick_refusal, ticked, unless, tick_outcome, outcome}
use Rattle.model.specs.Settings.{Settings, Vertex, is_open, domain_of, lane_of, pattern_at, vertices}
use Rattle.model.specs.Ticks.{still, Tables, put, through, completed, finished, done_in, lane_end, renewed, rounds, leaves, without, departed, step_events, after_events, after_rounds, departures, after_tick}
use Rattle.run_laws.proofs.Departures.{leaving_leave}
use Rattle.run_laws.specs.Runs.{Entry, trace}

-- ---- the tables by lists

unfoldable pub listed : Tables → Tables
listed b = record {
  stage = λ t. get_or (b.stage 0 ∷ b.stage 1 ∷ b.stage 2 ∷ b.stage 3 ∷ b.stage 4 ∷ b.stage 5 ∷ b.stage 6 ∷ b.stage 7 ∷ []) t still;
  start = λ ℓ. get_or (b.start 0 ∷ []) ℓ 0;
  queue = λ d. [];
}

unfoldable pub listed_running : Running → Running
listed_running x = record { tick = x.tick; controller = x.controller; tables = listed x.tables; serial = x.serial }

unfoldable pub listed_state : State → State
listed_state (setting c s) = setting c s
listed_state (running c x) = running c (listed_running x)

abbrev pub entry_of : Meaning (List ℕ) → State → Call → Entry
entry_of m w a = record { tick = next_tick w; call = a; reply = (outcome m w a).reply; bus = (outcome m w a).bus }

-- the trace of calls, where each call leaves its tables by lists
unfoldable pub listed_trace : Meaning (List ℕ) → State → List Call → List Entry
listed_trace m w [] = []
listed_trace m w (a ∷ cs) = entry_of m w a ∷ listed_trace m (listed_state (outcome m w a).after) cs

-- ---- what the lists leave out

-- slots from 8 on are still, lanes from 1 on start at 0, and nothing waits
pub record Confined (b : Tables) : Type 0 where
  pub stages : (t : ℕ) → 8 ≤ t → b.stage t ≡ still
  pub starts : (ℓ : ℕ) → 1 ≤ ℓ → b.start ℓ ≡ 0
  pub queues : (d : ℕ) → b.queue d ≡ []

listed_is : (b : Tables) → Confined b → b ≡ listed b
unfolding listed
listed_is b h = λ i. record { stage = λ t. stage_is t i; start = λ ℓ. start_is ℓ i; queue = λ d. h.queues d i }
  where
    stage_is : (t : ℕ) → b.stage t ≡ get_or (b.stage 0 ∷ b.stage 1 ∷ b.stage 2 ∷ b.stage 3 ∷ b.stage 4 ∷ b.stage 5 ∷ b.stage 6 ∷ b.stage 7 ∷ []) t still
    stage_is zero = refl
    stage_is (suc zero) = refl
    stage_is (suc (suc zero)) = refl
    stage_is (suc (suc (suc zero))) = refl
    stage_is (suc (suc (suc (suc zero)))) = refl
    stage_is (suc (suc (suc (suc (suc zero))))) = refl
    stage_is (suc (suc (suc (suc (suc (suc zero)))))) = refl
    stage_is (suc (suc (suc (suc (suc (suc (suc zero))))))) = refl
    stage_is (suc (suc (suc (suc (suc (suc (suc (suc t)))))))) = h.stages (suc (suc (suc (suc (suc (suc (suc (suc t)))))))) (omega arith)

    start_is : (ℓ : ℕ) → b.start ℓ ≡ get_or (b.start 0 ∷ []) ℓ 0
    start_is zero = refl
    start_is (suc ℓ) = h.starts (suc ℓ) (omega arith)

listed_running_is : (x : Running) → Confined x.tables → x ≡ listed_running x
unfolding listed_running
listed_running_is x h = λ i. record { tick = x.tick; controller = x.controller; tables = listed_is x.tables h i; serial = x.serial }

-- ---- a tick keeps to the lane

put_kept : {X : Type 0} (f : ℕ → X) (i : ℕ) (x : X) (j : ℕ) (y : X) → f j ≡ y → (j ≡ i → x ≡ y) → put f i x j ≡ y
put_kept f i x j y e h = go (eqb j i) refl
  where
    go : (t : Bool) → eqb j i ≡ t → cond t x (f j) ≡ y
    go true z = h (eqb-true j i z)
    go false z = e

completed_confined : (c : Settings) (n : ℕ) (e : Event) (b : Tables) → Confined b → Confined (completed c n e b)
unfolding completed
completed_confined c n (Issue t) b h = h
completed_confined c n (Done t) b h = record {
  stages = λ j le. put_kept b.stage t (finished (is_open c (domain_of t)) n (b.stage t)) j still (h.stages j le) (λ same. ap (finished (is_open c (domain_of t)) n) (ap b.stage (sym same) ∙ h.stages j le));
  starts = h.starts;
  queues = h.queues;
}

events_confined : (c : Settings) (n : ℕ) (es : List Event) (b : Tables) → Confined b → Confined (through (completed c n) es b)
unfolding through
events_confined c n [] b h = h
events_confined c n (e ∷ es) b h = events_confined c n es (completed c n e b) (completed_confined c n e b h)

renewed_still : (o : Option ℕ) → renewed o still ≡ still
renewed_still None = refl
renewed_still (Some m) = refl

departed_confined : (v : Vertex) (b : Tables) → v.slot < 8 → Confined b → Confined (departed v b)
unfolding departed without
departed_confined v b lt h = record {
  stages = λ j le. put_kept b.stage v.slot _ j still (h.stages j le) (λ same. absurd (omega arith));
  starts = h.starts;
  queues = λ d. put_kept b.queue (domain_of v.slot) _ d [] (h.queues d) (λ same. ap (without v.bank v.kind) (h.queues (domain_of v.slot)));
}

all_departed_confined : (vs : List Vertex) → AllByRecursion (λ v. v.slot < 8) vs → (b : Tables) → Confined b → Confined (through departed vs b)
unfolding through
all_departed_confined [] a b h = h
all_departed_confined (v ∷ vs) a b h = all_departed_confined vs a.1 (departed v b) (departed_confined v b a.0 h)

module _ (m : Meaning (List ℕ)) (c : Settings) (near : AllByRecursion (λ (v : Vertex). v.slot < 8) (vertices c)) (bare : (ℓ : ℕ) → 1 ≤ ℓ → (pattern_at c ℓ).spots ≡ []) where
  rounds_confined : (b : Tables) → Confined b → Confined (rounds c b)
  unfolding rounds lane_end
  rounds_confined b h = record {
    stages = λ t le. ap (renewed (lane_end c b.stage (lane_of t))) (h.stages t le) ∙ renewed_still (lane_end c b.stage (lane_of t));
    starts = λ ℓ le. ap (λ vs. next_start (pattern_at c ℓ).rest (round_end (done_in b.stage ℓ) (length vs)) (b.start ℓ)) (bare ℓ le) ∙ h.starts ℓ le;
    queues = h.queues;
  }

  tick_confined : (n : ℕ) (s : List ℕ) (b : Tables) → Confined b → Confined (after_tick m c n s b)
  unfolding after_tick after_rounds after_events departures
  tick_confined n s b h =
      let gone = departures m c n s b in
      let leave = leaving_leave (λ (v : Vertex). v.slot < 8) n (after_rounds m c n s b) (vertices c) near in
      all_departed_confined gone (All-weaker (λ v. (v.slot < 8) × (leaves n (after_rounds m c n s b) v ≡ true)) (λ (v : Vertex). v.slot < 8) (λ v p. p.0) gone leave) (after_rounds m c n s b)
      (rounds_confined (after_events m c n s b) (events_confined c n (step_events m s) b h))

  abbrev SameTrace : List Call → State → State → Type 0
  SameTrace cs v w = trace m v cs ≡ listed_trace m w cs

  -- the same trace, with the tables by lists
  pub ticks_listed : (l n k : ℕ) (x : Running) → Confined x.tables → trace m (running c x) (replicate k (ticks l n)) ≡ listed_trace m (running c x) (replicate k (ticks l n))
  unfolding trace listed_trace outcome listed_state ticked
  ticks_listed l n zero x h = refl
  ticks_listed l n (suc k) x h = ap (λ es. entry_of m (running c x) (ticks l n) ∷ es) (go (tick_refusal x l n) (λ y g. ticks_listed l n k y g))
    where
      Later : Type 0
      Later = (y : Running) → Confined y.tables → SameTrace (replicate k (ticks l n)) (running c y) (running c y)

      along : Later → (y : Running) → Confined y.tables → SameTrace (replicate k (ticks l n)) (running c y) (listed_state (running c y))
      along later y g = later y g ∙ ap (λ z. listed_trace m (running c z) (replicate k (ticks l n))) (listed_running_is y g)

      go : (o : Option ℕ) → Later → SameTrace (replicate k (ticks l n)) (unless o (running c x) (tick_outcome m c x)).after (listed_state (unless o (running c x) (tick_outcome m c x)).after)
      go None later = along later (ticked m c x) (tick_confined x.tick x.controller x.tables h)
      go (Some i) later = along later x h
