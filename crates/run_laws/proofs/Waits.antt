-- A waiting request over a whole run: its notice comes once, and in time.
use Rattle.std.proofs.Common.{◌≡◌, ℕ, suc, ◌+◌, ◌*◌, ◌<◌, ◌≤◌, Bool, true, false, cond, ◌||◌, eqb, ◌⊎◌, List, [], ◌∷◌, ◌++◌, length, None, sym, refl, ap, ◌∙◌, subst, inl, inr, arith}
use Rattle.std.proofs.ByRecursion.{All-push}
use Rattle.std.proofs.lemmas.Bool.{eqb-true, eq-eqb, ne_eqb, true≢false, cases_eq}
use Rattle.interface.specs.Lawful.{Lawful}
use Rattle.interface.specs.declared.Kind.{Kind}
use Rattle.patterns.specs.Due.{all_weights}
use Rattle.model.specs.Calls.{Call, Running, begins, enqueued, outcome, running, sets, slot_in_turn, submit, submit_outcome, submit_refusal, submitted, taken_open, tick_outcome, tick_refusal, ticked, ticks}
use Rattle.model.specs.Settings.{Role, Settings, domain_of, is_open, is_opened, opened, pattern_at, protected, role_of, unset}
use Rattle.model.specs.Ticks.{is_still, notices, put}
use Rattle.model.specs.declared.Waiting.{Waiting}
use Rattle.run_laws.specs.Runs.{Entry, answer_ticks, lasts, notices_in, trace}
use Rattle.run_laws.proofs.Deadlines.{done_all, fine_late}
use Rattle.run_laws.proofs.Departures.{size, is_flying}
use Rattle.run_laws.proofs.Holding.{Controller, left, span, places}
use Rattle.run_laws.proofs.Invariant.{slot_at, Inv, controller_2, departing, kept}
use Rattle.run_laws.proofs.Progress.{undone, carries_flies, Meets, round, Over, Flying, Queued, over_tick, flying_tick, queued_tick}
use Rattle.run_laws.proofs.Queues.{pick, Absent, Waits, here, like, past, Silent, Only}
use Rattle.run_laws.proofs.Sound.{Sound, Small, role_small}
use Rattle.run_laws.proofs.Steps.{by_refusal, by_refusal_eq}

waits_push : {b : ℕ} {k : Kind} {s j : ℕ} {q : List Waiting} (w : Waiting) → eqb w.serial s ≡ false → Waits b k s j q → Waits b k s j (q ++ (w ∷ []))
waits_push w n (here {q = q} e f a) = here e f (All-push _ q w a n)
waits_push w n (like e f h) = like e f (waits_push w n h)
waits_push w n (past e f h) = past e f (waits_push w n h)

module _ (r : Controller) (laws : Lawful r.meaning) (c : Settings) (sound : Sound c)
    (Ok : Running → Type 0)
    (ok-tick : (x : Running) → Inv r c x → Ok x → Ok (ticked r.meaning c x))
    (ok-room : (x : Running) → Inv r c x → Ok x → length (r.meaning.held (controller_2 r c x)) + length (departing r c x) ≤ places r)
    (ok-submit : (x : Running) (e b : ℕ) (k : Kind) (row : ℕ) → submit_refusal c x e b k row ≡ None → Inv r c x → Ok x → Inv r c (submitted r.meaning x e b k row (role_of c e)) × Ok (submitted r.meaning x e b k row (role_of c e)))
    (d s : ℕ) (shut : is_open c d ≡ false) where
  -- a submit to another domain, or a later one to this, leaves the request where it is
  pub record Same (x y : Running) : Type 0 where
    stages : (t : ℕ) → domain_of t ≡ d → y.tables.stage t ≡ x.tables.stage t
    starts : y.tables.start ≡ x.tables.start
    ticks_same : y.tick ≡ x.tick
    grows : x.serial d ≤ y.serial d
    absent : Absent s (x.tables.queue d) → Absent s (y.tables.queue d)
    waits : (b : ℕ) (k : Kind) (j : ℕ) → Waits b k s j (x.tables.queue d) → Waits b k s j (y.tables.queue d)

  serial_grows : (x : Running) (e : ℕ) → x.serial d ≤ put x.serial e (suc (x.serial e)) d
  serial_grows x e = go (eqb d e) refl
    where
      go : (y : Bool) → eqb d e ≡ y → x.serial d ≤ cond y (suc (x.serial e)) (x.serial d)
      go true z = let same : x.serial d ≡ x.serial e = ap x.serial (eqb-true d e z) in omega arith
      go false z = omega arith

  open_domain : (x : Running) (e share : ℕ) → role_of c e ≡ opened share → domain_of (slot_in_turn e share (x.serial e)) ≡ d → ⊥
  open_domain x e share z h =
      let fair = (subst Small z (role_small c e sound)).2 in
      let few : share ≤ 16 = fair.1 in
      let some_slot : 1 ≤ share = fair.0 in
      let here : domain_of (slot_in_turn e share (x.serial e)) ≡ e = omega arith in
      true≢false (sym (ap is_opened z) ∙ ap (is_open c) (sym here ∙ h) ∙ shut)

  same_open : (x : Running) (e b : ℕ) (k : Kind) (row share : ℕ) → role_of c e ≡ opened share → Same x (submitted r.meaning x e b k row (opened share))
  unfolding submitted taken_open
  same_open x e b k row share z = record {
    stages = λ t g. rw (elsewhere t g);
    starts = refl;
    ticks_same = refl;
    grows = serial_grows x e;
    absent = λ a. a;
    waits = λ b k j w. w;
  }
    where
      elsewhere : (t : ℕ) → domain_of t ≡ d → eqb t (slot_in_turn e share (x.serial e)) ≡ false
      elsewhere t g = ne_eqb t (slot_in_turn e share (x.serial e)) (λ y. open_domain x e share z (ap domain_of (sym y) ∙ g))

  same_queue : (x : Running) (e b : ℕ) (k : Kind) (row : ℕ) → (e ≡ d → x.serial d ≡ s → ⊥) → Same x (enqueued x e b k row)
  unfolding enqueued
  same_queue x e b k row ne = go (cases_eq d e)
    where
      go : (d ≡ e) ⊎ (d ≡ e → ⊥) → Same x (enqueued x e b k row)
      go (inl y) =
          let other : eqb (x.serial e) s ≡ false = ne_eqb (x.serial e) s (λ z. ne (sym y) (ap x.serial y ∙ z)) in
          record {
            stages = λ t g. refl;
            starts = refl;
            ticks_same = refl;
            grows = serial_grows x e;
            absent = λ a. rw (eq-eqb d e y) (All-push _ (x.tables.queue e) _ (subst (λ z. Absent s (x.tables.queue z)) y a) other);
            waits = λ b k j w. rw (eq-eqb d e y) (waits_push _ other (subst (λ z. Waits b k s j (x.tables.queue z)) y w));
          }
      go (inr y) = record { stages = λ t g. refl; starts = refl; ticks_same = refl; grows = serial_grows x e; absent = λ a. rw (ne_eqb d e y) a; waits = λ b k j w. rw (ne_eqb d e y) w }

  pub same_submit : (x : Running) (e b : ℕ) (k : Kind) (row : ℕ) (q : Role) → role_of c e ≡ q → (e ≡ d → x.serial d ≡ s → ⊥) → Same x (submitted r.meaning x e b k row q)
  unfolding submitted
  same_submit x e b k row unset z ne = record { stages = λ t g. refl; starts = refl; ticks_same = refl; grows = omega arith; absent = λ a. a; waits = λ b k j w. w }
  same_submit x e b k row (opened share) z ne = same_open x e b k row share z
  same_submit x e b k row (protected patterns) z ne = same_queue x e b k row ne

  silent_same : (x y : Running) → Same x y → Silent d s x.tables.stage → Silent d s y.tables.stage
  silent_same x y m h t e = rw (m.stages t e) (h t e)

  only_same : (x y : Running) → Same x y → (t : ℕ) → Only d s t x.tables.stage → Only d s t y.tables.stage
  only_same x y m t h = (h.0, rw (m.stages t h.0) h.1, λ u e ne. rw (m.stages u e) (h.2 u e ne))

  pub over_submit : (x y : Running) → Same x y → Over d s x → Over d s y
  over_submit x y m o = record { silent = silent_same x y m o.silent; absent = m.absent o.absent }

  counted_ticked : (x : Running) → s < x.serial d → s < (ticked r.meaning c x).serial d
  unfolding ticked
  counted_ticked x h = h

  -- no notice once it is over
  pub no_more_answers : (cs : List Call) (x : Running) → Inv r c x → Ok x → s < x.serial d → Over d s x → answer_ticks d s (trace r.meaning (running c x) cs) ≡ []
  unfolding trace outcome
  no_more_answers [] x inv ok counted o = refl
  no_more_answers (sets z ∷ cs) x inv ok counted o = no_more_answers cs x inv ok counted o
  no_more_answers (begins ∷ cs) x inv ok counted o = no_more_answers cs x inv ok counted o
  no_more_answers (submit e b k row ∷ cs) x inv ok counted o = by_refusal_eq (λ u. pick d s (notices_in u.reply) ++ answer_ticks d s (trace r.meaning u.after cs) ≡ []) (submit_refusal c x e b k row) (running c x) (submit_outcome r.meaning c x e b k row)
      (λ j. no_more_answers cs x inv ok counted o)
      (λ z. let same = same_submit x e b k row (role_of c e) refl (λ y w. omega arith) in
      let more = same.grows in
      let good = ok-submit x e b k row z inv ok in
      no_more_answers cs (submitted r.meaning x e b k row (role_of c e)) good.0 good.1 (omega arith) (over_submit x _ same o))
  no_more_answers (ticks l m ∷ cs) x inv ok counted o = by_refusal (λ u. pick d s (notices_in u.reply) ++ answer_ticks d s (trace r.meaning u.after cs) ≡ []) (tick_refusal x l m) (running c x) (tick_outcome r.meaning c x)
      (λ j. no_more_answers cs x inv ok counted o)
      (let z = over_tick r laws c sound x inv (ok-room x inv ok) d s o in
      ap (λ y. y ++ answer_ticks d s (trace r.meaning (running c (ticked r.meaning c x)) cs)) z.0 ∙ no_more_answers cs (ticked r.meaning c x) (kept r laws c sound x inv (ok-room x inv ok)) (ok-tick x inv ok) (counted_ticked x counted) z.1)

  module _ (b : ℕ) (k : Kind) (ℓ i R W : ℕ) (m : Meets c d b k ℓ i) (longest : round r c ℓ ≤ R)
      (ok-left : (x : Running) (e b : ℕ) (k : Kind) (row : ℕ) → submit_refusal c x e b k row ≡ None → Inv r c x → Ok x → (t : ℕ) → is_flying (x.tables.stage t) ≡ true → left r (submitted r.meaning x e b k row (role_of c e)).controller t ≡ left r x.controller t) where
    abbrev Pending : Running → Type 0
    Pending x = Queued d s b k ℓ i R W x ⊎ Flying r d s W x

    -- it is not too late
    early : (x : Running) → Inv r c x → Pending x → x.tick ≤ W
    early x inv (inr f) = let p = f.sure in let q = f.left_some in omega arith
    early x inv (inl q) =
        let u = undone c ℓ x.tables.stage i m.index_fits (inv.unfinished ℓ m.lane_fits) in
        let now = fine_late (span r) (x.tables.start ℓ) (pattern_at c ℓ).edges x.tick u.0 (left r x.controller (slot_at ℓ u.0)) (x.tables.stage (slot_at ℓ u.0)) (inv.lanes ℓ m.lane_fits u.0 u.1) u.2 in
        let all = done_all (span r) (x.tables.start ℓ) (pattern_at c ℓ).edges u.0 (size c ℓ) u.1 in
        go (is_still (x.tables.stage (slot_at ℓ i))) refl now all
      where
        go : (y : Bool) → is_still (x.tables.stage (slot_at ℓ i)) ≡ y → {n a : ℕ} → n ≤ a → a ≤ x.tables.start ℓ + size c ℓ * span r + all_weights (pattern_at c ℓ).edges → n ≤ W
        go true e {n} {a} p w = let bound = q.if_still e in omega arith
        go false e {n} {a} p w = let bound = q.if_not e in omega arith

    pending_submit : (x : Running) (e b' : ℕ) (k' : Kind) (row : ℕ) → submit_refusal c x e b' k' row ≡ None → Inv r c x → Ok x → s < x.serial d → Pending x → Pending (submitted r.meaning x e b' k' row (role_of c e))
    pending_submit x e b' k' row z inv ok counted p = go p
      where
        y : Running
        y = submitted r.meaning x e b' k' row (role_of c e)

        same : Same x (submitted r.meaning x e b' k' row (role_of c e))
        same = same_submit x e b' k' row (role_of c e) refl (λ u w. omega arith)

        go : Pending x → Pending (submitted r.meaning x e b' k' row (role_of c e))
        go (inl q) =
            let stage-same = same.stages (slot_at ℓ i) m.domain_is in
            let start_same = ap (λ f. f ℓ) same.starts in
            inl (record { older = q.older; silent = silent_same x _ same q.silent; waits = same.waits b k q.older q.waits; if_still = λ f. rw start_same (q.if_still (ap is_still (sym stage-same) ∙ f)); if_not = λ f. rw start_same (q.if_not (ap is_still (sym stage-same) ∙ f)) })
        go (inr f) =
            let left-same = ok-left x e b' k' row z inv ok f.slot (carries_flies s (x.tables.stage f.slot) f.only.1) in
            let tick-same = same.ticks_same in
            inr (record { slot = f.slot; only = only_same x _ same f.slot f.only; absent = same.absent f.absent; sure = rw (left-same, tick-same) f.sure; left_some = rw left-same f.left_some })

    abbrev Verdict : ℕ → List Entry → Type 0
    Verdict n es = ((answer_ticks d s es ≡ []) × (lasts W es ≡ false)) ⊎ ((t : ℕ) × (n ≤ t) × (t ≤ W) × (answer_ticks d s es ≡ t ∷ []))

    pub answered_from : (cs : List Call) (x : Running) → Inv r c x → Ok x → s < x.serial d → Pending x → Verdict x.tick (trace r.meaning (running c x) cs)
    unfolding trace outcome ticked
    answered_from [] x inv ok counted p = inl (refl, refl)
    answered_from (sets z ∷ cs) x inv ok counted p = answered_from cs x inv ok counted p
    answered_from (begins ∷ cs) x inv ok counted p = answered_from cs x inv ok counted p
    answered_from (submit e b' k' row ∷ cs) x inv ok counted p = by_refusal_eq (λ u. Verdict x.tick (record { tick = x.tick; call = submit e b' k' row; reply = u.reply; bus = u.bus } ∷ trace r.meaning u.after cs)) (submit_refusal c x e b' k' row) (running c x) (submit_outcome r.meaning c x e b' k' row)
        (λ j. answered_from cs x inv ok counted p)
        (λ z. let same = same_submit x e b' k' row (role_of c e) refl (λ y w. omega arith) in
        let more = same.grows in
        let good = ok-submit x e b' k' row z inv ok in
        subst (λ n. Verdict n (trace r.meaning (running c (submitted r.meaning x e b' k' row (role_of c e))) cs)) same.ticks_same (answered_from cs (submitted r.meaning x e b' k' row (role_of c e)) good.0 good.1 (omega arith) (pending_submit x e b' k' row z inv ok counted p)))
    answered_from (ticks l n ∷ cs) x inv ok counted p = by_refusal (λ u. Verdict x.tick (record { tick = x.tick; call = ticks l n; reply = u.reply; bus = u.bus } ∷ trace r.meaning u.after cs)) (tick_refusal x l n) (running c x) (tick_outcome r.meaning c x)
        (λ j. answered_from cs x inv ok counted p)
        (step p (λ q. answered_from cs (ticked r.meaning c x) inv' ok' counted q))
      where
        inv' : Inv r c (ticked r.meaning c x)
        inv' = kept r laws c sound x inv (ok-room x inv ok)

        ok' : Ok (ticked r.meaning c x)
        ok' = ok-tick x inv ok

        noted : List ℕ
        noted = pick d s (notices r.meaning c x.tick x.controller x.tables)

        later : List Entry
        later = trace r.meaning (running c (ticked r.meaning c x)) cs

        Now : Type 0
        Now = ((noted ++ answer_ticks d s later ≡ []) × ((eqb x.tick W || lasts W later) ≡ false)) ⊎ ((t : ℕ) × (x.tick ≤ t) × (t ≤ W) × (noted ++ answer_ticks d s later ≡ t ∷ []))

        on : noted ≡ [] → Pending (ticked r.meaning c x) → Verdict (suc x.tick) later → Now
        on e q (inl o) = let soon : suc x.tick ≤ W = early (ticked r.meaning c x) inv' q in inl (rw e o.0, rw (ne_eqb x.tick W (λ z. omega arith)) o.1)
        on e q (inr o) = let late = o.1 in inr (o.0, omega arith, o.2, rw e o.3)

        step : Pending x → (Pending (ticked r.meaning c x) → Verdict (suc x.tick) later) → Now
        step (inl q) ih = queued (queued_tick r laws c sound x inv (ok-room x inv ok) d s W b k ℓ i R m longest q)
          where
            queued : (noted ≡ []) × (Queued d s b k ℓ i R W (ticked r.meaning c x) ⊎ Flying r d s W (ticked r.meaning c x)) → Now
            queued z = on z.0 z.1 (ih z.1)
        step (inr f) ih = answered_now (flying_tick r laws c sound x inv (ok-room x inv ok) d s W f)
          where
            answered_now : ((noted ≡ []) × Flying r d s W (ticked r.meaning c x)) ⊎ ((noted ≡ x.tick ∷ []) × (x.tick ≤ W) × Over d s (ticked r.meaning c x)) → Now
            answered_now (inl z) = on z.0 (inr z.1) (ih (inr z.1))
            answered_now (inr z) = inr (x.tick, omega arith, z.1, rw z.0 (ap (◌∷◌ x.tick) (no_more_answers cs (ticked r.meaning c x) inv' ok' counted z.2)))
