-- Each protected request that is taken is answered once, and in time.
use Rattle.std.proofs.Common.{◌≡◌, ℕ, zero, suc, ◌+◌, ◌*◌, ◌/◌, ◌%◌, ◌<◌, ◌≤◌, Bool, true, false, cond, not, ◌&&◌, ◌||◌, eqb, ◌⊎◌, List, [], ◌∷◌, ◌++◌, length, get_or, Some, None, Option, sym, refl, ap, ◌∙◌, subst, inl, inr, arith}
use Rattle.std.proofs.lemmas.List.{append_assoc}
use Rattle.std.proofs.lemmas.Bool.{eqb-true, eq-eqb, ne_eqb, true≢false, not-false, and_parts, or_cases, or_parts}
use Rattle.interface.specs.Lawful.{Lawful}
use Rattle.interface.specs.Meaning.{Meaning}
use Rattle.interface.specs.declared.Kind.TheVariants.{Read, Write}
use Rattle.interface.specs.declared.Kind.{Kind}
use Rattle.patterns.specs.Due.{all_weights}
use Rattle.patterns.specs.declared.edge.Edge.{Edge}
use Rattle.patterns.specs.declared.setting.VertexSetting.{VertexSetting}
use Rattle.model.specs.Calls.{next_tick, Call, Outcome, Running, State, begins, enqueued, good, new, outcome, role_refusal, running, serial, serves, sets, setting, setting_refusal, settled, started, submit, submit_outcome, submit_refusal, submitted, tick_outcome, tick_refusal, ticked, ticks, unless}
use Rattle.model.specs.Settings.{Pattern, Role, Settings, Vertex, domain_of, is_opened, lane_vertices, pattern_at, patterns_of, protected, role_of, vertices, vertices_below, vertices_from}
use Rattle.model.specs.Ticks.{Stage, done, flying, is_still, matches, same_kind, still}
use Rattle.model.specs.declared.Waiting.{Waiting}
use Rattle.run_laws.specs.Laws.{AnsweredInTime, ServiceLawOf}
use Rattle.run_laws.specs.Runs.{domain_round, Entry, accepts, answer_ticks, lasts, notices_in, older_waiting, run, state_after, trace, wait_limit}
use Rattle.run_laws.proofs.Always.{Good, new_fits, good_step, good_all, within_ticked, serial_of, clock, grows, stays_set}
use Rattle.run_laws.proofs.Deadlines.{Fine}
use Rattle.run_laws.proofs.Departures.{size, vertex_at, spot_at}
use Rattle.run_laws.proofs.Holding.{Controller, left, span}
use Rattle.run_laws.proofs.Invariant.{slot_at, Inv}
use Rattle.run_laws.proofs.Progress.{Meets, round, Over, Queued, over_tick}
use Rattle.run_laws.proofs.Queues.{pick, Absent, Waits, here, like, past}
use Rattle.run_laws.proofs.Room.{Within, room_for_tick}
use Rattle.run_laws.proofs.Sound.{Sound, pattern_small, check_none}
use Rattle.run_laws.proofs.Steps.{by_refusal, by_refusal_eq, settings_at}
use Rattle.run_laws.proofs.Submits.{submit_keeps, submit_left, role_ok}
use Rattle.run_laws.proofs.Waits.{same_submit, over_submit, answered_from}

pub trace_append : (m : Meaning (List ℕ)) (cs bs : List Call) (w : State) → trace m w (cs ++ bs) ≡ trace m w cs ++ trace m (state_after m w cs) bs
unfolding trace state_after
trace_append m [] bs w = refl
trace_append m (a ∷ cs) bs w = ap (◌∷◌ (record { tick = next_tick w; call = a; reply = (outcome m w a).reply; bus = (outcome m w a).bus })) (trace_append m cs bs (outcome m w a).after)

answered_append : (d s : ℕ) (es fs : List Entry) → answer_ticks d s (es ++ fs) ≡ answer_ticks d s es ++ answer_ticks d s fs
answered_append d s [] fs = refl
answered_append d s (e ∷ es) fs = ap (λ z. pick d s (notices_in e.reply) ++ z) (answered_append d s es fs) ∙ sym (append_assoc (pick d s (notices_in e.reply)) (answer_ticks d s es) (answer_ticks d s fs))

lasts_append : (n : ℕ) (es fs : List Entry) → lasts n es ≡ false → lasts n (es ++ fs) ≡ lasts n fs
lasts_append n [] fs h = refl
lasts_append n (e ∷ es) fs h = let p = or_parts (accepts n e.tick e.reply) (lasts n es) h in rw p.0 (lasts_append n es fs p.1)

kind_same : (k : Kind) → same_kind k k ≡ true
kind_same Read = refl
kind_same Write = refl

kind_is : (k l : Kind) → same_kind k l ≡ true → k ≡ l
kind_is Read Read e = refl
kind_is Read Write e = absurd (true≢false (sym e))
kind_is Write Read e = absurd (true≢false (sym e))
kind_is Write Write e = refl

waits_new : (b : ℕ) (k : Kind) (s : ℕ) (q : List Waiting) (w : Waiting) → Absent s q → eqb w.serial s ≡ true → matches b k w ≡ true → Waits b k s (older_waiting b k q) (q ++ (w ∷ []))
waits_new b k s [] w a e f = here e f tt
waits_new b k s (v ∷ q) w a e f = go (matches b k v) refl (waits_new b k s q w a.1 e f)
  where
    go : (x : Bool) → matches b k v ≡ x → Waits b k s (older_waiting b k q) (q ++ (w ∷ [])) → Waits b k s (cond x (suc (older_waiting b k q)) (older_waiting b k q)) (v ∷ (q ++ (w ∷ [])))
    go true z h = like a.0 z h
    go false z h = past a.0 z h

-- some vertex of the domain has the bank and the kind
serves_append : (d b : ℕ) (k : Kind) (us vs : List Vertex) → serves d b k (us ++ vs) ≡ (serves d b k us || serves d b k vs)
serves_append d b k [] vs = refl
serves_append d b k (u ∷ us) vs = go (eqb (domain_of u.slot) d && (eqb u.bank b && same_kind u.kind k)) (serves_append d b k us vs)
  where
    go : (x : Bool) → serves d b k (us ++ vs) ≡ (serves d b k us || serves d b k vs) → (x || serves d b k (us ++ vs)) ≡ ((x || serves d b k us) || serves d b k vs)
    go true e = refl
    go false e = e

serves_lane : (d b : ℕ) (k : Kind) (base j : ℕ) (es : List Edge) (ss : List VertexSetting) → serves d b k (vertices_from base j es ss) ≡ true
    → (i : ℕ) × (i < length ss) × (domain_of (base + (j + i)) ≡ d) × ((spot_at ss i).bank ≡ b) × ((spot_at ss i).kind ≡ k)
unfolding vertices_from spot_at
serves_lane d b k base j es [] e = absurd (true≢false (sym e))
serves_lane d b k base j es (p ∷ ss) e = go (eqb (domain_of (base + j)) d && (eqb p.bank b && same_kind p.kind k)) refl e (serves_lane d b k base (suc j) es ss)
  where
    Goal : Type 0
    Goal = (i : ℕ) × (i < suc (length ss)) × (domain_of (base + (j + i)) ≡ d) × ((spot_at (p ∷ ss) i).bank ≡ b) × ((spot_at (p ∷ ss) i).kind ≡ k)

    go : (x : Bool) → (eqb (domain_of (base + j)) d && (eqb p.bank b && same_kind p.kind k)) ≡ x → (x || serves d b k (vertices_from base (suc j) es ss)) ≡ true
        → (serves d b k (vertices_from base (suc j) es ss) ≡ true → (i : ℕ) × (i < length ss) × (domain_of (base + (suc j + i)) ≡ d) × ((spot_at ss i).bank ≡ b) × ((spot_at ss i).kind ≡ k)) → Goal
    go true z f ih =
        let one = and_parts _ _ z in
        let two = and_parts _ _ one.1 in
        let same : j ≡ j + 0 = omega arith in
        (0, omega arith, subst (λ y. domain_of (base + y) ≡ d) same (eqb-true _ d one.0), eqb-true p.bank b two.0, kind_is p.kind k two.1)
    go false z f ih =
        let y = ih f in
        let h = y.1 in
        let same : suc j + y.0 ≡ j + suc y.0 = omega arith in
        (suc y.0, omega arith, subst (λ w. domain_of (base + w) ≡ d) same y.2, y.3, y.4)

serves_meets : (c : Settings) (d b : ℕ) (k : Kind) (n : ℕ) → n ≤ 64 → serves d b k (vertices_below c n) ≡ true → (ℓ : ℕ) × (i : ℕ) × Meets c d b k ℓ i
unfolding vertices_below lane_vertices vertex_at
serves_meets c d b k zero h e = absurd (true≢false (sym e))
serves_meets c d b k (suc n) h e = elim (or_cases (serves d b k (vertices_below c n)) (serves d b k (lane_vertices c n)) (sym (serves_append d b k (vertices_below c n) (lane_vertices c n)) ∙ e)) [
  | inl f ↦ serves_meets c d b k n (omega arith) f
  | inr f ↦ (let y = serves_lane d b k (n * 8) 0 (pattern_at c n).edges (pattern_at c n).spots f in
      let same : 0 + y.0 ≡ y.0 = omega arith in
      (n, y.0, record { lane_fits = omega arith; index_fits = y.1; domain_is = subst (λ z. domain_of (n * 8 + z) ≡ d) same y.2; bank_is = y.3; kind_is = y.4 }))
]

longest_of : (span : ℕ) (ss : List Pattern) (i : ℕ) (z : Pattern) → length z.spots * span + all_weights z.edges + z.rest ≡ 0 → length (get_or ss i z).spots * span + all_weights (get_or ss i z).edges + (get_or ss i z).rest ≤ domain_round span ss
longest_of span [] i z e = omega arith
longest_of span (s ∷ ss) zero z e = omega arith
longest_of span (s ∷ ss) (suc i) z e = let h = longest_of span ss i z e in omega arith

round_longest : (r : Controller) (c : Settings) (d ℓ i : ℕ) → Sound c → i < size c ℓ → domain_of (slot_at ℓ i) ≡ d → round r c ℓ ≤ domain_round (span r) (patterns_of (role_of c d))
unfolding pattern_at
round_longest r c d ℓ i sound h e =
    let few : size c ℓ ≤ 8 = (pattern_small c ℓ sound).few in
    let here : ℓ / 8 ≡ d = omega arith in
    let bound = longest_of (span r) (patterns_of (role_of c (ℓ / 8))) (ℓ % 8) (record { spots = []; edges = []; rest = 0 }) (omega arith) in
    subst (λ y. round r c ℓ ≤ domain_round (span r) (patterns_of (role_of c y))) here (omega arith)

fine_begun : (span start : ℕ) (es : List Edge) (n i l : ℕ) (x : Stage) → Fine span start es n i l x → is_still x ≡ false → start ≤ n
fine_begun span start es n i l still f e = absurd (true≢false e)
fine_begun span start es n i l (flying b k c) f e = let p = f.2 in omega arith
fine_begun span start es n i l (done m) f e = let p = f.2 in omega arith

module _ (r : Controller) (laws : Lawful r.meaning) (d s : ℕ) where
  abbrev Quiet : State → Type 0
  Quiet (setting c s') = Unit {0}
  Quiet (running c x) = Over d s x

  started_over : (c : Settings) (s' : List ℕ) → Over d s (started c s')
  unfolding started
  started_over c s' = record { silent = λ t e. refl; absent = tt }

  abbrev FineOutcome : ℕ → ℕ → Outcome → Type 0
  FineOutcome n t u = (pick d s (notices_in u.reply) ≡ []) × Quiet u.after × (accepts n t u.reply ≡ false)

  -- a call to a running scheduler, before the request is taken
  module _ (c : Settings) (patterns : List Pattern) (is : role_of c d ≡ protected patterns) (x : Running) (g : Good r laws (running c x)) (o : Over d s x) where
    submit_before : (n e b : ℕ) (k : Kind) (row : ℕ) → (submit_refusal c x e b k row ≡ None → e ≡ d → x.serial d ≡ s → ⊥) → FineOutcome n x.tick (outcome r.meaning (running c x) (submit e b k row))
    unfolding outcome
    submit_before n e b k row ne = by_refusal_eq (FineOutcome n x.tick) (submit_refusal c x e b k row) (running c x) (submit_outcome r.meaning c x e b k row) (λ j. (refl, o, refl))
        (λ z. (
          refl,
          over_submit r laws c g.0.sound (Within r laws c) (within_ticked r laws c g.0) (λ y i w. room_for_tick r laws c g.0.sound y i g.0.fit w) (λ y e b k row z i w. submit_keeps r laws c g.0.sound g.0.eight g.0.fit y e b k row z i w) d s (ap is_opened is) x _
              (same_submit r laws c g.0.sound (Within r laws c) (within_ticked r laws c g.0) (λ y i w. room_for_tick r laws c g.0.sound y i g.0.fit w) (λ y e b k row z i w. submit_keeps r laws c g.0.sound g.0.eight g.0.fit y e b k row z i w) d s (ap is_opened is) x e b k row (role_of c e) refl (ne z)) o,
          refl,
        ))

    tick_before : (n l m : ℕ) → (tick_refusal x l m ≡ None → suc x.tick ≤ n) → FineOutcome n x.tick (outcome r.meaning (running c x) (ticks l m))
    unfolding outcome
    tick_before n l m early = by_refusal_eq (FineOutcome n x.tick) (tick_refusal x l m) (running c x) (tick_outcome r.meaning c x) (λ j. (refl, o, refl))
        (λ z. let h = early z in let y = over_tick r laws c g.0.sound x g.1 (room_for_tick r laws c g.0.sound x g.1 g.0.fit g.2) d s o in (y.0, y.1, ne_eqb x.tick n (λ w. omega arith)))

  own_serial : (c : Settings) (x : Running) (b : ℕ) (k : Kind) (row : ℕ) (q : Role) (patterns : List Pattern) → q ≡ protected patterns → (submitted r.meaning x d b k row q).serial d ≡ suc (x.serial d)
  unfolding submitted enqueued
  own_serial c x b k row q patterns z = rw z (rw (eq-eqb d d refl) refl)

  one_before : (n : ℕ) (cs : List Call) (patterns : List Pattern) (m : State) (call : Call) → Good r laws m → Quiet m → role_of (settings_at (state_after r.meaning (outcome r.meaning m call).after cs)) d ≡ protected patterns → serial_of r laws d (state_after r.meaning (outcome r.meaning m call).after cs) ≤ s → clock r laws (state_after r.meaning (outcome r.meaning m call).after cs) ≤ n → FineOutcome n (next_tick m) (outcome r.meaning m call)
  unfolding outcome state_after ticked
  one_before n cs patterns (setting c s') (sets z) g q e f t = by_refusal (FineOutcome n c.first) (setting_refusal (r.meaning.places s') c z) (setting c s') (record { after = setting (settled c z) s'; reply = good; bus = [] }) (λ k. (refl, tt, refl)) (refl, tt, refl)
  one_before n cs patterns (setting c s') begins g q e f t = (refl, started_over c s', refl)
  one_before n cs patterns (setting c s') (submit d' b k row) g q e f t = (refl, tt, refl)
  one_before n cs patterns (setting c s') (ticks l m) g q e f t = (refl, tt, refl)
  one_before n cs patterns (running c x) (sets z) g q e f t = (refl, q, refl)
  one_before n cs patterns (running c x) begins g q e f t = (refl, q, refl)
  one_before n cs patterns (running c x) (submit d' b k row) g q e f t = submit_before c patterns is x g q n d' b k row ne
    where
      is : role_of c d ≡ protected patterns
      is = ap (λ z. role_of z d) (sym (stays_set r laws (submit d' b k row ∷ cs) c x)) ∙ e

      ne : submit_refusal c x d' b k row ≡ None → d' ≡ d → x.serial d ≡ s → ⊥
      ne z y w =
          let final : serial_of r laws d (state_after r.meaning (running c (submitted r.meaning x d' b k row (role_of c d'))) cs) ≤ s = subst (λ o. serial_of r laws d (state_after r.meaning (unless o (running c x) (submit_outcome r.meaning c x d' b k row)).after cs) ≤ s) z f in
          let up = (grows r laws d cs (running c (submitted r.meaning x d' b k row (role_of c d')))).0 in
          let own : (submitted r.meaning x d' b k row (role_of c d')).serial d ≡ suc (x.serial d) = subst (λ v. (submitted r.meaning x v b k row (role_of c v)).serial d ≡ suc (x.serial d)) (sym y) (own_serial c x b k row (role_of c d) patterns is) in
          omega arith
  one_before n cs patterns (running c x) (ticks l m) g q e f t = tick_before c patterns is x g q n l m early
    where
      is : role_of c d ≡ protected patterns
      is = ap (λ z. role_of z d) (sym (stays_set r laws (ticks l m ∷ cs) c x)) ∙ e

      early : tick_refusal x l m ≡ None → suc x.tick ≤ n
      early z =
          let final : clock r laws (state_after r.meaning (running c (ticked r.meaning c x)) cs) ≤ n = subst (λ o. clock r laws (state_after r.meaning (unless o (running c x) (tick_outcome r.meaning c x)).after cs) ≤ n) z t in
          let up = (grows r laws d cs (running c (ticked r.meaning c x))).1 in
          omega arith

  pub prefix : (n : ℕ) (cs : List Call) (m : State) → Good r laws m → Quiet m → (patterns : List Pattern)
      → role_of (settings_at (state_after r.meaning m cs)) d ≡ protected patterns → serial_of r laws d (state_after r.meaning m cs) ≤ s → clock r laws (state_after r.meaning m cs) ≤ n
      → (answer_ticks d s (trace r.meaning m cs) ≡ []) × (lasts n (trace r.meaning m cs) ≡ false) × Quiet (state_after r.meaning m cs)
  unfolding trace state_after
  prefix n [] m g q patterns e f t = (refl, refl, q)
  prefix n (call ∷ cs) m g q patterns e f t = go (prefix n cs (outcome r.meaning m call).after (good_step r laws m call g)) (one_before n cs patterns m call g q e f t)
    where
      go : (Quiet (outcome r.meaning m call).after → (patterns : List Pattern) → role_of (settings_at (state_after r.meaning (outcome r.meaning m call).after cs)) d ≡ protected patterns → serial_of r laws d (state_after r.meaning (outcome r.meaning m call).after cs) ≤ s → clock r laws (state_after r.meaning (outcome r.meaning m call).after cs) ≤ n
          → (answer_ticks d s (trace r.meaning (outcome r.meaning m call).after cs) ≡ []) × (lasts n (trace r.meaning (outcome r.meaning m call).after cs) ≡ false) × Quiet (state_after r.meaning (outcome r.meaning m call).after cs))
          → FineOutcome n (next_tick m) (outcome r.meaning m call)
          → (pick d s (notices_in (outcome r.meaning m call).reply) ++ answer_ticks d s (trace r.meaning (outcome r.meaning m call).after cs) ≡ []) × ((accepts n (next_tick m) (outcome r.meaning m call).reply || lasts n (trace r.meaning (outcome r.meaning m call).after cs)) ≡ false) × Quiet (state_after r.meaning (outcome r.meaning m call).after cs)
      go ih b = let y = ih b.1 patterns e f t in (rw b.0 y.0, rw b.2 y.1, y.2)

-- the request's own submit
reply_taken : (o : Option ℕ) (m : State) (t : Outcome) (i s : ℕ) → t.reply ≡ serial i → (unless o m t).reply ≡ serial s → (o ≡ None) × (i ≡ s)
reply_taken None m t i s e f = (refl, serial_is i s (sym e ∙ f))
  where
    serial_is : (i s : ℕ) → serial i ≡ serial s → i ≡ s
    serial_is i s e = cc
reply_taken (Some k) m t i s e f = absurd (let z : ◌≡◌ {A = ℕ} 0 1 = cc in omega arith)

module _ (r : Controller) (laws : Lawful r.meaning) (c : Settings) (x : Running) (d b : ℕ) (k : Kind) (row s : ℕ) (patterns : List Pattern) (g : Good r laws (running c x)) (is : role_of c d ≡ protected patterns) (taken : submit_refusal c x d b k row ≡ None) (own : x.serial d ≡ s) (over : Over d s x) where
  abbrev R : ℕ
  R = domain_round (span r) (patterns_of (role_of c d))

  abbrev W : ℕ
  W = x.tick + wait_limit (span r) c x d b k

  abbrev y : Running
  y = enqueued x d b k row

  served : serves d b k (vertices c) ≡ true
  unfolding role_refusal
  served = not-false _ (check_none (not (serves d b k (vertices c))) 12 _ (subst (λ q. role_refusal c x d b k q ≡ None) is (role_ok r laws c g.0.sound g.0.eight g.0.fit x d b k row taken g.1 g.2))).0

  met : (ℓ : ℕ) × (i : ℕ) × Meets c d b k ℓ i
  unfolding vertices
  met = serves_meets c d b k 64 (omega arith) served

  good_y : Inv r c y × Within r laws c y
  unfolding submitted
  good_y = subst (λ q. Inv r c (submitted r.meaning x d b k row q) × Within r laws c (submitted r.meaning x d b k row q)) is (submit_keeps r laws c g.0.sound g.0.eight g.0.fit x d b k row taken g.1 g.2)

  queued : (ℓ i : ℕ) → Meets c d b k ℓ i → Queued d s b k ℓ i R W y
  unfolding enqueued
  queued ℓ i m =
      let longest_round = round_longest r c d ℓ i g.0.sound m.index_fits m.domain_is in
      let starts = g.1.starts ℓ m.lane_fits in
      record {
        older = older_waiting b k (x.tables.queue d);
        silent = over.silent;
        waits = rw (eq-eqb d d refl) (waits_new b k s (x.tables.queue d) _ over.absent (eq-eqb (x.serial d) s own) (rw (eq-eqb b b refl) (kind_same k)));
        if_still = λ e. omega arith;
        if_not = λ e. (let h = fine_begun (span r) (x.tables.start ℓ) (pattern_at c ℓ).edges x.tick i (left r x.controller (slot_at ℓ i)) (x.tables.stage (slot_at ℓ i)) (g.1.lanes ℓ m.lane_fits i m.index_fits) e in omega arith);
      }

  abbrev Result : List Entry → Type 0
  Result es = ((answer_ticks d s es ≡ []) × (lasts W es ≡ false)) ⊎ ((t : ℕ) × (x.tick ≤ t) × (t ≤ W) × (answer_ticks d s es ≡ t ∷ []))

  answer : (rest : List Call) → Result (trace r.meaning (running c y) rest)
  unfolding enqueued
  answer rest = answered_from r laws c g.0.sound (Within r laws c) (within_ticked r laws c g.0) (λ z i w. room_for_tick r laws c g.0.sound z i g.0.fit w) (λ z e b k row f i w. submit_keeps r laws c g.0.sound g.0.eight g.0.fit z e b k row f i w) d s (ap is_opened is)
      b k met.0 met.1 R W met.2 (round_longest r c d met.0 met.1 g.0.sound met.2.index_fits met.2.domain_is) (λ z e b k row f i w. submit_left r laws c g.0.sound g.0.eight g.0.fit z e b k row f i w)
      rest y good_y.0 good_y.1 counted (inl (queued met.0 met.1 met.2))
    where
      counted : s < y.serial d
      counted = rw (eq-eqb d d refl) (omega arith)

  own_entry : (n : ℕ) (rest : List Call) → (answer_ticks d s (trace r.meaning (running c x) (submit d b k row ∷ rest)) ≡ answer_ticks d s (trace r.meaning (running c y) rest)) × (lasts n (trace r.meaning (running c x) (submit d b k row ∷ rest)) ≡ lasts n (trace r.meaning (running c y) rest))
  unfolding trace outcome submitted
  own_entry n rest = (rw (taken, is), rw (taken, is))

  pub ends : (es : List Entry) (rest : List Call) → answer_ticks d s es ≡ [] → lasts W es ≡ false → AnsweredInTime d s x.tick (wait_limit (span r) c x d b k) (es ++ trace r.meaning (running c x) (submit d b k row ∷ rest))
  ends es rest none_before not-before = go (answer rest)
    where
      all : answer_ticks d s (es ++ trace r.meaning (running c x) (submit d b k row ∷ rest)) ≡ answer_ticks d s (trace r.meaning (running c y) rest)
      all = answered_append d s es (trace r.meaning (running c x) (submit d b k row ∷ rest)) ∙ ap (λ z. z ++ answer_ticks d s (trace r.meaning (running c x) (submit d b k row ∷ rest))) none_before ∙ (own_entry 0 rest).0

      last : lasts W (es ++ trace r.meaning (running c x) (submit d b k row ∷ rest)) ≡ lasts W (trace r.meaning (running c y) rest)
      last = lasts_append W es (trace r.meaning (running c x) (submit d b k row ∷ rest)) not-before ∙ (own_entry W rest).1

      go : Result (trace r.meaning (running c y) rest) → AnsweredInTime d s x.tick (wait_limit (span r) c x d b k) (es ++ trace r.meaning (running c x) (submit d b k row ∷ rest))
      go (inl o) = record { at_most_once = rw (all ∙ o.0) (omega arith); if_it_lasts = λ e. absurd (true≢false (sym e ∙ last ∙ o.1)) }
      go (inr o) = record { at_most_once = rw (all ∙ o.3) (omega arith); if_it_lasts = λ e. (o.0, o.1, o.2, all ∙ o.3) }

pub in_time : (m : Meaning (List ℕ)) → Lawful m → ServiceLawOf m
unfolding run outcome
in_time m laws b before c x d bank kind row s rest patterns e1 is e2 =
    subst (AnsweredInTime d s x.tick (wait_limit (m.span b) c x d bank kind)) (sym (trace_append m before (submit d bank kind row ∷ rest) (new m b) ∙ ap (λ w. trace m (new m b) before ++ trace m w (submit d bank kind row ∷ rest)) e1))
    (ends r laws c x d bank kind row s patterns good is taken.0 taken.1 (subst (Quiet r laws d s) e1 pre.2) (trace m (new m b) before) rest pre.0 pre.1)
  where
    r : Controller
    r = record { meaning = m; origin = b }

    good : Good (record { meaning = m; origin = b }) laws (running c x)
    good = subst (Good r laws) e1 (good_all r laws before (new m b) (new_fits r laws, refl))

    taken : (submit_refusal c x d bank kind row ≡ None) × (x.serial d ≡ s)
    taken = reply_taken (submit_refusal c x d bank kind row) (running c x) (submit_outcome m c x d bank kind row) (x.serial d) s refl e2

    pre : (answer_ticks d s (trace m (new m b) before) ≡ []) × (lasts (x.tick + wait_limit (m.span b) c x d bank kind) (trace m (new m b) before) ≡ false) × Quiet (record { meaning = m; origin = b }) laws d s (state_after m (new m b) before)
    pre = prefix r laws d s (x.tick + wait_limit (m.span b) c x d bank kind) before (new m b) (new_fits r laws, refl) tt patterns
        (subst (λ w. role_of (settings_at w) d ≡ protected patterns) (sym e1) is)
        (subst (λ w. serial_of r laws d w ≤ s) (sym e1) (let h = taken.1 in omega arith))
        (subst (λ w. clock r laws w ≤ x.tick + wait_limit (m.span b) c x d bank kind) (sym e1) (omega arith))
