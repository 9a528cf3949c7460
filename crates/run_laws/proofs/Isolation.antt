-- What a protected domain submits, no other domain sees.
use Rattle.std.proofs.Common.{◌≡◌, ℕ, Bool, true, false, cond, eqb, List, [], ◌∷◌, ◌++◌, map, Some, None, filter, Option, sym, refl, ap, ◌∙◌}
use mathlib.Core.Path.{fun_ext}
use Rattle.std.proofs.lemmas.List.Elements.{filter-append}
use Rattle.std.proofs.lemmas.List.{map-append}
use Rattle.std.proofs.lemmas.Bool.{eqb-true, ne_eqb, true≢false, not-true, not-false}
use Rattle.interface.specs.Lawful.{Lawful}
use Rattle.interface.specs.Meaning.{Meaning}
use Rattle.interface.specs.declared.Event.TheVariants.{Done, Issue}
use Rattle.interface.specs.declared.Event.{Event}
use Rattle.interface.specs.declared.Kind.{Kind}
use Rattle.model.specs.Calls.{Call, Running, State, begins, enqueued, new, next_tick, outcome, role_refusal, running, sets, setting, slot_in_turn, submit, submit_outcome, submit_refusal, submitted, taken_open, tick_outcome, tick_refusal, ticked, ticks, unless}
use Rattle.model.specs.Settings.{blank, Role, Settings, domain_of, is_open, is_opened, opened, protected, role_of, unset}
use Rattle.model.specs.Ticks.{Stage, Tables, completed, done, event_notice, flying, notice_of, notices, payload_notice, put, step_events, still}
use Rattle.model.specs.declared.Notice.{Notice}
use Rattle.model.specs.Payloads.{fake}
use Rattle.run_laws.specs.Laws.{IsolationLawOf}
use Rattle.run_laws.specs.Runs.{Answer, answer_of, answers, answers_from, answers_in, not_from, notice, others, result, run, trace}
use Rattle.run_laws.proofs.Masks.{masked, tables_path, masked_still, mask, mask_completed, mask_written, tick_mask, controller_mask}
use Rattle.run_laws.proofs.Steps.{made_by, made_step, made_running, made_others}

masked_again : (h : Bool) (x : Stage) → masked h (masked h x) ≡ masked h x
masked_again h still = refl
masked_again true (flying b k c) = refl
masked_again false (flying b k c) = refl
masked_again h (done m) = refl

cond_twice : {X : Type 0} (t : Bool) (x y : X) → cond t x (cond t x y) ≡ cond t x y
cond_twice true x y = refl
cond_twice false x y = refl

-- masking, putting and masking again is putting and masking
masked_twice : {X : Type 0} (g : ℕ → X → X) → ((j : ℕ) (x : X) → g j (g j x) ≡ g j x) → (f : ℕ → X) (i : ℕ) (y : X)
    → ◌≡◌ {A = ℕ → X} (λ j. g j (put (λ k. g k (f k)) i y j)) (λ j. g j (put f i y j))
masked_twice {X} g e f i y = fun_ext (λ j. go j (eqb j i))
  where
    go : (j : ℕ) (t : Bool) → g j (cond t y (g j (f j))) ≡ g j (cond t y (f j))
    go j true = refl
    go j false = e j (f j)

-- putting at a hidden place shows nothing
hide_put : {X : Type 0} (p : ℕ) (z : X) (f : ℕ → X) (y : X) → ◌≡◌ {A = ℕ → X} (λ j. cond (eqb j p) z (put f p y j)) (λ j. cond (eqb j p) z (f j))
hide_put {X} p z f y = fun_ext (λ j. go j (eqb j p))
  where
    go : (j : ℕ) (t : Bool) → cond t z (cond t y (f j)) ≡ cond t z (f j)
    go j true = refl
    go j false = refl

running_path : {n n' : ℕ} {s s' : List ℕ} {b b' : Tables} {a a' : ℕ → ℕ} → n ≡ n' → s ≡ s' → b ≡ b' → a ≡ a'
    → ◌≡◌ {A = Running} (record { tick = n; controller = s; tables = b; serial = a }) (record { tick = n'; controller = s'; tables = b'; serial = a' })
running_path p q u v = λ i. record { tick = p i; controller = q i; tables = u i; serial = v i }

module _ (p : ℕ) where
  abbrev from_p : ℕ → Bool
  from_p d = eqb d p

  abbrev mask_run : Running → Running
  mask_run x = record { tick = x.tick; controller = x.controller; tables = mask from_p x.tables; serial = λ d. cond (from_p d) 0 (x.serial d) }

  abbrev mask_state : State → State
  mask_state (setting c s) = setting c s
  mask_state (running c x) = running c (mask_run x)

  mask_ticked : (r : Meaning (List ℕ)) (c : Settings) (x : Running) → mask_run (ticked r c x) ≡ ticked r c (mask_run x)
  unfolding ticked
  mask_ticked r c x = running_path refl (sym (controller_mask from_p r c x.tick x.controller x.tables)) (tick_mask from_p r c x.tick x.controller x.tables) refl

  mask_twice : (x : Running) → mask_run (mask_run x) ≡ mask_run x
  mask_twice x = running_path refl refl
      (tables_path (fun_ext (λ j. masked_again (from_p (domain_of j)) (x.tables.stage j))) refl (fun_ext (λ j. cond_twice (from_p j) [] (x.tables.queue j))))
      (fun_ext (λ j. cond_twice (from_p j) 0 (x.serial j)))

  -- another domain's submit
  module _ (d : ℕ) (e : from_p d ≡ false) (b : ℕ) (k : Kind) (row : ℕ) where
    role_same : (c : Settings) (x : Running) (q : Role) → role_refusal c (mask_run x) d b k q ≡ role_refusal c x d b k q
    unfolding role_refusal
    role_same c x unset = refl
    role_same c x (opened share) = rw (e, masked_still (from_p (domain_of (slot_in_turn d share (x.serial d)))) (x.tables.stage (slot_in_turn d share (x.serial d))))
    role_same c x (protected patterns) = rw e

    refusal_same : (c : Settings) (x : Running) → submit_refusal c (mask_run x) d b k row ≡ submit_refusal c x d b k row
    unfolding submit_refusal
    refusal_same c x = rw (role_same c x (role_of c d), e)

    submitted_same : (r : Meaning (List ℕ)) (x : Running) (q : Role) → mask_run (submitted r (mask_run x) d b k row q) ≡ mask_run (submitted r x d b k row q)
    unfolding submitted taken_open enqueued
    submitted_same r x unset = mask_twice x
    submitted_same r x (opened share) = rw e (running_path refl refl
        (tables_path (masked_twice (λ j y. masked (from_p (domain_of j)) y) (λ j y. masked_again (from_p (domain_of j)) y) x.tables.stage (slot_in_turn d share (x.serial d)) _) refl (fun_ext (λ j. cond_twice (from_p j) [] (x.tables.queue j))))
        (masked_twice (λ j y. cond (from_p j) 0 y) (λ j y. cond_twice (from_p j) 0 y) x.serial d _))
    submitted_same r x (protected patterns) = rw e (running_path refl refl
        (tables_path (fun_ext (λ j. masked_again (from_p (domain_of j)) (x.tables.stage j))) refl (masked_twice (λ j y. cond (from_p j) [] y) (λ j y. cond_twice (from_p j) [] y) x.tables.queue d _))
        (masked_twice (λ j y. cond (from_p j) 0 y) (λ j y. cond_twice (from_p j) 0 y) x.serial d _))

  -- its own submit
  submitted_hidden : (r : Meaning (List ℕ)) (x : Running) (b : ℕ) (k : Kind) (row : ℕ) (q : Role) → is_opened q ≡ false → mask_run (submitted r x p b k row q) ≡ mask_run x
  unfolding submitted enqueued
  submitted_hidden r x b k row unset h = refl
  submitted_hidden r x b k row (opened n) h = absurd (true≢false h)
  submitted_hidden r x b k row (protected patterns) h = running_path refl refl (tables_path refl refl (hide_put p [] x.tables.queue _)) (hide_put p 0 x.serial _)

  module _ (d : ℕ) (ne : d ≡ p → ⊥) where
    abbrev for_d : List Notice → List Answer
    for_d ns = answers_from d ns

    for_d_append : (x y : List Notice) → for_d (x ++ y) ≡ for_d x ++ for_d y
    for_d_append x y = ap (map notice) (filter-append (λ m. eqb m.domain d) x y) ∙ map-append notice (filter (λ m. eqb m.domain d) x) (filter (λ m. eqb m.domain d) y)

    note_same : (n t : ℕ) (x : Stage) → for_d (notice_of n t (masked (from_p (domain_of t)) x)) ≡ for_d (notice_of n t x)
    note_same n t still = refl
    note_same n t (done m) = refl
    note_same n t (flying b k None) = rw (cond_same (from_p (domain_of t)))
      where
        cond_same : (h : Bool) → cond h fake fake ≡ fake
        cond_same true = refl
        cond_same false = refl
    note_same n t (flying b k (Some w)) = go (from_p (domain_of t)) refl
      where
        go : (h : Bool) → from_p (domain_of t) ≡ h → for_d (payload_notice n (domain_of t) (cond h fake (Some w))) ≡ for_d (payload_notice n (domain_of t) (Some w))
        go true z = rw (ne_eqb (domain_of t) d (λ w. ne (sym w ∙ eqb-true (domain_of t) p z)))
        go false z = refl

    event_same : (n : ℕ) (e : Event) (b : Tables) → for_d (event_notice n e (mask from_p b)) ≡ for_d (event_notice n e b)
    unfolding event_notice
    event_same n (Issue t) b = refl
    event_same n (Done t) b = note_same n t (b.stage t)

    notices_same : (r : Meaning (List ℕ)) (c : Settings) (n : ℕ) (s : List ℕ) (b : Tables) → for_d (notices r c n s (mask from_p b)) ≡ for_d (notices r c n s b)
    unfolding notices
    notices_same r c n s b = mask_written from_p for_d for_d_append (event_notice n) (completed c n) (mask_completed from_p c n) (event_same n) (step_events r s) b

    module _ (r : Meaning (List ℕ)) where
      abbrev answered : State → Call → List Answer
      answered m c = answer_of d (next_tick m) c (outcome r m c).reply

      reply_tick : (c : Settings) (x : Running) (l m : ℕ) → answered (mask_state (running c x)) (ticks l m) ≡ answered (running c x) (ticks l m)
      unfolding outcome tick_refusal
      reply_tick c x l m = go (tick_refusal x l m)
        where
          go : (o : Option ℕ) → answers_in d (unless o (running c (mask_run x)) (tick_outcome r c (mask_run x))).reply ≡ answers_in d (unless o (running c x) (tick_outcome r c x)).reply
          go None = notices_same r c x.tick x.controller x.tables
          go (Some k) = refl

      reply_submit : (c : Settings) (x : Running) (f : ℕ) → from_p f ≡ false → (b : ℕ) (k : Kind) (row : ℕ) → (outcome r (running c (mask_run x)) (submit f b k row)).reply ≡ (outcome r (running c x) (submit f b k row)).reply
      unfolding outcome
      reply_submit c x f z b k row = rw (refusal_same f z b k row c x) (go (submit_refusal c x f b k row))
        where
          go : (o : Option ℕ) → (unless o (running c (mask_run x)) (submit_outcome r c (mask_run x) f b k row)).reply ≡ (unless o (running c x) (submit_outcome r c x f b k row)).reply
          go None = rw z
          go (Some k) = refl

      -- a call that is not from p: d gets the same answers, and the states stay alike
      answered_same : (m : State) (c : Call) → not_from p c ≡ true → answered (mask_state m) c ≡ answered m c
      answered_same (setting c s) call e = refl
      answered_same (running c x) (sets s) e = refl
      answered_same (running c x) begins e = refl
      answered_same (running c x) (submit f b k row) e = ap (λ y. cond (eqb f d) (result x.tick y ∷ []) []) (reply_submit c x f (not-true (from_p f) e) b k row)
      answered_same (running c x) (ticks l m) e = reply_tick c x l m

      after_same : (m : State) (c : Call) → not_from p c ≡ true → mask_state (outcome r (mask_state m) c).after ≡ mask_state (outcome r m c).after
      unfolding outcome tick_refusal
      after_same (setting c s) call e = refl
      after_same (running c x) (sets s) e = ap (running c) (mask_twice x)
      after_same (running c x) begins e = ap (running c) (mask_twice x)
      after_same (running c x) (submit f b k row) e = rw (refusal_same f (not-true (from_p f) e) b k row c x) (go (submit_refusal c x f b k row))
        where
          go : (o : Option ℕ) → mask_state (unless o (running c (mask_run x)) (submit_outcome r c (mask_run x) f b k row)).after ≡ mask_state (unless o (running c x) (submit_outcome r c x f b k row)).after
          go None = ap (running c) (submitted_same f (not-true (from_p f) e) b k row r x (role_of c f))
          go (Some k) = ap (running c) (mask_twice x)
      after_same (running c x) (ticks l m) e = go (tick_refusal x l m)
        where
          go : (o : Option ℕ) → mask_state (unless o (running c (mask_run x)) (tick_outcome r c (mask_run x))).after ≡ mask_state (unless o (running c x) (tick_outcome r c x)).after
          go None = ap (running c) (ap mask_run (sym (mask_ticked r c x)) ∙ mask_twice (ticked r c x))
          go (Some k) = ap (running c) (mask_twice x)

      after_hidden : (m : State) (c : Call) (cs : List Call) → not_from p c ≡ false → is_open (made_by r m (c ∷ cs)) p ≡ false → mask_state (outcome r m c).after ≡ mask_state m
      unfolding outcome
      after_hidden m (sets s) cs z h = absurd (true≢false z)
      after_hidden m begins cs z h = absurd (true≢false z)
      after_hidden (setting c s) (submit f b k row) cs z h = refl
      after_hidden (running c x) (submit f b k row) cs z h = go (submit_refusal c x f b k row)
        where
          same : f ≡ p
          same = eqb-true f p (not-false (from_p f) z)

          shut : is_opened (role_of c f) ≡ false
          shut = ap (is_open c) same ∙ ap (λ w. is_open w p) (sym (made_running r c x (submit f b k row ∷ cs))) ∙ h

          go : (o : Option ℕ) → mask_state (unless o (running c x) (submit_outcome r c x f b k row)).after ≡ running c (mask_run x)
          go None = ap (λ g. running c (mask_run (submitted r x g b k row (role_of c f)))) same ∙ ap (running c) (submitted_hidden r x b k row (role_of c f) shut)
          go (Some k) = refl
      after_hidden m (ticks l n) cs z h = absurd (true≢false z)

      answered_hidden : (m : State) (c : Call) → not_from p c ≡ false → answered m c ≡ []
      answered_hidden m (sets s) z = refl
      answered_hidden m begins z = refl
      answered_hidden m (submit f b k row) z = rw (ne_eqb f d (λ w. ne (sym w ∙ eqb-true f p (not-false (from_p f) z))))
      answered_hidden m (ticks l n) z = absurd (true≢false z)

      alike : (cs : List Call) (m w : State) → mask_state m ≡ mask_state w → is_open (made_by r m cs) p ≡ false → answers d (trace r m cs) ≡ answers d (trace r w (others p cs))
      unfolding trace
      alike [] m w e h = refl
      alike (c ∷ cs) m w e h = go (alike cs) (not_from p c) refl
        where
          later : is_open (made_by r (outcome r m c).after cs) p ≡ false
          later = ap (λ y. is_open y p) (sym (made_step r m c cs)) ∙ h

          go : ((m w : State) → mask_state m ≡ mask_state w → is_open (made_by r m cs) p ≡ false → answers d (trace r m cs) ≡ answers d (trace r w (others p cs)))
              → (t : Bool) → not_from p c ≡ t → answers d (trace r m (c ∷ cs)) ≡ answers d (trace r w (cond t (c ∷ others p cs) (others p cs)))
          go ih true z =
              ap (λ y. y ++ answers d (trace r (outcome r m c).after cs)) (sym (answered_same m c z) ∙ ap (λ y. answered y c) e ∙ answered_same w c z)
              ∙ ap (λ y. answered w c ++ y) (ih (outcome r m c).after (outcome r w c).after (sym (after_same m c z) ∙ ap (λ y. mask_state (outcome r y c).after) e ∙ after_same w c z) later)
          go ih false z =
              ap (λ y. y ++ answers d (trace r (outcome r m c).after cs)) (answered_hidden m c z)
              ∙ ih (outcome r m c).after w (after_hidden m c cs z h ∙ e) later

pub apart : (m : Meaning (List ℕ)) → Lawful m → IsolationLawOf m
unfolding run
apart r lawful a b p cs ds same_start h e d ne =
    alike p d ne r cs (new r a) (new r a) refl h ∙ ap (λ z. answers d (trace r (new r a) z)) e ∙ sym (alike p d ne r ds (new r a) (new r a) refl g) ∙ ap (λ w. answers d (trace r w ds)) (ap (setting blank) same_start)
  where
    same : made_by r (new r a) ds ≡ made_by r (new r a) cs
    same = made_others r p ds (new r a) (new r a) refl ∙ ap (made_by r (new r a)) (sym e) ∙ sym (made_others r p cs (new r a) (new r a) refl)

    g : is_open (made_by r (new r a) ds) p ≡ false
    g = ap (λ c. is_open c p) same ∙ h
