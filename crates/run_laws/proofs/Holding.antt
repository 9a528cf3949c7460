-- What the laws of a controller give of a tick's events and of the takings after them.
use Rattle.std.proofs.Common.{◌≡◌, ℕ, suc, ◌+◌, ◌-◌, ◌<◌, ◌≤◌, Bool, true, false, cond, not, ◌&&◌, ◌||◌, eqb, List, [], ◌∷◌, ◌++◌, map, length, Some, None, sym, refl, ap, ◌∙◌, subst, inl, inr, arith}
use Rattle.std.proofs.lemmas.List.{length-append}
use Rattle.std.proofs.lemmas.Bool.{eqb-true, eqb-false, eq-eqb, ne_eqb, true≢false, or_parts, or_right, cases_eq}
use Rattle.std.specs.List.{AllByRecursion}
use Rattle.interface.proofs.Bools.{or_right as or_none, eqb_comm, or_assoc, and_left}
use Rattle.interface.proofs.Takes.{take_fine, range_fine}
use Rattle.interface.specs.Emptied.{emptied}
use Rattle.interface.specs.Lawful.{Lawful, fresh, ends, aged, without, ended, Standing, standing, events_of, Proper, Punctual}
use Rattle.interface.specs.Meaning as meaning
use Rattle.interface.specs.Meaning.{Meaning, Held, Call, after, run, first, rest, is_empty, any, has_slot, take_refusal, accepted, check}
use Rattle.interface.specs.declared.Event.TheVariants.{Issue, Done}
use Rattle.interface.specs.declared.Event.{Event}
use Rattle.interface.specs.declared.Request.{Request}
use Rattle.model.specs.Settings.{Vertex}
use Rattle.model.specs.Ticks.{request_of, taken_all, step_events}
use Rattle.run_laws.specs.Laws.{AllTaken}

-- A kind of controller, and a state with the beginning state of the controller at hand.
pub record Controller : Type 0 where
  pub meaning : Meaning (List ℕ)
  pub origin : List ℕ

abbrev pub span : Controller → ℕ
span r = r.meaning.span r.origin

abbrev pub places : Controller → ℕ
places r = r.meaning.places r.origin

-- ---- held requests by slot

abbrev pub holds : ℕ → List Held → Bool
holds t hs = any (has_slot t) hs

abbrev pub finishes : ℕ → List Event → Bool
finishes t es = any (ends t) es

abbrev pub steps_left : List Held → ℕ → ℕ
steps_left [] t = 0
steps_left (h ∷ hs) t = cond (has_slot t h) h.left (steps_left hs t)

abbrev pub left : Controller → List ℕ → ℕ → ℕ
left r s t = steps_left (r.meaning.held s) t

pub holds_append : (t : ℕ) (hs gs : List Held) → holds t (hs ++ gs) ≡ (holds t hs || holds t gs)
holds_append t [] gs = refl
holds_append t (h ∷ hs) gs = ap (λ z. has_slot t h || z) (holds_append t hs gs) ∙ sym (or_assoc (has_slot t h) (holds t hs) (holds t gs))

holds_aged : (es : List Event) (t : ℕ) (hs : List Held) → holds t (map (aged es) hs) ≡ holds t hs
holds_aged es t [] = refl
holds_aged es t (h ∷ hs) = ap (λ z. has_slot t h || z) (holds_aged es t hs)

left_aged : (es : List Event) (t : ℕ) (hs : List Held) → steps_left (map (aged es) hs) t ≡ steps_left hs t - 1
left_aged es t [] = omega arith
left_aged es t (h ∷ hs) = go (has_slot t h) (left_aged es t hs)
  where
    go : (x : Bool) → steps_left (map (aged es) hs) t ≡ steps_left hs t - 1 → cond x (h.left - 1) (steps_left (map (aged es) hs) t) ≡ cond x h.left (steps_left hs t) - 1
    go true e = refl
    go false e = e

holds_without : (t u : ℕ) (hs : List Held) → holds t (without u hs) ≡ (holds t hs && not (eqb u t))
holds_without t u [] = refl
holds_without t u (h ∷ hs) = go (eqb h.request.slot u) refl (holds_without t u hs)
  where
    go : (x : Bool) → eqb h.request.slot u ≡ x → holds t (without u hs) ≡ (holds t hs && not (eqb u t)) → holds t (cond x (without u hs) (h ∷ without u hs)) ≡ ((eqb h.request.slot t || holds t hs) && not (eqb u t))
    go true e ih = ih ∙ same (eqb u t) refl
      where
        same : (y : Bool) → eqb u t ≡ y → (holds t hs && not y) ≡ ((eqb h.request.slot t || holds t hs) && not y)
        same true z = and_no (holds t hs) ∙ sym (and_no (eqb h.request.slot t || holds t hs))
          where
            and_no : (b : Bool) → (b && false) ≡ false
            and_no true = refl
            and_no false = refl
        same false z = rw (ne_eqb h.request.slot t (λ p. eqb-false u t z (sym (eqb-true h.request.slot u e) ∙ p)))
    go false e ih = rw ih (dist (eqb h.request.slot t) refl)
      where
        dist : (y : Bool) → eqb h.request.slot t ≡ y → (y || (holds t hs && not (eqb u t))) ≡ ((y || holds t hs) && not (eqb u t))
        dist true z = rw (ne_eqb u t (λ p. eqb-false h.request.slot u e (eqb-true h.request.slot t z ∙ sym p)))
        dist false z = refl

left_without : (t u : ℕ) (hs : List Held) → (u ≡ t → ⊥) → steps_left (without u hs) t ≡ steps_left hs t
left_without t u [] ne = refl
left_without t u (h ∷ hs) ne = go (eqb h.request.slot u) refl (left_without t u hs ne)
  where
    go : (x : Bool) → eqb h.request.slot u ≡ x → steps_left (without u hs) t ≡ steps_left hs t → steps_left (cond x (without u hs) (h ∷ without u hs)) t ≡ cond (eqb h.request.slot t) h.left (steps_left hs t)
    go true e ih = ih ∙ sym (ap (λ y. cond y h.left (steps_left hs t)) (ne_eqb h.request.slot t (λ z. ne (sym (eqb-true h.request.slot u e) ∙ z))))
    go false e ih = ap (cond (eqb h.request.slot t) h.left) ih

left_append : (t : ℕ) (hs gs : List Held) → holds t hs ≡ true → steps_left (hs ++ gs) t ≡ steps_left hs t
left_append t [] gs e = absurd (true≢false (sym e))
left_append t (h ∷ hs) gs e = go (has_slot t h) e (left_append t hs gs)
  where
    go : (x : Bool) → (x || holds t hs) ≡ true → (holds t hs ≡ true → steps_left (hs ++ gs) t ≡ steps_left hs t) → cond x h.left (steps_left (hs ++ gs) t) ≡ cond x h.left (steps_left hs t)
    go true f ih = refl
    go false f ih = ih f

left_new : (t : ℕ) (hs gs : List Held) → holds t hs ≡ false → steps_left (hs ++ gs) t ≡ steps_left gs t
left_new t [] gs e = refl
left_new t (h ∷ hs) gs e =
    let p = or_parts (has_slot t h) (holds t hs) e in
    ap (λ x. cond x h.left (steps_left (hs ++ gs) t)) p.0 ∙ left_new t hs gs p.1

-- ---- events by slot

punctual_at : (t : ℕ) (hs : List Held) (es : List Event) → Punctual hs es → holds t hs ≡ true → steps_left hs t ≡ 0 → finishes t es ≡ true
punctual_at t [] es p e z = absurd (true≢false (sym e))
punctual_at t (h ∷ hs) es p e z = go (has_slot t h) refl e z (punctual_at t hs es p.1)
  where
    go : (x : Bool) → has_slot t h ≡ x → (x || holds t hs) ≡ true → cond x h.left (steps_left hs t) ≡ 0 → (holds t hs ≡ true → steps_left hs t ≡ 0 → finishes t es ≡ true) → finishes t es ≡ true
    go true w f y ih = subst (λ k. finishes k es ≡ true) (eqb-true h.request.slot t w) (p.0 y)
    go false w f y ih = ih f y

standing_absent : (t : ℕ) (hs : List Held) → holds t hs ≡ false → standing t hs ≡ Standing.absent
standing_absent t [] e = refl
standing_absent t (h ∷ hs) e =
    let p = or_parts (has_slot t h) (holds t hs) e in
    ap (λ x. cond x (cond h.issued Standing.in_flight Standing.waiting) (standing t hs)) p.0 ∙ standing_absent t hs p.1

-- what has a Done has an event
pub finishes_some : (t : ℕ) (es : List Event) → finishes t es ≡ true → events_of t es ≡ [] → ⊥
finishes_some t [] e f = true≢false (sym e)
finishes_some t (Issue u ∷ es) e f = go (eqb u t) f (finishes_some t es e)
  where
    go : (x : Bool) → cond x (Issue u ∷ events_of t es) (events_of t es) ≡ [] → (events_of t es ≡ [] → ⊥) → ⊥
    go true z ih = let k : ◌≡◌ {A = ℕ} 0 1 = cc in omega arith
    go false z ih = ih z
finishes_some t (Done u ∷ es) e f = go (eqb u t) e f (finishes_some t es)
  where
    go : (x : Bool) → (x || finishes t es) ≡ true → cond x (Done u ∷ events_of t es) (events_of t es) ≡ [] → (finishes t es ≡ true → events_of t es ≡ [] → ⊥) → ⊥
    go true w z ih = let k : ◌≡◌ {A = ℕ} 0 1 = cc in omega arith
    go false w z ih = ih w z

pub absent_none : (es : List Event) → Proper Standing.absent es → es ≡ []
absent_none [] p = refl
absent_none (e ∷ es) p = absurd p

-- an event names what is held
pub proper_held : (t : ℕ) (hs : List Held) (es : List Event) → Proper (standing t hs) (events_of t es) → (events_of t es ≡ [] → ⊥) → holds t hs ≡ true
proper_held t hs es p some = go (holds t hs) refl
  where
    go : (x : Bool) → holds t hs ≡ x → x ≡ true
    go true z = refl
    go false z = absurd (some (absent_none (events_of t es) (subst (λ s. Proper s (events_of t es)) (standing_absent t hs z) p)))

abbrev pub in_slots : ℕ → List Vertex → Bool
in_slots t [] = false
in_slots t (v ∷ vs) = eqb v.slot t || in_slots t vs

-- no slot twice
abbrev pub Apart : List Vertex → Type 0
Apart [] = Unit {0}
Apart (v ∷ vs) = (in_slots v.slot vs ≡ false) × Apart vs

-- ---- states that calls lead to

run_append : (m : Meaning (List ℕ)) (cs : List Call) (c : Call) (s : List ℕ) → run m (cs ++ (c ∷ [])) s ≡ after m c (run m cs s)
run_append m [] c s = refl
run_append m (d ∷ cs) c s = run_append m cs c (after m d s)

pub reached_call : (m : Meaning (List ℕ)) (c : Call) (s : List ℕ) → meaning.Reached m s → meaning.Reached m (after m c s)
reached_call m c s h = (h.0, h.1 ++ (c ∷ []), ap (after m c) h.2 ∙ sym (run_append m h.1 c _))

pub record Reached (r : Controller) (s : List ℕ) : Type 0 where
  pub by_calls : meaning.Reached r.meaning s
  pub home : r.meaning.start s ≡ r.meaning.start r.origin

module _ (r : Controller) (laws : Lawful r.meaning) where
  pub by_call : (c : Call) (s : List ℕ) → Reached r s → Reached r (after r.meaning c s)
  by_call c s h = record {
    by_calls = reached_call r.meaning c s h.by_calls;
    home = laws.start_fixed c s ∙ h.home;
  }

  -- the beginning state
  pub by_start : Reached r (r.meaning.start r.origin)
  by_start = record { by_calls = (r.origin, [], refl); home = laws.start_fixed Call.reset r.origin }

  pub same_span : (s : List ℕ) → Reached r s → r.meaning.span s ≡ span r
  same_span s h = laws.span_fixed s ∙ ap r.meaning.span h.home ∙ sym (laws.span_fixed r.origin)

  pub same_places : (s : List ℕ) → Reached r s → r.meaning.places s ≡ places r
  same_places s h = laws.places_fixed s ∙ ap r.meaning.places h.home ∙ sym (laws.places_fixed r.origin)

  pub step_is : (s : List ℕ) → r.meaning.ready s ≡ [] → after r.meaning Call.step s ≡ r.meaning.stepped s
  step_is s q = ap (λ es. accepted (check (not (is_empty es)) 20 None) (r.meaning.stepped s) s) q

  pub take_is : (s : List ℕ) (q : Request) → take_refusal r.meaning s q ≡ None → after r.meaning (Call.take q) s ≡ r.meaning.taken s q
  take_is s q e = ap (λ o. accepted o (r.meaning.taken s q) s) e

  collect_is : (s : List ℕ) (e : Event) (es : List Event) → r.meaning.ready s ≡ e ∷ es → after r.meaning Call.collect s ≡ r.meaning.collected s
  collect_is s e es q = ap (λ z. cond (is_empty z) s (r.meaning.collected s)) q

  -- collecting all that is ready
  pub record Emptied (es : List Event) (s z : List ℕ) : Type 0 where
    pub again : Reached r z
    pub quiet : r.meaning.ready z ≡ []
    pub keeps : (t : ℕ) → holds t (r.meaning.held z) ≡ (holds t (r.meaning.held s) && not (finishes t es))
    pub lefts : (t : ℕ) → holds t (r.meaning.held z) ≡ true → left r z t ≡ left r s t

  emptied_all : (es : List Event) (s : List ℕ) → Reached r s → r.meaning.ready s ≡ es → Emptied es s (emptied r.meaning es s)
  emptied_all [] s h e = record { again = h; quiet = e; keeps = λ t. sym (and_yes (holds t (r.meaning.held s))); lefts = λ t k. refl }
    where
      and_yes : (b : Bool) → (b && true) ≡ b
      and_yes true = refl
      and_yes false = refl
  emptied_all (e ∷ es) s h q = go (emptied_all es next (by_call Call.collect s h) (ap r.meaning.ready next_is ∙ laws.collected_ready s ∙ ap rest q))
    where
      next : List ℕ
      next = after r.meaning Call.collect s

      next_is : after r.meaning Call.collect s ≡ r.meaning.collected s
      next_is = collect_is s e es q

      held_is : r.meaning.held (after r.meaning Call.collect s) ≡ ended (Some e) (r.meaning.held s)
      held_is = ap r.meaning.held next_is ∙ laws.collected_held s h.by_calls ∙ ap (λ z. ended (first z) (r.meaning.held s)) q

      once : (t : ℕ) (e : Event) (hs : List Held) → (holds t (ended (Some e) hs) && not (finishes t es)) ≡ (holds t hs && not (finishes t (e ∷ es)))
      once t (Issue u) hs = refl
      once t (Done u) hs = ap (λ z. z && not (finishes t es)) (holds_without t u hs) ∙ go (holds t hs) (eqb u t) (finishes t es)
        where
          go : (a b c : Bool) → ((a && not b) && not c) ≡ (a && not (b || c))
          go true true c = refl
          go true false c = refl
          go false b c = refl

      left_on : (t : ℕ) (e : Event) (hs : List Held) → holds t (ended (Some e) hs) ≡ true → steps_left (ended (Some e) hs) t ≡ steps_left hs t
      left_on t (Issue u) hs k = refl
      left_on t (Done u) hs k = left_without t u hs (λ z. true≢false (sym (sym (holds_without t u hs) ∙ k) ∙ both (holds t hs) (eqb u t) (eq-eqb u t z)))
        where
          both : (a b : Bool) → b ≡ true → (a && not b) ≡ false
          both true true w = refl
          both true false w = sym w
          both false b w = refl

      go : Emptied es next (emptied r.meaning es next) → Emptied (e ∷ es) s (emptied r.meaning es next)
      go m = record {
        again = m.again;
        quiet = m.quiet;
        keeps = λ t. m.keeps t ∙ ap (λ hs. holds t hs && not (finishes t es)) held_is ∙ once t e (r.meaning.held s);
        lefts = λ t k.
            let here : holds t (r.meaning.held next) ≡ true = and_left (holds t (r.meaning.held next)) (not (finishes t es)) (sym (m.keeps t) ∙ k) in
            m.lefts t k ∙ ap (λ hs. steps_left hs t) held_is ∙ left_on t e (r.meaning.held s) (ap (holds t) (sym held_is) ∙ here);
      }

  -- a step with all its events collected
  pub record Passed (s z : List ℕ) (es : List Event) : Type 0 where
    pub again : Reached r z
    pub quiet : r.meaning.ready z ≡ []
    pub keeps : (t : ℕ) → holds t (r.meaning.held z) ≡ (holds t (r.meaning.held s) && not (finishes t es))
    pub proper : (t : ℕ) → Proper (standing t (r.meaning.held s)) (events_of t es)
    pub named : (t : ℕ) → finishes t es ≡ true → holds t (r.meaning.held s) ≡ true
    pub falls : (t : ℕ) → holds t (r.meaning.held s) ≡ true → finishes t es ≡ false → left r z t < left r s t
    pub lasts : (t : ℕ) → holds t (r.meaning.held s) ≡ true → finishes t es ≡ false → 1 ≤ left r z t

  pub passed : (s : List ℕ) → Reached r s → r.meaning.ready s ≡ [] → Passed s (emptied r.meaning (step_events r.meaning s) (after r.meaning Call.step s)) (step_events r.meaning s)
  unfolding step_events
  passed s h q = go (emptied_all es next (by_call Call.step s h) refl)
    where
      next : List ℕ
      next = after r.meaning Call.step s

      es : List Event
      es = r.meaning.ready (after r.meaning Call.step s)

      last : List ℕ
      last = emptied r.meaning (r.meaning.ready (after r.meaning Call.step s)) (after r.meaning Call.step s)

      same : after r.meaning Call.step s ≡ r.meaning.stepped s
      same = step_is s q

      held_is : r.meaning.held next ≡ map (aged es) (r.meaning.held s)
      held_is = ap r.meaning.held same ∙ laws.stepped_held s h.by_calls q ∙ ap (λ z. map (aged (r.meaning.ready z)) (r.meaning.held s)) (sym same)

      proper : (t : ℕ) → Proper (standing t (r.meaning.held s)) (events_of t es)
      proper t = subst (λ z. Proper (standing t (r.meaning.held s)) (events_of t (r.meaning.ready z))) (sym same) (laws.stepped_proper s h.by_calls q t)

      punctual : Punctual (r.meaning.held next) es
      punctual = subst (λ z. Punctual (r.meaning.held z) (r.meaning.ready z)) (sym same) (laws.stepped_punctual s h.by_calls q)

      holds_is : (t : ℕ) → holds t (r.meaning.held next) ≡ holds t (r.meaning.held s)
      holds_is t = ap (holds t) held_is ∙ holds_aged es t (r.meaning.held s)

      left_is : (t : ℕ) → left r next t ≡ left r s t - 1
      left_is t = ap (λ hs. steps_left hs t) held_is ∙ left_aged es t (r.meaning.held s)

      some_left : (t : ℕ) → holds t (r.meaning.held s) ≡ true → finishes t es ≡ false → 1 ≤ left r next t
      some_left t k f = elim (cases_eq (left r next t) 0) [ inl z ↦ absurd (true≢false (sym (punctual_at t (r.meaning.held next) es punctual (holds_is t ∙ k) z) ∙ f)) | inr z ↦ omega (arith, z) ]

      go : Emptied es next last → Passed s last es
      go m = record {
        again = m.again;
        quiet = m.quiet;
        keeps = λ t. m.keeps t ∙ ap (λ b. b && not (finishes t es)) (holds_is t);
        proper = proper;
        named = λ t e. proper_held t (r.meaning.held s) es (proper t) (finishes_some t es e);
        falls = λ t k f. rw (m.lefts t (kept t k f)) (let a = left_is t in let b = some_left t k f in omega arith);
        lasts = λ t k f. rw (m.lefts t (kept t k f)) (some_left t k f);
      }
        where
          kept : (t : ℕ) → holds t (r.meaning.held s) ≡ true → finishes t es ≡ false → holds t (r.meaning.held last) ≡ true
          kept t k f = m.keeps t ∙ rw (holds_is t ∙ k, f)

  -- ---- takings

  abbrev pub Free : List ℕ → Vertex → Type 0
  Free s v = (v.slot ≤ 511) × (v.bank ≤ 7) × (holds v.slot (r.meaning.held s) ≡ false)

  -- a take that is not refused
  pub record Taken (s z : List ℕ) (slot : ℕ) : Type 0 where
    pub again : Reached r z
    pub quiet : r.meaning.ready z ≡ r.meaning.ready s
    pub keeps : (t : ℕ) → holds t (r.meaning.held z) ≡ (holds t (r.meaning.held s) || eqb slot t)
    pub spanned : left r z slot ≡ span r
    pub lefts : (t : ℕ) → holds t (r.meaning.held s) ≡ true → left r z t ≡ left r s t
    pub longer : length (r.meaning.held z) ≡ suc (length (r.meaning.held s))

  pub take_none : (s : List ℕ) (q : Request) → Reached r s → q.slot ≤ 511 → q.domain ≤ 7 → q.bank ≤ 7 → holds q.slot (r.meaning.held s) ≡ false → length (r.meaning.held s) < places r → take_refusal r.meaning s q ≡ None
  take_none s q h a d b free room =
      let k = same_places s h in
      take_fine r.meaning s q (range_fine q (omega arith) (omega arith) (omega arith)) free (omega arith)

  pub taken : (s : List ℕ) (q : Request) → Reached r s → holds q.slot (r.meaning.held s) ≡ false → take_refusal r.meaning s q ≡ None → Taken s (after r.meaning (Call.take q) s) q.slot
  taken s q h free e = record {
    again = by_call (Call.take q) s h;
    quiet = ap r.meaning.ready (take_is s q e) ∙ laws.taken_ready s q h.by_calls e;
    keeps = λ t. ap (holds t) held_is ∙ holds_append t (r.meaning.held s) _ ∙ ap (λ z. holds t (r.meaning.held s) || z) (or_none (eqb q.slot t));
    spanned = ap (λ hs. steps_left hs q.slot) held_is ∙ left_new q.slot (r.meaning.held s) _ free ∙ ap (λ x. cond x (r.meaning.span s) 0) (eq-eqb q.slot q.slot refl) ∙ same_span s h;
    lefts = λ t k. ap (λ hs. steps_left hs t) held_is ∙ left_append t (r.meaning.held s) _ k;
    longer = ap length held_is ∙ simp length-append (omega arith);
  }
    where
      held_is : r.meaning.held (after r.meaning (Call.take q) s) ≡ r.meaning.held s ++ (fresh q (r.meaning.span s) ∷ [])
      held_is = ap r.meaning.held (take_is s q e) ∙ laws.taken_held s q h.by_calls e

  pub record AllHeld (vs : List Vertex) (s z : List ℕ) : Type 0 where
    pub takes : AllTaken r.meaning vs s
    pub again : Reached r z
    pub quiet : r.meaning.ready z ≡ r.meaning.ready s
    pub keeps : (t : ℕ) → holds t (r.meaning.held z) ≡ (holds t (r.meaning.held s) || in_slots t vs)
    pub spanned : (t : ℕ) → in_slots t vs ≡ true → (1 ≤ left r z t) × (left r z t ≤ span r)
    pub lefts : (t : ℕ) → holds t (r.meaning.held s) ≡ true → left r z t ≡ left r s t

  pub all_held : (vs : List Vertex) (s : List ℕ) → Reached r s → AllByRecursion (Free s) vs → Apart vs → length (r.meaning.held s) + length vs ≤ places r → AllHeld vs s (taken_all r.meaning vs s)
  unfolding taken_all
  all_held [] s h f a room = record { takes = tt; again = h; quiet = refl; keeps = λ t. sym (or_none (holds t (r.meaning.held s))); spanned = λ t e. absurd (true≢false (sym e)); lefts = λ t e. refl }
  all_held (v ∷ vs) s h f a room = go (all_held vs next one.again (freed vs f.1 a.0) a.1 (let k = one.longer in omega arith))
    where
      next : List ℕ
      next = after r.meaning (Call.take (request_of v)) s

      fine : take_refusal r.meaning s (request_of v) ≡ None
      fine = take_none s (request_of v) h f.0.0 (let k : v.slot ≤ 511 = f.0.0 in omega arith) f.0.1 f.0.2 (omega arith)

      one : Taken s (after r.meaning (Call.take (request_of v)) s) v.slot
      one = taken s (request_of v) h f.0.2 fine

      freed : (us : List Vertex) → AllByRecursion (Free s) us → in_slots v.slot us ≡ false → AllByRecursion (Free next) us
      freed [] g e = tt
      freed (u ∷ us) g e =
          let parts = or_parts (eqb u.slot v.slot) (in_slots v.slot us) e in
          let apart : eqb v.slot u.slot ≡ false = eqb_comm v.slot u.slot ∙ parts.0 in
          let free : holds u.slot (r.meaning.held next) ≡ false = rw (one.keeps u.slot, g.0.2, apart) in
          ((g.0.0, g.0.1, free), freed us g.1 parts.1)

      go : AllHeld vs next (taken_all r.meaning vs next) → AllHeld (v ∷ vs) s (taken_all r.meaning vs next)
      go m = record {
        takes = (fine, m.takes);
        again = m.again;
        quiet = m.quiet ∙ one.quiet;
        keeps = λ t. m.keeps t ∙ ap (λ z. z || in_slots t vs) (one.keeps t) ∙ or_assoc (holds t (r.meaning.held s)) (eqb v.slot t) (in_slots t vs);
        spanned = λ t e. here t (eqb v.slot t) refl e;
        lefts = λ t e. m.lefts t (one.keeps t ∙ rw e) ∙ one.lefts t e;
      }
        where
          here : (t : ℕ) (x : Bool) → eqb v.slot t ≡ x → (x || in_slots t vs) ≡ true → (1 ≤ left r (taken_all r.meaning vs next) t) × (left r (taken_all r.meaning vs next) t ≤ span r)
          here t true z e =
              let k = laws.span_least r.origin in
              let same = m.lefts t (one.keeps t ∙ rw z (or_right (holds t (r.meaning.held s)) true refl)) ∙ ap (left r next) (sym (eqb-true v.slot t z)) ∙ one.spanned in
              (omega arith, omega arith)
          here t false z e = m.spanned t e
