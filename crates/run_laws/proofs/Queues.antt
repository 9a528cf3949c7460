-- One request of a protected domain, from its queue to its notice.
use Rattle.std.proofs.Common.{◌≡◌, ℕ, suc, Bool, true, false, cond, ◌&&◌, ◌||◌, eqb, ◌⊎◌, List, [], ◌∷◌, ◌++◌, map, Some, None, filter, Option, sym, refl, ap, ◌∙◌, subst, inl, inr, arith}
use Rattle.std.proofs.lemmas.List.Elements.{filter-append}
use Rattle.std.proofs.lemmas.List.{map-append}
use Rattle.std.proofs.lemmas.Bool.{eqb-true, eqb-false, eq-eqb, ne_eqb, true≢false, or_parts, cases_eq}
use Rattle.std.specs.List.{AllByRecursion}
use Rattle.interface.specs.declared.Event.TheVariants.{Done, Issue}
use Rattle.interface.specs.declared.Event.{Event}
use Rattle.interface.specs.declared.Kind.TheVariants.{Read, Write}
use Rattle.interface.specs.declared.Kind.{Kind}
use Rattle.model.specs.Settings.{Settings, Vertex, domain_of, is_open}
use Rattle.model.specs.Ticks.{Stage, Tables, completed, departed, done, event_notice, finished, flying, matches, notice_of, oldest, payload_for, renewed, still, through, without, written}
use Rattle.model.specs.declared.Notice.{Notice}
use Rattle.model.specs.Payloads.{Payload, real}
use Rattle.model.specs.declared.Waiting.{Waiting}
use Rattle.run_laws.proofs.Departures.{In}
use Rattle.run_laws.proofs.Holding.{in_slots, Apart, finishes}

abbrev pub loads : ℕ → Payload → Bool
loads s None = false
loads s (Some w) = eqb w.serial s

abbrev pub carries : ℕ → Stage → Bool
carries s still = false
carries s (flying b k c) = loads s c
carries s (done m) = false

-- s is not in the queue
abbrev pub Absent : ℕ → List Waiting → Type 0
Absent s q = AllByRecursion (λ w. eqb w.serial s ≡ false) q

-- s is in the queue, for bank b and kind k, with at most j older ones of these before it
pub data Waits (b : ℕ) (k : Kind) (s : ℕ) : ℕ → List Waiting → Type 0 where
  here : {j : ℕ} {w : Waiting} {q : List Waiting} → eqb w.serial s ≡ true → matches b k w ≡ true → Absent s q → Waits b k s j (w ∷ q)
  like : {j : ℕ} {w : Waiting} {q : List Waiting} → eqb w.serial s ≡ false → matches b k w ≡ true → Waits b k s j q → Waits b k s (suc j) (w ∷ q)
  past : {j : ℕ} {w : Waiting} {q : List Waiting} → eqb w.serial s ≡ false → matches b k w ≡ false → Waits b k s j q → Waits b k s j (w ∷ q)

weaker : {b : ℕ} {k : Kind} {s j : ℕ} {q : List Waiting} → Waits b k s j q → Waits b k s (suc j) q
weaker (here e f a) = here e f a
weaker (like e f w) = like e f (weaker w)
weaker (past e f w) = past e f (weaker w)

absent_oldest : (b : ℕ) (k : Kind) (s : ℕ) (q : List Waiting) → Absent s q → loads s (oldest b k q) ≡ false
unfolding oldest
absent_oldest b k s [] a = refl
absent_oldest b k s (w ∷ q) a = go (matches b k w) (absent_oldest b k s q a.1)
  where
    go : (x : Bool) → loads s (oldest b k q) ≡ false → loads s (cond x (real w.row w.serial) (oldest b k q)) ≡ false
    go true h = a.0
    go false h = h

absent_without : (b : ℕ) (k : Kind) (s : ℕ) (q : List Waiting) → Absent s q → Absent s (without b k q)
unfolding without
absent_without b k s [] a = tt
absent_without b k s (w ∷ q) a = go (matches b k w) (absent_without b k s q a.1)
  where
    go : (x : Bool) → Absent s (without b k q) → Absent s (cond x q (w ∷ without b k q))
    go true h = a.1
    go false h = (a.0, h)

-- one departure: it takes s, or s waits on, with one less before it if bank and kind are its own
pub record Stays (b : ℕ) (k : Kind) (s j : ℕ) (b' : ℕ) (k' : Kind) (q : List Waiting) : Type 0 where
  pub free : loads s (oldest b' k' q) ≡ false
  pub waits : Waits b k s j (without b' k' q)
  pub nearer : b' ≡ b → k' ≡ k → (i : ℕ) × (j ≡ suc i) × Waits b k s i (without b' k' q)

abbrev pub Goes : (b : ℕ) (k : Kind) (s j : ℕ) (b' : ℕ) (k' : Kind) (q : List Waiting) → Type 0
Goes b k s j b' k' q = ((loads s (oldest b' k' q) ≡ true) × Absent s (without b' k' q)) ⊎ Stays b k s j b' k' q

pub goes : {b : ℕ} {k : Kind} {s j : ℕ} {q : List Waiting} (b' : ℕ) (k' : Kind) → Waits b k s j q → Goes b k s j b' k' q
unfolding oldest without
goes {b} {k} {s} b' k' (here {j = j} {w = w} {q = q} e f a) = go (matches b' k' w) refl
  where
    go : (x : Bool) → matches b' k' w ≡ x → ((loads s (cond x (real w.row w.serial) (oldest b' k' q)) ≡ true) × Absent s (cond x q (w ∷ without b' k' q))) ⊎ Stays b k s j b' k' (w ∷ q)
    go true z = inl (e, a)
    go false z = inr (record {
      free = rw z (absent_oldest b' k' s q a);
      waits = rw z (here e f (absent_without b' k' s q a));
      nearer = λ p u. absurd (true≢false (sym f ∙ ap (λ v. matches v k w) (sym p) ∙ ap (λ v. matches b' v w) (sym u) ∙ z));
    })
goes {b} {k} {s} b' k' (like {j = j} {w = w} {q = q} e f h) = go (matches b' k' w) refl (goes b' k' h)
  where
    go : (x : Bool) → matches b' k' w ≡ x → Goes b k s j b' k' q → ((loads s (cond x (real w.row w.serial) (oldest b' k' q)) ≡ true) × Absent s (cond x q (w ∷ without b' k' q))) ⊎ Stays b k s (suc j) b' k' (w ∷ q)
    go true z m = inr (record { free = rw z e; waits = rw z (weaker h); nearer = λ p u. (j, refl, rw z h) })
    go false z (inl m) = inl (m.0, (e, m.1))
    go false z (inr m) = inr (record { free = rw z m.free; waits = rw z (like e f m.waits); nearer = λ p u. absurd (true≢false (sym f ∙ ap (λ v. matches v k w) (sym p) ∙ ap (λ v. matches b' v w) (sym u) ∙ z)) })
goes {b} {k} {s} b' k' (past {j = j} {w = w} {q = q} e f h) = go (matches b' k' w) refl (goes b' k' h)
  where
    go : (x : Bool) → matches b' k' w ≡ x → Goes b k s j b' k' q → ((loads s (cond x (real w.row w.serial) (oldest b' k' q)) ≡ true) × Absent s (cond x q (w ∷ without b' k' q))) ⊎ Stays b k s j b' k' (w ∷ q)
    go true z m = inr (record { free = rw z e; waits = rw z h; nearer = λ p u. absurd (true≢false (sym z ∙ ap (λ v. matches v k' w) p ∙ ap (λ v. matches b v w) u ∙ f)) })
    go false z (inl m) = inl (m.0, (e, m.1))
    go false z (inr m) = inr (record { free = rw z m.free; waits = rw z (past e f m.waits); nearer = λ p u. let y = m.nearer p u in (y.0, y.1, rw z (past e f y.2)) })

kind_cases : (k l : Kind) → (k ≡ l) ⊎ (k ≡ l → ⊥)
kind_cases Read Read = inl refl
kind_cases Read Write = inr (λ e. let z : ◌≡◌ {A = ℕ} 0 1 = cc in omega arith)
kind_cases Write Read = inr (λ e. let z : ◌≡◌ {A = ℕ} 0 1 = cc in omega arith)
kind_cases Write Write = inl refl

-- where the request is
module _ (d s : ℕ) where
  abbrev pub Silent : (ℕ → Stage) → Type 0
  Silent f = (t : ℕ) → domain_of t ≡ d → carries s (f t) ≡ false

  abbrev pub Only : ℕ → (ℕ → Stage) → Type 0
  Only t f = (domain_of t ≡ d) × (carries s (f t) ≡ true) × ((u : ℕ) → domain_of u ≡ d → (u ≡ t → ⊥) → carries s (f u) ≡ false)

  abbrev pub pick : List Notice → List ℕ
  pick ns = map (λ m. m.tick) (filter (λ m. eqb m.domain d && eqb m.serial s) ns)

  pick_append : (x y : List Notice) → pick (x ++ y) ≡ pick x ++ pick y
  pick_append x y = ap (map (λ m. m.tick)) (filter-append (λ m. eqb m.domain d && eqb m.serial s) x y) ∙ map-append (λ m. m.tick) (filter (λ m. eqb m.domain d && eqb m.serial s) x) (filter (λ m. eqb m.domain d && eqb m.serial s) y)

  -- a notice of a slot that does not carry it
  not_it : (n t : ℕ) (x : Stage) → (domain_of t ≡ d → carries s x ≡ false) → pick (notice_of n t x) ≡ []
  not_it n t still h = refl
  not_it n t (done m) h = refl
  not_it n t (flying b k None) h = refl
  not_it n t (flying b k (Some w)) h = go (eqb (domain_of t) d) refl
    where
      go : (x : Bool) → eqb (domain_of t) d ≡ x → map (λ (m : Notice). m.tick) (cond (x && eqb w.serial s) (record { tick = n; domain = domain_of t; serial = w.serial } ∷ []) []) ≡ []
      go true e = rw (h (eqb-true (domain_of t) d e))
      go false e = refl

  it : (n t : ℕ) (x : Stage) → domain_of t ≡ d → carries s x ≡ true → pick (notice_of n t x) ≡ n ∷ []
  it n t still e h = absurd (true≢false (sym h))
  it n t (done m) e h = absurd (true≢false (sym h))
  it n t (flying b k None) e h = absurd (true≢false (sym h))
  it n t (flying b k (Some w)) e h = rw (eq-eqb (domain_of t) d e, h)

  carries_finished : (o : Bool) (n : ℕ) (x : Stage) → carries s (finished o n x) ≡ false
  carries_finished o n still = refl
  carries_finished true n (flying b k c) = refl
  carries_finished false n (flying b k c) = refl
  carries_finished o n (done m) = refl

  silent_completed : (c : Settings) (n : ℕ) (e : Event) (b : Tables) → Silent b.stage → Silent (completed c n e b).stage
  unfolding completed
  silent_completed c n (Issue u) b h t e = h t e
  silent_completed c n (Done u) b h t e = go (eqb t u)
    where
      go : (x : Bool) → carries s (cond x (finished (is_open c (domain_of u)) n (b.stage u)) (b.stage t)) ≡ false
      go true = carries_finished _ n (b.stage u)
      go false = h t e

  pub silent_notes : (c : Settings) (n : ℕ) (es : List Event) (b : Tables) → Silent b.stage → pick (written (event_notice n) (completed c n) es b) ≡ []
  unfolding written event_notice
  silent_notes c n [] b h = refl
  silent_notes c n (Issue u ∷ es) b h = silent_notes c n es (completed c n (Issue u) b) (silent_completed c n (Issue u) b h)
  silent_notes c n (Done u ∷ es) b h = pick_append (notice_of n u (b.stage u)) (written (event_notice n) (completed c n) es (completed c n (Done u) b))
      ∙ ap (λ z. z ++ pick (written (event_notice n) (completed c n) es (completed c n (Done u) b))) (not_it n u (b.stage u) (h u))
      ∙ silent_notes c n es (completed c n (Done u) b) (silent_completed c n (Done u) b h)

  only_completed : (c : Settings) (n t u : ℕ) (b : Tables) → (u ≡ t → ⊥) → Only t b.stage → Only t (completed c n (Done u) b).stage
  unfolding completed
  only_completed c n t u b ne h = (h.0, rw (ne_eqb t u (λ e. ne (sym e))) h.1, λ v e k. go v (eqb v u) (h.2 v e k))
    where
      go : (v : ℕ) (x : Bool) → carries s (b.stage v) ≡ false → carries s (cond x (finished (is_open c (domain_of u)) n (b.stage u)) (b.stage v)) ≡ false
      go v true k = carries_finished _ n (b.stage u)
      go v false k = k

  finished_silent : (c : Settings) (n t : ℕ) (b : Tables) → Only t b.stage → Silent (completed c n (Done t) b).stage
  unfolding completed
  finished_silent c n t b h v e = go (eqb v t) refl
    where
      go : (x : Bool) → eqb v t ≡ x → carries s (cond x (finished (is_open c (domain_of t)) n (b.stage t)) (b.stage v)) ≡ false
      go true z = carries_finished _ n (b.stage t)
      go false z = h.2 v e (eqb-false v t z)

  -- its Done writes its notice, once
  pub only_notes : (c : Settings) (n t : ℕ) (es : List Event) (b : Tables) → Only t b.stage → pick (written (event_notice n) (completed c n) es b) ≡ cond (finishes t es) (n ∷ []) []
  unfolding written event_notice completed
  only_notes c n t [] b h = refl
  only_notes c n t (Issue u ∷ es) b h = only_notes c n t es b h
  only_notes c n t (Done u ∷ es) b h = pick_append (notice_of n u (b.stage u)) (written (event_notice n) (completed c n) es (completed c n (Done u) b)) ∙ go (eqb u t) refl (λ ne. only_notes c n t es (completed c n (Done u) b) (only_completed c n t u b ne h))
    where
      go : (x : Bool) → eqb u t ≡ x → ((u ≡ t → ⊥) → pick (written (event_notice n) (completed c n) es (completed c n (Done u) b)) ≡ cond (finishes t es) (n ∷ []) [])
          → pick (notice_of n u (b.stage u)) ++ pick (written (event_notice n) (completed c n) es (completed c n (Done u) b)) ≡ cond (x || finishes t es) (n ∷ []) []
      go true e ih = let same : u ≡ t = eqb-true u t e in
          rw same (rw (it n t (b.stage t) h.0 h.1) (ap (◌∷◌ n) (silent_notes c n es (completed c n (Done t) b) (finished_silent c n t b h))))
      go false e ih = rw (not_it n u (b.stage u) (λ z. h.2 u z (eqb-false u t e))) (ih (eqb-false u t e))

  pub silent_all : (c : Settings) (n : ℕ) (es : List Event) (b : Tables) → Silent b.stage → Silent (through (completed c n) es b).stage
  unfolding through
  silent_all c n [] b h t e = h t e
  silent_all c n (x ∷ es) b h t e = silent_all c n es (completed c n x b) (silent_completed c n x b h) t e

  pub only_stays : (c : Settings) (n t : ℕ) (es : List Event) (b : Tables) → finishes t es ≡ false → Only t b.stage → Only t (through (completed c n) es b).stage
  unfolding through completed
  only_stays c n t [] b f h = h
  only_stays c n t (Issue u ∷ es) b f h = only_stays c n t es b f h
  only_stays c n t (Done u ∷ es) b f h = let p = or_parts (eqb u t) (finishes t es) f in only_stays c n t es (completed c n (Done u) b) p.1 (only_completed c n t u b (eqb-false u t p.0) h)

  pub only_ends : (c : Settings) (n t : ℕ) (es : List Event) (b : Tables) → finishes t es ≡ true → Only t b.stage → Silent (through (completed c n) es b).stage
  unfolding through completed
  only_ends c n t [] b f h = absurd (true≢false (sym f))
  only_ends c n t (Issue u ∷ es) b f h = only_ends c n t es b f h
  only_ends c n t (Done u ∷ es) b f h = go (eqb u t) refl f (λ k ne. only_ends c n t es (completed c n (Done u) b) k (only_completed c n t u b ne h))
    where
      go : (x : Bool) → eqb u t ≡ x → (x || finishes t es) ≡ true → (finishes t es ≡ true → (u ≡ t → ⊥) → Silent (through (completed c n) es (completed c n (Done u) b)).stage) → Silent (through (completed c n) es (completed c n (Done u) b)).stage
      go true e k ih = subst (λ z. Silent (through (completed c n) es (completed c n (Done z) b)).stage) (sym (eqb-true u t e)) (silent_all c n es (completed c n (Done t) b) (finished_silent c n t b h))
      go false e k ih = ih k (eqb-false u t e)

  pub carries_renewed : (o : Option ℕ) (x : Stage) → carries s (renewed o x) ≡ carries s x
  carries_renewed None x = refl
  carries_renewed (Some m) still = refl
  carries_renewed (Some m) (flying b k c) = refl
  carries_renewed (Some m) (done j) = refl

  -- departures
  silent_departed : (v : Vertex) (b : Tables) → (domain_of v.slot ≡ d → loads s (payload_for v b) ≡ false) → Silent b.stage → Silent (departed v b).stage
  unfolding departed
  silent_departed v b free h t e = go (eqb t v.slot) refl
    where
      go : (x : Bool) → eqb t v.slot ≡ x → carries s (cond x (flying v.bank v.kind (payload_for v b)) (b.stage t)) ≡ false
      go true z = free (ap domain_of (sym (eqb-true t v.slot z)) ∙ e)
      go false z = h t e

  absent_departed : (v : Vertex) (b : Tables) → Absent s (b.queue d) → Absent s ((departed v b).queue d)
  unfolding departed
  absent_departed v b a = go (eqb d (domain_of v.slot)) refl
    where
      go : (x : Bool) → eqb d (domain_of v.slot) ≡ x → Absent s (cond x (without v.bank v.kind (b.queue (domain_of v.slot))) (b.queue d))
      go true e = absent_without v.bank v.kind s _ (subst (λ z. Absent s (b.queue z)) (eqb-true d (domain_of v.slot) e) a)
      go false e = a

  absent_payload : (v : Vertex) (b : Tables) → Absent s (b.queue d) → domain_of v.slot ≡ d → loads s (payload_for v b) ≡ false
  unfolding payload_for
  absent_payload v b a e = absent_oldest v.bank v.kind s _ (subst (λ z. Absent s (b.queue z)) (sym e) a)

  pub over_departed : (vs : List Vertex) (b : Tables) → Absent s (b.queue d) → Silent b.stage → Absent s ((through departed vs b).queue d) × Silent (through departed vs b).stage
  unfolding through
  over_departed [] b a h = (a, h)
  over_departed (v ∷ vs) b a h = over_departed vs (departed v b) (absent_departed v b a) (silent_departed v b (absent_payload v b a) h)

  only_departed : (t : ℕ) (v : Vertex) (b : Tables) → (v.slot ≡ t → ⊥) → Absent s (b.queue d) → Only t b.stage → Only t (departed v b).stage
  unfolding departed
  only_departed t v b ne a h = (h.0, rw (ne_eqb t v.slot (λ e. ne (sym e))) h.1, λ u e k. go u (eqb u v.slot) refl e (h.2 u e k))
    where
      go : (u : ℕ) (x : Bool) → eqb u v.slot ≡ x → domain_of u ≡ d → carries s (b.stage u) ≡ false → carries s (cond x (flying v.bank v.kind (payload_for v b)) (b.stage u)) ≡ false
      go u true z e k = absent_payload v b a (ap domain_of (sym (eqb-true u v.slot z)) ∙ e)
      go u false z e k = k

  pub flying_departed : (t : ℕ) (vs : List Vertex) (b : Tables) → in_slots t vs ≡ false → Absent s (b.queue d) → Only t b.stage → Absent s ((through departed vs b).queue d) × Only t (through departed vs b).stage
  unfolding through
  flying_departed t [] b f a h = (a, h)
  flying_departed t (v ∷ vs) b f a h = let p = or_parts (eqb v.slot t) (in_slots t vs) f in flying_departed t vs (departed v b) p.1 (absent_departed v b a) (only_departed t v b (eqb-false v.slot t p.0) a h)

  -- after departures: it flies with one that left, or waits on
  pub record WaitingOn (b : ℕ) (k : Kind) (j : ℕ) (vs : List Vertex) (z : Tables) : Type 0 where
    pub silent : Silent z.stage
    pub waits : Waits b k s j (z.queue d)
    pub nearer : (v : Vertex) → In v vs → domain_of v.slot ≡ d → v.bank ≡ b → v.kind ≡ k → (i : ℕ) × (j ≡ suc i) × Waits b k s i (z.queue d)

  pub record Left (vs : List Vertex) (z : Tables) : Type 0 where
    pub slot : ℕ
    pub left_now : in_slots slot vs ≡ true
    pub only : Only slot z.stage
    pub absent : Absent s (z.queue d)

  queue_own : (v : Vertex) (z : Tables) → domain_of v.slot ≡ d → (departed v z).queue d ≡ without v.bank v.kind (z.queue d)
  unfolding departed
  queue_own v z e = rw (eq-eqb d (domain_of v.slot) (sym e)) (ap (λ y. without v.bank v.kind (z.queue y)) e)

  queue_other : (v : Vertex) (z : Tables) → (domain_of v.slot ≡ d → ⊥) → (departed v z).queue d ≡ z.queue d
  unfolding departed
  queue_other v z ne = rw (ne_eqb d (domain_of v.slot) (λ e. ne (sym e)))

  payload_own : (v : Vertex) (z : Tables) → domain_of v.slot ≡ d → payload_for v z ≡ oldest v.bank v.kind (z.queue d)
  unfolding payload_for
  payload_own v z e = ap (λ y. oldest v.bank v.kind (z.queue y)) e

  only_new : (v : Vertex) (z : Tables) → domain_of v.slot ≡ d → loads s (payload_for v z) ≡ true → Silent z.stage → Only v.slot (departed v z).stage
  unfolding departed
  only_new v z e l h = (e, rw (eq-eqb v.slot v.slot refl) l, λ u f ne. rw (ne_eqb u v.slot ne) (h u f))

  left_more : (v : Vertex) (vs : List Vertex) (z : Tables) → Left vs z → Left (v ∷ vs) z
  left_more v vs z m = record { slot = m.slot; left_now = or_yes (eqb v.slot m.slot); only = m.only; absent = m.absent }
    where
      or_yes : (x : Bool) → (x || in_slots m.slot vs) ≡ true
      or_yes true = refl
      or_yes false = m.left_now

  pub waits_departed : (b : ℕ) (k : Kind) (vs : List Vertex) → Apart vs → (j : ℕ) (z : Tables) → Silent z.stage → Waits b k s j (z.queue d) → Left vs (through departed vs z) ⊎ WaitingOn b k j vs (through departed vs z)
  unfolding through
  waits_departed b k [] a j z h w = inr (record { silent = h; waits = w; nearer = λ v i. elim i [ ] })
  waits_departed b k (v ∷ vs) a j z h w = go (cases_eq (domain_of v.slot) d) (waits_departed b k vs a.1)
    where
      Goal : Type 0
      Goal = Left (v ∷ vs) (through departed vs (departed v z)) ⊎ WaitingOn b k j (v ∷ vs) (through departed vs (departed v z))

      IH : Type 0
      IH = (j : ℕ) (z : Tables) → Silent z.stage → Waits b k s j (z.queue d) → Left vs (through departed vs z) ⊎ WaitingOn b k j vs (through departed vs z)

      same : (y : Left vs (through departed vs (departed v z)) ⊎ WaitingOn b k j vs (through departed vs (departed v z))) → (domain_of v.slot ≡ d → v.bank ≡ b → v.kind ≡ k → ⊥) → Goal
      same (inl m) no_way = inl (left_more v vs _ m)
      same (inr m) no_way = inr (record { silent = m.silent; waits = m.waits; nearer = λ u i e p q. elim i [ inl y ↦ absurd (no_way (ap (λ t. domain_of t.slot) (sym y) ∙ e) (ap (λ t. t.bank) (sym y) ∙ p) (ap (λ t. t.kind) (sym y) ∙ q)) | inr y ↦ m.nearer u y e p q ] })

      less : (i : ℕ) → j ≡ suc i → Left vs (through departed vs (departed v z)) ⊎ WaitingOn b k i vs (through departed vs (departed v z)) → Goal
      less i e (inl m) = inl (left_more v vs _ m)
      less i e (inr m) = inr (record { silent = m.silent; waits = subst (λ y. Waits b k s y ((through departed vs (departed v z)).queue d)) (sym e) (weaker m.waits); nearer = λ u y f p q. (i, e, m.waits) })

      stays : domain_of v.slot ≡ d → Stays b k s j v.bank v.kind (z.queue d) → IH → Goal
      stays e m ih = pick_kind (cases_eq v.bank b) (kind_cases v.kind k)
        where
          quiet : Silent (departed v z).stage
          quiet = silent_departed v z (λ f. ap (loads s) (payload_own v z f) ∙ m.free) h

          on : (i : ℕ) → Waits b k s i (without v.bank v.kind (z.queue d)) → Waits b k s i ((departed v z).queue d)
          on i y = subst (Waits b k s i) (sym (queue_own v z e)) y

          pick_kind : (v.bank ≡ b) ⊎ (v.bank ≡ b → ⊥) → (v.kind ≡ k) ⊎ (v.kind ≡ k → ⊥) → Goal
          pick_kind (inl p) (inl q) = let y = m.nearer p q in less y.0 y.1 (ih y.0 (departed v z) quiet (on y.0 y.2))
          pick_kind (inl p) (inr q) = same (ih j (departed v z) quiet (on j m.waits)) (λ e p' q'. q q')
          pick_kind (inr p) q = same (ih j (departed v z) quiet (on j m.waits)) (λ e p' q'. p p')

      go : (domain_of v.slot ≡ d) ⊎ (domain_of v.slot ≡ d → ⊥) → IH → Goal
      go (inl e) ih = own (goes v.bank v.kind w)
        where
          own : Goes b k s j v.bank v.kind (z.queue d) → Goal
          own (inl m) =
              let departing = flying_departed v.slot vs (departed v z) a.0 (subst (Absent s) (sym (queue_own v z e)) m.1) (only_new v z e (ap (loads s) (payload_own v z e) ∙ m.0) h) in
              inl (record { slot = v.slot; left_now = rw (eq-eqb v.slot v.slot refl); only = departing.1; absent = departing.0 })
          own (inr m) = stays e m ih
      go (inr ne) ih = same (ih j (departed v z) (silent_departed v z (λ e. absurd (ne e)) h) (subst (Waits b k s j) (sym (queue_other v z ne)) w)) (λ e p q. ne e)
