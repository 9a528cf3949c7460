-- No take is refused for want of room.
use Rattle.std.proofs.Common.{◌≡◌, ℕ, suc, ◌+◌, ◌<◌, ◌≤◌, Bool, true, false, cond, not, ◌||◌, eqb, List, [], ◌∷◌, ◌++◌, map, length, Some, None, Option, sym, refl, ap, ◌∙◌, subst, inl, inr, arith}
use Rattle.std.proofs.lemmas.List.{length-append}
use Rattle.std.proofs.lemmas.Bool.{eqb-true, eq-eqb, ne_eqb, true≢false, or_parts, or_cases, or_left, or_right, and_parts}
use Rattle.std.specs.List.{AllByRecursion}
use Rattle.interface.proofs.Runs.{reached_keeps}
use Rattle.interface.proofs.Takes.{take_ok}
use Rattle.interface.specs.Lawful.{Lawful, aged, without, ended}
use Rattle.interface.specs.Meaning as meaning
use Rattle.interface.specs.Meaning.{Held, Call, first, is_empty, take_refusal}
use Rattle.interface.specs.declared.Event.TheVariants.{Done, Issue}
use Rattle.interface.specs.declared.Event.{Event}
use Rattle.interface.specs.declared.Request.{Request}
use Rattle.model.specs.Calls.{Running}
use Rattle.model.specs.Settings.{Settings, Vertex, all_slots, open_slots, slots_of, vertices}
use Rattle.model.specs.Ticks.{Tables, departures, leaves, leaving, step_events}
use Rattle.run_laws.proofs.Departures.{is_flying}
use Rattle.run_laws.proofs.Holding.{in_slots, Apart, Free, Reached, finishes, holds, Controller, places, reached_call, step_is, take_is}
use Rattle.run_laws.proofs.Invariant.{Inv, controller_2, departing, pass, departing_free, departing_apart}
use Rattle.run_laws.proofs.Sound.{Sound}

abbrev pub has : ℕ → List ℕ → Bool
has t [] = false
has t (u ∷ us) = eqb u t || has t us

abbrev pub Distinct : List ℕ → Type 0
Distinct [] = Unit {0}
Distinct (x ∷ xs) = (has x xs ≡ false) × Distinct xs

drop_one : ℕ → List ℕ → List ℕ
drop_one x [] = []
drop_one x (y ∷ ys) = cond (eqb y x) ys (y ∷ drop_one x ys)

length_drop_one : (x : ℕ) (ys : List ℕ) → has x ys ≡ true → length ys ≡ suc (length (drop_one x ys))
unfolding drop_one
length_drop_one x [] e = absurd (true≢false (sym e))
length_drop_one x (y ∷ ys) e = go (eqb y x) e (length_drop_one x ys)
  where
    go : (b : Bool) → (b || has x ys) ≡ true → (has x ys ≡ true → length ys ≡ suc (length (drop_one x ys))) → suc (length ys) ≡ suc (length (cond b ys (y ∷ drop_one x ys)))
    go true z ih = refl
    go false z ih = ap suc (ih z)

has_drop_one : (x t : ℕ) (ys : List ℕ) → (t ≡ x → ⊥) → has t ys ≡ true → has t (drop_one x ys) ≡ true
unfolding drop_one
has_drop_one x t [] ne e = e
has_drop_one x t (y ∷ ys) ne e = go (eqb y x) refl (has_drop_one x t ys ne)
  where
    go : (b : Bool) → eqb y x ≡ b → (has t ys ≡ true → has t (drop_one x ys) ≡ true) → has t (cond b ys (y ∷ drop_one x ys)) ≡ true
    go true z ih = sym (ap (λ q. q || has t ys) (ne_eqb y t (λ w. ne (sym w ∙ eqb-true y x z)))) ∙ e
    go false z ih = here (eqb y t) e
      where
        here : (q : Bool) → (q || has t ys) ≡ true → (q || has t (drop_one x ys)) ≡ true
        here true w = refl
        here false w = ih w

pub pigeonhole : (xs ys : List ℕ) → Distinct xs → ((t : ℕ) → has t xs ≡ true → has t ys ≡ true) → length xs ≤ length ys
pigeonhole [] ys d h = omega arith
pigeonhole (x ∷ xs) ys d h =
    let less = length_drop_one x ys (h x (or_left (eqb x x) (has x xs) (eq-eqb x x refl))) in
    let rest = pigeonhole xs (drop_one x ys) d.1 (λ t e. has_drop_one x t ys (λ z. true≢false (sym e ∙ ap (λ w. has w xs) z ∙ d.0)) (h t (or_right (eqb x t) (has t xs) e))) in
    omega arith

pub has_append : (t : ℕ) (xs ys : List ℕ) → has t (xs ++ ys) ≡ (has t xs || has t ys)
has_append t [] ys = refl
has_append t (x ∷ xs) ys = go (eqb x t) (has_append t xs ys)
  where
    go : (b : Bool) → has t (xs ++ ys) ≡ (has t xs || has t ys) → (b || has t (xs ++ ys)) ≡ ((b || has t xs) || has t ys)
    go true e = refl
    go false e = e

distinct_append : (xs ys : List ℕ) → Distinct xs → Distinct ys → ((t : ℕ) → has t xs ≡ true → has t ys ≡ false) → Distinct (xs ++ ys)
distinct_append [] ys d e h = e
distinct_append (x ∷ xs) ys d e h = (has_append x xs ys ∙ rw (d.0, h x (or_left (eqb x x) (has x xs) (eq-eqb x x refl))), distinct_append xs ys d.1 e (λ t z. h t (or_right (eqb x t) (has t xs) z)))

abbrev pub held_slots : List Held → List ℕ
held_slots [] = []
held_slots (h ∷ hs) = h.request.slot ∷ held_slots hs

pub has_held : (t : ℕ) (hs : List Held) → has t (held_slots hs) ≡ holds t hs
has_held t [] = refl
has_held t (h ∷ hs) = ap (λ z. eqb h.request.slot t || z) (has_held t hs)

has_slots : (t : ℕ) (vs : List Vertex) → has t (slots_of vs) ≡ in_slots t vs
has_slots t [] = refl
has_slots t (v ∷ vs) = ap (λ z. eqb v.slot t || z) (has_slots t vs)

apart_distinct : (vs : List Vertex) → Apart vs → Distinct (slots_of vs)
apart_distinct [] a = tt
apart_distinct (v ∷ vs) a = (has_slots v.slot vs ∙ a.0, apart_distinct vs a.1)

slots_append : (hs gs : List Held) → held_slots (hs ++ gs) ≡ held_slots hs ++ held_slots gs
slots_append [] gs = refl
slots_append (h ∷ hs) gs = ap (◌∷◌ h.request.slot) (slots_append hs gs)

slots_aged : (es : List Event) (hs : List Held) → held_slots (map (aged es) hs) ≡ held_slots hs
slots_aged es [] = refl
slots_aged es (h ∷ hs) = ap (◌∷◌ h.request.slot) (slots_aged es hs)

without_less : (t u : ℕ) (hs : List Held) → has u (held_slots hs) ≡ false → has u (held_slots (without t hs)) ≡ false
without_less t u [] e = refl
without_less t u (h ∷ hs) e = go (eqb h.request.slot t) (without_less t u hs (or_parts (eqb h.request.slot u) (has u (held_slots hs)) e).1)
  where
    go : (b : Bool) → has u (held_slots (without t hs)) ≡ false → has u (held_slots (cond b (without t hs) (h ∷ without t hs))) ≡ false
    go true z = z
    go false z = rw (or_parts (eqb h.request.slot u) (has u (held_slots hs)) e).0 z

distinct_without : (t : ℕ) (hs : List Held) → Distinct (held_slots hs) → Distinct (held_slots (without t hs))
distinct_without t [] d = tt
distinct_without t (h ∷ hs) d = go (eqb h.request.slot t) (distinct_without t hs d.1)
  where
    go : (b : Bool) → Distinct (held_slots (without t hs)) → Distinct (held_slots (cond b (without t hs) (h ∷ without t hs)))
    go true z = z
    go false z = (without_less t h.request.slot hs d.0, z)

distinct_ended : (e : Option Event) (hs : List Held) → Distinct (held_slots hs) → Distinct (held_slots (ended e hs))
distinct_ended None hs d = d
distinct_ended (Some (Issue t)) hs d = d
distinct_ended (Some (Done t)) hs d = distinct_without t hs d

module _ (r : Controller) (laws : Lawful r.meaning) where
  abbrev Kept : List ℕ → Type 0
  Kept s = meaning.Reached r.meaning s × Distinct (held_slots (r.meaning.held s))

  kept_take : (s : List ℕ) (q : Request) → Kept s → take_refusal r.meaning s q ≡ None → Kept (r.meaning.taken s q)
  kept_take s q k e = (
    subst (meaning.Reached r.meaning) (take_is r laws s q e) (reached_call r.meaning (Call.take q) s k.0),
    subst (λ hs. Distinct (held_slots hs)) (sym (laws.taken_held s q k.0 e)) (rw slots_append (distinct_append (held_slots (r.meaning.held s)) (q.slot ∷ []) k.1 (refl, tt) (λ t f. go t f (eqb q.slot t) refl))),
  )
    where
      go : (t : ℕ) → has t (held_slots (r.meaning.held s)) ≡ true → (b : Bool) → eqb q.slot t ≡ b → (b || false) ≡ false
      go t f true w = absurd (true≢false (sym f ∙ has_held t (r.meaning.held s) ∙ ap (λ z. holds z (r.meaning.held s)) (sym (eqb-true q.slot t w)) ∙ (take_ok r.meaning s q e).1))
      go t f false w = refl

  kept_step : (s : List ℕ) → Kept s → r.meaning.ready s ≡ [] → Kept (r.meaning.stepped s)
  kept_step s k e = (
    subst (meaning.Reached r.meaning) (step_is r laws s e) (reached_call r.meaning Call.step s k.0),
    subst (λ hs. Distinct (held_slots hs)) (sym (laws.stepped_held s k.0 e)) (rw slots_aged k.1),
  )

  kept_collect : (s : List ℕ) → Kept s → is_empty (r.meaning.ready s) ≡ false → Kept (r.meaning.collected s)
  kept_collect s k e = (
    subst (meaning.Reached r.meaning) (ap (λ b. cond b s (r.meaning.collected s)) e) (reached_call r.meaning Call.collect s k.0),
    subst (λ hs. Distinct (held_slots hs)) (sym (laws.collected_held s k.0)) (distinct_ended (first (r.meaning.ready s)) (r.meaning.held s) k.1),
  )

  kept_start : (s : List ℕ) → Kept (r.meaning.start s)
  kept_start s = ((s, [], refl), subst (λ hs. Distinct (held_slots hs)) (sym (laws.start_held s)) tt)

  -- nothing is held twice
  pub distinct_held : (s : List ℕ) → Reached r s → Distinct (held_slots (r.meaning.held s))
  distinct_held s h = (reached_keeps r.meaning Kept kept_take kept_step kept_collect kept_start s h.by_calls).1

  pub length_held : (hs : List Held) → length (held_slots hs) ≡ length hs
  length_held [] = refl
  length_held (h ∷ hs) = ap suc (length_held hs)

  length_slots : (vs : List Vertex) → length (slots_of vs) ≡ length vs
  length_slots [] = refl
  length_slots (v ∷ vs) = ap suc (length_slots vs)

  abbrev pub Within : Settings → Running → Type 0
  Within c x = (t : ℕ) → is_flying (x.tables.stage t) ≡ true → has t (all_slots c) ≡ true

  leaving_has : (t n : ℕ) (b : Tables) (vs : List Vertex) → in_slots t (leaving n b vs) ≡ true → in_slots t vs ≡ true
  unfolding leaving
  leaving_has t n b [] e = e
  leaving_has t n b (v ∷ vs) e = go (leaves n b v) e (leaving_has t n b vs)
    where
      go : (x : Bool) → in_slots t (cond x (v ∷ leaving n b vs) (leaving n b vs)) ≡ true → (in_slots t (leaving n b vs) ≡ true → in_slots t vs ≡ true) → (eqb v.slot t || in_slots t vs) ≡ true
      go false z ih = or_right (eqb v.slot t) (in_slots t vs) (ih z)
      go true z ih = here (eqb v.slot t) z
        where
          here : (q : Bool) → (q || in_slots t (leaving n b vs)) ≡ true → (q || in_slots t vs) ≡ true
          here true w = refl
          here false w = ih w

  vertex_has : (c : Settings) (t : ℕ) → in_slots t (vertices c) ≡ true → has t (all_slots c) ≡ true
  unfolding all_slots
  vertex_has c t e = has_append t (slots_of (vertices c)) (open_slots c 8) ∙ rw (has_slots t (vertices c), e)

  pub departing_has : (c : Settings) (x : Running) (t : ℕ) → in_slots t (departing r c x) ≡ true → has t (all_slots c) ≡ true
  unfolding departures
  departing_has c x t e = vertex_has c t (leaving_has t x.tick _ (vertices c) e)

  pub room_for_tick : (c : Settings) (sound : Sound c) (x : Running) (inv : Inv r c x) → length (all_slots c) ≤ places r → Within c x → length (r.meaning.held (controller_2 r c x)) + length (departing r c x) ≤ places r
  room_for_tick c sound x inv fit win = go (pigeonhole (held_slots (r.meaning.held (controller_2 r c x)) ++ slots_of (departing r c x)) (all_slots c)
      (distinct_append (held_slots (r.meaning.held (controller_2 r c x))) (slots_of (departing r c x)) (distinct_held (controller_2 r c x) (pass r laws c sound x inv).again) (apart_distinct (departing r c x) (departing_apart r laws c sound x inv)) apart)
      inside)
    where
      apart : (t : ℕ) → has t (held_slots (r.meaning.held (controller_2 r c x))) ≡ true → has t (slots_of (departing r c x)) ≡ false
      apart t e = has_slots t (departing r c x) ∙ out (departing r c x) (departing_free r laws c sound x inv) (sym (has_held t (r.meaning.held (controller_2 r c x))) ∙ e)
        where
          out : (vs : List Vertex) → AllByRecursion (Free r laws (controller_2 r c x)) vs → holds t (r.meaning.held (controller_2 r c x)) ≡ true → in_slots t vs ≡ false
          out [] h k = refl
          out (v ∷ vs) h k = rw (ne_eqb v.slot t (λ z. true≢false (sym k ∙ ap (λ q. holds q (r.meaning.held (controller_2 r c x))) (sym z) ∙ h.0.2))) (out vs h.1 k)

      inside : (t : ℕ) → has t (held_slots (r.meaning.held (controller_2 r c x)) ++ slots_of (departing r c x)) ≡ true → has t (all_slots c) ≡ true
      inside t e = elim (or_cases (has t (held_slots (r.meaning.held (controller_2 r c x)))) (has t (slots_of (departing r c x))) (sym (has_append t (held_slots (r.meaning.held (controller_2 r c x))) (slots_of (departing r c x))) ∙ e)) [
        | inl k ↦ win t (sym (inv.held_is t) ∙ (and_parts (holds t (r.meaning.held x.controller)) (not (finishes t (step_events r.meaning x.controller))) (sym ((pass r laws c sound x inv).keeps t) ∙ sym (has_held t (r.meaning.held (controller_2 r c x))) ∙ k)).0)
        | inr k ↦ departing_has c x t (sym (has_slots t (departing r c x)) ∙ k)
      ]

      go : length (held_slots (r.meaning.held (controller_2 r c x)) ++ slots_of (departing r c x)) ≤ length (all_slots c) → length (r.meaning.held (controller_2 r c x)) + length (departing r c x) ≤ places r
      go h = omega (arith, simp (length-append, length_held, length_slots) at h)

  pub room_for_one : (c : Settings) (x : Running) (inv : Inv r c x) → length (all_slots c) ≤ places r → Within c x → (slot : ℕ) → is_flying (x.tables.stage slot) ≡ false → has slot (all_slots c) ≡ true → length (r.meaning.held x.controller) < places r
  room_for_one c x inv fit win slot free inn =
      let h = pigeonhole (slot ∷ held_slots (r.meaning.held x.controller)) (all_slots c) (has_held slot (r.meaning.held x.controller) ∙ inv.held_is slot ∙ free, distinct_held x.controller inv.reached) inside in
      let len = length_held (r.meaning.held x.controller) in
      omega arith
    where
      inside : (t : ℕ) → has t (slot ∷ held_slots (r.meaning.held x.controller)) ≡ true → has t (all_slots c) ≡ true
      inside t e = go (eqb slot t) refl e
        where
          go : (b : Bool) → eqb slot t ≡ b → (b || has t (held_slots (r.meaning.held x.controller))) ≡ true → has t (all_slots c) ≡ true
          go true z w = subst (λ q. has q (all_slots c) ≡ true) (eqb-true slot t z) inn
          go false z w = win t (sym (inv.held_is t) ∙ sym (has_held t (r.meaning.held x.controller)) ∙ w)

  -- what is held has places
  pub held_fits : (c : Settings) (x : Running) (inv : Inv r c x) → length (all_slots c) ≤ places r → Within c x → length (r.meaning.held x.controller) ≤ places r
  held_fits c x inv fit win =
      let h = pigeonhole (held_slots (r.meaning.held x.controller)) (all_slots c) (distinct_held x.controller inv.reached) (λ t e. win t (sym (inv.held_is t) ∙ sym (has_held t (r.meaning.held x.controller)) ∙ e)) in
      let len = length_held (r.meaning.held x.controller) in
      omega arith
