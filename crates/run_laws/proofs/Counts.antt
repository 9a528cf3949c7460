-- A tick writes at most 96 lines and 32 notices.
use Rattle.std.proofs.Common.{◌≡◌, ℕ, ◌+◌, ◌≤◌, Bool, true, false, cond, ◌||◌, eqb, List, [], ◌∷◌, Some, None, length, sym, refl, ap, ◌∙◌, subst, arith}
use Rattle.std.proofs.lemmas.List.{length-append}
use Rattle.std.proofs.lemmas.Bool.{eq-eqb, true≢false}
use Rattle.interface.specs.Lawful.{Lawful, Standing, standing, slot_of, events_of, Proper}
use Rattle.interface.specs.declared.Event.TheVariants.{Issue, Done}
use Rattle.interface.specs.declared.Event.{Event}
use Rattle.model.specs.Calls.{Running}
use Rattle.model.specs.Settings.{Settings, Vertex}
use Rattle.model.specs.Ticks.{Stage, still, flying, done, Tables, written, line_of, notice_of, event_line, event_notice, take_line, completed, departed, step_events, after_rounds, lines, notices}
use Rattle.model.specs.declared.Letter.{Letter}
use Rattle.run_laws.proofs.Holding.{Controller, finishes, places, finishes_some, absent_none, proper_held}
use Rattle.run_laws.proofs.Invariant.{Inv, controller_2, departing, pass}
use Rattle.run_laws.proofs.Room.{has, Distinct, pigeonhole, held_slots, has_held, length_held}
use Rattle.run_laws.proofs.Sound.{Sound}

abbrev done_slots : List Event → List ℕ
done_slots [] = []
done_slots (Issue t ∷ es) = done_slots es
done_slots (Done t ∷ es) = t ∷ done_slots es

abbrev issue_slots : List Event → List ℕ
issue_slots [] = []
issue_slots (Issue t ∷ es) = t ∷ issue_slots es
issue_slots (Done t ∷ es) = issue_slots es

both_counts : (es : List Event) → length es ≡ length (issue_slots es) + length (done_slots es)
both_counts [] = refl
both_counts (Issue t ∷ es) = let h = both_counts es in omega arith
both_counts (Done t ∷ es) = let h = both_counts es in omega arith

-- every slot's events are proper from some standing on
abbrev AllProper : List Event → Type 0
AllProper es = (n : ℕ) → (st : Standing) × Proper st (events_of n es)

one_less : (st : Standing) (e : Event) (es : List Event) → Proper st (e ∷ es) → (st : Standing) × Proper st es
one_less Standing.absent e es p = absurd p
one_less Standing.waiting (Issue n) es p = (Standing.in_flight, p)
one_less Standing.waiting (Done n) es p = absurd p
one_less Standing.in_flight (Issue n) es p = absurd p
one_less Standing.in_flight (Done n) es p = (Standing.absent, p)

tail_proper : (e : Event) (es : List Event) → AllProper (e ∷ es) → AllProper es
tail_proper e es p n = go (eqb (slot_of e) n) (p n)
  where
    go : (x : Bool) → (st : Standing) × Proper st (cond x (e ∷ events_of n es) (events_of n es)) → (st : Standing) × Proper st (events_of n es)
    go true q = one_less q.0 e (events_of n es) q.1
    go false q = q

-- the events of the first event's own slot
own_proper : (e : Event) (es : List Event) → AllProper (e ∷ es) → (st : Standing) × Proper st (e ∷ events_of (slot_of e) es)
own_proper e es p = subst (λ x. (st : Standing) × Proper st (cond x (e ∷ events_of (slot_of e) es) (events_of (slot_of e) es))) (eq-eqb (slot_of e) (slot_of e) refl) (p (slot_of e))

has_done : (t : ℕ) (es : List Event) → has t (done_slots es) ≡ finishes t es
has_done t [] = refl
has_done t (Issue u ∷ es) = has_done t es
has_done t (Done u ∷ es) = ap (λ z. eqb u t || z) (has_done t es)

no_done : (t : ℕ) (es : List Event) → events_of t es ≡ [] → has t (done_slots es) ≡ false
no_done t es e = go (finishes t es) refl
  where
    go : (x : Bool) → finishes t es ≡ x → has t (done_slots es) ≡ false
    go true z = absurd (finishes_some t es z e)
    go false z = has_done t es ∙ z

issues_some : (t : ℕ) (es : List Event) → has t (issue_slots es) ≡ true → events_of t es ≡ [] → ⊥
issues_some t [] e f = true≢false (sym e)
issues_some t (Issue u ∷ es) e f = go (eqb u t) e f (issues_some t es)
  where
    go : (x : Bool) → (x || has t (issue_slots es)) ≡ true → cond x (Issue u ∷ events_of t es) (events_of t es) ≡ [] → (has t (issue_slots es) ≡ true → events_of t es ≡ [] → ⊥) → ⊥
    go true w z ih = let k : ◌≡◌ {A = ℕ} 0 1 = cc in omega arith
    go false w z ih = ih w z
issues_some t (Done u ∷ es) e f = go (eqb u t) f (issues_some t es e)
  where
    go : (x : Bool) → cond x (Done u ∷ events_of t es) (events_of t es) ≡ [] → (events_of t es ≡ [] → ⊥) → ⊥
    go true z ih = let k : ◌≡◌ {A = ℕ} 0 1 = cc in omega arith
    go false z ih = ih z

not_has : (x : Bool) → (x ≡ true → ⊥) → x ≡ false
not_has true f = absurd (f refl)
not_has false f = refl

-- a slot in flight has no more Issue
in_flight_issue : (t : ℕ) (es : List Event) → Proper Standing.in_flight (events_of t es) → has t (issue_slots es) ≡ false
in_flight_issue t [] p = refl
in_flight_issue t (Issue u ∷ es) p = go (eqb u t) p (in_flight_issue t es)
  where
    go : (x : Bool) → Proper Standing.in_flight (cond x (Issue u ∷ events_of t es) (events_of t es)) → (Proper Standing.in_flight (events_of t es) → has t (issue_slots es) ≡ false) → (x || has t (issue_slots es)) ≡ false
    go true q ih = absurd q
    go false q ih = ih q
in_flight_issue t (Done u ∷ es) p = go (eqb u t) p (in_flight_issue t es)
  where
    go : (x : Bool) → Proper Standing.in_flight (cond x (Done u ∷ events_of t es) (events_of t es)) → (Proper Standing.in_flight (events_of t es) → has t (issue_slots es) ≡ false) → has t (issue_slots es) ≡ false
    go true q ih = not_has (has t (issue_slots es)) (λ z. issues_some t es z (absent_none (events_of t es) q))
    go false q ih = ih q

distinct_dones : (es : List Event) → AllProper es → Distinct (done_slots es)
distinct_dones [] p = tt
distinct_dones (Issue t ∷ es) p = distinct_dones es (tail_proper (Issue t) es p)
distinct_dones (Done t ∷ es) p = (go (own_proper (Done t) es p).0 (own_proper (Done t) es p).1, distinct_dones es (tail_proper (Done t) es p))
  where
    go : (st : Standing) → Proper st (Done t ∷ events_of t es) → has t (done_slots es) ≡ false
    go Standing.absent q = absurd q
    go Standing.waiting q = absurd q
    go Standing.in_flight q = no_done t es (absent_none (events_of t es) q)

distinct_issues : (es : List Event) → AllProper es → Distinct (issue_slots es)
distinct_issues [] p = tt
distinct_issues (Issue t ∷ es) p = (go (own_proper (Issue t) es p).0 (own_proper (Issue t) es p).1, distinct_issues es (tail_proper (Issue t) es p))
  where
    go : (st : Standing) → Proper st (Issue t ∷ events_of t es) → has t (issue_slots es) ≡ false
    go Standing.absent q = absurd q
    go Standing.waiting q = in_flight_issue t es q
    go Standing.in_flight q = absurd q
distinct_issues (Done t ∷ es) p = distinct_issues es (tail_proper (Done t) es p)

-- ---- what is written

length_line : (l : Letter) (n t : ℕ) (x : Stage) → length (line_of l n t x) ≤ 1
length_line l n t still = omega arith
length_line l n t (flying b k c) = omega arith
length_line l n t (done m) = omega arith

length_note : (n t : ℕ) (x : Stage) → length (notice_of n t x) ≤ 1
length_note n t still = omega arith
length_note n t (flying b k None) = omega arith
length_note n t (flying b k (Some w)) = omega arith
length_note n t (done m) = omega arith

written_few : {A O : Type 0} (out : A → Tables → List O) (f : A → Tables → Tables) → ((x : A) (b : Tables) → length (out x b) ≤ 1) → (xs : List A) (b : Tables) → length (written out f xs b) ≤ length xs
unfolding written
written_few out f h [] b = omega arith
written_few out f h (x ∷ xs) b = let k = written_few out f h xs (f x b) in let m = h x b in simp length-append (omega arith)

event_few : (n : ℕ) (e : Event) (b : Tables) → length (event_line n e b) ≤ 1
unfolding event_line
event_few n (Issue t) b = length_line _ n t (b.stage t)
event_few n (Done t) b = length_line _ n t (b.stage t)

take_few : (n : ℕ) (v : Vertex) (b : Tables) → length (take_line n v b) ≤ 1
unfolding take_line
take_few n v b = omega arith

notes_few : (c : Settings) (n : ℕ) (es : List Event) (b : Tables) → length (written (event_notice n) (completed c n) es b) ≤ length (done_slots es)
unfolding written event_notice
notes_few c n [] b = omega arith
notes_few c n (Issue t ∷ es) b = notes_few c n es (completed c n (Issue t) b)
notes_few c n (Done t ∷ es) b = let k = notes_few c n es (completed c n (Done t) b) in let m = length_note n t (b.stage t) in simp length-append (omega arith)

module _ (r : Controller) (laws : Lawful r.meaning) where
  pub few : (c : Settings) (sound : Sound c) (x : Running) → Inv r c x → length (r.meaning.held x.controller) ≤ places r → length (r.meaning.held (controller_2 r c x)) + length (departing r c x) ≤ places r
      → (length (lines r.meaning c x.tick x.controller x.tables) ≤ 96) × (length (notices r.meaning c x.tick x.controller x.tables) ≤ 32)
  unfolding lines notices
  few c sound x inv fit room =
      let places-32 = laws.places_most r.origin in
      let len = length_held r laws (r.meaning.held x.controller) in
      let ds = pigeonhole (done_slots es) slots (distinct_dones es all_proper) (λ t e. named t (finishes_some t es (sym (has_done t es) ∙ e))) in
      let is = pigeonhole (issue_slots es) slots (distinct_issues es all_proper) (λ t e. named t (issues_some t es e)) in
      let all = both_counts es in
      let ls = written_few (event_line x.tick) (completed c x.tick) (event_few x.tick) es x.tables in
      let ts = written_few (take_line x.tick) departed (take_few x.tick) (departing r c x) (after_rounds r.meaning c x.tick x.controller x.tables) in
      let ns = notes_few c x.tick es x.tables in
      (simp length-append (omega arith), omega arith)
    where
      es : List Event
      es = step_events r.meaning x.controller

      slots : List ℕ
      slots = held_slots (r.meaning.held x.controller)

      all_proper : AllProper (step_events r.meaning x.controller)
      all_proper n = (standing n (r.meaning.held x.controller), (pass r laws c sound x inv).proper n)

      named : (t : ℕ) → (events_of t (step_events r.meaning x.controller) ≡ [] → ⊥) → has t (held_slots (r.meaning.held x.controller)) ≡ true
      named t some = has_held t (r.meaning.held x.controller) ∙ proper_held t (r.meaning.held x.controller) (step_events r.meaning x.controller) ((pass r laws c sound x inv).proper t) some
