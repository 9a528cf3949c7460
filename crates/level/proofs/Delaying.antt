-- Each Done of a level comes in the L-th step after its taking, or with the Done below.
use Rattle.std.proofs.Common.{◌≡◌, ℕ, ◌+◌, ◌^◌, ◌<◌, ◌≤◌, Bool, true, false, cond, not, ◌&&◌, ◌||◌, eqb, leb, List, [], ◌∷◌, ◌++◌, map, Some, None, Option, sym, refl, ap, ◌∙◌, subst, append-nil, arith, eqb-true}
use borrow.Author.Tests.{both_ways}
use Rattle.interface.specs.Meaning.{Meaning, Call, after, run, accepted, is_empty, any, check, take_refusal, step_refusal}
use Rattle.interface.specs.Lawful.{Lawful, ends, Standing, standing, slot_of, events_of, Proper}
use Rattle.interface.specs.Slots.{dropped}
use Rattle.interface.specs.History.{History, Taking, Occurrence, blank, issued_in, ended_in, with_taking, with_step, noted, traced, history}
use Rattle.interface.specs.declared.Request.{Request}
use Rattle.interface.specs.declared.Event.{Event}
use Rattle.interface.specs.declared.Event.TheVariants.{Issue, Done}
use Rattle.interface.proofs.Bools.{or_false, or_left, and_parts, same}
use Rattle.interface.proofs.Runs.{step_ok}
use Rattle.interface.proofs.Slots.{Apart, apart_map, some_map, marked, marked_has, Traced, traced_dones, traced_append, ends_none, ends_append}
use Rattle.interface.proofs.Traces.{history_coded}
use Rattle.layer.specs.declared.entry.Entry.{Entry}
use Rattle.layer.specs.Forwards.{is_issue, forwarded}
use Rattle.layer.specs.Entries.{new_entry, slot_of_entry, is_due, reading}
use Rattle.layer.specs.Contents.{dones_due, collected}
use Rattle.layer.specs.Collects.{collects}
use Rattle.layer.proofs.Tables.{any_append}
use Rattle.layer.proofs.Receiving.{has, moved, nobody, stage, EachProper, absent_none, no_ends, is_done, ends_of, proper_all}
use Rattle.layer.proofs.Readiness.{Ready, ready_append, ready_issue, ready_dropped, ready_dones}
use Rattle.layer.proofs.Synced.{take_accepted}
use Rattle.layer.proofs.Collecting.{traced_then, traced_collects, run_collects}
use Rattle.level.specs.Level.{State, beginning, wait, meaning_over, level_codes, level_of, level_back}
use Rattle.level.specs.Laws.{passed_down, calls_below, first_steps, steps_of, Delays, Levels}
use Rattle.level.specs.Lawfulness.{Good, traced_issues, good_start, good_take, good_collect, good_tidy, events_of_step, tidy, tidy_is, each_received, others, proper_tidy, fine}
use Rattle.level.proofs.Endings.{Pending, Stands, at_step, stands_taken, stands_collected, stands_still, stands_stepped, stands_delayed}

-- ---- the entry of a slot

abbrev entry_at : ℕ → List Entry → Option Entry
entry_at n [] = None
entry_at n (w ∷ ws) = cond (has n w) (Some w) (entry_at n ws)

entry_none_at : (n : ℕ) (w : Entry) (ws : List Entry) (b : Bool) → (b || any (has n) ws) ≡ false → (any (has n) ws ≡ false → entry_at n ws ≡ None) → cond b (Some w) (entry_at n ws) ≡ None
entry_none_at n w ws true e ih = absurd (both_ways true e refl)
entry_none_at n w ws false e ih = ih e

entry_none : (n : ℕ) (ws : List Entry) → any (has n) ws ≡ false → entry_at n ws ≡ None
entry_none n [] e = refl
entry_none n (w ∷ ws) e = entry_none_at n w ws (has n w) e (entry_none n ws)

-- ---- one slot's part of a history

first_steps_append_at : (n : ℕ) (f : ℕ) (xs ys zs : List ℕ) (b : Bool) → xs ≡ ys ++ zs → cond b (f ∷ xs) xs ≡ cond b (f ∷ ys) ys ++ zs
first_steps_append_at n f xs ys zs true e = ap (λ l. f ∷ l) e
first_steps_append_at n f xs ys zs false e = e

first_steps_append : (n : ℕ) (ks : List Taking) (k : Taking) → first_steps n (ks ++ (k ∷ [])) ≡ first_steps n ks ++ cond (eqb k.request.slot n) (k.from ∷ []) []
first_steps_append n [] k = refl
first_steps_append n (j ∷ ks) k = first_steps_append_at n j.from (first_steps n (ks ++ (k ∷ []))) (first_steps n ks) _ (eqb j.request.slot n) (first_steps_append n ks k)

steps_of_append : (n : ℕ) (os ps : List Occurrence) → steps_of n (os ++ ps) ≡ steps_of n os ++ steps_of n ps
steps_of_append n [] ps = refl
steps_of_append n (o ∷ os) ps = first_steps_append_at n o.at (steps_of n (os ++ ps)) (steps_of n os) (steps_of n ps) (eqb o.slot n) (steps_of_append n os ps)

abbrev dones_at : ℕ → List Event → List ℕ
dones_at t [] = []
dones_at t (Issue n ∷ es) = dones_at t es
dones_at t (Done n ∷ es) = t ∷ dones_at t es

ended_steps_at : (n t : ℕ) (e : Event) (es : List Event) (b : Bool) → eqb (slot_of e) n ≡ b → steps_of n (ended_in t es) ≡ dones_at t (events_of n es) → steps_of n (ended_in t (e ∷ es)) ≡ dones_at t (cond b (e ∷ events_of n es) (events_of n es))
ended_steps_at n t (Issue m) es true k ih = ih
ended_steps_at n t (Issue m) es false k ih = ih
ended_steps_at n t (Done m) es true k ih = ap (λ b. cond b (t ∷ steps_of n (ended_in t es)) (steps_of n (ended_in t es))) k ∙ ap (λ l. t ∷ l) ih
ended_steps_at n t (Done m) es false k ih = ap (λ b. cond b (t ∷ steps_of n (ended_in t es)) (steps_of n (ended_in t es))) k ∙ ih

ended_steps : (n t : ℕ) (es : List Event) → steps_of n (ended_in t es) ≡ dones_at t (events_of n es)
ended_steps n t [] = refl
ended_steps n t (e ∷ es) = ended_steps_at n t e es (eqb (slot_of e) n) refl (ended_steps n t es)

proper_dones : (t : ℕ) (st : Standing) (ds : List Event) → Proper st ds → dones_at t ds ≡ at_step t (any is_done ds)
proper_dones t st [] p = refl
proper_dones t Standing.absent (e ∷ ds) p = absurd p
proper_dones t Standing.waiting (Issue n ∷ ds) p = proper_dones t Standing.in_flight ds p
proper_dones t Standing.waiting (Done n ∷ ds) p = absurd p
proper_dones t Standing.in_flight (Issue n ∷ ds) p = absurd p
proper_dones t Standing.in_flight (Done n ∷ ds) p = ap (λ l. t ∷ dones_at t l) (absent_none ds p)

-- the Dones of one step
step_dones : (n t : ℕ) (st : Standing) (es : List Event) → Proper st (events_of n es) → steps_of n (ended_in t es) ≡ at_step t (any (ends n) es)
step_dones n t st es p = ended_steps n t es ∙ proper_dones t st (events_of n es) p ∙ ap (at_step t) (sym (ends_of n es))

-- ---- the events of a level's step

no_dones : (n : ℕ) (es : List Event) → any (ends n) (forwarded is_issue es) ≡ false
no_dones n [] = refl
no_dones n (Issue m ∷ es) = no_dones n es
no_dones n (Done m ∷ es) = no_dones n es

own_ends : (n : ℕ) (es ds : List Event) → any (ends n) (forwarded is_issue es ++ ds) ≡ any (ends n) ds
own_ends n es ds = any_append (ends n) (forwarded is_issue es) ds ∙ ap (λ b. b || any (ends n) ds) (no_dones n es)

dones_no_issues_at : (t n : ℕ) (es : List Event) (b : Bool) → issued_in t es ≡ [] → issued_in t (cond b (Done n ∷ es) es) ≡ []
dones_no_issues_at t n es true e = e
dones_no_issues_at t n es false e = e

dones_no_issues : (t L : ℕ) (ws : List Entry) → issued_in t (dones_due L ws) ≡ []
dones_no_issues t L [] = refl
dones_no_issues t L (w ∷ ws) = dones_no_issues_at t w.request.slot (dones_due L ws) (is_due L w) (dones_no_issues t L ws)

own_issues : (t : ℕ) (es ds : List Event) → issued_in t ds ≡ [] → issued_in t (forwarded is_issue es ++ ds) ≡ issued_in t es
own_issues t [] ds e = e
own_issues t (Issue n ∷ es) ds e = ap (λ l. record { slot = n; at = t } ∷ l) (own_issues t es ds e)
own_issues t (Done n ∷ es) ds e = own_issues t es ds e

-- ---- a slot over a step

dones_skip : (n m : ℕ) (ds : List Event) (b : Bool) → eqb m n ≡ false → any (ends n) (cond b (Done m ∷ ds) ds) ≡ any (ends n) ds
dones_skip n m ds true e = ap (λ v. v || any (ends n) ds) e
dones_skip n m ds false e = refl

dones_own : (m : ℕ) (ds : List Event) (b : Bool) → any (ends m) ds ≡ false → any (ends m) (cond b (Done m ∷ ds) ds) ≡ b
dones_own m ds true e = or_left _ _ (same m)
dones_own m ds false e = e

not_again : (n : ℕ) (d : Bool) (st : Standing) (es : List Event) → Proper (cond d Standing.absent st) (events_of n es) → d ≡ true → any (ends n) es ≡ false
not_again n true st es p e = no_ends n es (absent_none (events_of n es) p)
not_again n false st es p e = absurd (both_ways false refl e)

not_due : (d a : Bool) → ((d && a) ≡ true → false ≡ true) → d ≡ true → a ≡ false
not_due true true h e = absurd (both_ways false refl (h refl))
not_due true false h e = refl
not_due false a h e = absurd (both_ways false refl e)

module _ (L t : ℕ) (small : L ≤ 65535) (es : List Event) (n : ℕ) (ks bs ds : List ℕ) where
  abbrev Next : List Entry → Type 0
  Next ws = Stands L (t + 1) (entry_at n (map (moved es) ws)) ks (bs ++ at_step t (any (ends n) es)) (ds ++ at_step t (any (ends n) (dones_due L (map (moved es) ws))))

  stands_own : (w : Entry) (ws : List Entry) → w.request.slot ≡ n → any (has w.request.slot) ws ≡ false → Proper (cond w.done Standing.absent (stage w)) (events_of w.request.slot es)
      → (is_due L w ≡ true → false ≡ true) → Pending L t w ks bs ds
      → Pending L (t + 1) (moved es w) ks (bs ++ at_step t (any (ends n) es)) (ds ++ at_step t (any (ends n) (dones_due L (map (moved es) (w ∷ ws)))))
  stands_own w ws at a p r i =
      let m = w.request.slot in
      let rs = dones_due L (map (moved es) ws) in
      subst (λ k. Pending L (t + 1) (moved es w) ks (bs ++ at_step t (any (ends k) es)) (ds ++ at_step t (any (ends k) (dones_due L (map (moved es) (w ∷ ws)))))) at
      (subst (λ b. Pending L (t + 1) (moved es w) ks (bs ++ at_step t (any (ends m) es)) (ds ++ at_step t b))
      (sym (dones_own m rs (is_due L (moved es w)) (ends_none slot_of_entry (is_due L) m (map (moved es) ws) (some_map slot_of_entry (moved es) (λ v. refl) m ws ∙ a))))
      (stands_stepped L t es w ks bs ds w.done (any (ends m) es) small refl refl (not_again m w.done (stage w) es p) (not_due w.done (leb L w.age) r) i))

  stands_step_at : (w : Entry) (ws : List Entry) (b : Bool) → has n w ≡ b → any (has w.request.slot) ws ≡ false → Proper (cond w.done Standing.absent (stage w)) (events_of w.request.slot es)
      → (is_due L w ≡ true → false ≡ true) → ((b || any (has n) ws) ≡ false → events_of n es ≡ []) → ((any (has n) ws ≡ false → events_of n es ≡ []) → Stands L t (entry_at n ws) ks bs ds → Next ws) → Stands L t (cond b (Some w) (entry_at n ws)) ks bs ds
      → Stands L (t + 1) (cond b (Some (moved es w)) (entry_at n (map (moved es) ws))) ks (bs ++ at_step t (any (ends n) es)) (ds ++ at_step t (any (ends n) (dones_due L (map (moved es) (w ∷ ws)))))
  stands_step_at w ws true e a p r k ih i = stands_own w ws (eqb-true w.request.slot n e) a p r i
  stands_step_at w ws false e a p r k ih i =
      subst (λ b. Stands L (t + 1) (entry_at n (map (moved es) ws)) ks (bs ++ at_step t (any (ends n) es)) (ds ++ at_step t b)) (sym (dones_skip n w.request.slot (dones_due L (map (moved es) ws)) (is_due L (moved es w)) e)) (ih k i)

  stands_step : (ws : List Entry) → Apart slot_of_entry ws → EachProper nobody es ws → (any (has n) ws ≡ false → events_of n es ≡ []) → Ready (is_due L) [] ws → Stands L t (entry_at n ws) ks bs ds → Next ws
  stands_step [] a p k r i = stands_still L t ks bs ds (any (ends n) es) false (no_ends n es (k refl)) refl i
  stands_step (w ∷ ws) a p k r i = stands_step_at w ws (has n w) refl a.0 p.0 r.0 k (λ z. stands_step ws a.1 p.1 z r.1) i

-- ---- a slot when a request is taken

entry_append_at : (n : ℕ) (w x : Entry) (ws : List Entry) (o : Option Entry) (b : Bool) → entry_at n (ws ++ (x ∷ [])) ≡ o → cond b (Some w) (entry_at n (ws ++ (x ∷ []))) ≡ cond b (Some w) o
entry_append_at n w x ws o true e = refl
entry_append_at n w x ws o false e = e

entry_append_other : (n : ℕ) (x : Entry) (ws : List Entry) → has n x ≡ false → entry_at n (ws ++ (x ∷ [])) ≡ entry_at n ws
entry_append_other n x [] e = ap (λ b. cond b (Some x) None) e
entry_append_other n x (w ∷ ws) e = entry_append_at n w x ws (entry_at n ws) (has n w) (entry_append_other n x ws e)

entry_append_new : (n : ℕ) (x : Entry) (ws : List Entry) → has n x ≡ true → any (has n) ws ≡ false → entry_at n (ws ++ (x ∷ [])) ≡ Some x
entry_append_new n x [] e a = ap (λ b. cond b (Some x) None) e
entry_append_new n x (w ∷ ws) e a =
    let j = or_false (has n w) _ a in
    ap (λ b. cond b (Some w) (entry_at n (ws ++ (x ∷ [])))) j.0 ∙ entry_append_new n x ws e j.1

stands_take : (L t n : ℕ) (q : Request) (ws : List Entry) (ks bs ds : List ℕ) (b : Bool) → eqb q.slot n ≡ b → any (has q.slot) ws ≡ false → Stands L t (entry_at n ws) ks bs ds
    → Stands L t (entry_at n (ws ++ (new_entry q ∷ []))) (ks ++ cond b (t ∷ []) []) bs ds
stands_take L t n q ws ks bs ds true e a i =
    let free : any (has n) ws ≡ false = ap (λ k. any (has k) ws) (sym (eqb-true q.slot n e)) ∙ a in
    subst (λ o. Stands L t o (ks ++ (t ∷ [])) bs ds) (sym (entry_append_new n (new_entry q) ws e free)) (stands_taken L t q ks bs ds (subst (λ o. Stands L t o ks bs ds) (entry_none n ws free) i))
stands_take L t n q ws ks bs ds false e a i =
    subst (λ o. Stands L t o (ks ++ []) bs ds) (sym (entry_append_other n (new_entry q) ws e)) (subst (λ x. Stands L t (entry_at n ws) x bs ds) (sym (append-nil ks)) i)

-- ---- a slot when a Done is collected

due_here : (d m : Bool) → (m ≡ true → ⊥) → (d || m) ≡ true → d ≡ true
due_here true m h e = refl
due_here false m h e = absurd (h e)

stands_drop_at : (L t n k : ℕ) (w : Entry) (ws : List Entry) (ks bs ds : List ℕ) (b c : Bool) → has n w ≡ b → has k w ≡ c → any (has w.request.slot) ws ≡ false
    → ((b && is_due L w) || marked slot_of_entry (is_due L) n ws) ≡ true
    → (marked slot_of_entry (is_due L) n ws ≡ true → Stands L t (entry_at k ws) ks bs ds → Stands L t (entry_at k (dropped slot_of_entry n ws)) ks bs ds)
    → Stands L t (cond c (Some w) (entry_at k ws)) ks bs ds → Stands L t (entry_at k (cond b ws (w ∷ dropped slot_of_entry n ws))) ks bs ds
stands_drop_at L t n k w ws ks bs ds true true p q a m ih i =
    let due = due_here (is_due L w) _ (marked_has slot_of_entry (is_due L) n ws (ap (λ j. any (has j) ws) (sym (eqb-true w.request.slot n p)) ∙ a)) m in
    let parts = and_parts w.done (leb L w.age) due in
    subst (λ o. Stands L t o ks bs ds) (sym (entry_none k ws (ap (λ j. any (has j) ws) (sym (eqb-true w.request.slot k q)) ∙ a))) (stands_collected L t w ks bs ds parts.0 parts.1 i)
stands_drop_at L t n k w ws ks bs ds true false p q a m ih i = i
stands_drop_at L t n k w ws ks bs ds false true p q a m ih i = subst (λ b. Stands L t (cond b (Some w) (entry_at k (dropped slot_of_entry n ws))) ks bs ds) (sym q) i
stands_drop_at L t n k w ws ks bs ds false false p q a m ih i = subst (λ b. Stands L t (cond b (Some w) (entry_at k (dropped slot_of_entry n ws))) ks bs ds) (sym q) (ih m i)

stands_drop : (L t n k : ℕ) (ws : List Entry) (ks bs ds : List ℕ) → Apart slot_of_entry ws → marked slot_of_entry (is_due L) n ws ≡ true → Stands L t (entry_at k ws) ks bs ds → Stands L t (entry_at k (dropped slot_of_entry n ws)) ks bs ds
stands_drop L t n k [] ks bs ds a m i = i
stands_drop L t n k (w ∷ ws) ks bs ds a m i = stands_drop_at L t n k w ws ks bs ds (has n w) (has k w) refl refl a.0 m (stands_drop L t n k ws ks bs ds a.1) i

module _ (m : Meaning (List ℕ)) (l : Lawful m) (short : (s : List ℕ) → m.span s < 2 ^ 64) where
  -- ---- what holds of a level, its history, and the history below

  module _ (L : ℕ) (small : L ≤ 65535) where
    record Tracks (s : State) (own below : History) : Type 0 where
      good : Good m s
      delay : s.delay ≡ L
      ready : Ready (is_due L) s.table.events s.table.held
      due : Traced slot_of_entry (is_due L) s.table.events s.table.held
      steps : own.steps ≡ below.steps
      takings : own.takings ≡ below.takings
      issuings : own.issuings ≡ below.issuings
      stands : (n : ℕ) → Stands L own.steps (entry_at n s.table.held) (first_steps n own.takings) (steps_of n below.endings) (steps_of n own.endings)

    tracks_start : (s : State) → s.delay ≡ L → Tracks ((meaning_over m).start s) blank blank
    tracks_start s e = record { good = good_start m l short s; delay = e; ready = tt; due = tt; steps = refl; takings = refl; issuings = refl; stands = λ n. tt }

    tracks_take : (s : State) (own below : History) (q : Request) → Tracks s own below → take_refusal (meaning_over m) s q ≡ None → Tracks ((meaning_over m).taken s q) (with_taking own q) (with_taking below q)
    tracks_take s own below q i ok =
        let ws = s.table.held in
        record {
          good = good_take m l short s q i.good ok;
          delay = i.delay;
          ready = ready_append (is_due L) s.table.events ws q refl i.ready;
          due = traced_append slot_of_entry (is_due L) s.table.events ws (new_entry q) i.due;
          steps = i.steps;
          takings = ap (λ ks. ks ++ (record { request = q; from = own.steps } ∷ [])) i.takings ∙ ap (λ t. below.takings ++ (record { request = q; from = t } ∷ [])) i.steps;
          issuings = i.issuings;
          stands = λ n. subst (λ ks. Stands L own.steps (entry_at n (ws ++ (new_entry q ∷ []))) ks (steps_of n below.endings) (steps_of n own.endings)) (sym (first_steps_append n own.takings (record { request = q; from = own.steps })))
              (stands_take L own.steps n q ws (first_steps n own.takings) (steps_of n below.endings) (steps_of n own.endings) (eqb q.slot n) refl (fine m l short s q ok).free (i.stands n));
        }

    tracks_collect : (s : State) (own below : History) (es : List Event) → Tracks s own below → Traced slot_of_entry (λ w. w.done) es s.table.held → Ready (is_due L) es s.table.held → Traced slot_of_entry (is_due L) es s.table.held
        → Tracks (record { delay = s.delay; table = collected (record { held = s.table.held; events = es }); below = s.below }) own below
    tracks_collect s own below [] i t r d = record { good = good_collect m l short s [] i.good t; delay = i.delay; ready = r; due = d; steps = i.steps; takings = i.takings; issuings = i.issuings; stands = i.stands }
    tracks_collect s own below (Issue n ∷ es) i t r d = record {
      good = good_collect m l short s (Issue n ∷ es) i.good t;
      delay = i.delay;
      ready = ready_issue (is_due L) n es s.table.held r;
      due = d;
      steps = i.steps;
      takings = i.takings;
      issuings = i.issuings;
      stands = i.stands;
    }
    tracks_collect s own below (Done n ∷ es) i t r d = record {
      good = good_collect m l short s (Done n ∷ es) i.good t;
      delay = i.delay;
      ready = ready_dropped (is_due L) n es s.table.held i.good.apart r;
      due = d.1;
      steps = i.steps;
      takings = i.takings;
      issuings = i.issuings;
      stands = λ k. stands_drop L own.steps n k s.table.held _ _ _ i.good.apart d.0 (i.stands k);
    }

    -- ---- a step

    abbrev received : State → List Event
    received s = events_of_step m l short s

    -- the events of the level, where d is its number L
    abbrev own_events : State → ℕ → List Event
    own_events s d = forwarded is_issue (received s) ++ dones_due d (map (moved (received s)) s.table.held)

    abbrev next : State → ℕ → State
    next s d = record { delay = s.delay; table = record { held = map (moved (received s)) s.table.held; events = own_events s d }; below = (tidy m l short s).below }

    wait_is : (s : State) → s.delay ≡ L → wait s ≡ L
    wait_is s e = omega arith

    below_dones : (s : State) (t : ℕ) → Good m s → (n : ℕ) → steps_of n (ended_in t (received s)) ≡ at_step t (any (ends n) (received s))
    below_dones s t g n = step_dones n t (standing n (map (reading 0) s.table.held)) (received s) (proper_all n 0 (received s) s.table.held (each_received m l short s g) (others m l short s g n))

    own_dones : (s : State) (t : ℕ) → Good m s → s.delay ≡ L → (n : ℕ) → steps_of n (ended_in t (own_events s L)) ≡ at_step t (any (ends n) (dones_due L (map (moved (received s)) s.table.held)))
    own_dones s t g e n =
        step_dones n t (standing n ((meaning_over m).held s)) (own_events s L) (subst (λ d. Proper (standing n ((meaning_over m).held s)) (events_of n (own_events s d))) (wait_is s e) (proper_tidy m l short s g n))
        ∙ ap (at_step t) (own_ends n (received s) (dones_due L (map (moved (received s)) s.table.held)))

    tracks_next : (s : State) (own below : History) → Tracks s own below → s.table.events ≡ [] → Tracks (next s L) (with_step own (own_events s L)) (with_step below (received s))
    tracks_next s own below i e =
        let es = received s in
        let ws = s.table.held in
        let vs = map (moved es) ws in
        let t = own.steps in
        let none : Ready (is_due L) [] ws = subst (λ fs. Ready (is_due L) fs ws) e i.ready in
        record {
          good = subst (λ d. Good m (next s d)) (wait_is s i.delay) (good_tidy m l short s i.good);
          delay = i.delay;
          ready = ready_dones (is_due L) (own_events s L) vs (λ n k. ends_append n (forwarded is_issue es) (dones_due L vs) k);
          due = traced_issues (is_due L) es (dones_due L vs) vs (traced_dones slot_of_entry (is_due L) (is_due L) (λ w k. k) vs (apart_map slot_of_entry (moved es) (λ w. refl) ws i.good.apart));
          steps = ap (λ k. k + 1) i.steps;
          takings = i.takings;
          issuings =
              ap (λ os. os ++ issued_in t (own_events s L)) i.issuings ∙ ap (λ os. below.issuings ++ os) (own_issues t es (dones_due L vs) (dones_no_issues t L vs))
              ∙ ap (λ k. below.issuings ++ issued_in k es) i.steps;
          stands = λ n.
              subst (λ bs. Stands L (t + 1) (entry_at n vs) (first_steps n own.takings) bs (steps_of n (own.endings ++ ended_in t (own_events s L))))
              (sym (steps_of_append n below.endings (ended_in below.steps es) ∙ ap (λ k. steps_of n below.endings ++ steps_of n (ended_in k es)) (sym i.steps) ∙ ap (λ xs. steps_of n below.endings ++ xs) (below_dones s t i.good n)))
              (subst (Stands L (t + 1) (entry_at n vs) (first_steps n own.takings) (steps_of n below.endings ++ at_step t (any (ends n) es)))
              (sym (steps_of_append n own.endings (ended_in t (own_events s L)) ∙ ap (λ xs. steps_of n own.endings ++ xs) (own_dones s t i.good i.delay n)))
              (stands_step L t small es n (first_steps n own.takings) (steps_of n below.endings) (steps_of n own.endings) ws i.good.apart (each_received m l short s i.good) (others m l short s i.good n) none (i.stands n)));
        }

    tracks_step : (s : State) (own below : History) → Tracks s own below → s.table.events ≡ [] → Tracks ((meaning_over m).stepped s) (with_step own ((meaning_over m).stepped s).table.events) (with_step below (received s))
    tracks_step s own below i e =
        subst (λ y. Tracks y (with_step own y.table.events) (with_step below (received s))) (sym (tidy_is m l short s i.good e))
        (subst (λ d. Tracks (next s d) (with_step own (own_events s d)) (with_step below (received s))) (sym (wait_is s i.delay)) (tracks_next s own below i e))

    -- ---- a call, and the calls that it makes below

    abbrev Passes : List Call → State → History → State → History → Type 0
    Passes cs s below t own = Tracks t own (traced m cs s.below below) × (run m cs s.below ≡ t.below)

    call_take : (s : State) (own below : History) (q : Request) → Tracks s own below → (v : Option ℕ) → take_refusal (meaning_over m) s q ≡ v
        → Passes (accepted v (Call.take q ∷ []) []) s below (accepted v ((meaning_over m).taken s q) s) (accepted v (with_taking own q) own)
    call_take s own below q i None e =
        let f = fine m l short s q e in
        (subst (λ u. Tracks ((meaning_over m).taken s q) (with_taking own q) (accepted u (with_taking below q) below)) (sym (take_accepted m l nobody s.below s.table.held q i.good.synced f.range f.free f.room)) (tracks_take s own below q i e), refl)
    call_take s own below q i (Some x) e = (i, refl)

    call_step : (s : State) (own below : History) → Tracks s own below → (v : Option ℕ) → step_refusal (meaning_over m) s ≡ v
        → Passes (accepted v (Call.step ∷ collects (received s)) []) s below (accepted v ((meaning_over m).stepped s) s) (accepted v (with_step own (accepted v ((meaning_over m).stepped s) s).table.events) own)
    call_step s own below i None e =
        let noted_step = noted m Call.step s.below below in (
          subst (λ h. Tracks ((meaning_over m).stepped s) (with_step own ((meaning_over m).stepped s).table.events) h)
              (sym (traced_collects m (received s) (after m Call.step s.below) noted_step ∙ ap (λ es. accepted (check (not (is_empty es)) 20 None) (with_step below (received s)) below) i.good.synced.quiet))
              (tracks_step s own below i (step_ok s.table.events e)),
          run_collects m l (received s) (after m Call.step s.below) refl,
        )
    call_step s own below i (Some x) e = (i, refl)

    call_collect : (s : State) (own below : History) → Tracks s own below → (b : Bool) → Passes [] s below (cond b s ((meaning_over m).collected s)) own
    call_collect s own below i true = (i, refl)
    call_collect s own below i false = (tracks_collect s own below s.table.events i i.good.traced i.ready i.due, refl)

    call : (c : Call) (s : State) (own below : History) → Tracks s own below → Passes (passed_down m c s) s below (after (meaning_over m) c s) (noted (meaning_over m) c s own)
    call Call.reset s own below i = (tracks_start s i.delay, refl)
    call (Call.take q) s own below i = call_take s own below q i (take_refusal (meaning_over m) s q) refl
    call Call.step s own below i = call_step s own below i (step_refusal (meaning_over m) s) refl
    call Call.collect s own below i = call_collect s own below i (is_empty s.table.events)

    follow : (cs : List Call) (s : State) (own below : History) → Tracks s own below → (t : State) × Tracks t (traced (meaning_over m) cs s own) (traced m (calls_below m cs s) s.below below)
    follow [] s own below i = (s, i)
    follow (c ∷ cs) s own below i =
        let k = call c s own below i in
        let t = after (meaning_over m) c s in
        let h = traced m (passed_down m c s) s.below below in
        let j = follow cs t (noted (meaning_over m) c s own) h k.0 in (
          j.0,
          subst (Tracks j.0 (traced (meaning_over m) cs t (noted (meaning_over m) c s own)))
              (sym (traced_then m (passed_down m c s) (calls_below m cs t) s.below below ∙ ap (λ b. traced m (calls_below m cs t) b h) k.1)) j.1,
        )

    pub levels : (b : List ℕ) → Levels m L b
    levels b cs =
        let s = beginning L b in
        let own = history (meaning_over m) s cs in
        let below = history m b (calls_below m cs (beginning L (m.start b))) in
        let j = follow cs (beginning L (m.start b)) blank blank (tracks_start s refl) in
        let i = j.1 in
        subst (λ h. Delays L h below) (sym (history_coded level_codes level_of level_back (meaning_over m) (level_codes s) cs ∙ ap (λ x. history (meaning_over m) x cs) (level_back s)))
        (record { steps = i.steps; takings = i.takings; issuings = i.issuings; endings = λ n. stands_delayed L own.steps (entry_at n j.0.table.held) (first_steps n own.takings) (steps_of n below.endings) (steps_of n own.endings) small (i.stands n) })
