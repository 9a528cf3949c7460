-- A level keeps the laws of the interface, if the controller below does.
use Rattle.std.specs.Prelude.{◌≡◌, ℕ, ◌-◌, ◌^◌, ◌<◌, ◌≤◌, max, Bool, true, false, cond, ◌&&◌, ◌||◌, List, [], ◌∷◌, ◌++◌, map, length, Some, None, Option, nat_le, refl}
use Rattle.std.proofs.Common.{sym, ap, ◌∙◌, subst, arith, length-append, le-leb}
use Rattle.std.proofs.lemmas.List.{length-map}
use Rattle.interface.specs.Meaning.{Meaning, Call, after, Reached, first, is_empty, any, in_range, take_refusal, step_refusal, accepted}
use Rattle.interface.specs.Lawful.{Lawful, issues, ends, aged, fresh, standing, events_of, Proper, Punctual}
use Rattle.interface.specs.declared.Request.{Request}
use Rattle.interface.specs.declared.Event.{Event}
use Rattle.interface.specs.declared.Event.TheVariants.{Issue, Done}
use Rattle.interface.proofs.Codes.{lawful_coded}
use Rattle.interface.proofs.Bools.{or_left, and_left, same}
use Rattle.interface.proofs.Slots.{Apart, apart_map, apart_dropped, apart_append, length_dropped, some_entries, map_append, events_of_append, Traced, traced_dones, traced_append, done_more, ends_append, issues_none, issues_append, collected_held}
use Rattle.interface.proofs.Runs.{reached_keeps}
use Rattle.interface.proofs.Takes.{take_ok}
use Rattle.layer.specs.declared.entry.Entry.{Entry}
use Rattle.layer.specs.Forwards.{is_issue, forwarded}
use Rattle.layer.specs.Entries.{new_entry, slot_of_entry, done_below, updated, advanced, is_due, reading}
use Rattle.holder.specs.Holding.{all_added}
use Rattle.layer.specs.Contents.{dones_due, collected}
use Rattle.layer.proofs.Tables.{contents_path, map_fuse}
use Rattle.layer.proofs.Receiving.{has, moved, nobody, EachProper, DoneIssued, done_issued_dropped, done_issued_append, done_issued_step, events_of_forwarded, proper_released}
use Rattle.holder.proofs.Holdings.{all_added_is, length_dones}
use Rattle.layer.proofs.Counts.{few_issues}
use Rattle.layer.proofs.Synced.{Synced, EachPunctual, agree_same, map_moved, new_reading, events_below, below_after, span_after, span_step, start_step, synced_start, synced_take, synced_drop, synced_step, proper_received, none_received, punctual_received}
use Rattle.level.specs.Level.{State, beginning, wait, span_over, meaning_over, level_codes, level_of, level_back, level_meaning}
use Rattle.level.specs.States.{state_path}

-- ---- Issues that are handed on

pub traced_issues : (p : Entry → Bool) (es ds : List Event) (ws : List Entry) → Traced slot_of_entry p ds ws → Traced slot_of_entry p (forwarded is_issue es ++ ds) ws
traced_issues p [] ds ws t = t
traced_issues p (Issue n ∷ es) ds ws t = traced_issues p es ds ws t
traced_issues p (Done n ∷ es) ds ws t = traced_issues p es ds ws t

issues_forwarded : (n : ℕ) (es : List Event) → any (issues n) (forwarded is_issue es) ≡ any (issues n) es
issues_forwarded n [] = refl
issues_forwarded n (Issue m ∷ es) = ap (λ b. issues n (Issue m) || b) (issues_forwarded n es)
issues_forwarded n (Done m ∷ es) = issues_forwarded n es

-- ---- a Done is ready in time

due_one : (p q k : ℕ) (es : List Event) (w : Entry) (d : Bool) → w.done ≡ d → p < 2 ^ 64 → p ≤ q → k ≤ q → (d ≡ false → (p - w.age) - 1 ≡ 0 → any (ends w.request.slot) es ≡ true) → q - (moved es w).age ≡ 0 → is_due k (moved es w) ≡ true
due_one p q k es w true d hp hq hk i z = ap (λ b. (b || any (ends w.request.slot) es) && nat_le k (moved es w).age) d ∙ le-leb k (moved es w).age (omega arith)
due_one p q k es w false d hp hq hk i z =
    ap (λ b. (b || any (ends w.request.slot) es) && nat_le k (moved es w).age) d ∙ ap (λ b. b && nat_le k (moved es w).age) (i refl (omega arith)) ∙ le-leb k (moved es w).age (omega arith)

punctual_released : (p q k : ℕ) (es ds : List Event) (ws : List Entry) → p < 2 ^ 64 → p ≤ q → k ≤ q → EachPunctual nobody p es ws
    → ((n : ℕ) → any (ends n) (dones_due k (map (moved es) ws)) ≡ true → any (ends n) ds ≡ true) → Punctual (map (reading q) (map (moved es) ws)) ds
punctual_released p q k es ds [] hp hq hk t i = tt
punctual_released p q k es ds (w ∷ ws) hp hq hk t i = (
  λ z. i w.request.slot (
      ap (λ b. any (ends w.request.slot) (cond b (Done w.request.slot ∷ dones_due k (map (moved es) ws)) (dones_due k (map (moved es) ws)))) (due_one p q k es w w.done refl hp hq hk t.0 z) ∙ or_left _ _ (same w.request.slot)
      ),
  punctual_released p q k es ds ws hp hq hk t.1 (λ n e. i n (done_more n w.request.slot (is_due k (moved es w)) (dones_due k (map (moved es) ws)) e)),
)

-- ---- what holds of every level

pub record Good (r : Meaning (List ℕ)) (s : State) : Type 0 where
  pub synced : Synced r nobody s.below s.table.held
  pub apart : Apart slot_of_entry s.table.held
  pub few : length s.table.held ≤ 32
  pub issued : DoneIssued s.table.held
  pub traced : Traced slot_of_entry done_below s.table.events s.table.held

module _ (r : Meaning (List ℕ)) (l : Lawful r) (short : (s : List ℕ) → r.span s < 2 ^ 64) where
  pub good_start : (s : State) → Good r ((meaning_over r).start s)
  good_start s = record { synced = synced_start r l nobody s.below; apart = tt; few = omega arith; issued = tt; traced = tt }

  -- what an accepted take says
  pub record Fine (s : State) (q : Request) : Type 0 where
    pub range : in_range q ≡ true
    pub free : any (has q.slot) s.table.held ≡ false
    pub room : length s.table.held < r.places s.below

  pub fine : (s : State) (q : Request) → take_refusal (meaning_over r) s q ≡ None → Fine s q
  fine s q ok =
      let ws = s.table.held in
      let t = take_ok (meaning_over r) s q ok in
      let a = length-map ws (reading (span_over r s)) in
      let few = t.2 in
      record { range = t.0; free = sym (some_entries slot_of_entry (reading (span_over r s)) (λ w. refl) q.slot ws) ∙ t.1; room = omega arith }

  pub good_take : (s : State) (q : Request) → Good r s → take_refusal (meaning_over r) s q ≡ None → Good r ((meaning_over r).taken s q)
  good_take s q g ok =
      let ws = s.table.held in
      let f = fine s q ok in
      let h = l.places_most s.below in
      let room = f.room in
      record {
        synced = synced_take r l nobody s.below ws q g.synced refl f.range f.free room;
        apart = apart_append slot_of_entry ws (new_entry q) g.apart f.free;
        few = simp length-append (omega arith);
        issued = done_issued_append ws q g.issued;
        traced = traced_append slot_of_entry done_below s.table.events ws (new_entry q) g.traced;
      }

  pub good_collect : (s : State) (es : List Event) → Good r s → Traced slot_of_entry done_below es s.table.held → Good r (record { delay = s.delay; table = collected (record { held = s.table.held; events = es }); below = s.below })
  good_collect s [] g t = record { synced = g.synced; apart = g.apart; few = g.few; issued = g.issued; traced = tt }
  good_collect s (Issue n ∷ es) g t = record { synced = g.synced; apart = g.apart; few = g.few; issued = g.issued; traced = t }
  good_collect s (Done n ∷ es) g t =
      let ws = s.table.held in
      let a = length_dropped slot_of_entry n ws in
      let f = g.few in
      record {
        synced = synced_drop r l nobody s.below ws n g.synced g.apart t.0;
        apart = apart_dropped slot_of_entry n ws g.apart;
        few = omega arith;
        issued = done_issued_dropped n ws g.issued;
        traced = t.1;
      }

  -- ---- a step

  abbrev pub events_of_step : State → List Event
  events_of_step s = events_below r l s.below

  -- a step, with room for all events
  abbrev pub tidy : State → State
  tidy s = record {
    delay = s.delay;
    table = record { held = map (moved (events_of_step s)) s.table.held; events = forwarded is_issue (events_of_step s) ++ dones_due (wait s) (map (moved (events_of_step s)) s.table.held) };
    below = below_after r l s.below;
  }

  pub each_received : (s : State) → Good r s → EachProper nobody (events_of_step s) s.table.held
  each_received s g = proper_received r l nobody s.below s.table.held g.synced g.apart

  pub others : (s : State) → Good r s → (n : ℕ) → any (has n) s.table.held ≡ false → events_of n (events_of_step s) ≡ []
  others s g = none_received r l nobody s.below s.table.held g.synced

  pub tidy_is : (s : State) → Good r s → s.table.events ≡ [] → (meaning_over r).stepped s ≡ tidy s
  tidy_is s g e =
      let es = events_of_step s in
      let ws = s.table.held in
      let us = map advanced (map (updated es) ws) in
      let vs = map (moved es) ws in
      let fuse : us ≡ vs = map_fuse advanced (updated es) (moved es) ws (λ w. refl) in
      let a = few_issues es ws g.apart (each_received s g) (others s g) in
      let b = length_dones slot_of_entry (is_due (wait s)) vs in
      let c = length-map ws (moved es) in
      let f = g.few in
      state_path ((meaning_over r).stepped s) (tidy s) refl
      (contents_path ((meaning_over r).stepped s).table (tidy s).table fuse
      (ap (λ o. all_added 64 (dones_due (wait s) us) (all_added 64 (forwarded is_issue es) o)) e
      ∙ ap (λ x. all_added 64 (dones_due (wait s) x) (all_added 64 (forwarded is_issue es) [])) fuse
      ∙ ap (all_added 64 (dones_due (wait s) vs)) (all_added_is 64 (forwarded is_issue es) [] (omega arith))
      ∙ all_added_is 64 (dones_due (wait s) vs) (forwarded is_issue es) (omega arith)))
      refl

  pub good_tidy : (s : State) → Good r s → Good r (tidy s)
  good_tidy s g =
      let es = events_of_step s in
      let ws = s.table.held in
      let f = g.few in
      let n = length-map ws (moved es) in
      let apart = apart_map slot_of_entry (moved es) (λ w. refl) ws g.apart in
      record {
        synced = synced_step r l nobody s.below ws es (short s.below) g.synced (agree_same nobody es ws);
        apart = apart;
        few = omega arith;
        issued = done_issued_step es ws g.issued (each_received s g);
        traced = traced_issues done_below es (dones_due (wait s) (map (moved es) ws)) (map (moved es) ws) (traced_dones slot_of_entry done_below (is_due (wait s)) (λ w e. and_left _ _ e) (map (moved es) ws) apart);
      }

  good_step : (s : State) → Good r s → s.table.events ≡ [] → Good r ((meaning_over r).stepped s)
  good_step s g e = subst (Good r) (sym (tidy_is s g e)) (good_tidy s g)

  pub good : (s : State) → Reached (meaning_over r) s → Good r s
  good = reached_keeps (meaning_over r) (Good r) good_take good_step (λ s g e. good_collect s s.table.events g g.traced) good_start

  -- ---- the laws

  span_tidy : (s : State) → span_over r (tidy s) ≡ span_over r s
  span_tidy s = ap (max (wait s)) (span_step r l s.below)

  span_fits : (s : State) → span_over r s < 2 ^ 64
  span_fits s = let h = short s.below in omega arith

  held_tidy : (s : State) → (meaning_over r).held (tidy s) ≡ map (aged (tidy s).table.events) ((meaning_over r).held s)
  held_tidy s =
      let es = events_of_step s in
      let ds = dones_due (wait s) (map (moved es) s.table.held) in
      ap (λ k. map (reading k) (map (moved es) s.table.held)) (span_tidy s)
      ∙ map_moved (span_over r s) es (tidy s).table.events s.table.held (span_fits s)
      (λ n. issues_append n (forwarded is_issue es) ds (issues_none slot_of_entry (is_due (wait s)) n (map (moved es) s.table.held)) ∙ issues_forwarded n es)

  pub proper_tidy : (s : State) → Good r s → (n : ℕ) → Proper (standing n ((meaning_over r).held s)) (events_of n (tidy s).table.events)
  proper_tidy s g n =
      let es = events_of_step s in
      let ds = dones_due (wait s) (map (moved es) s.table.held) in
      subst (Proper (standing n ((meaning_over r).held s))) (sym (events_of_append n (forwarded is_issue es) ds ∙ ap (λ x. x ++ events_of n ds) (events_of_forwarded is_issue n es)))
      (proper_released n (span_over r s) (wait s) es s.table.held g.apart g.issued (each_received s g) (others s g n))

  punctual_tidy : (s : State) → Good r s → Punctual ((meaning_over r).held (tidy s)) (tidy s).table.events
  punctual_tidy s g =
      let es = events_of_step s in
      let ds = dones_due (wait s) (map (moved es) s.table.held) in
      let h = short s.below in
      subst (λ k. Punctual (map (reading k) (map (moved es) s.table.held)) (tidy s).table.events) (sym (span_tidy s))
      (punctual_released (r.span s.below) (span_over r s) (wait s) es (tidy s).table.events s.table.held h (omega arith) (omega arith) (punctual_received r l nobody s.below s.table.held g.synced) (λ n t. ends_append n (forwarded is_issue es) ds t))

  fixed_take : (s : State) (q : Request) (v : Option ℕ) → (meaning_over r).start (accepted v ((meaning_over r).taken s q) s) ≡ (meaning_over r).start s
  fixed_take s q None = ap (beginning s.delay) (l.start_fixed (Call.take q) s.below)
  fixed_take s q (Some x) = refl

  fixed_step : (s : State) (v : Option ℕ) → (meaning_over r).start (accepted v ((meaning_over r).stepped s) s) ≡ (meaning_over r).start s
  fixed_step s None = ap (beginning s.delay) (start_step r l s.below)
  fixed_step s (Some x) = refl

  fixed : (c : Call) (s : State) → (meaning_over r).start (after (meaning_over r) c s) ≡ (meaning_over r).start s
  fixed Call.reset s = ap (beginning s.delay) (l.start_fixed Call.reset s.below)
  fixed (Call.take q) s = fixed_take s q (take_refusal (meaning_over r) s q)
  fixed Call.step s = fixed_step s (step_refusal (meaning_over r) s)
  fixed Call.collect s = elim (is_empty s.table.events) as (λ b. (meaning_over r).start (cond b s ((meaning_over r).collected s)) ≡ (meaning_over r).start s) [ true ↦ refl | false ↦ refl ]

  taken_last : (s : State) (q : Request) → (meaning_over r).held ((meaning_over r).taken s q) ≡ (meaning_over r).held s ++ (fresh q (span_over r s) ∷ [])
  taken_last s q =
      let p = span_over r s in
      ap (λ k. map (reading (max (wait s) k)) (s.table.held ++ (new_entry q ∷ []))) (span_after r l (Call.take q) s.below) ∙ map_append (reading p) s.table.held (new_entry q) ∙ ap (λ e. map (reading p) s.table.held ++ (e ∷ [])) (new_reading q p)

  laws_over : Lawful (meaning_over r)
  laws_over = record {
    start_held = λ s. refl;
    start_ready = λ s. refl;
    start_fixed = fixed;
    span_fixed = λ s. ap (max (wait s)) (l.span_fixed s.below);
    places_fixed = λ s. l.places_fixed s.below;
    span_least = λ s. let h = l.span_least s.below in omega arith;
    places_least = λ s. l.places_least s.below;
    places_most = λ s. l.places_most s.below;
    taken_held = λ s q h ok. taken_last s q;
    taken_ready = λ s q h ok. refl;
    stepped_held = λ s h e. subst (λ y. (meaning_over r).held y ≡ map (aged y.table.events) ((meaning_over r).held s)) (sym (tidy_is s (good s h) e)) (held_tidy s);
    stepped_proper = λ s h e. let g = good s h in subst (λ y. (n : ℕ) → Proper (standing n ((meaning_over r).held s)) (events_of n y.table.events)) (sym (tidy_is s g e)) (proper_tidy s g);
    stepped_punctual = λ s h e. let g = good s h in subst (λ y. Punctual ((meaning_over r).held y) y.table.events) (sym (tidy_is s g e)) (punctual_tidy s g);
    collected_ready = λ s. refl;
    collected_held = λ s h. collected_held slot_of_entry (reading (span_over r s)) (λ w. refl) (first s.table.events) s.table.held (good s h).apart;
  }

pub level_laws : (r : Meaning (List ℕ)) → Lawful r → ((s : List ℕ) → r.span s < 2 ^ 64) → Lawful (level_meaning r)
level_laws r l short = lawful_coded level_codes level_of level_back (meaning_over r) (laws_over r l short)
