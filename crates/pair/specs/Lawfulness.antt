-- A pair keeps the laws of the interface, if its two controllers do.
use Rattle.std.specs.Prelude.{◌≡◌, ℕ, ◌^◌, ◌<◌, ◌≤◌, min, Bool, true, false, cond, not, List, [], ◌∷◌, ◌++◌, map, length, Some, None, Option, refl}
use Rattle.std.proofs.Common.{sym, ap, ◌∙◌, subst, arith, length-append}
use Rattle.std.proofs.lemmas.List.{length-map}
use Rattle.interface.specs.Meaning.{Meaning, Call, after, Reached, first, is_empty, any, in_range, take_refusal, step_refusal, accepted}
use Rattle.interface.specs.Lawful.{Lawful, aged, fresh, standing, events_of, Proper, Punctual}
use Rattle.interface.specs.declared.Request.{Request}
use Rattle.interface.specs.declared.Event.{Event}
use Rattle.interface.specs.declared.Event.TheVariants.{Issue, Done}
use Rattle.interface.proofs.Codes.{lawful_coded}
use Rattle.interface.proofs.Slots.{Apart, apart_map, apart_dropped, apart_append, length_dropped, some_entries, map_append, Traced, traced_append, collected_held}
use Rattle.interface.proofs.Runs.{reached_keeps}
use Rattle.interface.proofs.Takes.{take_ok}
use Rattle.layer.specs.Forwards.{everything, forwarded}
use Rattle.layer.specs.Entries.{new_entry, slot_of_entry, done_below, updated, advanced, reading}
use Rattle.holder.specs.Holding.{all_added}
use Rattle.layer.specs.Contents.{collected}
use Rattle.layer.proofs.Tables.{contents_path, map_fuse, updated_append}
use Rattle.layer.proofs.Receiving.{has, moved, nobody, EachProper, proper_all}
use Rattle.holder.proofs.Holdings.{all_added_is}
use Rattle.layer.proofs.Counts.{forwarded_all, few_events}
use Rattle.layer.proofs.Readiness.{Ready, ready_append, ready_issue, ready_dropped}
use Rattle.layer.proofs.Synced.{Synced, map_moved, new_reading, events_below, below_after, span_after, span_step, start_step, synced_start, synced_take, synced_other, synced_drop, synced_step, proper_received, none_received, punctual_received}
use Rattle.pair.specs.Pair.{State, beginning, to_first, span_of, meaning_of, pair_codes, pair_of, pair_back, pair_meaning}
use Rattle.pair.specs.Halves.{opposite, each_of_two, agree_first, agree_second, none_of_two, traced_received, done_ready_step, punctual_both}

state_path : (a b : State) → a.table ≡ b.table → a.first ≡ b.first → a.second ≡ b.second → a ≡ b
state_path a b t p q = λ i. record { table = t i; first = p i; second = q i }

-- the requests that the first controller does not get, and those that the second does not
abbrev pub not_first : Request → Bool
not_first q = not (to_first q)

abbrev pub not_second : Request → Bool
not_second = opposite not_first

-- ---- what holds of every pair

pub record Good (m n : Meaning (List ℕ)) (s : State) : Type 0 where
  pub one : Synced m not_first s.first s.table.held
  pub two : Synced n not_second s.second s.table.held
  pub apart : Apart slot_of_entry s.table.held
  pub few : length s.table.held ≤ 32
  pub ready : Ready done_below s.table.events s.table.held
  pub traced : Traced slot_of_entry done_below s.table.events s.table.held

-- what the laws need of a pair's span: it goes by the spans of the two, is as long as each, and fits
pub record Spans (m n : Meaning (List ℕ)) : Type 0 where
  pub same : (s t : State) → m.span s.first ≡ m.span t.first → n.span s.second ≡ n.span t.second → span_of m n s ≡ span_of m n t
  pub first : (s : State) → m.span s.first ≤ span_of m n s
  pub second : (s : State) → n.span s.second ≤ span_of m n s
  pub fits : (s : State) → span_of m n s < 2 ^ 64

module _ (m n : Meaning (List ℕ)) (k : Lawful m) (l : Lawful n) (short : (s : List ℕ) → m.span s < 2 ^ 64) (brief : (s : List ℕ) → n.span s < 2 ^ 64) where
  abbrev r : Meaning State
  r = meaning_of m n

  pub good_start : (s : State) → Good m n (r.start s)
  good_start s = record { one = synced_start m k not_first s.first; two = synced_start n l not_second s.second; apart = tt; few = omega arith; ready = tt; traced = tt }

  take_first : (s : State) (q : Request) (b : Bool) → to_first q ≡ b → Good m n s → in_range q ≡ true → any (has q.slot) s.table.held ≡ false → length s.table.held < m.places s.first
      → Synced m not_first (cond b (after m (Call.take q) s.first) s.first) (s.table.held ++ (new_entry q ∷ []))
  take_first s q true e g ok free room = synced_take m k not_first s.first s.table.held q g.one (ap not e) ok free room
  take_first s q false e g ok free room = synced_other m k not_first s.first s.table.held q g.one (ap not e)

  take_second : (s : State) (q : Request) (b : Bool) → to_first q ≡ b → Good m n s → in_range q ≡ true → any (has q.slot) s.table.held ≡ false → length s.table.held < n.places s.second
      → Synced n not_second (cond b s.second (after n (Call.take q) s.second)) (s.table.held ++ (new_entry q ∷ []))
  take_second s q true e g ok free room = synced_other n l not_second s.second s.table.held q g.two (ap (λ b. not (not b)) e)
  take_second s q false e g ok free room = synced_take n l not_second s.second s.table.held q g.two (ap (λ b. not (not b)) e) ok free room

  -- what an accepted take says
  pub record Fine (s : State) (q : Request) : Type 0 where
    pub range : in_range q ≡ true
    pub free : any (has q.slot) s.table.held ≡ false
    pub room_first : length s.table.held < m.places s.first
    pub room_second : length s.table.held < n.places s.second

  pub fine : (s : State) (q : Request) → take_refusal r s q ≡ None → Fine s q
  fine s q ok =
      let ws = s.table.held in
      let t = take_ok r s q ok in
      let a = length-map ws (reading (span_of m n s)) in
      let few = t.2 in
      record { range = t.0; free = sym (some_entries slot_of_entry (reading (span_of m n s)) (λ w. refl) q.slot ws) ∙ t.1; room_first = omega arith; room_second = omega arith }

  pub good_take : (s : State) (q : Request) → Good m n s → take_refusal r s q ≡ None → Good m n (r.taken s q)
  good_take s q g ok =
      let ws = s.table.held in
      let f = fine s q ok in
      let h = k.places_most s.first in
      let room = f.room_first in
      record {
        one = take_first s q (to_first q) refl g f.range f.free room;
        two = take_second s q (to_first q) refl g f.range f.free f.room_second;
        apart = apart_append slot_of_entry ws (new_entry q) g.apart f.free;
        few = simp length-append (omega arith);
        ready = ready_append done_below s.table.events ws q refl g.ready;
        traced = traced_append slot_of_entry done_below s.table.events ws (new_entry q) g.traced;
      }

  pub good_collect : (s : State) (es : List Event) → Good m n s → Ready done_below es s.table.held → Traced slot_of_entry done_below es s.table.held
      → Good m n (record { table = collected (record { held = s.table.held; events = es }); first = s.first; second = s.second })
  good_collect s [] g d t = record { one = g.one; two = g.two; apart = g.apart; few = g.few; ready = d; traced = tt }
  good_collect s (Issue i ∷ es) g d t = record { one = g.one; two = g.two; apart = g.apart; few = g.few; ready = ready_issue done_below i es s.table.held d; traced = t }
  good_collect s (Done i ∷ es) g d t =
      let ws = s.table.held in
      let a = length_dropped slot_of_entry i ws in
      let f = g.few in
      record {
        one = synced_drop m k not_first s.first ws i g.one g.apart t.0;
        two = synced_drop n l not_second s.second ws i g.two g.apart t.0;
        apart = apart_dropped slot_of_entry i ws g.apart;
        few = omega arith;
        ready = ready_dropped done_below i es ws g.apart d;
        traced = t.1;
      }

  -- ---- a step

  abbrev pub of_first : State → List Event
  of_first s = events_below m k s.first

  abbrev pub of_second : State → List Event
  of_second s = events_below n l s.second

  abbrev pub of_both : State → List Event
  of_both s = of_first s ++ of_second s

  -- a step, with room for all events
  abbrev pub tidy : State → State
  tidy s = record {
    table = record { held = map (moved (of_both s)) s.table.held; events = of_both s };
    first = below_after m k s.first;
    second = below_after n l s.second;
  }

  received_first : (s : State) → Good m n s → EachProper not_first (of_first s) s.table.held
  received_first s g = proper_received m k not_first s.first s.table.held g.one g.apart

  received_second : (s : State) → Good m n s → EachProper not_second (of_second s) s.table.held
  received_second s g = proper_received n l not_second s.second s.table.held g.two g.apart

  each_received : (s : State) → Good m n s → EachProper nobody (of_both s) s.table.held
  each_received s g = each_of_two not_first (of_first s) (of_second s) s.table.held (received_first s g) (received_second s g)

  others : (s : State) → Good m n s → (i : ℕ) → any (has i) s.table.held ≡ false → events_of i (of_both s) ≡ []
  others s g i e = none_of_two i (of_first s) (of_second s) (none_received m k not_first s.first s.table.held g.one i e) (none_received n l not_second s.second s.table.held g.two i e)

  pub tidy_is : (s : State) → Good m n s → s.table.events ≡ [] → r.stepped s ≡ tidy s
  tidy_is s g e =
      let es = of_first s in
      let ds = of_second s in
      let ws = s.table.held in
      let a = few_events (of_both s) ws g.apart (each_received s g) (others s g) in
      let b = length-append es ds in
      let f = g.few in
      state_path (r.stepped s) (tidy s)
      (contents_path (r.stepped s).table (tidy s).table
      (ap (map advanced) (map_fuse (updated ds) (updated es) (updated (es ++ ds)) ws (updated_append es ds)) ∙ map_fuse advanced (updated (es ++ ds)) (moved (es ++ ds)) ws (λ w. refl))
      (ap (λ o. all_added 64 (forwarded everything ds) (all_added 64 (forwarded everything es) o)) e
      ∙ ap (λ x. all_added 64 x (all_added 64 (forwarded everything es) [])) (forwarded_all ds)
      ∙ ap (λ x. all_added 64 ds (all_added 64 x [])) (forwarded_all es)
      ∙ ap (all_added 64 ds) (all_added_is 64 es [] (omega arith))
      ∙ all_added_is 64 ds es (omega arith)))
      refl refl

  proper_tidy : (s : State) → Good m n s → (p i : ℕ) → Proper (standing i (map (reading p) s.table.held)) (events_of i (of_both s))
  proper_tidy s g p i = proper_all i p (of_both s) s.table.held (each_received s g) (others s g i)

  pub good_tidy : (s : State) → Good m n s → Ready done_below [] s.table.held → Good m n (tidy s)
  good_tidy s g d =
      let ws = s.table.held in
      let f = g.few in
      let c = length-map ws (moved (of_both s)) in
      record {
        one = synced_step m k not_first s.first ws (of_both s) (short s.first) g.one (agree_first not_first (of_first s) (of_second s) ws (received_second s g));
        two = synced_step n l not_second s.second ws (of_both s) (brief s.second) g.two (agree_second not_first (of_first s) (of_second s) ws (received_first s g));
        apart = apart_map slot_of_entry (moved (of_both s)) (λ w. refl) ws g.apart;
        few = omega arith;
        ready = done_ready_step (of_both s) ws d;
        traced = traced_received (of_both s) ws (proper_tidy s g 0) (others s g);
      }

  pub none_done : (s : State) → Good m n s → s.table.events ≡ [] → Ready done_below [] s.table.held
  none_done s g e = subst (λ es. Ready done_below es s.table.held) e g.ready

  good_step : (s : State) → Good m n s → s.table.events ≡ [] → Good m n (r.stepped s)
  good_step s g e = subst (Good m n) (sym (tidy_is s g e)) (good_tidy s g (none_done s g e))

  good : (s : State) → Reached r s → Good m n s
  good = reached_keeps r (Good m n) good_take good_step (λ s g e. good_collect s s.table.events g g.ready g.traced) good_start

  -- ---- the laws

  span_first : (b : Bool) (s : State) (q : Request) → m.span (cond b (after m (Call.take q) s.first) s.first) ≡ m.span s.first
  span_first true s q = span_after m k (Call.take q) s.first
  span_first false s q = refl

  span_second : (b : Bool) (s : State) (q : Request) → n.span (cond b s.second (after n (Call.take q) s.second)) ≡ n.span s.second
  span_second true s q = refl
  span_second false s q = span_after n l (Call.take q) s.second

  start_path : (a b c d : List ℕ) → a ≡ c → b ≡ d → beginning a b ≡ beginning c d
  start_path a b c d p q = ap (λ x. beginning x b) p ∙ ap (beginning c) q

  fixed_half : (b : Bool) (s : State) (q : Request) → beginning (m.start (cond b (after m (Call.take q) s.first) s.first)) (n.start (cond b s.second (after n (Call.take q) s.second))) ≡ r.start s
  fixed_half true s q = ap (λ x. beginning x (n.start s.second)) (k.start_fixed (Call.take q) s.first)
  fixed_half false s q = ap (beginning (m.start s.first)) (l.start_fixed (Call.take q) s.second)

  fixed_take : (s : State) (q : Request) (v : Option ℕ) → r.start (accepted v (r.taken s q) s) ≡ r.start s
  fixed_take s q None = fixed_half (to_first q) s q
  fixed_take s q (Some x) = refl

  fixed_step : (s : State) (v : Option ℕ) → r.start (accepted v (r.stepped s) s) ≡ r.start s
  fixed_step s None = start_path _ _ _ _ (start_step m k s.first) (start_step n l s.second)
  fixed_step s (Some x) = refl

  fixed : (c : Call) (s : State) → r.start (after r c s) ≡ r.start s
  fixed Call.reset s = start_path _ _ _ _ (k.start_fixed Call.reset s.first) (l.start_fixed Call.reset s.second)
  fixed (Call.take q) s = fixed_take s q (take_refusal r s q)
  fixed Call.step s = fixed_step s (step_refusal r s)
  fixed Call.collect s = elim (is_empty s.table.events) as (λ b. r.start (cond b s (r.collected s)) ≡ r.start s) [ true ↦ refl | false ↦ refl ]

  module _ (spans : Spans m n) where
    span_tidy : (s : State) → span_of m n (tidy s) ≡ span_of m n s
    span_tidy s = spans.same (tidy s) s (span_step m k s.first) (span_step n l s.second)

    held_tidy : (s : State) → r.held (tidy s) ≡ map (aged (of_both s)) (r.held s)
    held_tidy s =
        ap (λ x. map (reading x) (map (moved (of_both s)) s.table.held)) (span_tidy s)
        ∙ map_moved (span_of m n s) (of_both s) (of_both s) s.table.held (spans.fits s) (λ i. refl)

    punctual_tidy : (s : State) → Good m n s → Ready done_below [] s.table.held → Punctual (r.held (tidy s)) (of_both s)
    punctual_tidy s g d =
        subst (λ x. Punctual (map (reading x) (map (moved (of_both s)) s.table.held)) (of_both s)) (sym (span_tidy s))
        (punctual_both not_first (m.span s.first) (n.span s.second) (span_of m n s) (of_first s) (of_second s) s.table.held (spans.fits s) (spans.first s) (spans.second s) d
        (punctual_received m k not_first s.first s.table.held g.one) (punctual_received n l not_second s.second s.table.held g.two))

    span_taken : (s : State) (q : Request) → span_of m n (r.taken s q) ≡ span_of m n s
    span_taken s q = spans.same (r.taken s q) s (span_first (to_first q) s q) (span_second (to_first q) s q)

    taken_last : (s : State) (q : Request) → r.held (r.taken s q) ≡ r.held s ++ (fresh q (span_of m n s) ∷ [])
    taken_last s q =
        let p = span_of m n s in
        ap (λ x. map (reading x) (s.table.held ++ (new_entry q ∷ []))) (span_taken s q) ∙ map_append (reading p) s.table.held (new_entry q) ∙ ap (λ e. map (reading p) s.table.held ++ (e ∷ [])) (new_reading q p)

    laws_of : Lawful r
    laws_of = record {
      start_held = λ s. refl;
      start_ready = λ s. refl;
      start_fixed = fixed;
      span_fixed = λ s. spans.same s (r.start s) (k.span_fixed s.first) (l.span_fixed s.second);
      places_fixed = λ s. ap (λ x. min x (n.places s.second)) (k.places_fixed s.first) ∙ ap (min (m.places (m.start s.first))) (l.places_fixed s.second);
      span_least = λ s. let h = k.span_least s.first in let j = spans.first s in omega arith;
      places_least = λ s. let h = k.places_least s.first in let j = l.places_least s.second in omega arith;
      places_most = λ s. let h = k.places_most s.first in omega arith;
      taken_held = λ s q h ok. taken_last s q;
      taken_ready = λ s q h ok. refl;
      stepped_held = λ s h e. subst (λ y. r.held y ≡ map (aged y.table.events) (r.held s)) (sym (tidy_is s (good s h) e)) (held_tidy s);
      stepped_proper = λ s h e. let g = good s h in subst (λ y. (i : ℕ) → Proper (standing i (r.held s)) (events_of i y.table.events)) (sym (tidy_is s g e)) (proper_tidy s g (span_of m n s));
      stepped_punctual = λ s h e. let g = good s h in subst (λ y. Punctual (r.held y) y.table.events) (sym (tidy_is s g e)) (punctual_tidy s g (none_done s g e));
      collected_ready = λ s. refl;
      collected_held = λ s h. collected_held slot_of_entry (reading (span_of m n s)) (λ w. refl) (first s.table.events) s.table.held (good s h).apart;
    }

pub pair_laws : (m n : Meaning (List ℕ)) → Lawful m → Lawful n → ((s : List ℕ) → m.span s < 2 ^ 64) → ((s : List ℕ) → n.span s < 2 ^ 64) → Lawful (pair_meaning m n)
pair_laws m n k l short brief = lawful_coded pair_codes pair_of pair_back (meaning_of m n)
    (laws_of m n k l short brief (record {
      same = λ s t e f. cc (e, f);
      first = λ s. omega arith;
      second = λ s. omega arith;
      fits = λ s. let h = short s.first in let j = brief s.second in omega arith;
    }))

pub pair_places : (m n : Meaning (List ℕ)) → Lawful m → (s : State) → (meaning_of m n).places s ≤ 32
pair_places m n k s = let h = k.places_most s.first in omega arith
