-- A layer's table agrees with what a controller below holds.
use Rattle.std.proofs.Common.{◌≡◌, ℕ, ◌-◌, ◌^◌, ◌<◌, ◌≤◌, min, Bool, true, false, cond, not, ◌&&◌, ◌||◌, leb, List, [], ◌∷◌, ◌++◌, map, length, Some, None, sym, refl, ap, ◌∙◌, subst, arith}
use lib.ListN.{length-map}
use borrow.Author.Tests.{both_ways}
use Rattle.interface.specs.Meaning.{Meaning, Held, Call, first, rest, is_empty, any, has_slot, check, in_range, take_refusal, accepted, after, run, Reached}
use Rattle.interface.specs.Lawful.{fresh, issues, ends, aged, without, ended, standing, events_of, Proper, Punctual, Lawful}
use Rattle.interface.specs.Slots.{dropped, failing}
use Rattle.interface.specs.Emptied.{emptied}
use Rattle.interface.specs.declared.Request.{Request}
use Rattle.interface.specs.declared.Event.{Event}
use Rattle.interface.specs.declared.Event.TheVariants.{Issue, Done}
use Rattle.interface.proofs.Bools.{or_left, or_true, or_right, eqb_comm}
use Rattle.interface.proofs.Slots.{Apart, some_entries, some_failing, length_failing, failing_append, failing_dropped, map_append, marked}
use Rattle.interface.proofs.Takes.{take_fine}
use Rattle.layer.specs.declared.entry.Entry.{Entry}
use Rattle.layer.specs.Entries.{new_entry, slot_of_entry, done_below, reading}
use Rattle.layer.specs.Contents.{Contents, admission}
use Rattle.layer.proofs.Receiving.{has, moved, away, EachProper, each_proper, others_none}

-- ---- calls that are not refused

run_append : {S : Type 0} (r : Meaning S) (cs : List Call) (c : Call) (s : S) → run r (cs ++ (c ∷ [])) s ≡ after r c (run r cs s)
run_append r [] c s = refl
run_append r (x ∷ cs) c s = run_append r cs c (after r x s)

reached_after : {S : Type 0} (r : Meaning S) (c : Call) (s : S) → Reached r s → Reached r (after r c s)
reached_after r c s h = (h.0, h.1 ++ (c ∷ []), ap (after r c) h.2 ∙ sym (run_append r h.1 c (r.start h.0)))

taken_is : {S : Type 0} (r : Meaning S) (s : S) (q : Request) → take_refusal r s q ≡ None → after r (Call.take q) s ≡ r.taken s q
taken_is r s q ok = ap (λ v. accepted v (r.taken s q) s) ok

stepped_is : {S : Type 0} (r : Meaning S) (s : S) → r.ready s ≡ [] → after r Call.step s ≡ r.stepped s
stepped_is r s e = ap (λ es. accepted (check (not (is_empty es)) 20 None) (r.stepped s) s) e

pub collected_is : {S : Type 0} (r : Meaning S) (s : S) → is_empty (r.ready s) ≡ false → after r Call.collect s ≡ r.collected s
collected_is r s e = ap (λ b. cond b s (r.collected s)) e

-- a layer's refusals are those of its table
pub admission_is : {S : Type 0} (r : Meaning S) (s : S) (q : Request) (p : ℕ) (t : Contents) → r.held s ≡ map (reading p) t.held → r.places s ≤ 32 → take_refusal r s q ≡ admission (r.places s) t q
admission_is r s q p t e h =
    let least : min (r.places s) 32 ≡ r.places s = omega arith in
    ap (λ hs. check (not (in_range q)) 17 (check (any (has_slot q.slot) hs) 18 (check (leb (r.places s) (length hs)) 19 None))) e
    ∙ ap (λ b. check (not (in_range q)) 17 (check b 18 (check (leb (r.places s) (length (map (reading p) t.held))) 19 None))) (some_entries slot_of_entry (reading p) (λ w. refl) q.slot t.held)
    ∙ ap (λ k. check (not (in_range q)) 17 (check (any (has q.slot) t.held) 18 (check (leb (r.places s) k) 19 None))) (length-map t.held (reading p))
    ∙ ap (λ k. check (not (in_range q)) 17 (check (any (has q.slot) t.held) 18 (check (leb k (length t.held)) 19 None))) (sym least)

-- ---- one entry

held_path : (a b : Held) → a.request ≡ b.request → a.issued ≡ b.issued → a.left ≡ b.left → a ≡ b
held_path a b p q r = λ i. record { request = p i; issued = q i; left = r i }

pub new_reading : (q : Request) (p : ℕ) → reading p (new_entry q) ≡ fresh q p
new_reading q p = held_path (reading p (new_entry q)) (fresh q p) refl refl (omega arith)

-- a step of a request, as the layer counts it and as held requests age
reading_moved : (p : ℕ) (es ds : List Event) (w : Entry) → p < 2 ^ 64 → any (issues w.request.slot) ds ≡ any (issues w.request.slot) es → reading p (moved es w) ≡ aged ds (reading p w)
reading_moved p es ds w h e = held_path (reading p (moved es w)) (aged ds (reading p w)) refl (ap (λ b. w.issued || b) (sym e)) (omega arith)

pub map_moved : (q : ℕ) (es ds : List Event) (ws : List Entry) → q < 2 ^ 64 → ((n : ℕ) → any (issues n) ds ≡ any (issues n) es) → map (reading q) (map (moved es) ws) ≡ map (aged ds) (map (reading q) ws)
map_moved q es ds [] h e = refl
map_moved q es ds (w ∷ ws) h e = ap (λ x. x ∷ map (reading q) (map (moved es) ws)) (reading_moved q es ds w h (e w.request.slot)) ∙ ap (λ l. aged ds (reading q w) ∷ l) (map_moved q es ds ws h e)

-- ---- what is held below after the events are collected

abbrev kept : List Event → List Held → List Held
kept [] hs = hs
kept (e ∷ es) hs = kept es (ended (Some e) hs)

abbrev remaining : List Event → List Held → List Held
remaining es [] = []
remaining es (h ∷ hs) = cond (any (ends h.request.slot) es) (remaining es hs) (h ∷ remaining es hs)

remaining_nil : (hs : List Held) → hs ≡ remaining [] hs
remaining_nil [] = refl
remaining_nil (h ∷ hs) = ap (λ l. h ∷ l) (remaining_nil hs)

remaining_issue : (n : ℕ) (es : List Event) (hs : List Held) → remaining es hs ≡ remaining (Issue n ∷ es) hs
remaining_issue n es [] = refl
remaining_issue n es (h ∷ hs) = ap (λ l. cond (any (ends h.request.slot) es) l (h ∷ l)) (remaining_issue n es hs)

remaining_done_at : (n : ℕ) (es : List Event) (h : Held) (hs : List Held) (b : Bool) → remaining es (without n hs) ≡ remaining (Done n ∷ es) hs
    → remaining es (cond b (without n hs) (h ∷ without n hs)) ≡ cond (b || any (ends h.request.slot) es) (remaining (Done n ∷ es) hs) (h ∷ remaining (Done n ∷ es) hs)
remaining_done_at n es h hs true e = e
remaining_done_at n es h hs false e = ap (λ l. cond (any (ends h.request.slot) es) l (h ∷ l)) e

remaining_done : (n : ℕ) (es : List Event) (hs : List Held) → remaining es (without n hs) ≡ remaining (Done n ∷ es) hs
remaining_done n es [] = refl
remaining_done n es (h ∷ hs) =
    remaining_done_at n es h hs (has_slot n h) (remaining_done n es hs)
    ∙ ap (λ b. cond (b || any (ends h.request.slot) es) (remaining (Done n ∷ es) hs) (h ∷ remaining (Done n ∷ es) hs)) (eqb_comm h.request.slot n)

kept_is : (es : List Event) (hs : List Held) → kept es hs ≡ remaining es hs
kept_is [] hs = remaining_nil hs
kept_is (Issue n ∷ es) hs = kept_is es hs ∙ remaining_issue n es hs
kept_is (Done n ∷ es) hs = kept_is es (without n hs) ∙ remaining_done n es hs

-- ---- the table and what is held below, over a step

-- Of the requests that below holds, the events es say the same as the events ds.
abbrev pub Agree : (Request → Bool) → List Event → List Event → List Entry → Type 0
Agree other ds es [] = Unit {0}
Agree other ds es (w ∷ ws) =
    (away other w ≡ false → (any (issues w.request.slot) ds ≡ any (issues w.request.slot) es) × (any (ends w.request.slot) ds ≡ any (ends w.request.slot) es)) × Agree other ds es ws

pub agree_same : (other : Request → Bool) (es : List Event) (ws : List Entry) → Agree other es es ws
agree_same other es [] = tt
agree_same other es (w ∷ ws) = (λ a. (refl, refl), agree_same other es ws)

sync_at : (p : ℕ) (es ds : List Event) (w : Entry) (hs : List Held) (us : List Entry) (o d t : Bool) → p < 2 ^ 64 → hs ≡ map (reading p) us → any (ends w.request.slot) ds ≡ t
    → ((o || d) ≡ false → (any (issues w.request.slot) ds ≡ any (issues w.request.slot) es) × (any (ends w.request.slot) ds ≡ any (ends w.request.slot) es))
    → cond (o || d) hs (cond t hs (aged ds (reading p w) ∷ hs)) ≡ map (reading p) (cond (o || (d || any (ends w.request.slot) es)) us (moved es w ∷ us))
sync_at p es ds w hs us true d t h e k a = e
sync_at p es ds w hs us false true t h e k a = e
sync_at p es ds w hs us false false true h e k a = e ∙ ap (λ b. map (reading p) (cond b us (moved es w ∷ us))) (sym k ∙ (a refl).1)
sync_at p es ds w hs us false false false h e k a =
    ap (λ x. x ∷ hs) (sym (reading_moved p es ds w h (a refl).0)) ∙ ap (λ l. reading p (moved es w) ∷ l) e
    ∙ ap (λ b. map (reading p) (cond b us (moved es w ∷ us))) (sym k ∙ (a refl).1)

push_cond : (p : ℕ) (ds : List Event) (w : Entry) (us : List Entry) (b : Bool) → remaining ds (map (aged ds) (map (reading p) (cond b us (w ∷ us))))
    ≡ cond b (remaining ds (map (aged ds) (map (reading p) us))) (cond (any (ends w.request.slot) ds) (remaining ds (map (aged ds) (map (reading p) us))) (aged ds (reading p w) ∷ remaining ds (map (aged ds) (map (reading p) us))))
push_cond p ds w us true = refl
push_cond p ds w us false = refl

sync_step : (other : Request → Bool) (p : ℕ) (es ds : List Event) (ws : List Entry) → p < 2 ^ 64 → Agree other ds es ws
    → remaining ds (map (aged ds) (map (reading p) (failing (away other) ws))) ≡ map (reading p) (failing (away other) (map (moved es) ws))
sync_step other p es ds [] h a = refl
sync_step other p es ds (w ∷ ws) h a =
    push_cond p ds w (failing (away other) ws) (away other w)
    ∙ sync_at p es ds w (remaining ds (map (aged ds) (map (reading p) (failing (away other) ws)))) (failing (away other) (map (moved es) ws)) (other w.request) w.done (any (ends w.request.slot) ds) h (sync_step other p es ds ws h a.1) refl a.0

-- ---- what is due below

abbrev pub EachPunctual : (Request → Bool) → ℕ → List Event → List Entry → Type 0
EachPunctual other p es [] = Unit {0}
EachPunctual other p es (w ∷ ws) = (away other w ≡ false → (p - w.age) - 1 ≡ 0 → any (ends w.request.slot) es ≡ true) × EachPunctual other p es ws

punctual_front : (p : ℕ) (es : List Event) (w : Entry) (us : List Entry) (b : Bool) → Punctual (map (aged es) (map (reading p) (cond b us (w ∷ us)))) es
    → (b ≡ false → (p - w.age) - 1 ≡ 0 → any (ends w.request.slot) es ≡ true) × Punctual (map (aged es) (map (reading p) us)) es
punctual_front p es w us true t = (λ e. absurd (both_ways true e refl), t)
punctual_front p es w us false t = (λ e. t.0, t.1)

each_punctual : (other : Request → Bool) (p : ℕ) (es : List Event) (ws : List Entry) → Punctual (map (aged es) (map (reading p) (failing (away other) ws))) es → EachPunctual other p es ws
each_punctual other p es [] t = tt
each_punctual other p es (w ∷ ws) t = let f = punctual_front p es w (failing (away other) ws) (away other w) t in (f.0, each_punctual other p es ws f.1)

-- ---- slots that are dropped

marked_more_at : (n : ℕ) (b c d : Bool) (t u : Bool) → (c ≡ true → d ≡ true) → (t ≡ true → u ≡ true) → ((b && c) || t) ≡ true → ((b && d) || u) ≡ true
marked_more_at n true true d t u i j e = or_left d u (i refl)
marked_more_at n true false d t u i j e = or_true d u (j e)
marked_more_at n false c d t u i j e = j e

marked_more : (p q : Entry → Bool) (n : ℕ) (ws : List Entry) → ((w : Entry) → p w ≡ true → q w ≡ true) → marked slot_of_entry p n ws ≡ true → marked slot_of_entry q n ws ≡ true
marked_more p q n [] i e = e
marked_more p q n (w ∷ ws) i e = marked_more_at n (has n w) (p w) (q w) _ _ (i w) (marked_more p q n ws i) e

passing_append_at : (w x : Entry) (us vs : List Entry) (b : Bool) → us ≡ vs → cond b us (w ∷ us) ≡ cond b vs (w ∷ vs)
passing_append_at w x us vs b e = ap (λ l. cond b l (w ∷ l)) e

passing_append : (p : Entry → Bool) (ws : List Entry) (x : Entry) → p x ≡ true → failing p (ws ++ (x ∷ [])) ≡ failing p ws
passing_append p [] x e = ap (λ b. cond b [] (x ∷ [])) e
passing_append p (w ∷ ws) x e = passing_append_at w x (failing p (ws ++ (x ∷ []))) (failing p ws) (p w) (passing_append p ws x e)

-- ---- agreement

-- The state b below is one that calls lead to, has no events, and holds the requests of the table that are not away.
pub record Synced (r : Meaning (List ℕ)) (other : Request → Bool) (b : List ℕ) (ws : List Entry) : Type 0 where
  pub re : Reached r b
  pub quiet : r.ready b ≡ []
  pub sync : r.held b ≡ map (reading (r.span b)) (failing (away other) ws)

module _ (r : Meaning (List ℕ)) (l : Lawful r) where
  abbrev pub events_below : List ℕ → List Event
  events_below b = r.ready (after r Call.step b)

  abbrev pub below_after : List ℕ → List ℕ
  below_after b = emptied r (events_below b) (after r Call.step b)

  pub span_after : (c : Call) (b : List ℕ) → r.span (after r c b) ≡ r.span b
  span_after c b = l.span_fixed (after r c b) ∙ ap r.span (l.start_fixed c b) ∙ sym (l.span_fixed b)

  start_emptied : (es : List Event) (b : List ℕ) → r.start (emptied r es b) ≡ r.start b
  start_emptied [] b = refl
  start_emptied (e ∷ es) b = start_emptied es (after r Call.collect b) ∙ l.start_fixed Call.collect b

  pub start_step : (b : List ℕ) → r.start (below_after b) ≡ r.start b
  start_step b = start_emptied (events_below b) (after r Call.step b) ∙ l.start_fixed Call.step b

  pub span_step : (b : List ℕ) → r.span (below_after b) ≡ r.span b
  span_step b = l.span_fixed (below_after b) ∙ ap r.span (start_step b) ∙ sym (l.span_fixed b)

  below_emptied : (es : List Event) (b : List ℕ) → Reached r b → r.ready b ≡ es
      → Reached r (emptied r es b) × (r.ready (emptied r es b) ≡ []) × (r.held (emptied r es b) ≡ kept es (r.held b))
  below_emptied [] b re e = (re, e, refl)
  below_emptied (x ∷ es) b re e =
      let c = collected_is r b (ap is_empty e) in
      let i = below_emptied es (after r Call.collect b) (reached_after r Call.collect b re) (ap r.ready c ∙ l.collected_ready b ∙ ap rest e) in
      (i.0, i.1, i.2 ∙ ap (kept es) (ap r.held c ∙ l.collected_held b re ∙ ap (λ fs. ended (first fs) (r.held b)) e))

  module _ (other : Request → Bool) where
    pub synced_start : (b : List ℕ) → Synced r other (r.start b) []
    synced_start b = record { re = (b, [], refl); quiet = l.start_ready b; sync = l.start_held b }

    -- a request that goes to this controller is not refused
    pub take_accepted : (b : List ℕ) (ws : List Entry) (q : Request) → Synced r other b ws → in_range q ≡ true → any (has q.slot) ws ≡ false → length ws < r.places b → take_refusal r b q ≡ None
    take_accepted b ws q g ok free room =
        let p = r.span b in
        let us = failing (away other) ws in
        let x = length-map us (reading p) in
        let y = length_failing (away other) ws in
        let z = ap length g.sync in
        take_fine r b q ok (ap (any (has_slot q.slot)) g.sync ∙ some_entries slot_of_entry (reading p) (λ w. refl) q.slot us ∙ some_failing slot_of_entry (away other) q.slot ws free) (omega arith)

    pub synced_take : (b : List ℕ) (ws : List Entry) (q : Request) → Synced r other b ws → other q ≡ false → in_range q ≡ true → any (has q.slot) ws ≡ false → length ws < r.places b
        → Synced r other (after r (Call.take q) b) (ws ++ (new_entry q ∷ []))
    synced_take b ws q g o ok free room =
        let p = r.span b in
        let us = failing (away other) ws in
        let fine = take_accepted b ws q g ok free room in
        let c = taken_is r b q fine in
        record {
          re = reached_after r (Call.take q) b g.re;
          quiet = ap r.ready c ∙ l.taken_ready b q g.re fine ∙ g.quiet;
          sync =
              ap r.held c ∙ l.taken_held b q g.re fine ∙ ap (λ hs. hs ++ (fresh q p ∷ [])) g.sync
              ∙ ap (λ e. map (reading p) us ++ (e ∷ [])) (sym (new_reading q p)) ∙ sym (map_append (reading p) us (new_entry q))
              ∙ ap (map (reading p)) (sym (failing_append (away other) ws (new_entry q) (or_right (other q) ∙ o))) ∙ ap (λ k. map (reading k) (failing (away other) (ws ++ (new_entry q ∷ [])))) (sym (span_after (Call.take q) b));
        }

    -- a request that goes elsewhere
    pub synced_other : (b : List ℕ) (ws : List Entry) (q : Request) → Synced r other b ws → other q ≡ true → Synced r other b (ws ++ (new_entry q ∷ []))
    synced_other b ws q g o = record {
      re = g.re;
      quiet = g.quiet;
      sync = g.sync ∙ ap (map (reading (r.span b))) (sym (passing_append (away other) ws (new_entry q) (or_left (other q) false o)));
    }

    -- a request that is done below, and whose Done is collected
    pub synced_drop : (b : List ℕ) (ws : List Entry) (n : ℕ) → Synced r other b ws → Apart slot_of_entry ws → marked slot_of_entry done_below n ws ≡ true → Synced r other b (dropped slot_of_entry n ws)
    synced_drop b ws n g a m = record {
      re = g.re;
      quiet = g.quiet;
      sync =
          g.sync
          ∙ ap (map (reading (r.span b))) (sym (failing_dropped slot_of_entry (away other) n ws a (marked_more done_below (away other) n ws (λ w e. or_true (other w.request) w.done e) m)));
    }

    step_is : (b : List ℕ) (ws : List Entry) → Synced r other b ws → after r Call.step b ≡ r.stepped b
    step_is b ws g = stepped_is r b g.quiet

    held_stepped : (b : List ℕ) (ws : List Entry) → Synced r other b ws → r.held (after r Call.step b) ≡ map (aged (events_below b)) (map (reading (r.span b)) (failing (away other) ws))
    held_stepped b ws g =
        subst (λ x. r.held x ≡ map (aged (r.ready x)) (r.held b)) (sym (step_is b ws g)) (l.stepped_held b g.re g.quiet) ∙ ap (map (aged (events_below b))) g.sync

    proper_below : (b : List ℕ) (ws : List Entry) → Synced r other b ws → (n : ℕ) → Proper (standing n (map (reading (r.span b)) (failing (away other) ws))) (events_of n (events_below b))
    proper_below b ws g n =
        subst (λ hs. Proper (standing n hs) (events_of n (events_below b))) g.sync
        (subst (λ x. Proper (standing n (r.held b)) (events_of n (r.ready x))) (sym (step_is b ws g)) (l.stepped_proper b g.re g.quiet n))

    -- what is received of a step
    pub proper_received : (b : List ℕ) (ws : List Entry) → Synced r other b ws → Apart slot_of_entry ws → EachProper other (events_below b) ws
    proper_received b ws g a = each_proper other (r.span b) (events_below b) ws a (λ n k. proper_below b ws g n)

    pub none_received : (b : List ℕ) (ws : List Entry) → Synced r other b ws → (n : ℕ) → any (has n) ws ≡ false → events_of n (events_below b) ≡ []
    none_received b ws g n e = others_none other (r.span b) n (events_below b) ws e (proper_below b ws g n)

    pub punctual_received : (b : List ℕ) (ws : List Entry) → Synced r other b ws → EachPunctual other (r.span b) (events_below b) ws
    punctual_received b ws g =
        each_punctual other (r.span b) (events_below b) ws
        (subst (λ hs. Punctual hs (events_below b)) (held_stepped b ws g) (subst (λ x. Punctual (r.held x) (r.ready x)) (sym (step_is b ws g)) (l.stepped_punctual b g.re g.quiet)))

    -- a step, in which the layer receives the events es in all
    pub synced_step : (b : List ℕ) (ws : List Entry) (es : List Event) → r.span b < 2 ^ 64 → Synced r other b ws → Agree other (events_below b) es ws → Synced r other (below_after b) (map (moved es) ws)
    synced_step b ws es h g a =
        let m = below_emptied (events_below b) (after r Call.step b) (reached_after r Call.step b g.re) refl in
        record {
          re = m.0;
          quiet = m.1;
          sync =
              m.2 ∙ kept_is (events_below b) (r.held (after r Call.step b)) ∙ ap (remaining (events_below b)) (held_stepped b ws g) ∙ sync_step other (r.span b) es (events_below b) ws h a
              ∙ ap (λ k. map (reading k) (failing (away other) (map (moved es) ws))) (sym (span_step b));
        }
