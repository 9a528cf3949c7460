-- What a layer receives in a step below: the events of each held request are proper, and other slots have none.
use Rattle.std.proofs.Common.{◌≡◌, ℕ, Bool, true, false, cond, ◌||◌, eqb, List, [], ◌∷◌, ◌++◌, map, sym, refl, ap, ◌∙◌, subst, eqb-true}
use borrow.Author.Tests.{both_ways}
use Rattle.interface.specs.Meaning.{any}
use Rattle.interface.specs.Lawful.{issues, ends, Standing, standing, slot_of, events_of, Proper}
use Rattle.interface.specs.Slots.{has_in, dropped, failing}
use Rattle.interface.specs.declared.Request.{Request}
use Rattle.interface.specs.declared.Event.{Event}
use Rattle.interface.specs.declared.Event.TheVariants.{Issue, Done}
use Rattle.interface.proofs.Bools.{or_left, or_true, and_left, same}
use Rattle.interface.proofs.Slots.{Apart, some_map, some_self, some_failing, standing_none, proper_none, events_of_none, events_of_skip, events_of_one}
use Rattle.layer.specs.declared.entry.Entry.{Entry}
use Rattle.layer.specs.Forwards.{is_issue, forwarded}
use Rattle.layer.specs.Entries.{new_entry, slot_of_entry, updated, advanced, is_due, reading}
use Rattle.layer.specs.Contents.{dones_due}

abbrev pub has : ℕ → Entry → Bool
has = has_in slot_of_entry

-- an entry after a step that made the events es ready below
abbrev pub moved : List Event → Entry → Entry
moved es w = advanced (updated es w)

-- A controller below gets the requests of which `other` does not hold, and holds those that are not done.
abbrev pub away : (Request → Bool) → Entry → Bool
away other w = other w.request || w.done

abbrev pub nobody : Request → Bool
nobody q = false

abbrev pub stage : Entry → Standing
stage w = cond w.issued Standing.in_flight Standing.waiting

-- ---- from slots to entries

abbrev pub EachProper : (Request → Bool) → List Event → List Entry → Type 0
EachProper other es [] = Unit {0}
EachProper other es (w ∷ ws) = Proper (cond (away other w) Standing.absent (stage w)) (events_of w.request.slot es) × EachProper other es ws

pub absent_none : (es : List Event) → Proper Standing.absent es → es ≡ []
absent_none [] r = refl
absent_none (e ∷ es) r = absurd r

front_other : (n p : ℕ) (w : Entry) (us : List Entry) (b : Bool) → eqb w.request.slot n ≡ false → standing n (map (reading p) (cond b us (w ∷ us))) ≡ standing n (map (reading p) us)
front_other n p w us true e = refl
front_other n p w us false e = ap (λ b. cond b (stage w) (standing n (map (reading p) us))) e

front_same : (p : ℕ) (w : Entry) (us : List Entry) (b : Bool) → standing w.request.slot (map (reading p) us) ≡ Standing.absent
    → standing w.request.slot (map (reading p) (cond b us (w ∷ us))) ≡ cond b Standing.absent (stage w)
front_same p w us true e = e
front_same p w us false e = ap (λ b. cond b (stage w) (standing w.request.slot (map (reading p) us))) (same w.request.slot)

pub each_proper : (other : Request → Bool) (p : ℕ) (es : List Event) (ws : List Entry) → Apart slot_of_entry ws
    → ((n : ℕ) → any (has n) ws ≡ true → Proper (standing n (map (reading p) (failing (away other) ws))) (events_of n es)) → EachProper other es ws
each_proper other p es [] a h = tt
each_proper other p es (w ∷ ws) a h = (
  subst (λ st. Proper st (events_of w.request.slot es))
      (front_same p w (failing (away other) ws) (away other w) (standing_none slot_of_entry (reading p) (λ v. refl) w.request.slot (failing (away other) ws) (some_failing slot_of_entry (away other) w.request.slot ws a.0)))
      (h w.request.slot (or_left (has w.request.slot w) _ (same w.request.slot))),
  each_proper other p es ws a.1
      (λ n k. subst (λ st. Proper st (events_of n es)) (front_other n p w (failing (away other) ws) (away other w) (some_self slot_of_entry n ws w.request.slot a.0 k)) (h n (or_true (has n w) _ k))),
)

pub others_none : (other : Request → Bool) (p n : ℕ) (es : List Event) (ws : List Entry) → any (has n) ws ≡ false
    → Proper (standing n (map (reading p) (failing (away other) ws))) (events_of n es) → events_of n es ≡ []
others_none other p n es ws e h =
    absent_none (events_of n es) (subst (λ st. Proper st (events_of n es)) (standing_none slot_of_entry (reading p) (λ v. refl) n (failing (away other) ws) (some_failing slot_of_entry (away other) n ws e)) h)

-- ---- tests on one slot's events

abbrev pub is_done : Event → Bool
is_done (Issue n) = false
is_done (Done n) = true

issues_of_at : (n : ℕ) (e : Event) (ds : List Event) (t b : Bool) → eqb (slot_of e) n ≡ b → t ≡ any is_issue ds → (issues n e || t) ≡ any is_issue (cond b (e ∷ ds) ds)
issues_of_at n (Issue m) ds t true k ih = ap (λ b. b || t) k
issues_of_at n (Issue m) ds t false k ih = ap (λ b. b || t) k ∙ ih
issues_of_at n (Done m) ds t true k ih = ih
issues_of_at n (Done m) ds t false k ih = ih

issues_of : (n : ℕ) (es : List Event) → any (issues n) es ≡ any is_issue (events_of n es)
issues_of n [] = refl
issues_of n (e ∷ es) = issues_of_at n e (events_of n es) (any (issues n) es) (eqb (slot_of e) n) refl (issues_of n es)

ends_of_at : (n : ℕ) (e : Event) (ds : List Event) (t b : Bool) → eqb (slot_of e) n ≡ b → t ≡ any is_done ds → (ends n e || t) ≡ any is_done (cond b (e ∷ ds) ds)
ends_of_at n (Issue m) ds t true k ih = ih
ends_of_at n (Issue m) ds t false k ih = ih
ends_of_at n (Done m) ds t true k ih = ap (λ b. b || t) k
ends_of_at n (Done m) ds t false k ih = ap (λ b. b || t) k ∙ ih

pub ends_of : (n : ℕ) (es : List Event) → any (ends n) es ≡ any is_done (events_of n es)
ends_of n [] = refl
ends_of n (e ∷ es) = ends_of_at n e (events_of n es) (any (ends n) es) (eqb (slot_of e) n) refl (ends_of n es)

pub no_issues : (n : ℕ) (es : List Event) → events_of n es ≡ [] → any (issues n) es ≡ false
no_issues n es e = issues_of n es ∙ ap (any is_issue) e

pub no_ends : (n : ℕ) (es : List Event) → events_of n es ≡ [] → any (ends n) es ≡ false
no_ends n es e = ends_of n es ∙ ap (any is_done) e

-- ---- a request that is done below was issued

abbrev pub DoneIssued : List Entry → Type 0
DoneIssued [] = Unit {0}
DoneIssued (w ∷ ws) = (w.done ≡ true → w.issued ≡ true) × DoneIssued ws

done_issued_dropped_at : (m : ℕ) (h : Entry) (hs : List Entry) (b : Bool) → DoneIssued (h ∷ hs) → DoneIssued (dropped slot_of_entry m hs) → DoneIssued (cond b hs (h ∷ dropped slot_of_entry m hs))
done_issued_dropped_at m h hs true a l = a.1
done_issued_dropped_at m h hs false a l = (a.0, l)

pub done_issued_dropped : (m : ℕ) (hs : List Entry) → DoneIssued hs → DoneIssued (dropped slot_of_entry m hs)
done_issued_dropped m [] a = tt
done_issued_dropped m (h ∷ hs) a = done_issued_dropped_at m h hs (has m h) a (done_issued_dropped m hs a.1)

pub done_issued_append : (hs : List Entry) (q : Request) → DoneIssued hs → DoneIssued (hs ++ (new_entry q ∷ []))
done_issued_append [] q a = (λ e. e, tt)
done_issued_append (h ∷ hs) q a = (a.0, done_issued_append hs q a.1)

waiting_issued : (ds : List Event) → Proper Standing.waiting ds → any is_done ds ≡ true → any is_issue ds ≡ true
waiting_issued [] r e = e
waiting_issued (Issue n ∷ ds) r e = refl
waiting_issued (Done n ∷ ds) r e = absurd r

done_issued_one : (i d : Bool) (ds : List Event) (d' i' : Bool) → (d ≡ true → i ≡ true) → d' ≡ any is_done ds → i' ≡ any is_issue ds → Proper (cond d Standing.absent (cond i Standing.in_flight Standing.waiting)) ds → (d || d') ≡ true → (i || i') ≡ true
done_issued_one true d ds d' i' a e f r t = refl
done_issued_one false true ds d' i' a e f r t = absurd (both_ways false refl (a refl))
done_issued_one false false ds d' i' a e f r t = f ∙ waiting_issued ds r (sym e ∙ t)

pub done_issued_step : (es : List Event) (ws : List Entry) → DoneIssued ws → EachProper nobody es ws → DoneIssued (map (moved es) ws)
done_issued_step es [] i h = tt
done_issued_step es (w ∷ ws) i h = (
  done_issued_one w.issued w.done (events_of w.request.slot es) (any (ends w.request.slot) es) (any (issues w.request.slot) es) i.0 (ends_of w.request.slot es) (issues_of w.request.slot es) h.0,
  done_issued_step es ws i.1 h.1,
)

-- ---- each slot's events, where all are handed on

proper_one : (d : Bool) (st : Standing) (ds : List Event) → Proper (cond d Standing.absent st) ds → Proper st ds
proper_one true st ds r = proper_none st ds (absent_none ds r)
proper_one false st ds r = r

proper_all_at : (n q : ℕ) (es : List Event) (w : Entry) (ws : List Entry) (b : Bool) → eqb w.request.slot n ≡ b → Proper (cond w.done Standing.absent (stage w)) (events_of w.request.slot es)
    → ((b || any (has n) ws) ≡ false → events_of n es ≡ []) → ((any (has n) ws ≡ false → events_of n es ≡ []) → Proper (standing n (map (reading q) ws)) (events_of n es))
    → Proper (cond b (stage w) (standing n (map (reading q) ws))) (events_of n es)
proper_all_at n q es w ws true e r k ih = subst (λ m. Proper (stage w) (events_of m es)) (eqb-true w.request.slot n e) (proper_one w.done (stage w) _ r)
proper_all_at n q es w ws false e r k ih = ih k

pub proper_all : (n q : ℕ) (es : List Event) (ws : List Entry) → EachProper nobody es ws → (any (has n) ws ≡ false → events_of n es ≡ []) → Proper (standing n (map (reading q) ws)) (events_of n es)
proper_all n q es [] r k = proper_none Standing.absent _ (k refl)
proper_all n q es (w ∷ ws) r k = proper_all_at n q es w ws (has n w) refl r.0 k (proper_all n q es ws r.1)

-- ---- each slot's events, where the Issues are handed on and Dones come later

abbrev issues_in : List Event → List Event
issues_in = forwarded is_issue

events_of_forwarded_at : (f : Event → Bool) (n : ℕ) (e : Event) (es : List Event) (b v : Bool) → eqb (slot_of e) n ≡ b → f e ≡ v → events_of n (forwarded f es) ≡ forwarded f (events_of n es)
    → events_of n (cond v (e ∷ forwarded f es) (forwarded f es)) ≡ forwarded f (cond b (e ∷ events_of n es) (events_of n es))
events_of_forwarded_at f n e es true true k j ih = ap (λ b. cond b (e ∷ events_of n (forwarded f es)) (events_of n (forwarded f es))) k ∙ ap (λ l. e ∷ l) ih ∙ ap (λ b. cond b (e ∷ forwarded f (events_of n es)) (forwarded f (events_of n es))) (sym j)
events_of_forwarded_at f n e es true false k j ih = ih ∙ ap (λ b. cond b (e ∷ forwarded f (events_of n es)) (forwarded f (events_of n es))) (sym j)
events_of_forwarded_at f n e es false true k j ih = ap (λ b. cond b (e ∷ events_of n (forwarded f es)) (events_of n (forwarded f es))) k ∙ ih
events_of_forwarded_at f n e es false false k j ih = ih

pub events_of_forwarded : (f : Event → Bool) (n : ℕ) (es : List Event) → events_of n (forwarded f es) ≡ forwarded f (events_of n es)
events_of_forwarded f n [] = refl
events_of_forwarded f n (e ∷ es) = events_of_forwarded_at f n e es (eqb (slot_of e) n) (f e) refl refl (events_of_forwarded f n es)

proper_done : (m : ℕ) (t : Bool) → Proper Standing.in_flight (cond t (Done m ∷ []) [])
proper_done m true = tt
proper_done m false = tt

proper_late : (m : ℕ) (st : Standing) (ds : List Event) (t : Bool) → Proper st ds → (t ≡ true → any is_done ds ≡ true) → Proper st (issues_in ds ++ cond t (Done m ∷ []) [])
proper_late m st [] true r k = absurd (both_ways false refl (k refl))
proper_late m st [] false r k = tt
proper_late m Standing.absent (e ∷ ds) t r k = absurd r
proper_late m Standing.waiting (Issue n ∷ ds) t r k = proper_late m Standing.in_flight ds t r k
proper_late m Standing.waiting (Done n ∷ ds) t r k = absurd r
proper_late m Standing.in_flight (Issue n ∷ ds) t r k = absurd r
proper_late m Standing.in_flight (Done n ∷ ds) t r k = subst (λ l. Proper Standing.in_flight (issues_in l ++ cond t (Done m ∷ []) [])) (sym (absent_none ds r)) (proper_done m t)

proper_own_at : (m : ℕ) (ds : List Event) (i d : Bool) (t : Bool) → (d ≡ true → i ≡ true) → Proper (cond d Standing.absent (cond i Standing.in_flight Standing.waiting)) ds → (d ≡ false → t ≡ true → any is_done ds ≡ true)
    → Proper (cond i Standing.in_flight Standing.waiting) (issues_in ds ++ cond t (Done m ∷ []) [])
proper_own_at m ds true true t i r k = subst (λ l. Proper Standing.in_flight (issues_in l ++ cond t (Done m ∷ []) [])) (sym (absent_none ds r)) (proper_done m t)
proper_own_at m ds false true t i r k = absurd (both_ways false refl (i refl))
proper_own_at m ds i false t j r k = proper_late m (cond i Standing.in_flight Standing.waiting) ds t r (k refl)

proper_own : (k : ℕ) (es : List Event) (w : Entry) (ws : List Entry) → any (has w.request.slot) ws ≡ false → (w.done ≡ true → w.issued ≡ true)
    → Proper (cond w.done Standing.absent (stage w)) (events_of w.request.slot es)
    → Proper (stage w) (issues_in (events_of w.request.slot es) ++ events_of w.request.slot (dones_due k (map (moved es) (w ∷ ws))))
proper_own k es w ws a i r =
    subst (λ l. Proper (stage w) (issues_in (events_of w.request.slot es) ++ l))
    (sym (events_of_one w.request.slot (dones_due k (map (moved es) ws)) (is_due k (moved es w)) (events_of_none slot_of_entry (is_due k) w.request.slot (map (moved es) ws) (some_map slot_of_entry (moved es) (λ v. refl) w.request.slot ws ∙ a))))
    (proper_own_at w.request.slot (events_of w.request.slot es) w.issued w.done (is_due k (moved es w)) i r
    (λ d t. sym (ends_of w.request.slot es) ∙ ap (λ b. b || any (ends w.request.slot) es) (sym d) ∙ and_left _ _ t))

proper_released_at : (n q k : ℕ) (es : List Event) (w : Entry) (ws : List Entry) (b : Bool) → eqb w.request.slot n ≡ b → any (has w.request.slot) ws ≡ false → (w.done ≡ true → w.issued ≡ true)
    → Proper (cond w.done Standing.absent (stage w)) (events_of w.request.slot es)
    → ((b || any (has n) ws) ≡ false → events_of n es ≡ [])
    → ((any (has n) ws ≡ false → events_of n es ≡ []) → Proper (standing n (map (reading q) ws)) (issues_in (events_of n es) ++ events_of n (dones_due k (map (moved es) ws))))
    → Proper (cond b (stage w) (standing n (map (reading q) ws))) (issues_in (events_of n es) ++ events_of n (dones_due k (map (moved es) (w ∷ ws))))
proper_released_at n q k es w ws true e a i r z ih =
    subst (λ m. Proper (stage w) (issues_in (events_of m es) ++ events_of m (dones_due k (map (moved es) (w ∷ ws))))) (eqb-true w.request.slot n e) (proper_own k es w ws a i r)
proper_released_at n q k es w ws false e a i r z ih =
    subst (λ l. Proper (standing n (map (reading q) ws)) (issues_in (events_of n es) ++ l)) (sym (events_of_skip n w.request.slot (dones_due k (map (moved es) ws)) (is_due k (moved es w)) e)) (ih z)

pub proper_released : (n q k : ℕ) (es : List Event) (ws : List Entry) → Apart slot_of_entry ws → DoneIssued ws → EachProper nobody es ws → (any (has n) ws ≡ false → events_of n es ≡ [])
    → Proper (standing n (map (reading q) ws)) (issues_in (events_of n es) ++ events_of n (dones_due k (map (moved es) ws)))
proper_released n q k es [] a i r z = proper_none Standing.absent _ (ap (λ l. issues_in l ++ []) (z refl))
proper_released n q k es (w ∷ ws) a i r z = proper_released_at n q k es w ws (has n w) refl a.0 i.0 r.0 z (proper_released n q k es ws a.1 i.1 r.1)
