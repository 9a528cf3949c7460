-- What a step does to the held requests, whichever class of them is asked for one to issue.
use Rattle.std.proofs.Common.{◌≡◌, ℕ, suc, ◌≤◌, Bool, true, false, cond, ◌&&◌, ◌||◌, eqb, ◌⊎◌, List, [], ◌∷◌, ◌++◌, map, length, Some, None, Option, sym, refl, ap, ◌∙◌, subst, inl, inr, ⊎_elim, append-nil, arith, lit≤, eq-eqb, ne_eqb, eqb-true}
use borrow.Author.Tests.{both_ways, eqb-false}
use Rattle.std.specs.Option.{is_some}
use Rattle.interface.specs.Meaning.{Held, any}
use Rattle.interface.specs.Lawful.{issues, ends, aged, Standing, standing, events_of, Proper, Punctual}
use Rattle.interface.specs.declared.Request.{Request}
use Rattle.interface.specs.declared.Kind.{Kind}
use Rattle.interface.specs.declared.Kind.TheVariants.{Read, Write}
use Rattle.interface.specs.declared.Event.{Event}
use Rattle.interface.specs.declared.Event.TheVariants.{Issue, Done}
use Rattle.interface.proofs.Bools.{or_false, or_right, or_left, or_true, same}
use Rattle.interface.proofs.Slots.{Apart, some_map, apart_map, some_self, events_of_none, events_of_skip, events_of_append, issues_none, proper_none, done_more, ends_before}
use Rattle.holder.proofs.Holdings.{length_dones as dones_few}
use Rattle.held.specs.declared.entries.Entry.{Entry}
use Rattle.held.specs.Rows.{Rows}
use Rattle.held.specs.Entries.{later, sooner, expired, run_out, issued_now, done_delay, longest_delay, key, has, dones, candidate, next_of, issue_next, reading_of}

pub rows_path : (a b : Rows) → a.entries ≡ b.entries → a.events ≡ b.events → a ≡ b
rows_path a b p q = λ i. record { entries = p i; events = q i }

pub entry_path : (a b : Entry) → a.request ≡ b.request → a.until_done ≡ b.until_done → a.left ≡ b.left → a ≡ b
entry_path a b p q r = λ i. record { request = p i; until_done = q i; left = r i }

some_later : (n : ℕ) (hs : List Entry) → any (has n) (map later hs) ≡ any (has n) hs
some_later = some_map key later (λ h. refl)

pub apart_later : (hs : List Entry) → Apart key hs → Apart key (map later hs)
apart_later = apart_map key later (λ h. refl)

pub delay_most : (k : Kind) → done_delay k ≤ longest_delay
delay_most Read = lit≤ tt
delay_most Write = lit≤ tt

-- ---- an issue keeps the slots

some_issued_at : (k : Request → Bool) (n : ℕ) (h : Entry) (hs : List Entry) (b : Bool) → any (has n) (issue_next k hs) ≡ any (has n) hs → any (has n) (cond b (issued_now h ∷ hs) (h ∷ issue_next k hs)) ≡ (has n h || any (has n) hs)
some_issued_at k n h hs true e = refl
some_issued_at k n h hs false e = ap (λ b. has n h || b) e

some_issued : (k : Request → Bool) (n : ℕ) (hs : List Entry) → any (has n) (issue_next k hs) ≡ any (has n) hs
some_issued k n [] = refl
some_issued k n (h ∷ hs) = some_issued_at k n h hs (candidate k h) (some_issued k n hs)

apart_issued_at : (k : Request → Bool) (h : Entry) (hs : List Entry) (b : Bool) → Apart key (h ∷ hs) → Apart key (issue_next k hs) → Apart key (cond b (issued_now h ∷ hs) (h ∷ issue_next k hs))
apart_issued_at k h hs true a l = a
apart_issued_at k h hs false a l = (some_issued k h.request.slot hs ∙ a.0, l)

pub apart_issued : (k : Request → Bool) (hs : List Entry) → Apart key hs → Apart key (issue_next k hs)
apart_issued k [] a = tt
apart_issued k (h ∷ hs) a = apart_issued_at k h hs (candidate k h) a (apart_issued k hs a.1)

length_issued_at : (k : Request → Bool) (h : Entry) (hs : List Entry) (b : Bool) → length (issue_next k hs) ≡ length hs → length (cond b (issued_now h ∷ hs) (h ∷ issue_next k hs)) ≡ suc (length hs)
length_issued_at k h hs true e = refl
length_issued_at k h hs false e = ap suc e

pub length_issued : (k : Request → Bool) (hs : List Entry) → length (issue_next k hs) ≡ length hs
length_issued k [] = refl
length_issued k (h ∷ hs) = length_issued_at k h hs (candidate k h) (length_issued k hs)

-- ---- the two ways of a step: with no issue, or with that of the next of a class

abbrev pub Moved : List Entry → List Entry → List Event → Type 0
Moved hs ls es = (ls ≡ map later hs) × (es ≡ dones (map later hs))

abbrev pub Sent : List Entry → List Entry → List Event → Type 0
Sent hs ls es = (k : Request → Bool) × (h : Entry) × (next_of k (map later hs) ≡ Some h) × (ls ≡ issue_next k (map later hs)) × (es ≡ dones (map later hs) ++ (Issue h.request.slot ∷ []))

abbrev pub Stepped : List Entry → List Entry → List Event → Type 0
Stepped hs ls es = Moved hs ls es ⊎ Sent hs ls es

-- ---- the readings after a step

some_issue_append : (n m : ℕ) (es : List Event) → any (issues n) es ≡ false → any (issues n) (es ++ (Issue m ∷ [])) ≡ eqb m n
some_issue_append n m [] e = or_right (eqb m n)
some_issue_append n m (x ∷ es) e =
    let k = or_false (issues n x) _ e in
    ap (λ b. b || any (issues n) (es ++ (Issue m ∷ []))) k.0 ∙ some_issue_append n m es k.1

stage_later : (s : Option ℕ) → is_some (sooner s) ≡ is_some s
stage_later None = refl
stage_later (Some n) = refl

reading_path : (a b : Held) → a.request ≡ b.request → a.issued ≡ b.issued → a.left ≡ b.left → a ≡ b
reading_path a b p q r = λ i. record { request = p i; issued = q i; left = r i }

aged_later : (es : List Event) (h : Entry) → any (issues h.request.slot) es ≡ false → reading_of (later h) ≡ aged es (reading_of h)
aged_later es h e = reading_path (reading_of (later h)) (aged es (reading_of h)) refl (stage_later h.until_done ∙ sym (or_right _) ∙ ap (λ b. is_some h.until_done || b) (sym e)) refl

aged_all : (es : List Event) (hs : List Entry) → ((n : ℕ) → any (has n) hs ≡ true → any (issues n) es ≡ false) → map reading_of (map later hs) ≡ map (aged es) (map reading_of hs)
aged_all es [] e = refl
aged_all es (h ∷ hs) e =
    ap (λ x. x ∷ map reading_of (map later hs)) (aged_later es h (e h.request.slot (or_left (has h.request.slot h) _ (same h.request.slot))))
    ∙ ap (λ l. aged es (reading_of h) ∷ l) (aged_all es hs (λ n k. e n (or_true (has n h) _ k)))

-- the next of a class is the first that waits, or one further on
at_head_by : (k : Request → Bool) (q : Request) (s : Option ℕ) (l : ℕ) (hs : List Entry) (h : Entry) (b : Bool) → k q ≡ b → next_of k (record { request = q; until_done = s; left = l } ∷ hs) ≡ Some h
    → (((k q ≡ true) × (s ≡ None) × (◌≡◌ {A = Entry} (record { request = q; until_done = s; left = l }) h)) × (issue_next k (record { request = q; until_done = s; left = l } ∷ hs) ≡ issued_now (record { request = q; until_done = s; left = l }) ∷ hs))
    ⊎ ((next_of k hs ≡ Some h) × (issue_next k (record { request = q; until_done = s; left = l } ∷ hs) ≡ record { request = q; until_done = s; left = l } ∷ issue_next k hs))
at_head_by k q None l hs h true kb e =
    let x : Entry = record { request = q; until_done = None; left = l } in
    let e' : ◌≡◌ {A = Option Entry} (Some x) (Some h) = sym (ap (λ b. cond (b && true) (Some x) (next_of k hs)) kb) ∙ e in
    let z : x ≡ h = cc in
    inl ((kb, refl, z), ap (λ b. cond (b && true) (issued_now x ∷ hs) (x ∷ issue_next k hs)) kb)
at_head_by k q None l hs h false kb e =
    let x : Entry = record { request = q; until_done = None; left = l } in
    inr (sym (ap (λ b. cond (b && true) (Some x) (next_of k hs)) kb) ∙ e, ap (λ b. cond (b && true) (issued_now x ∷ hs) (x ∷ issue_next k hs)) kb)
at_head_by k q (Some n) l hs h true kb e =
    let x : Entry = record { request = q; until_done = Some n; left = l } in
    inr (sym (ap (λ b. cond (b && false) (Some x) (next_of k hs)) kb) ∙ e, ap (λ b. cond (b && false) (issued_now x ∷ hs) (x ∷ issue_next k hs)) kb)
at_head_by k q (Some n) l hs h false kb e =
    let x : Entry = record { request = q; until_done = Some n; left = l } in
    inr (sym (ap (λ b. cond (b && false) (Some x) (next_of k hs)) kb) ∙ e, ap (λ b. cond (b && false) (issued_now x ∷ hs) (x ∷ issue_next k hs)) kb)

abbrev Front : (Request → Bool) → Entry → List Entry → Entry → Type 0
Front k x hs h = (((k x.request ≡ true) × (x.until_done ≡ None) × (x ≡ h)) × (issue_next k (x ∷ hs) ≡ issued_now x ∷ hs)) ⊎ ((next_of k hs ≡ Some h) × (issue_next k (x ∷ hs) ≡ x ∷ issue_next k hs))

pub at_head : (k : Request → Bool) (x : Entry) (hs : List Entry) (h : Entry) → next_of k (x ∷ hs) ≡ Some h → Front k x hs h
at_head k x hs h e = at_head_by k x.request x.until_done x.left hs h (k x.request) refl e

pub no_next : (k : Request → Bool) (h : Entry) → next_of k [] ≡ Some h → ⊥
no_next k h e = let z : ◌≡◌ {A = ℕ} 0 1 = cc in omega arith

-- the next of a class is among them
pub next_in : (k : Request → Bool) (hs : List Entry) (h : Entry) → next_of k hs ≡ Some h → any (has h.request.slot) hs ≡ true
next_in k [] h e = absurd (no_next k h e)
next_in k (x ∷ hs) h e =
    ⊎_elim
    (λ f. or_left (has h.request.slot x) _ (eq-eqb _ _ (ap (λ (y : Entry). y.request.slot) f.0.2)))
    (λ f. or_true (has h.request.slot x) _ (next_in k hs h f.0))
    (at_head k x hs h e)

waiting_later : (s : Option ℕ) → sooner s ≡ None → is_some s ≡ false
waiting_later s e = sym (stage_later s) ∙ ap is_some e

issued_aged : (k : Request → Bool) (es : List Event) (h : Entry) (hs : List Entry) → Apart key hs → ((n : ℕ) → any (issues n) es ≡ eqb h.request.slot n) → next_of k (map later hs) ≡ Some h
    → map reading_of (issue_next k (map later hs)) ≡ map (aged es) (map reading_of hs)
issued_aged k es h [] a i e = absurd (no_next k h e)
issued_aged k es h (x ∷ hs) a i e =
    ⊎_elim
    (λ f.
    let z = ap (λ (y : Entry). y.request.slot) f.0.2 in
    ap (map reading_of) f.1
    ∙ ap (λ y. y ∷ map reading_of (map later hs))
    (reading_path (reading_of (issued_now (later x))) (aged es (reading_of x)) refl (sym (or_true (is_some x.until_done) _ (i x.request.slot ∙ eq-eqb _ _ (sym z)))) refl)
    ∙ ap (λ r. aged es (reading_of x) ∷ r) (aged_all es hs (λ n t. i n ∙ ap (λ m. eqb m n) (sym z) ∙ some_self key n hs x.request.slot a.0 t)))
    (λ f.
    let in_rest : any (has h.request.slot) hs ≡ true = sym (some_later h.request.slot hs) ∙ next_in k (map later hs) h f.0 in
    ap (map reading_of) f.1
    ∙ ap (λ y. y ∷ map reading_of (issue_next k (map later hs)))
    (aged_later es x (i x.request.slot ∙ ne_eqb _ _ (λ q. eqb-false _ _ (some_self key h.request.slot hs x.request.slot a.0 in_rest) (sym q))))
    ∙ ap (λ r. aged es (reading_of x) ∷ r) (issued_aged k es h hs a.1 i f.0))
    (at_head k (later x) (map later hs) h e)

pub stepped_held : (hs ls : List Entry) (es : List Event) → Apart key hs → Stepped hs ls es → map reading_of ls ≡ map (aged es) (map reading_of hs)
stepped_held hs ls es a = ⊎_elim moved sent
  where
    moved : Moved hs ls es → map reading_of ls ≡ map (aged es) (map reading_of hs)
    moved m = ap (map reading_of) m.0 ∙ aged_all es hs (λ n k. ap (any (issues n)) m.1 ∙ issues_none key expired n (map later hs))

    sent : Sent hs ls es → map reading_of ls ≡ map (aged es) (map reading_of hs)
    sent m =
        ap (map reading_of) m.3
        ∙ issued_aged m.0 es m.1 hs a (λ n. ap (any (issues n)) m.4 ∙ some_issue_append n m.1.request.slot (dones (map later hs)) (issues_none key expired n (map later hs))) m.2

-- ---- each slot's events

proper_at : (m n : ℕ) (s : Option ℕ) (ds : List Event) (st : Standing) (b t : Bool) → eqb m n ≡ b → run_out (sooner s) ≡ t → (b ≡ true → events_of n ds ≡ []) → Proper st (events_of n ds)
    → Proper (cond b (cond (is_some s) Standing.in_flight Standing.waiting) st) (events_of n (cond t (Done m ∷ ds) ds))
proper_at m n None ds st b true e l k r = absurd (both_ways false refl l)
proper_at m n None ds st true false e l k r = proper_none Standing.waiting _ (k refl)
proper_at m n None ds st false false e l k r = r
proper_at m n (Some j) ds st true true e l k r =
    subst (λ b. Proper Standing.in_flight (cond b (Done m ∷ events_of n ds) (events_of n ds))) (sym e) (proper_none Standing.absent _ (k refl))
proper_at m n (Some j) ds st false true e l k r = subst (λ b. Proper st (cond b (Done m ∷ events_of n ds) (events_of n ds))) (sym e) r
proper_at m n (Some j) ds st true false e l k r = proper_none Standing.in_flight _ (k refl)
proper_at m n (Some j) ds st false false e l k r = r

proper_dones : (n : ℕ) (hs : List Entry) → Apart key hs → Proper (standing n (map reading_of hs)) (events_of n (dones (map later hs)))
proper_dones n [] a = tt
proper_dones n (h ∷ hs) a =
    proper_at h.request.slot n h.until_done (dones (map later hs)) (standing n (map reading_of hs)) (eqb h.request.slot n) (expired (later h)) refl refl
    (λ e. events_of_none key expired n (map later hs) (some_later n hs ∙ ap (λ k. any (has k) hs) (sym (eqb-true _ _ e)) ∙ a.0))
    (proper_dones n hs a.1)

next_stands : (k : Request → Bool) (hs : List Entry) (h : Entry) → Apart key hs → next_of k (map later hs) ≡ Some h → (standing h.request.slot (map reading_of hs) ≡ Standing.waiting) × (events_of h.request.slot (dones (map later hs)) ≡ [])
next_stands k [] h a e = absurd (no_next k h e)
next_stands k (x ∷ hs) h a e =
    ⊎_elim
    (λ f.
    let z = ap (λ (y : Entry). y.request.slot) f.0.2 in (
      ap (λ b. cond b (cond (is_some x.until_done) Standing.in_flight Standing.waiting) (standing h.request.slot (map reading_of hs))) (eq-eqb _ _ z)
          ∙ ap (λ b. cond b Standing.in_flight Standing.waiting) (waiting_later x.until_done f.0.1),
      ap (λ s. events_of h.request.slot (cond (run_out s) (Done x.request.slot ∷ dones (map later hs)) (dones (map later hs)))) f.0.1
          ∙ events_of_none key expired h.request.slot (map later hs) (some_later h.request.slot hs ∙ ap (λ m. any (has m) hs) (sym z) ∙ a.0),
    ))
    (λ f.
    let in_rest : any (has h.request.slot) hs ≡ true = sym (some_later h.request.slot hs) ∙ next_in k (map later hs) h f.0 in
    let other = some_self key h.request.slot hs x.request.slot a.0 in_rest in
    let ih = next_stands k hs h a.1 f.0 in (
      ap (λ b. cond b (cond (is_some x.until_done) Standing.in_flight Standing.waiting) (standing h.request.slot (map reading_of hs))) other ∙ ih.0,
      events_of_skip h.request.slot x.request.slot (dones (map later hs)) (expired (later x)) other ∙ ih.1,
    ))
    (at_head k (later x) (map later hs) h e)

proper_issued_at : (n m : ℕ) (ds : List Event) (st : Standing) (b : Bool) → (b ≡ true → (st ≡ Standing.waiting) × (events_of n ds ≡ [])) → Proper st (events_of n ds) → Proper st (events_of n ds ++ cond b (Issue m ∷ []) [])
proper_issued_at n m ds st true k r =
    let j = k refl in
    subst (λ s. Proper s (events_of n ds ++ (Issue m ∷ []))) (sym j.0) (subst (λ l. Proper Standing.waiting (l ++ (Issue m ∷ []))) (sym j.1) tt)
proper_issued_at n m ds st false k r = subst (Proper st) (sym (append-nil (events_of n ds))) r

pub stepped_proper : (hs ls : List Entry) (es : List Event) → Apart key hs → Stepped hs ls es → ((n : ℕ) → Proper (standing n (map reading_of hs)) (events_of n es))
stepped_proper hs ls es a st n = ⊎_elim moved sent st
  where
    moved : Moved hs ls es → Proper (standing n (map reading_of hs)) (events_of n es)
    moved m = subst (λ ds. Proper (standing n (map reading_of hs)) (events_of n ds)) (sym m.1) (proper_dones n hs a)

    sent : Sent hs ls es → Proper (standing n (map reading_of hs)) (events_of n es)
    sent m =
        let h = m.1 in
        subst (λ ds. Proper (standing n (map reading_of hs)) (events_of n ds)) (sym m.4)
        (subst (Proper (standing n (map reading_of hs))) (sym (events_of_append n (dones (map later hs)) (Issue h.request.slot ∷ [])))
        (proper_issued_at n h.request.slot (dones (map later hs)) (standing n (map reading_of hs)) (eqb h.request.slot n)
        (λ t. subst (λ j. (standing j (map reading_of hs) ≡ Standing.waiting) × (events_of j (dones (map later hs)) ≡ [])) (eqb-true _ _ t) (next_stands m.0 hs h a m.2))
        (proper_dones n hs a)))

-- ---- steps left

abbrev pub Enough : Option ℕ → ℕ → Type 0
Enough None left = 1 ≤ left
Enough (Some n) left = n ≤ left

-- no request that waits has its last step behind it, and one that is issued is done in time
abbrev pub Ample : List Entry → Type 0
Ample [] = Unit {0}
Ample (h ∷ hs) = Enough h.until_done h.left × Ample hs

punctual_at : (q : Request) (s : Option ℕ) (l : ℕ) (ds es : List Event) → Enough s l → ((n : ℕ) → any (ends n) (cond (run_out s) (Done q.slot ∷ ds) ds) ≡ true → any (ends n) es ≡ true) → l ≡ 0 → any (ends q.slot) es ≡ true
punctual_at q None l ds es t i e = absurd (omega arith)
punctual_at q (Some n) l ds es t i e =
    let z : n ≡ 0 = omega arith in
    i q.slot (ap (λ b. any (ends q.slot) (cond b (Done q.slot ∷ ds) ds)) (eq-eqb _ _ z) ∙ or_left _ _ (same q.slot))

punctual_all : (ls : List Entry) (es : List Event) → Ample ls → ((n : ℕ) → any (ends n) (dones ls) ≡ true → any (ends n) es ≡ true) → Punctual (map reading_of ls) es
punctual_all [] es t i = tt
punctual_all (h ∷ ls) es t i = (
  punctual_at h.request h.until_done h.left (dones ls) es t.0 i,
  punctual_all ls es t.1 (λ n k. i n (done_more n h.request.slot (expired h) (dones ls) k)),
)

waiting_left : (s : Option ℕ) (l : ℕ) → s ≡ None → Enough s l → l ≡ 0 → ⊥
waiting_left None l e t z = omega arith
waiting_left (Some n) l e t z = let y : ◌≡◌ {A = ℕ} 0 1 = cc in omega arith

punctual_issued : (k : Request → Bool) (ls : List Entry) (h : Entry) (es : List Event) → Ample ls → next_of k ls ≡ Some h → ((n : ℕ) → any (ends n) (dones ls) ≡ true → any (ends n) es ≡ true) → Punctual (map reading_of (issue_next k ls)) es
punctual_issued k [] h es t e i = tt
punctual_issued k (x ∷ ls) h es t e i =
    let j : (n : ℕ) → any (ends n) (dones ls) ≡ true → any (ends n) es ≡ true = λ n q. i n (done_more n x.request.slot (expired x) (dones ls) q) in
    ⊎_elim
    (λ f. subst (λ l. Punctual (map reading_of l) es) (sym f.1) (λ z. absurd (waiting_left x.until_done x.left f.0.1 t.0 z), punctual_all ls es t.1 j))
    (λ f. subst (λ l. Punctual (map reading_of l) es) (sym f.1) (punctual_at x.request x.until_done x.left (dones ls) es t.0 i, punctual_issued k ls h es t.1 f.0 j))
    (at_head k x ls h e)

pub stepped_punctual : (hs ls : List Entry) (es : List Event) → Ample (map later hs) → Stepped hs ls es → Punctual (map reading_of ls) es
stepped_punctual hs ls es t = ⊎_elim moved sent
  where
    moved : Moved hs ls es → Punctual (map reading_of ls) es
    moved m = subst (λ l. Punctual (map reading_of l) es) (sym m.0) (punctual_all (map later hs) es t (λ n k. ap (any (ends n)) m.1 ∙ k))

    sent : Sent hs ls es → Punctual (map reading_of ls) es
    sent m =
        subst (λ l. Punctual (map reading_of l) es) (sym m.3)
        (punctual_issued m.0 (map later hs) m.1 es t m.2 (λ n k. ap (any (ends n)) m.4 ∙ ends_before n (dones (map later hs)) (Issue m.1.request.slot ∷ []) k))

-- ---- how many Dones there are

pub length_dones : (hs : List Entry) → length (dones hs) ≤ length hs
length_dones hs = dones_few key expired hs
