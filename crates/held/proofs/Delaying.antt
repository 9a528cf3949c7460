-- Issued entries beside a history of issues: when their Dones come.
use Rattle.std.proofs.Common.{◌≡◌, ℕ, zero, suc, ◌+◌, ◌-◌, ◌<◌, ◌≤◌, Bool, true, false, cond, ◌&&◌, ◌||◌, eqb, leb, List, [], ◌∷◌, ◌++◌, map, Some, Option, None, sym, refl, ap, ◌∙◌, arith, lit≤, eq-eqb, ne_eqb, eqb-true, le-leb, leb-false, leb-true}
use borrow.Author.Tests.{both_ways, eqb-false}
use Rattle.std.specs.Option.{is_some}
use Rattle.interface.specs.Meaning.{any}
use Rattle.interface.specs.Lawful.{ends}
use Rattle.interface.specs.History.{Occurrence, Issuance, issued_in, ended_in}
use Rattle.interface.specs.Slots.{dropped}
use Rattle.interface.specs.declared.Request.{Request}
use Rattle.interface.specs.declared.Kind.{Kind}
use Rattle.interface.specs.declared.Kind.TheVariants.{Read, Write}
use Rattle.interface.specs.declared.Event.{Event}
use Rattle.interface.specs.declared.Event.TheVariants.{Issue, Done}
use Rattle.interface.proofs.Bools.{or_false, or_left, eqb_comm, same}
use Rattle.interface.proofs.Slots.{Apart, Traced, marked, marked_has, done_more}
use Rattle.held.specs.declared.entries.Entry.{Entry}
use Rattle.held.specs.Entries.{later, sooner, expired, run_out, done_delay, key, has, dones, anyone, next_of, issue_next, is_issued, new_entry}
use Rattle.held.specs.Delays.{dones_at, dones_before}

-- ---- the Dones of a step

pub expired_issued_at : (s : Option ℕ) → run_out s ≡ true → is_some s ≡ true
expired_issued_at None e = e
expired_issued_at (Some n) e = refl

pub expired_issued : (h : Entry) → expired h ≡ true → is_issued h ≡ true
expired_issued h e = expired_issued_at h.until_done e

pub delay_not : (k : Kind) → eqb (done_delay k) 0 ≡ false
delay_not Read = refl
delay_not Write = refl

pub traced_end : (p : Entry → Bool) (es : List Event) (hs : List Entry) (n : ℕ) → Traced key p es hs → Traced key p (es ++ (Issue n ∷ [])) hs
traced_end p [] hs n t = tt
traced_end p (Issue m ∷ es) hs n t = traced_end p es hs n t
traced_end p (Done m ∷ es) hs n t = (t.0, traced_end p es (dropped key m hs) n t.1)

pub issued_dones_at : (t m : ℕ) (ds : List Event) (is : List Occurrence) (b : Bool) → issued_in t ds ≡ is → issued_in t (cond b (Done m ∷ ds) ds) ≡ is
issued_dones_at t m ds is true e = e
issued_dones_at t m ds is false e = e

pub issued_dones : (t : ℕ) (hs : List Entry) → issued_in t (dones hs) ≡ []
issued_dones t [] = refl
issued_dones t (h ∷ hs) = issued_dones_at t h.request.slot (dones hs) [] (expired h) (issued_dones t hs)

pub issued_append : (t m : ℕ) (es : List Event) → issued_in t (es ++ (Issue m ∷ [])) ≡ issued_in t es ++ (record { slot = m; at = t } ∷ [])
issued_append t m [] = refl
issued_append t m (Issue n ∷ es) = ap (λ l. record { slot = n; at = t } ∷ l) (issued_append t m es)
issued_append t m (Done n ∷ es) = issued_append t m es

-- ---- the countdowns to the Dones

pub less_one : (m : ℕ) → suc m - 1 ≡ m
less_one m = omega arith

abbrev pub counting : Option ℕ → ℕ → List (ℕ × ℕ) → List (ℕ × ℕ)
counting None n fs = fs
counting (Some zero) n fs = fs
counting (Some (suc m)) n fs = (n, m) ∷ fs

-- the slots that are issued, each with the steps before that of its Done
abbrev pub countdowns : List Entry → List (ℕ × ℕ)
countdowns [] = []
countdowns (h ∷ hs) = counting h.until_done h.request.slot (countdowns hs)

abbrev pub outstanding : ℕ → List Issuance → List (ℕ × ℕ)
outstanding n [] = []
outstanding n (s ∷ ss) = cond (leb n (s.at + done_delay s.request.kind)) ((s.request.slot, (s.at + done_delay s.request.kind) - n) ∷ outstanding n ss) (outstanding n ss)

abbrev pub finishing : ℕ → List (ℕ × ℕ) → List Occurrence
finishing n [] = []
finishing n (f ∷ fs) = cond (eqb f.1 0) (record { slot = f.0; at = n } ∷ finishing n fs) (finishing n fs)

abbrev pub lowered : List (ℕ × ℕ) → List (ℕ × ℕ)
lowered [] = []
lowered (f ∷ fs) = cond (eqb f.1 0) (lowered fs) ((f.0, f.1 - 1) ∷ lowered fs)

abbrev pub NoneExpired : List Entry → Type 0
NoneExpired [] = Unit {0}
NoneExpired (h ∷ hs) = (expired h ≡ false) × NoneExpired hs

pub end_one : (n k : ℕ) (ds : List Event) (zs : List Occurrence) (b : Bool) → ended_in n ds ≡ zs → ended_in n (cond b (Done k ∷ ds) ds) ≡ cond b (record { slot = k; at = n } ∷ zs) zs
end_one n k ds zs true e = ap (λ l. record { slot = k; at = n } ∷ l) e
end_one n k ds zs false e = e

pub ended_at_one : (n k : ℕ) (s : Option ℕ) (ds : List Event) (fs : List (ℕ × ℕ)) → run_out s ≡ false → ended_in n ds ≡ finishing n fs → ended_in n (cond (run_out (sooner s)) (Done k ∷ ds) ds) ≡ finishing n (counting s k fs)
ended_at_one n k None ds fs l e = e
ended_at_one n k (Some zero) ds fs l e = absurd (both_ways true l refl)
ended_at_one n k (Some (suc m)) ds fs l e = ap (λ j. ended_in n (cond (eqb j 0) (Done k ∷ ds) ds)) (less_one m) ∙ end_one n k ds (finishing n fs) (eqb m 0) e

pub ended_step : (n : ℕ) (hs : List Entry) → NoneExpired hs → ended_in n (dones (map later hs)) ≡ finishing n (countdowns hs)
ended_step n [] l = refl
ended_step n (h ∷ hs) l = ended_at_one n h.request.slot h.until_done (dones (map later hs)) (countdowns hs) l.0 (ended_step n hs l.1)

pub counting_low : (m k : ℕ) (fs : List (ℕ × ℕ)) → counting (Some m) k fs ≡ cond (eqb m 0) fs ((k, m - 1) ∷ fs)
counting_low zero k fs = refl
counting_low (suc m) k fs = ap (λ j. (k, j) ∷ fs) (sym (less_one m)) ∙ ap (λ b. cond b fs ((k, suc m - 1) ∷ fs)) (sym (ne_eqb (suc m) 0 (λ e. omega arith)))

pub later_one : (k : ℕ) (s : Option ℕ) (gs fs : List (ℕ × ℕ)) → run_out s ≡ false → gs ≡ lowered fs → counting (sooner s) k gs ≡ lowered (counting s k fs)
later_one k None gs fs l e = e
later_one k (Some zero) gs fs l e = absurd (both_ways true l refl)
later_one k (Some (suc m)) gs fs l e = ap (λ j. counting (Some j) k gs) (less_one m) ∙ counting_low m k gs ∙ ap (λ g. cond (eqb m 0) g ((k, m - 1) ∷ g)) e

pub countdowns_later : (hs : List Entry) → NoneExpired hs → countdowns (map later hs) ≡ lowered (countdowns hs)
countdowns_later [] l = refl
countdowns_later (h ∷ hs) l = later_one h.request.slot h.until_done (countdowns (map later hs)) (countdowns hs) l.0 (countdowns_later hs l.1)

pub finishing_one : (n f k : ℕ) (fs : List (ℕ × ℕ)) (ls : List Occurrence) (b c : Bool) → leb n f ≡ b → eqb f n ≡ c → finishing n fs ≡ ls → finishing n (cond b ((k, f - n) ∷ fs) fs) ≡ cond c (record { slot = k; at = n } ∷ ls) ls
finishing_one n f k fs ls true true e g i =
    let z = eqb-true f n g in
    ap (λ b. cond b (record { slot = k; at = n } ∷ finishing n fs) (finishing n fs)) (eq-eqb (f - n) 0 (omega arith)) ∙ ap (λ l. record { slot = k; at = n } ∷ l) i
finishing_one n f k fs ls true false e g i =
    let le = leb-true n f e in
    let ne = eqb-false f n g in
    ap (λ b. cond b (record { slot = k; at = n } ∷ finishing n fs) (finishing n fs)) (ne_eqb (f - n) 0 (λ z. ne (omega arith))) ∙ i
finishing_one n f k fs ls false true e g i = let lt = leb-false n f e in let z = eqb-true f n g in absurd (omega arith)
finishing_one n f k fs ls false false e g i = i

pub finishing_outstanding : (n : ℕ) (ss : List Issuance) → finishing n (outstanding n ss) ≡ dones_at n ss
finishing_outstanding n [] = refl
finishing_outstanding n (s ∷ ss) = finishing_one n (s.at + done_delay s.request.kind) s.request.slot (outstanding n ss) (dones_at n ss) (leb n (s.at + done_delay s.request.kind)) (eqb (s.at + done_delay s.request.kind) n) refl refl (finishing_outstanding n ss)

pub lower_one : (n f k : ℕ) (fs gs : List (ℕ × ℕ)) (b c : Bool) → leb n f ≡ b → leb (n + 1) f ≡ c → lowered fs ≡ gs → lowered (cond b ((k, f - n) ∷ fs) fs) ≡ cond c ((k, f - (n + 1)) ∷ gs) gs
lower_one n f k fs gs true true e g i =
    let le = leb-true (n + 1) f g in
    ap (λ b. cond b (lowered fs) ((k, (f - n) - 1) ∷ lowered fs)) (ne_eqb (f - n) 0 (λ z. omega arith)) ∙ ap (λ j. (k, j) ∷ lowered fs) (let q : (f - n) - 1 ≡ f - (n + 1) = omega arith in q) ∙ ap (λ l. (k, f - (n + 1)) ∷ l) i
lower_one n f k fs gs true false e g i =
    let le = leb-true n f e in
    let lt = leb-false (n + 1) f g in
    ap (λ b. cond b (lowered fs) ((k, (f - n) - 1) ∷ lowered fs)) (eq-eqb (f - n) 0 (omega arith)) ∙ i
lower_one n f k fs gs false true e g i = let lt = leb-false n f e in let le = leb-true (n + 1) f g in absurd (omega arith)
lower_one n f k fs gs false false e g i = i

pub lowered_outstanding : (n : ℕ) (ss : List Issuance) → lowered (outstanding n ss) ≡ outstanding (n + 1) ss
lowered_outstanding n [] = refl
lowered_outstanding n (s ∷ ss) = lower_one n (s.at + done_delay s.request.kind) s.request.slot (outstanding n ss) (outstanding (n + 1) ss) (leb n (s.at + done_delay s.request.kind)) (leb (n + 1) (s.at + done_delay s.request.kind)) refl refl (lowered_outstanding n ss)

-- ---- entries of which those that are issued come before those that wait

abbrev pub AllWaiting : List Entry → Type 0
AllWaiting [] = Unit {0}
AllWaiting (h ∷ hs) = (h.until_done ≡ None) × AllWaiting hs

abbrev pub After : Option ℕ → List Entry → Type 0
After None hs = AllWaiting hs
After (Some n) hs = Unit {0}

abbrev pub IssuedFirst : List Entry → Type 0
IssuedFirst [] = Unit {0}
IssuedFirst (h ∷ hs) = After h.until_done hs × IssuedFirst hs

pub waiting_countdowns : (hs : List Entry) → AllWaiting hs → countdowns hs ≡ []
waiting_countdowns [] a = refl
waiting_countdowns (h ∷ hs) a = ap (λ s. counting s h.request.slot (countdowns hs)) a.0 ∙ waiting_countdowns hs a.1

pub waiting_later_all : (hs : List Entry) → AllWaiting hs → AllWaiting (map later hs)
waiting_later_all [] a = tt
waiting_later_all (h ∷ hs) a = (ap sooner a.0, waiting_later_all hs a.1)

pub after_later : (s : Option ℕ) (hs : List Entry) → After s hs → After (sooner s) (map later hs)
after_later None hs a = waiting_later_all hs a
after_later (Some n) hs a = tt

pub ordered_later : (hs : List Entry) → IssuedFirst hs → IssuedFirst (map later hs)
ordered_later [] o = tt
ordered_later (h ∷ hs) o = (after_later h.until_done hs o.0, ordered_later hs o.1)

pub waiting_append : (hs : List Entry) (n : ℕ) (q : Request) → AllWaiting hs → AllWaiting (hs ++ (new_entry n q ∷ []))
waiting_append [] n q a = (refl, tt)
waiting_append (h ∷ hs) n q a = (a.0, waiting_append hs n q a.1)

pub after_append : (s : Option ℕ) (hs : List Entry) (n : ℕ) (q : Request) → After s hs → After s (hs ++ (new_entry n q ∷ []))
after_append None hs n q a = waiting_append hs n q a
after_append (Some m) hs n q a = tt

pub ordered_append : (hs : List Entry) (n : ℕ) (q : Request) → IssuedFirst hs → IssuedFirst (hs ++ (new_entry n q ∷ []))
ordered_append [] n q o = (tt, tt)
ordered_append (h ∷ hs) n q o = (after_append h.until_done hs n q o.0, ordered_append hs n q o.1)

pub waiting_dropped_at : (m : ℕ) (h : Entry) (hs : List Entry) (b : Bool) → AllWaiting (h ∷ hs) → AllWaiting (dropped key m hs) → AllWaiting (cond b hs (h ∷ dropped key m hs))
waiting_dropped_at m h hs true a i = a.1
waiting_dropped_at m h hs false a i = (a.0, i)

pub waiting_dropped : (m : ℕ) (hs : List Entry) → AllWaiting hs → AllWaiting (dropped key m hs)
waiting_dropped m [] a = tt
waiting_dropped m (h ∷ hs) a = waiting_dropped_at m h hs (eqb h.request.slot m) a (waiting_dropped m hs a.1)

pub after_dropped : (s : Option ℕ) (m : ℕ) (hs : List Entry) → After s hs → After s (dropped key m hs)
after_dropped None m hs a = waiting_dropped m hs a
after_dropped (Some n) m hs a = tt

pub ordered_dropped_at : (m : ℕ) (h : Entry) (hs : List Entry) (b : Bool) → IssuedFirst (h ∷ hs) → IssuedFirst (dropped key m hs) → IssuedFirst (cond b hs (h ∷ dropped key m hs))
ordered_dropped_at m h hs true o i = o.1
ordered_dropped_at m h hs false o i = (after_dropped h.until_done m hs o.0, i)

pub ordered_dropped : (m : ℕ) (hs : List Entry) → IssuedFirst hs → IssuedFirst (dropped key m hs)
ordered_dropped m [] o = tt
ordered_dropped m (h ∷ hs) o = ordered_dropped_at m h hs (eqb h.request.slot m) o (ordered_dropped m hs o.1)

pub ordered_issued_at : (q : Request) (s : Option ℕ) (l : ℕ) (hs : List Entry) → IssuedFirst (record { request = q; until_done = s; left = l } ∷ hs) → IssuedFirst (issue_next anyone hs) → IssuedFirst (issue_next anyone (record { request = q; until_done = s; left = l } ∷ hs))
ordered_issued_at q None l hs o i = (tt, o.1)
ordered_issued_at q (Some n) l hs o i = (tt, i)

pub ordered_issued : (hs : List Entry) → IssuedFirst hs → IssuedFirst (issue_next anyone hs)
ordered_issued [] o = tt
ordered_issued (h ∷ hs) o = ordered_issued_at h.request h.until_done h.left hs o (ordered_issued hs o.1)

pub counting_delay : (k : Kind) (n : ℕ) → counting (Some (done_delay k)) n [] ≡ (n, done_delay k - 1) ∷ []
counting_delay k n = counting_low (done_delay k) n [] ∙ ap (λ b. cond b [] ((n, done_delay k - 1) ∷ [])) (delay_not k)

pub countdowns_issued_at : (x : Entry) (q : Request) (s : Option ℕ) (l : ℕ) (hs : List Entry) → After s hs
    → (next_of anyone hs ≡ Some x → countdowns (issue_next anyone hs) ≡ countdowns hs ++ ((x.request.slot, done_delay x.request.kind - 1) ∷ []))
    → next_of anyone (record { request = q; until_done = s; left = l } ∷ hs) ≡ Some x
    → countdowns (issue_next anyone (record { request = q; until_done = s; left = l } ∷ hs)) ≡ counting s q.slot (countdowns hs) ++ ((x.request.slot, done_delay x.request.kind - 1) ∷ [])
countdowns_issued_at x q None l hs a ih e =
    let z : ◌≡◌ {A = Entry} (record { request = q; until_done = None; left = l }) x = cc in
    let w = waiting_countdowns hs a in
    ap (counting (Some (done_delay q.kind)) q.slot) w ∙ counting_delay q.kind q.slot
    ∙ ap {B = List (ℕ × ℕ)} (λ (y : Entry). (y.request.slot, done_delay y.request.kind - 1) ∷ []) z ∙ ap (λ fs. fs ++ ((x.request.slot, done_delay x.request.kind - 1) ∷ [])) (sym w)
countdowns_issued_at x q (Some zero) l hs a ih e = ih e
countdowns_issued_at x q (Some (suc m)) l hs a ih e = ap (λ fs. (q.slot, m) ∷ fs) (ih e)

pub countdowns_issued : (x : Entry) (hs : List Entry) → IssuedFirst hs → next_of anyone hs ≡ Some x → countdowns (issue_next anyone hs) ≡ countdowns hs ++ ((x.request.slot, done_delay x.request.kind - 1) ∷ [])
countdowns_issued x [] o e = let z : ◌≡◌ {A = ℕ} 0 1 = cc in absurd (omega arith)
countdowns_issued x (h ∷ hs) o e = countdowns_issued_at x h.request h.until_done h.left hs o.0 (countdowns_issued x hs o.1) e

pub countdowns_append : (hs : List Entry) (n : ℕ) (q : Request) → countdowns (hs ++ (new_entry n q ∷ [])) ≡ countdowns hs
countdowns_append [] n q = refl
countdowns_append (h ∷ hs) n q = ap (counting h.until_done h.request.slot) (countdowns_append hs n q)

pub expired_counting : (s : Option ℕ) (k : ℕ) (fs : List (ℕ × ℕ)) → run_out s ≡ true → fs ≡ counting s k fs
expired_counting None k fs e = refl
expired_counting (Some zero) k fs e = refl
expired_counting (Some (suc m)) k fs e = let z = eqb-true (suc m) 0 e in absurd (omega arith)

pub countdowns_dropped_at : (n : ℕ) (h : Entry) (hs : List Entry) (b d : Bool) → eqb h.request.slot n ≡ b → expired h ≡ d → any (has h.request.slot) hs ≡ false → ((b && d) || marked key expired n hs) ≡ true
    → (marked key expired n hs ≡ true → countdowns (dropped key n hs) ≡ countdowns hs) → countdowns (cond b hs (h ∷ dropped key n hs)) ≡ counting h.until_done h.request.slot (countdowns hs)
countdowns_dropped_at n h hs true true e l a m ih = expired_counting h.until_done h.request.slot (countdowns hs) l
countdowns_dropped_at n h hs true false e l a m ih = absurd (marked_has key expired n hs (ap (λ j. any (has j) hs) (sym (eqb-true _ _ e)) ∙ a) m)
countdowns_dropped_at n h hs false d e l a m ih = ap (counting h.until_done h.request.slot) (ih m)

pub countdowns_dropped : (n : ℕ) (hs : List Entry) → Apart key hs → marked key expired n hs ≡ true → countdowns (dropped key n hs) ≡ countdowns hs
countdowns_dropped n [] a m = refl
countdowns_dropped n (h ∷ hs) a m = countdowns_dropped_at n h hs (eqb h.request.slot n) (expired h) refl refl a.0 m (countdowns_dropped n hs a.1)

-- ---- each that has expired has its Done ready

abbrev pub AllReady : List Event → List Entry → Type 0
AllReady es [] = Unit {0}
AllReady es (h ∷ hs) = (expired h ≡ true → any (ends h.request.slot) es ≡ true) × AllReady es hs

pub not_expired : (b : Bool) → (b ≡ true → false ≡ true) → b ≡ false
not_expired true f = absurd (both_ways false refl (f refl))
not_expired false f = refl

pub none_expired : (hs : List Entry) → AllReady [] hs → NoneExpired hs
none_expired [] a = tt
none_expired (h ∷ hs) a = (not_expired (expired h) a.0, none_expired hs a.1)

pub ready_append : (es : List Event) (hs : List Entry) (n : ℕ) (q : Request) → AllReady es hs → AllReady es (hs ++ (new_entry n q ∷ []))
ready_append es [] n q a = (λ e. absurd (both_ways false refl e), tt)
ready_append es (h ∷ hs) n q a = (a.0, ready_append es hs n q a.1)

pub ready_other : (n : ℕ) (es : List Event) (hs : List Entry) → any (has n) hs ≡ false → AllReady (Done n ∷ es) hs → AllReady es hs
ready_other n es [] o a = tt
ready_other n es (h ∷ hs) o a =
    let j = or_false (has n h) _ o in
    (λ e. sym (ap (λ b. b || any (ends h.request.slot) es) (eqb_comm n h.request.slot ∙ j.0)) ∙ a.0 e, ready_other n es hs j.1 a.1)

pub ready_dropped_at : (n : ℕ) (es : List Event) (h : Entry) (hs : List Entry) (b : Bool) → eqb h.request.slot n ≡ b → any (has h.request.slot) hs ≡ false → AllReady (Done n ∷ es) (h ∷ hs) → AllReady es (dropped key n hs) → AllReady es (cond b hs (h ∷ dropped key n hs))
ready_dropped_at n es h hs true e o a i = ready_other n es hs (ap (λ j. any (has j) hs) (sym (eqb-true _ _ e)) ∙ o) a.1
ready_dropped_at n es h hs false e o a i = (λ l. sym (ap (λ b. b || any (ends h.request.slot) es) (eqb_comm n h.request.slot ∙ e)) ∙ a.0 l, i)

pub ready_dropped : (n : ℕ) (es : List Event) (hs : List Entry) → Apart key hs → AllReady (Done n ∷ es) hs → AllReady es (dropped key n hs)
ready_dropped n es [] o a = tt
ready_dropped n es (h ∷ hs) o a = ready_dropped_at n es h hs (eqb h.request.slot n) refl o.0 a (ready_dropped n es hs o.1 a.1)

pub ready_dones : (hs : List Entry) (es : List Event) → ((n : ℕ) → any (ends n) (dones hs) ≡ true → any (ends n) es ≡ true) → AllReady es hs
ready_dones [] es i = tt
ready_dones (h ∷ hs) es i = (
  λ l. i h.request.slot (ap (λ b. any (ends h.request.slot) (cond b (Done h.request.slot ∷ dones hs) (dones hs))) l ∙ or_left _ _ (same h.request.slot)),
  ready_dones hs es (λ n k. i n (done_more n h.request.slot (expired h) (dones hs) k)),
)

-- ---- one issue more

pub outstanding_append : (n : ℕ) (ss : List Issuance) (s : Issuance) → outstanding n (ss ++ (s ∷ [])) ≡ outstanding n ss ++ outstanding n (s ∷ [])
outstanding_append n [] s = refl
outstanding_append n (x ∷ ss) s = push (leb n (x.at + done_delay x.request.kind)) (outstanding_append n ss s)
  where
    push : (b : Bool) → outstanding n (ss ++ (s ∷ [])) ≡ outstanding n ss ++ outstanding n (s ∷ []) → cond b ((x.request.slot, (x.at + done_delay x.request.kind) - n) ∷ outstanding n (ss ++ (s ∷ []))) (outstanding n (ss ++ (s ∷ []))) ≡ cond b ((x.request.slot, (x.at + done_delay x.request.kind) - n) ∷ outstanding n ss) (outstanding n ss) ++ outstanding n (s ∷ [])
    push true e = ap (λ l. (x.request.slot, (x.at + done_delay x.request.kind) - n) ∷ l) e
    push false e = e

pub delay_least : (k : Kind) → 1 ≤ done_delay k
delay_least Read = lit≤ tt
delay_least Write = lit≤ tt

pub outstanding_new : (n : ℕ) (q : Request) → outstanding (n + 1) (record { request = q; at = n } ∷ []) ≡ (q.slot, done_delay q.kind - 1) ∷ []
outstanding_new n q =
    let f = delay_least q.kind in
    ap (λ b. cond b ((q.slot, (n + done_delay q.kind) - (n + 1)) ∷ []) []) (le-leb (n + 1) (n + done_delay q.kind) (omega arith))
    ∙ ap {B = List (ℕ × ℕ)} (λ j. (q.slot, j) ∷ []) (let z : (n + done_delay q.kind) - (n + 1) ≡ done_delay q.kind - 1 = omega arith in z)

pub dones_at_same : (t : ℕ) (ss : List Issuance) (s : Issuance) → t < s.at + done_delay s.request.kind → dones_at t (ss ++ (s ∷ [])) ≡ dones_at t ss
dones_at_same t [] s l = ap (λ b. cond b (record { slot = s.request.slot; at = t } ∷ []) []) (ne_eqb (s.at + done_delay s.request.kind) t (λ e. omega arith))
dones_at_same t (x ∷ ss) s l = ap (λ r. cond (eqb (x.at + done_delay x.request.kind) t) (record { slot = x.request.slot; at = t } ∷ r) r) (dones_at_same t ss s l)

pub dones_before_same : (t : ℕ) (ss : List Issuance) (s : Issuance) → t ≤ s.at + done_delay s.request.kind → dones_before t (ss ++ (s ∷ [])) ≡ dones_before t ss
dones_before_same zero ss s l = refl
dones_before_same (suc t) ss s l = let k : t ≤ s.at + done_delay s.request.kind = omega arith in ap (λ r. r ++ dones_at t (ss ++ (s ∷ []))) (dones_before_same t ss s k) ∙ ap (λ r. dones_before t ss ++ r) (dones_at_same t ss s l)

pub ended_issue : (n m : ℕ) (es : List Event) → ended_in n (es ++ (Issue m ∷ [])) ≡ ended_in n es
ended_issue n m [] = refl
ended_issue n m (Issue k ∷ es) = ended_issue n m es
ended_issue n m (Done k ∷ es) = ap (λ l. record { slot = k; at = n } ∷ l) (ended_issue n m es)
