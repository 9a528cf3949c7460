-- A step makes no more events ready than a table has room for.
use Rattle.std.proofs.Common.{◌≡◌, ℕ, suc, ◌+◌, ◌≤◌, Bool, true, false, cond, ◌||◌, eqb, List, [], ◌∷◌, length, sym, refl, ap, ◌∙◌, subst, arith, eqb-true}
use Rattle.interface.specs.Meaning.{any}
use Rattle.interface.specs.Lawful.{Standing, slot_of, events_of, Proper}
use Rattle.interface.specs.declared.Event.{Event}
use Rattle.interface.specs.declared.Event.TheVariants.{Issue, Done}
use Rattle.interface.proofs.Bools.{or_false, same, eqb_comm}
use Rattle.interface.proofs.Slots.{Apart}
use Rattle.layer.specs.declared.entry.Entry.{Entry}
use Rattle.layer.specs.Forwards.{is_issue, everything, forwarded}
use Rattle.layer.specs.Entries.{slot_of_entry}
use Rattle.layer.proofs.Receiving.{has, nobody, stage, EachProper, absent_none}

-- ---- the two ways in which events are handed on

data Way : Type 0 where
  issues : Way
  all : Way

abbrev handed : Way → Event → Bool
handed Way.issues = is_issue
handed Way.all = everything

pub forwarded_all : (es : List Event) → forwarded everything es ≡ es
forwarded_all [] = refl
forwarded_all (e ∷ es) = ap (λ l. e ∷ l) (forwarded_all es)

-- ---- the events of a slot are few

abbrev most : Way → ℕ
most Way.issues = 1
most Way.all = 2

in_flight_few : (f : Way) (ds : List Event) → Proper Standing.in_flight ds → suc (length (forwarded (handed f) ds)) ≤ most f
in_flight_few Way.issues [] r = omega arith
in_flight_few Way.all [] r = omega arith
in_flight_few f (Issue n ∷ ds) r = absurd r
in_flight_few Way.issues (Done n ∷ ds) r = let k = ap (λ l. length (forwarded is_issue l)) (absent_none ds r) in omega arith
in_flight_few Way.all (Done n ∷ ds) r = let k = ap (λ l. length (forwarded everything l)) (absent_none ds r) in omega arith

issue_forwarded : (f : Way) (n : ℕ) (ds : List Event) → length (forwarded (handed f) (Issue n ∷ ds)) ≡ suc (length (forwarded (handed f) ds))
issue_forwarded Way.issues n ds = refl
issue_forwarded Way.all n ds = refl

proper_few : (f : Way) (st : Standing) (ds : List Event) → Proper st ds → length (forwarded (handed f) ds) ≤ most f
proper_few f Standing.absent ds r = let k = ap (λ l. length (forwarded (handed f) l)) (absent_none ds r) in omega arith
proper_few f Standing.waiting [] r = omega arith
proper_few f Standing.waiting (Issue n ∷ ds) r = let k = in_flight_few f ds r in let j = issue_forwarded f n ds in omega arith
proper_few f Standing.waiting (Done n ∷ ds) r = absurd r
proper_few f Standing.in_flight ds r = let k = in_flight_few f ds r in omega arith

-- ---- the events of other slots

abbrev strip : ℕ → List Event → List Event
strip n [] = []
strip n (e ∷ es) = cond (eqb (slot_of e) n) (strip n es) (e ∷ strip n es)

length_strip_at : (f : Way) (e : Event) (as' bs cs : List Event) (b v : Bool) → length (forwarded (handed f) as') ≡ length (forwarded (handed f) bs) + length (forwarded (handed f) cs)
    → length (forwarded (handed f) (e ∷ as')) ≡ length (forwarded (handed f) (cond b (e ∷ bs) bs)) + length (forwarded (handed f) (cond b cs (e ∷ cs)))
length_strip_at f e ds bs cs true v k = go (handed f e)
  where
    go : (b : Bool) → length (cond b (e ∷ forwarded (handed f) ds) (forwarded (handed f) ds)) ≡ length (cond b (e ∷ forwarded (handed f) bs) (forwarded (handed f) bs)) + length (forwarded (handed f) cs)
    go true = omega arith
    go false = k
length_strip_at f e ds bs cs false v k = go (handed f e)
  where
    go : (b : Bool) → length (cond b (e ∷ forwarded (handed f) ds) (forwarded (handed f) ds)) ≡ length (forwarded (handed f) bs) + length (cond b (e ∷ forwarded (handed f) cs) (forwarded (handed f) cs))
    go true = omega arith
    go false = k

length_strip : (f : Way) (n : ℕ) (es : List Event) → length (forwarded (handed f) es) ≡ length (forwarded (handed f) (events_of n es)) + length (forwarded (handed f) (strip n es))
length_strip f n [] = omega arith
length_strip f n (e ∷ es) = length_strip_at f e es (events_of n es) (strip n es) (eqb (slot_of e) n) true (length_strip f n es)

strip_same_at : (n : ℕ) (e : Event) (es : List Event) (b : Bool) → eqb (slot_of e) n ≡ b → events_of n (strip n es) ≡ [] → events_of n (cond b (strip n es) (e ∷ strip n es)) ≡ []
strip_same_at n e es true k ih = ih
strip_same_at n e es false k ih = ap (λ b. cond b (e ∷ events_of n (strip n es)) (events_of n (strip n es))) k ∙ ih

strip_same : (n : ℕ) (es : List Event) → events_of n (strip n es) ≡ []
strip_same n [] = refl
strip_same n (e ∷ es) = strip_same_at n e es (eqb (slot_of e) n) refl (strip_same n es)

strip_other_at : (n m : ℕ) (e : Event) (es : List Event) (b : Bool) → eqb n m ≡ false → eqb (slot_of e) n ≡ b → events_of m (strip n es) ≡ events_of m es → events_of m (cond b (strip n es) (e ∷ strip n es)) ≡ events_of m (e ∷ es)
strip_other_at n m e es true o k ih =
    ih ∙ sym (ap (λ b. cond b (e ∷ events_of m es) (events_of m es)) (ap (λ j. eqb j m) (eqb-true (slot_of e) n k) ∙ o))
strip_other_at n m e es false o k ih = ap (λ l. cond (eqb (slot_of e) m) (e ∷ l) l) ih

strip_other : (n m : ℕ) (es : List Event) → eqb n m ≡ false → events_of m (strip n es) ≡ events_of m es
strip_other n m [] o = refl
strip_other n m (e ∷ es) o = strip_other_at n m e es (eqb (slot_of e) n) o refl (strip_other n m es o)

nothing : (es : List Event) → ((n : ℕ) → events_of n es ≡ []) → es ≡ []
nothing [] h = refl
nothing (e ∷ es) h = absurd (never (sym (ap (λ b. cond b (e ∷ events_of (slot_of e) es) (events_of (slot_of e) es)) (same (slot_of e))) ∙ h (slot_of e)))
  where
    never : e ∷ events_of (slot_of e) es ≡ [] → ⊥
    never k = let z : ◌≡◌ {A = ℕ} 0 1 = cc in omega arith

-- ---- all events

abbrev Few : Way → List Event → List Entry → Type 0
Few f es [] = Unit {0}
Few f es (w ∷ ws) = (length (forwarded (handed f) (events_of w.request.slot es)) ≤ most f) × Few f es ws

few_each : (f : Way) (es : List Event) (ws : List Entry) → EachProper nobody es ws → Few f es ws
few_each f es [] r = tt
few_each f es (w ∷ ws) r = (proper_few f (cond w.done Standing.absent (stage w)) (events_of w.request.slot es) r.0, few_each f es ws r.1)

few_strip : (f : Way) (n : ℕ) (es : List Event) (ws : List Entry) → any (has n) ws ≡ false → Few f es ws → Few f (strip n es) ws
few_strip f n es [] a r = tt
few_strip f n es (w ∷ ws) a r =
    let j = or_false (has n w) _ a in
    (subst (λ l. length (forwarded (handed f) l) ≤ most f) (sym (strip_other n w.request.slot es (eqb_comm n w.request.slot ∙ j.0))) r.0, few_strip f n es ws j.1 r.1)

abbrev room : Way → List Entry → ℕ
room f [] = 0
room f (w ∷ ws) = most f + room f ws

none_strip : (k n : ℕ) (es : List Event) (t b : Bool) → eqb k n ≡ b → ((b || t) ≡ false → events_of n es ≡ []) → t ≡ false → events_of n (strip k es) ≡ []
none_strip k n es t true e h z = ap (λ j. events_of n (strip j es)) (eqb-true k n e) ∙ strip_same n es
none_strip k n es t false e h z = strip_other k n es e ∙ h z

count : (f : Way) (es : List Event) (ws : List Entry) → Apart slot_of_entry ws → Few f es ws → ((n : ℕ) → any (has n) ws ≡ false → events_of n es ≡ []) → length (forwarded (handed f) es) ≤ room f ws
count f es [] a r h = let k = ap (λ l. length (forwarded (handed f) l)) (nothing es (λ n. h n refl)) in omega arith
count f es (w ∷ ws) a r h =
    let k = w.request.slot in
    let x = length_strip f k es in
    let y = r.0 in
    let z = count f (strip k es) ws a.1 (few_strip f k es ws a.0 r.1) (λ n e. none_strip k n es (any (has n) ws) (has n w) refl (h n) e) in
    omega arith

room_issues : (ws : List Entry) → room Way.issues ws ≡ length ws
room_issues [] = refl
room_issues (w ∷ ws) = let k = room_issues ws in omega arith

room_all : (ws : List Entry) → room Way.all ws ≡ length ws + length ws
room_all [] = refl
room_all (w ∷ ws) = let k = room_all ws in omega arith

-- no more Issues come than requests are held
pub few_issues : (es : List Event) (ws : List Entry) → Apart slot_of_entry ws → EachProper nobody es ws → ((n : ℕ) → any (has n) ws ≡ false → events_of n es ≡ []) → length (forwarded is_issue es) ≤ length ws
few_issues es ws a r h = let k = count Way.issues es ws a (few_each Way.issues es ws r) h in let j = room_issues ws in omega arith

-- no more events come than twice as many
pub few_events : (es : List Event) (ws : List Entry) → Apart slot_of_entry ws → EachProper nobody es ws → ((n : ℕ) → any (has n) ws ≡ false → events_of n es ≡ []) → length es ≤ length ws + length ws
few_events es ws a r h =
    let k = count Way.all es ws a (few_each Way.all es ws r) h in
    let j = room_all ws in
    let i = ap length (forwarded_all es) in
    omega arith
