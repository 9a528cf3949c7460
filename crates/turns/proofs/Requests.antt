-- The request of an Issue is found again among the takings.
use Rattle.std.proofs.Common.{◌≡◌, ℕ, ◌+◌, ◌<◌, ◌≤◌, Bool, true, false, cond, ◌&&◌, eqb, leb, List, [], ◌∷◌, ◌++◌, map, Some, None, Option, sym, refl, ap, ◌∙◌, ⊎_elim, append_assoc, arith, le-leb}
use borrow.Author.Tests.{lt-leb}
use Rattle.interface.specs.Meaning.{any}
use Rattle.interface.specs.History.{Taking, Occurrence, Issuance}
use Rattle.interface.specs.Slots.{dropped, passing}
use Rattle.interface.specs.declared.Request.{Request}
use Rattle.interface.proofs.Bools.{or_false, eqb_comm, same}
use Rattle.held.specs.declared.entries.Entry.{Entry}
use Rattle.held.specs.Entries.{later, key, has, candidate, next_of, issue_next, issued_now, new_entry}
use Rattle.held.proofs.Stepping.{at_head, no_next}
use Rattle.turns.specs.Laws.{or_else, last_taken, issuance_of, issued_among, occurrences, Before}

-- ---- the last taking of a slot

and_false : (a : Bool) → (a && false) ≡ false
and_false true = refl
and_false false = refl

-- one more taking, after the step
last_later : (n t : ℕ) (ks : List Taking) (k : Taking) → t < k.from → last_taken n t (ks ++ (k ∷ [])) ≡ last_taken n t ks
last_later n t [] k l =
    ap (λ b. cond (eqb k.request.slot n && b) (Some k.request) None) (lt-leb k.from t l) ∙ ap (λ b. cond b (Some k.request) None) (and_false (eqb k.request.slot n))
last_later n t (j ∷ ks) k l = ap (λ o. or_else o (cond (eqb j.request.slot n && leb j.from t) (Some j.request) None)) (last_later n t ks k l)

-- one more taking, with another slot
last_other : (n t : ℕ) (ks : List Taking) (k : Taking) → eqb k.request.slot n ≡ false → last_taken n t (ks ++ (k ∷ [])) ≡ last_taken n t ks
last_other n t [] k e = ap (λ b. cond (b && leb k.from t) (Some k.request) None) e
last_other n t (j ∷ ks) k e = ap (λ o. or_else o (cond (eqb j.request.slot n && leb j.from t) (Some j.request) None)) (last_other n t ks k e)

-- one more taking, with this slot
last_this : (t : ℕ) (ks : List Taking) (k : Taking) → k.from ≤ t → last_taken k.request.slot t (ks ++ (k ∷ [])) ≡ Some k.request
last_this t [] k l =
    ap (λ b. cond (b && leb k.from t) (Some k.request) None) (same k.request.slot) ∙ ap (λ b. cond b (Some k.request) None) (le-leb k.from t l)
last_this t (j ∷ ks) k l = ap (λ o. or_else o (cond (eqb j.request.slot k.request.slot && leb j.from t) (Some j.request) None)) (last_this t ks k l)

-- ---- the requests that were issued

-- all the events came before step n
abbrev pub Past : ℕ → List Occurrence → Type 0
Past n [] = Unit {0}
Past n (o ∷ os) = (o.at < n) × Past n os

pub past_more : (n : ℕ) (os : List Occurrence) → Past n os → Past (n + 1) os
past_more n [] p = tt
past_more n (o ∷ os) p = (omega (arith, p.0), past_more n os p.1)

pub past_append : (n : ℕ) (os : List Occurrence) (o : Occurrence) → Past n os → o.at < n → Past n (os ++ (o ∷ []))
past_append n [] o p l = (l, tt)
past_append n (x ∷ os) o p l = (p.0, past_append n os o p.1 l)

-- a taking changes nothing of what was issued
pub among_take : (n : ℕ) (ks : List Taking) (os : List Occurrence) (k : Taking) → Past n os → n ≤ k.from → issued_among (ks ++ (k ∷ [])) os ≡ issued_among ks os
among_take n ks [] k p l = refl
among_take n ks (o ∷ os) k p l =
    ap (λ x. issuance_of x o.at ++ issued_among (ks ++ (k ∷ [])) os) (last_later o.slot o.at ks k (omega (arith, p.0)))
    ∙ ap (λ is. issuance_of (last_taken o.slot o.at ks) o.at ++ is) (among_take n ks os k p.1 l)

-- one more issue
pub among_issue : (ks : List Taking) (os : List Occurrence) (q : Request) (n : ℕ) → last_taken q.slot n ks ≡ Some q
    → issued_among ks (os ++ (record { slot = q.slot; at = n } ∷ [])) ≡ issued_among ks os ++ (record { request = q; at = n } ∷ [])
among_issue ks [] q n e = ap (λ x. issuance_of x n ++ []) e
among_issue ks (o ∷ os) q n e =
    ap (λ is. issuance_of (last_taken o.slot o.at ks) o.at ++ is) (among_issue ks os q n e)
    ∙ sym (append_assoc (issuance_of (last_taken o.slot o.at ks) o.at) (issued_among ks os) (record { request = q; at = n } ∷ []))

pub before_among : (n : ℕ) (ks : List Taking) (os : List Occurrence) → Past n os → Before n (issued_among ks os)
before_among n ks [] p = tt
before_among n ks (o ∷ os) p = go (last_taken o.slot o.at ks) (before_among n ks os p.1)
  where
    go : (x : Option Request) → Before n (issued_among ks os) → Before n (issuance_of x o.at ++ issued_among ks os)
    go None b = b
    go (Some q) b = (p.0, b)

pub before_passing : (n : ℕ) (p : Issuance → Bool) (is : List Issuance) → Before n is → Before n (passing p is)
before_passing n p [] b = tt
before_passing n p (i ∷ is) b = go (p i) (before_passing n p is b.1)
  where
    go : (t : Bool) → Before n (passing p is) → Before n (cond t (i ∷ passing p is) (passing p is))
    go true c = (b.0, c)
    go false c = c

pub occurrences_append : (is : List Issuance) (i : Issuance) → occurrences (is ++ (i ∷ [])) ≡ occurrences is ++ (record { slot = i.request.slot; at = i.at } ∷ [])
occurrences_append [] i = refl
occurrences_append (x ∷ is) i = ap (λ os. record { slot = x.request.slot; at = x.at } ∷ os) (occurrences_append is i)

-- ---- each held request is the last that was taken with its slot, from step n on

abbrev pub Owned : ℕ → List Taking → List Entry → Type 0
Owned n ks [] = Unit {0}
Owned n ks (h ∷ hs) = ((t : ℕ) → n ≤ t → last_taken h.request.slot t ks ≡ Some h.request) × Owned n ks hs

pub owned_more : (n : ℕ) (ks : List Taking) (hs : List Entry) → Owned n ks hs → Owned (n + 1) ks hs
owned_more n ks [] w = tt
owned_more n ks (h ∷ hs) w = (λ t l. w.0 t (omega arith), owned_more n ks hs w.1)

pub owned_later : (n : ℕ) (ks : List Taking) (hs : List Entry) → Owned n ks hs → Owned n ks (map later hs)
owned_later n ks [] w = tt
owned_later n ks (h ∷ hs) w = (w.0, owned_later n ks hs w.1)

pub owned_issued : (n : ℕ) (ks : List Taking) (k : Request → Bool) (hs : List Entry) → Owned n ks hs → Owned n ks (issue_next k hs)
owned_issued n ks k [] w = tt
owned_issued n ks k (h ∷ hs) w = go (candidate k h) (owned_issued n ks k hs w.1)
  where
    go : (b : Bool) → Owned n ks (issue_next k hs) → Owned n ks (cond b (issued_now h ∷ hs) (h ∷ issue_next k hs))
    go true v = w
    go false v = (w.0, v)

pub owned_dropped : (n m : ℕ) (ks : List Taking) (hs : List Entry) → Owned n ks hs → Owned n ks (dropped key m hs)
owned_dropped n m ks [] w = tt
owned_dropped n m ks (h ∷ hs) w = go (has m h) (owned_dropped n m ks hs w.1)
  where
    go : (b : Bool) → Owned n ks (dropped key m hs) → Owned n ks (cond b hs (h ∷ dropped key m hs))
    go true v = w.1
    go false v = (w.0, v)

pub owned_take : (n m : ℕ) (ks : List Taking) (q : Request) (hs : List Entry) → any (has q.slot) hs ≡ false → Owned n ks hs → Owned n (ks ++ (record { request = q; from = n } ∷ [])) (hs ++ (new_entry m q ∷ []))
owned_take n m ks q [] a w = (λ t l. last_this t ks (record { request = q; from = n }) l, tt)
owned_take n m ks q (h ∷ hs) a w =
    let j = or_false (has q.slot h) _ a in
    (λ t l. last_other h.request.slot t ks (record { request = q; from = n }) (eqb_comm q.slot h.request.slot ∙ j.0) ∙ w.0 t l, owned_take n m ks q hs j.1 w.1)

-- ---- the next of a class

pub owned_next : (n : ℕ) (ks : List Taking) (k : Request → Bool) (hs : List Entry) (x : Entry) → next_of k hs ≡ Some x → Owned n ks hs → last_taken x.request.slot n ks ≡ Some x.request
owned_next n ks k [] x e w = absurd (no_next k x e)
owned_next n ks k (h ∷ hs) x e w =
    ⊎_elim
    (λ f. ap (λ (y : Entry). last_taken y.request.slot n ks) (sym f.0.2) ∙ w.0 n (omega arith) ∙ ap (λ (y : Entry). Some y.request) f.0.2)
    (λ f. owned_next n ks k hs x f.0 w.1)
    (at_head k h hs x e)

pub next_class : (k : Request → Bool) (hs : List Entry) (x : Entry) → next_of k hs ≡ Some x → k x.request ≡ true
next_class k [] x e = absurd (no_next k x e)
next_class k (h ∷ hs) x e = ⊎_elim (λ f. ap (λ (y : Entry). k y.request) (sym f.0.2) ∙ f.0.0) (λ f. next_class k hs x f.0) (at_head k h hs x e)
