-- The laws of turns over whole histories. Steps are counted from 0 at the last reset.
use Rattle.std.specs.Prelude.{◌≡◌, ℕ, ◌*◌, ◌%◌, ◌<◌, cond, ◌&&◌, List, [], ◌∷◌, ◌++◌, Some, None, Option, ◌==◌, nat_eq, nat_le}
use Rattle.interface.specs.Meaning.{Meaning, Call}
use Rattle.interface.specs.History.{History, Taking, Occurrence, Issuance, Served, issuances, history}
use Rattle.interface.specs.Slots.{passing}
use Rattle.interface.specs.declared.Request.{Request}
use Rattle.held.specs.Delays.{dones_before}

-- ---- the request of an Issue: the last that was taken with its slot before its step

abbrev pub or_else : {X : Type 0} → Option X → Option X → Option X
or_else (Some x) o = Some x
or_else None o = o

-- the last request that was taken with slot n before step t
abbrev pub last_taken : ℕ → ℕ → List Taking → Option Request
last_taken n t [] = None
last_taken n t (k ∷ ks) = or_else (last_taken n t ks) (cond (k.request.slot == n && nat_le k.from t) (Some k.request) None)

-- the issue of that request in step t, if there is one
abbrev pub issuance_of : Option Request → ℕ → List Issuance
issuance_of None t = []
issuance_of (Some q) t = record { request = q; at = t } ∷ []

abbrev pub issued_among : List Taking → List Occurrence → List Issuance
issued_among ks [] = []
issued_among ks (o ∷ os) = issuance_of (last_taken o.slot o.at ks) o.at ++ issued_among ks os

-- the requests that were issued, each with the step of its issue, in the order of issue
abbrev pub issued : History → List Issuance
issued h = issued_among h.takings h.issuings

-- the same, by slots
abbrev pub occurrences : List Issuance → List Occurrence
occurrences [] = []
occurrences (i ∷ is) = record { slot = i.request.slot; at = i.at } ∷ occurrences is

-- ---- the part of a domain

-- the takings, and the issues, of domain d
abbrev pub taken_by : ℕ → History → List Taking
taken_by d h = passing (λ k. nat_eq k.request.domain d) h.takings

abbrev pub issued_for : ℕ → History → List Issuance
issued_for d h = passing (λ i. nat_eq i.request.domain d) (issued h)

-- ---- turns

-- step t is a turn of domain d
abbrev pub Turn : ℕ → ℕ → Type 0
Turn d t = t % 368 ≡ 46 * d

-- all the issues came before step t
abbrev pub Before : ℕ → List Issuance → Type 0
Before t [] = Unit {0}
Before t (i ∷ is) = (i.at < t) × Before t is

-- After the issues is of domain d, its next request may be issued in any further turn of d.
abbrev pub InTurn : ℕ → List Issuance → Request → ℕ → Type 0
InTurn d is q t = Turn d t × Before t is

-- In a history, issues come by turns.
pub record ByTurns (h : History) : Type 0 where
  -- Each Issue is of a request that was taken.
  pub requested : occurrences (issued h) ≡ h.issuings
  -- The requests of a domain are issued in the order of taking, each in the first turn of the domain after its taking and
  -- after the domain's earlier issues. For the oldest that waits no such turn has passed.
  pub served : (d : ℕ) → Served (InTurn d) [] (taken_by d h) (occurrences (issued_for d h)) h.steps
  -- So paired in order, each of the domain's Issues is of the request of its taking.
  pub paired : (d : ℕ) → issuances [] (taken_by d h) (occurrences (issued_for d h)) ≡ issued_for d h

-- After a reset and any list of calls: issues come by turns.
abbrev pub IssuesByTurns : {S : Type 0} → Meaning S → Type 0
IssuesByTurns {S} m = (b : S) (cs : List Call) → ByTurns (history m b cs)

-- What other domains take moves no issue of a domain: if in two histories as many steps have passed, and the domain's
-- takings are the same, then the domain's issues are the same requests in the same steps.
abbrev pub Isolated : {S : Type 0} → Meaning S → Type 0
Isolated {S} m =
    (a b : S) (cs ds : List Call) (d : ℕ)
    → (history m a cs).steps ≡ (history m b ds).steps
    → taken_by d (history m a cs) ≡ taken_by d (history m b ds)
    → issued_for d (history m a cs) ≡ issued_for d (history m b ds)

-- ---- Dones

-- After a reset and any list of calls: each Done comes its delay after the issue, and those of one step in the order of issue.
abbrev pub DoneInTime : {S : Type 0} → Meaning S → Type 0
DoneInTime {S} m = (b : S) (cs : List Call) → (history m b cs).endings ≡ dones_before (history m b cs).steps (issued (history m b cs))
