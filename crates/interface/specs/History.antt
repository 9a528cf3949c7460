-- What a list of calls leaves behind: the requests taken, issued and done, each with its step, and orders of service.
use Rattle.std.specs.Prelude.{◌≡◌, ℕ, ◌+◌, ◌<◌, ◌≤◌, List, [], ◌∷◌, ◌++◌}
use Rattle.interface.specs.Meaning.{Meaning, Call, after, accepted, take_refusal, step_refusal}
use Rattle.interface.specs.declared.Request.{Request}
use Rattle.interface.specs.declared.Event.{Event}
use Rattle.interface.specs.declared.Event.TheVariants.{Issue, Done}

-- Steps are counted from 0 at the reset, and only those that are not refused.

-- a request that was taken, and the number of the first step after its taking
pub record Taking : Type 0 where
  pub request : Request
  pub from : ℕ

-- an event of a slot, and the number of the step in which it became ready
pub record Occurrence : Type 0 where
  pub slot : ℕ
  pub at : ℕ

pub record History : Type 0 where
  -- how many steps have passed
  pub steps : ℕ
  pub takings : List Taking
  -- the Issues, and the Dones, in the order in which they became ready
  pub issuings : List Occurrence
  pub endings : List Occurrence

abbrev pub blank : History
blank = record { steps = 0; takings = []; issuings = []; endings = [] }

-- the Issues among the events of step t
abbrev pub issued_in : ℕ → List Event → List Occurrence
issued_in t [] = []
issued_in t (Issue n ∷ es) = record { slot = n; at = t } ∷ issued_in t es
issued_in t (Done n ∷ es) = issued_in t es

-- the Dones among the events of step t
abbrev pub ended_in : ℕ → List Event → List Occurrence
ended_in t [] = []
ended_in t (Issue n ∷ es) = ended_in t es
ended_in t (Done n ∷ es) = record { slot = n; at = t } ∷ ended_in t es

abbrev pub with_taking : History → Request → History
with_taking h q = record { steps = h.steps; takings = h.takings ++ (record { request = q; from = h.steps } ∷ []); issuings = h.issuings; endings = h.endings }

abbrev pub with_step : History → List Event → History
with_step h es = record { steps = h.steps + 1; takings = h.takings; issuings = h.issuings ++ issued_in h.steps es; endings = h.endings ++ ended_in h.steps es }

-- the history after a call that finds the state s: a reset begins anew, and a refused call leaves no trace
abbrev pub noted : {S : Type 0} → Meaning S → Call → S → History → History
noted m Call.reset s h = blank
noted m (Call.take q) s h = accepted (take_refusal m s q) (with_taking h q) h
noted m Call.step s h = accepted (step_refusal m s) (with_step h (m.ready (after m Call.step s))) h
noted m Call.collect s h = h

abbrev pub traced : {S : Type 0} → Meaning S → List Call → S → History → History
traced m [] s h = h
traced m (c ∷ cs) s h = traced m cs (after m c s) (noted m c s h)

-- the history of calls that follow a reset
abbrev pub history : {S : Type 0} → Meaning S → S → List Call → History
history m b cs = traced m cs (m.start b) blank

-- ---- requests that are issued in the order of taking

-- a request and the step of its issue
pub record Issuance : Type 0 where
  pub request : Request
  pub at : ℕ

-- t is the first number from n on of which P holds
abbrev pub First : (ℕ → Type 0) → ℕ → ℕ → Type 0
First P n t = (n ≤ t) × P t × ((u : ℕ) → n ≤ u → u < t → P u → ⊥)

-- May is q t says that after the issues is the request q may be issued in step t.
-- After the issues is: the takings and the issuings pair off in their order, and each request is issued in the first step
-- after its taking in which it may be. Of the n steps that passed, none was such a step for the oldest request that waits.
abbrev pub Served : (List Issuance → Request → ℕ → Type 0) → List Issuance → List Taking → List Occurrence → ℕ → Type 0
Served May is [] [] n = Unit {0}
Served May is [] (o ∷ os) n = ⊥
Served May is (k ∷ ks) [] n = (t : ℕ) → k.from ≤ t → t < n → May is k.request t → ⊥
Served May is (k ∷ ks) (o ∷ os) n =
    (o.slot ≡ k.request.slot) × First (May is k.request) k.from o.at × (o.at < n)
    × Served May (is ++ (record { request = k.request; at = o.at } ∷ [])) ks os n

-- the same of every history
abbrev pub Serves : {S : Type 0} → Meaning S → (List Issuance → Request → ℕ → Type 0) → Type 0
Serves {S} m May = (b : S) (cs : List Call) → Served May [] (history m b cs).takings (history m b cs).issuings (history m b cs).steps

-- the issues is, and then those of the takings and issuings, which pair off in their order
abbrev pub issuances : List Issuance → List Taking → List Occurrence → List Issuance
issuances is [] os = is
issuances is (k ∷ ks) [] = is
issuances is (k ∷ ks) (o ∷ os) = issuances (is ++ (record { request = k.request; at = o.at } ∷ [])) ks os
