-- The law of a pair over whole histories.
use Rattle.std.specs.Prelude.{◌≡◌, ℕ, Bool, cond, not, List, [], ◌∷◌, ◌++◌, ◌==◌}
use Rattle.interface.specs.Meaning.{Meaning, Call, after, accepted, take_refusal, step_refusal}
use Rattle.interface.specs.History.{History, Taking, Occurrence, history}
use Rattle.interface.specs.declared.Request.{Request}
use Rattle.layer.specs.Collects.{collects}
use Rattle.pair.specs.Pair.{State, beginning, to_first, meaning_of, pair_codes, pair_meaning}

abbrev pub to_second : Request → Bool
to_second q = not (to_first q)

-- ---- the calls that a pair makes to one of its controllers

-- The pair means p. The controller means m, gets the requests of which mine holds, and has its state in a part of the pair's.
-- In a call that finds the state s:
abbrev pub passed_to : Meaning State → Meaning (List ℕ) → (Request → Bool) → (State → List ℕ) → Call → State → List Call
passed_to p m mine part Call.reset s = Call.reset ∷ []
passed_to p m mine part (Call.take q) s = accepted (take_refusal p s q) (cond (mine q) (Call.take q ∷ []) []) []
passed_to p m mine part Call.step s = accepted (step_refusal p s) (Call.step ∷ collects (m.ready (after m Call.step (part s)))) []
passed_to p m mine part Call.collect s = []

abbrev pub calls_to : Meaning State → Meaning (List ℕ) → (Request → Bool) → (State → List ℕ) → List Call → State → List Call
calls_to p m mine part [] s = []
calls_to p m mine part (c ∷ cs) s = passed_to p m mine part c s ++ calls_to p m mine part cs (after p c s)

abbrev pub calls_to_first : Meaning (List ℕ) → Meaning (List ℕ) → List Call → State → List Call
calls_to_first m n = calls_to (meaning_of m n) m to_first (λ s. s.first)

abbrev pub calls_to_second : Meaning (List ℕ) → Meaning (List ℕ) → List Call → State → List Call
calls_to_second m n = calls_to (meaning_of m n) n to_second (λ s. s.second)

-- ---- parts of a history

-- the takings of requests of which mine holds
abbrev pub takings_of : (Request → Bool) → List Taking → List Taking
takings_of mine [] = []
takings_of mine (k ∷ ks) = cond (mine k.request) (k ∷ takings_of mine ks) (takings_of mine ks)

-- what happened in step t
abbrev pub in_step : ℕ → List Occurrence → List Occurrence
in_step t [] = []
in_step t (o ∷ os) = cond (o.at == t) (o ∷ in_step t os) (in_step t os)

-- ---- the law

-- The history of a pair, and those of the calls which it makes to its two controllers: each has as many steps, the first takes
-- the requests to banks 0 to 3 and the second those to banks 4 to 7, before the same steps, and in each step the Issues, and
-- the Dones, are those of the first and then those of the second.
pub record Joins (own first second : History) : Type 0 where
  pub steps_first : own.steps ≡ first.steps
  pub steps_second : own.steps ≡ second.steps
  pub takings_first : first.takings ≡ takings_of to_first own.takings
  pub takings_second : second.takings ≡ takings_of to_second own.takings
  pub issuings : (t : ℕ) → in_step t own.issuings ≡ in_step t first.issuings ++ in_step t second.issuings
  pub endings : (t : ℕ) → in_step t own.endings ≡ in_step t first.endings ++ in_step t second.endings

-- after a reset, and any list of calls
abbrev pub Pairs : Meaning (List ℕ) → Meaning (List ℕ) → List ℕ → List ℕ → Type 0
Pairs m n a b =
    (cs : List Call) → Joins (history (pair_meaning m n) (pair_codes (beginning a b)) cs) (history m a (calls_to_first m n cs (beginning (m.start a) (n.start b)))) (history n b (calls_to_second m n cs (beginning (m.start a) (n.start b))))
