-- The law of a level over whole histories.
use Rattle.std.specs.Prelude.{◌≡◌, ℕ, ◌+◌, ◌-◌, ◌≤◌, max, cond, List, [], ◌∷◌, ◌++◌, ◌==◌}
use Rattle.interface.specs.Meaning.{Meaning, Call, after, accepted, take_refusal, step_refusal}
use Rattle.interface.specs.History.{History, Taking, Occurrence, history}
use Rattle.layer.specs.Collects.{collects}
use Rattle.level.specs.Level.{State, beginning, meaning_over, level_codes, level_meaning}

-- ---- the calls that a level makes to the controller below

-- in a call that finds the state s
abbrev pub passed_down : Meaning (List ℕ) → Call → State → List Call
passed_down m Call.reset s = Call.reset ∷ []
passed_down m (Call.take q) s = accepted (take_refusal (meaning_over m) s q) (Call.take q ∷ []) []
passed_down m Call.step s = accepted (step_refusal (meaning_over m) s) (Call.step ∷ collects (m.ready (after m Call.step s.below))) []
passed_down m Call.collect s = []

abbrev pub calls_below : Meaning (List ℕ) → List Call → State → List Call
calls_below m [] s = []
calls_below m (c ∷ cs) s = passed_down m c s ++ calls_below m cs (after (meaning_over m) c s)

-- ---- the Dones of one slot

-- the first steps after its takings
abbrev pub first_steps : ℕ → List Taking → List ℕ
first_steps n [] = []
first_steps n (k ∷ ks) = cond (k.request.slot == n) (k.from ∷ first_steps n ks) (first_steps n ks)

-- the steps of its events
abbrev pub steps_of : ℕ → List Occurrence → List ℕ
steps_of n [] = []
steps_of n (o ∷ os) = cond (o.slot == n) (o.at ∷ steps_of n os) (steps_of n os)

-- The Done of a request whose first step is k, and which is done below in step b: the L-th step after the taking has the number
-- k + L - 1, and an earlier Done waits for it.
abbrev pub done_at : ℕ → ℕ → ℕ → ℕ
done_at L k b = max (k + L - 1) b

-- After t steps: the takings of a slot, its Dones below and its Dones of the level pair off in their order. The last taking
-- may not be done below, and if it is, the step of its Done may not have come.
abbrev pub Delayed : ℕ → ℕ → List ℕ → List ℕ → List ℕ → Type 0
Delayed L t [] [] [] = Unit {0}
Delayed L t [] [] (d ∷ ds) = ⊥
Delayed L t [] (b ∷ bs) ds = ⊥
Delayed L t (k ∷ ks) [] [] = ks ≡ []
Delayed L t (k ∷ ks) [] (d ∷ ds) = ⊥
Delayed L t (k ∷ ks) (b ∷ bs) [] = (ks ≡ []) × (bs ≡ []) × (t ≤ done_at L k b)
Delayed L t (k ∷ ks) (b ∷ bs) (d ∷ ds) = (d ≡ done_at L k b) × Delayed L t ks bs ds

-- ---- the law

-- The history of a level, and that of the calls which it makes to the controller below: the same requests are taken before
-- the same steps, the same Issues come in the same steps and order, and each Done comes in the L-th step after its taking, or
-- in the step of the Done below, if that is later.
pub record Delays (L : ℕ) (own below : History) : Type 0 where
  pub steps : own.steps ≡ below.steps
  pub takings : own.takings ≡ below.takings
  pub issuings : own.issuings ≡ below.issuings
  pub endings : (n : ℕ) → Delayed L own.steps (first_steps n own.takings) (steps_of n below.endings) (steps_of n own.endings)

-- after a reset, and any list of calls
abbrev pub Levels : Meaning (List ℕ) → ℕ → List ℕ → Type 0
Levels m L b = (cs : List Call) → Delays L (history (level_meaning m) (level_codes (beginning L b)) cs) (history m b (calls_below m cs (beginning L (m.start b))))
