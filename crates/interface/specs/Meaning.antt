-- What a controller means: what is read from its state, what each call answers, and the state after it.
use Rattle.std.specs.Prelude.{◌≡◌, ℕ, Bool, true, false, cond, not, ◌&&◌, List, [], ◌∷◌, length, Some, None, Ok, Err, Option, Result, ◌==◌, nat_le, nat_lt}
use Rattle.std.specs.List.{list_any}
use Rattle.interface.specs.declared.Request.{Request}
use Rattle.interface.specs.declared.Event.{Event}
use Rattle.interface.specs.declared.Refusal.{Refusal}
use Rattle.interface.specs.declared.Refusal.TheVariants.{OutOfRange, SlotHeld, Full, EventsReady}

-- A held request: whether its Issue has come, and in how many steps its Done is ready at the latest.
pub record Held : Type 0 where
  pub request : Request
  pub issued : Bool
  pub left : ℕ

-- A kind of controller, over states of type S. A controller's own state is a list of numbers.
pub record Meaning (S : Type 0) : Type 0 where
  -- the beginning state, to which a reset returns
  pub start : S → S
  -- how many requests can be held at once
  pub places : S → ℕ
  -- the span: the steps within which a request is done
  pub span : S → ℕ
  -- the held requests, in the order of taking
  pub held : S → List Held
  -- the events that are ready, in the order in which they are collected
  pub ready : S → List Event
  -- the state after a request is taken, after a step, and after an event is collected, where the call is not refused
  pub taken : S → Request → S
  pub stepped : S → S
  pub collected : S → S

-- The calls that may change a state.
pub data Call : Type 0 where
  reset : Call
  take : Request → Call
  step : Call
  collect : Call

-- ---- lists

abbrev pub first : {X : Type 0} → List X → Option X
first [] = None
first (x ∷ xs) = Some x

abbrev pub rest : {X : Type 0} → List X → List X
rest [] = []
rest (x ∷ xs) = xs

abbrev pub is_empty : {X : Type 0} → List X → Bool
is_empty [] = true
is_empty (x ∷ xs) = false

abbrev pub any : {X : Type 0} → (X → Bool) → List X → Bool
any p xs = list_any p xs

-- ---- slots

abbrev pub has_slot : ℕ → Held → Bool
has_slot n h = h.request.slot == n

-- the steps left of a slot, if it is held
abbrev pub left_of : List Held → ℕ → Option ℕ
left_of [] n = None
left_of (h ∷ hs) n = cond (has_slot n h) (Some h.left) (left_of hs n)

-- ---- refusals

-- the number by which each refusal is known
abbrev pub number : Refusal → ℕ
number OutOfRange = 17
number SlotHeld = 18
number Full = 19
number EventsReady = 20

-- the number of the refusal, where an answer is one
abbrev pub refused : {T : Type 0} → Result T Refusal → Option ℕ
refused (Ok x) = None
refused (Err e) = Some (number e)

-- a check: its number where it fails, else what later checks say
abbrev pub check : Bool → ℕ → Option ℕ → Option ℕ
check fails n later = cond fails (Some n) later

-- slot at most 511, domain and bank at most 7
abbrev pub in_range : Request → Bool
in_range q = nat_lt q.slot 512 && (nat_lt q.domain 8 && nat_lt q.bank 8)

abbrev pub take_refusal : {S : Type 0} → Meaning S → S → Request → Option ℕ
take_refusal m s q =
    check (not (in_range q)) 17
    (check (any (has_slot q.slot) (m.held s)) 18
    (check (nat_le (m.places s) (length (m.held s))) 19 None))

abbrev pub step_refusal : {S : Type 0} → Meaning S → S → Option ℕ
step_refusal m s = check (not (is_empty (m.ready s))) 20 None

-- ---- what a call does

-- what an accepted call leaves, else what was there before
abbrev pub accepted : {S : Type 0} → Option ℕ → S → S → S
accepted None s t = s
accepted (Some n) s t = t

-- the state after a call: a refused one leaves it as it is, and so does a collect with nothing ready
abbrev pub after : {S : Type 0} → Meaning S → Call → S → S
after m reset s = m.start s
after m (take q) s = accepted (take_refusal m s q) (m.taken s q) s
after m step s = accepted (step_refusal m s) (m.stepped s) s
after m collect s = cond (is_empty (m.ready s)) s (m.collected s)

abbrev pub run : {S : Type 0} → Meaning S → List Call → S → S
run m [] s = s
run m (c ∷ cs) s = run m cs (after m c s)

-- a state to which calls lead from a beginning state
abbrev pub Reached : {S : Type 0} → Meaning S → S → Type 0
Reached {S} m s = (b : S) × (cs : List Call) × (s ≡ run m cs (m.start b))
