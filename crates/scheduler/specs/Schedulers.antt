-- A scheduler as a state of the model, and its answers as the model's replies.
use Rattle.std.specs.Option.{is_some, unwrap_or}
use Rattle.std.specs.Prelude.{ℕ, Bool, min, List, [], length, Some, None, Ok, Err, Option, Result}
use Rattle.model.specs.declared.Line.{Line}
use Rattle.model.specs.declared.Refusal.{Refusal}
use Rattle.model.specs.Refusals.{number}
use Rattle.model.specs.Refusals as refusals
use Rattle.model.specs.Calls.{State, Running, Reply, refused, good, serial, wrote}
use Rattle.board.specs.Boards.{BoardView, settings_of}
use Rattle.store.specs.Stores.{StoreView}
use Rattle.scheduler.specs.Views.{running_of, state_of}

-- what a scheduler holds: the next tick's number, once the run has begun, the controller, and the tables
pub record Standing (C : Type 0) : Type 0 where
  pub next : Option ℕ
  pub controller : C
  pub board : BoardView
  pub store : StoreView

abbrev pub has_begun : {C : Type 0} → Standing C → Bool
has_begun s = is_some s.next

-- the next tick's number, which is 0 before begin
abbrev pub next_number : {C : Type 0} → Standing C → ℕ
next_number s = unwrap_or s.next 0

-- how it runs, over a controller whose state is read by `state`
abbrev pub running_at : {C : Type 0} → (C → List ℕ) → Standing C → Running
running_at state s = running_of (next_number s) (state s.controller) s.board s.store

-- as the model has it, over such a controller
abbrev pub view : {C : Type 0} → (C → List ℕ) → Standing C → State
view state s = state_of (has_begun s) (settings_of s.board) (running_at state s)

-- a refusal by its number, or that all is well
abbrev pub reply_of : Option ℕ → Reply
reply_of None = good
reply_of (Some k) = refused k

abbrev pub replied : {T : Type 0} → Result T Refusal → Reply
replied r = reply_of (refusals.refused r)

-- a refusal by its number, or the serial
abbrev pub serial_reply : Result ℕ Refusal → Reply
serial_reply (Ok i) = serial i
serial_reply (Err e) = refused (number e)

-- ---- answers with buffers

-- what a caller is told: a refusal's number, that a setting or begin was accepted, a serial, or how many lines and notices
-- are written
pub data Told : Type 0 where
  refusal : ℕ → Told
  accepted : Told
  taken : ℕ → Told
  counts : ℕ → ℕ → Told

-- of a reply, with buffers for l lines and n notices: what does not fit is not counted
abbrev pub told_of : ℕ → ℕ → Reply → Told
told_of l n (refused k) = refusal k
told_of l n good = accepted
told_of l n (serial i) = taken i
told_of l n (wrote ls ns) = counts (min (length ls) l) (min (length ns) n)

abbrev pub tick_told : Result (ℕ × ℕ) Refusal → Told
tick_told (Ok p) = counts p.0 p.1
tick_told (Err e) = refusal (number e)

abbrev pub lines_in : Reply → List Line
lines_in (refused k) = []
lines_in good = []
lines_in (serial i) = []
lines_in (wrote ls ns) = ls
