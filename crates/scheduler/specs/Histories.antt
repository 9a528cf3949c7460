-- How one call of a scheduler extends the run that came before it.
use Rattle.std.specs.Prelude.{◌≡◌, ℕ, List, [], ◌∷◌, ◌++◌, take, Ok, Err, Result}
use Rattle.interface.specs.Meaning.{Meaning}
use Rattle.model.specs.declared.Line.{Line}
use Rattle.model.specs.declared.Notice.{Notice}
use Rattle.model.specs.declared.Refusal.{Refusal}
use Rattle.model.specs.Refusals.{number}
use Rattle.model.specs.Calls.{sets, begins, submit, ticks, opens, lane, first, Reply, refused, good, serial, wrote, State, new, next_tick, outcome}
use Rattle.model.specs.Calls as model
use Rattle.run_laws.specs.Runs.{state_after, run}
use Rattle.scheduler.specs.declared.call.Call.{Call}
use Rattle.scheduler.specs.declared.call.Call.TheVariants.{Open, Lane, First, Begin, Submit, Tick}
use Rattle.scheduler.specs.declared.call.Answer.{Answer}
use Rattle.scheduler.specs.declared.call.Answer.TheVariants.{Accepted, Taken, Ticked}
use Rattle.scheduler.specs.Schedulers.{Told, refusal, accepted, taken, counts}

-- a call as the model has it, with buffers for l lines and n notices
abbrev pub made_call : ℕ → ℕ → Call → model.Call
made_call l n (Open d share) = sets (opens d share)
made_call l n (Lane d s) = sets (lane d s.vertices.now s.edges.now s.rest)
made_call l n (First tick) = sets (first tick)
made_call l n Begin = begins
made_call l n (Submit d b k row) = submit d b k row
made_call l n Tick = ticks l n

-- what the caller is told
abbrev pub told : Result Answer Refusal → Told
told (Ok Accepted) = accepted
told (Ok (Taken i)) = taken i
told (Ok (Ticked i j)) = counts i j
told (Err e) = refusal (number e)

-- the reply that the caller reads off the answer and the buffers: of a tick, as many lines and notices as it is told
abbrev pub seen : Result Answer Refusal → List Line → List Notice → Reply
seen (Ok Accepted) ls ns = good
seen (Ok (Taken i)) ls ns = serial i
seen (Ok (Ticked i j)) ls ns = wrote (take i ls) (take j ns)
seen (Err e) ls ns = refused (number e)

-- A call c to a scheduler over a controller that was in state b, after the calls cs: it leaves the state w, and the caller
-- sees the reply y.
pub record Extends (m : Meaning (List ℕ)) (b : List ℕ) (cs : List model.Call) (c : model.Call) (w : State) (y : Reply) : Type 0 where
  -- the scheduler is where the run of all these calls leads
  pub state : w ≡ state_after m (new m b) (cs ++ (c ∷ []))
  -- the run has one entry more: this call, at the next tick, with the reply that the caller sees
  pub entry : run m b (cs ++ (c ∷ [])) ≡ run m b cs ++ (record { tick = next_tick (state_after m (new m b) cs); call = c; reply = y; bus = (outcome m (state_after m (new m b) cs) c).bus } ∷ [])
