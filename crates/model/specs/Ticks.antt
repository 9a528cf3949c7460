-- A tick: the controller's events, the next rounds and the departures, with the lines and notices that they write.
use Rattle.std.specs.Prelude.{ℕ, ◌+◌, ◌*◌, ◌%◌, Bool, true, false, cond, ◌&&◌, List, [], ◌∷◌, ◌++◌, length, Some, None, Option, ◌==◌, nat_le}
use Rattle.interface.specs.Emptied.{emptied}
use Rattle.interface.specs.Meaning.{Meaning, Call, after}
use Rattle.interface.specs.declared.Event.TheVariants.{Issue, Done}
use Rattle.interface.specs.declared.Event.{Event}
use Rattle.interface.specs.declared.Kind.TheVariants.{Read, Write}
use Rattle.interface.specs.declared.Kind.{Kind}
use Rattle.interface.specs.declared.Request.{Request}
use Rattle.patterns.specs.Due.{due, round_end, next_start}
use Rattle.model.specs.Settings.{Settings, Vertex, is_open, domain_of, lane_of, pattern_at, vertices}
use Rattle.model.specs.declared.Letter.TheVariants as letter
use Rattle.model.specs.declared.Letter.{Letter}
use Rattle.model.specs.declared.Line.{Line}
use Rattle.model.specs.declared.Notice.{Notice}
use Rattle.model.specs.Payloads.{Payload, fake, real}
use Rattle.model.specs.declared.Waiting.{Waiting}

-- how a slot stands: a vertex is still, flying, or done at a tick; a slot of an open domain is free (still) or flying
pub data Stage : Type 0 where
  still : Stage
  flying : ℕ → Kind → Payload → Stage
  done : ℕ → Stage

-- stage by slot, start of the round by lane, queue by domain
pub record Tables : Type 0 where
  pub stage : ℕ → Stage
  pub start : ℕ → ℕ
  pub queue : ℕ → List Waiting

-- ---- tables

-- the same function, but for x at i
abbrev pub put : {X : Type 0} → (ℕ → X) → ℕ → X → ℕ → X
put f i x j = cond (j == i) x (f j)

abbrev pub with_stage : Tables → (ℕ → Stage) → Tables
with_stage b s = record { stage = s; start = b.start; queue = b.queue }

-- one thing after another, each changing the tables
unfoldable pub through : {A : Type 0} → (A → Tables → Tables) → List A → Tables → Tables
through f [] b = b
through f (x ∷ xs) b = through f xs (f x b)

-- and what each writes, as it finds the tables
unfoldable pub written : {A O : Type 0} → (A → Tables → List O) → (A → Tables → Tables) → List A → Tables → List O
written out f [] b = []
written out f (x ∷ xs) b = out x b ++ written out f xs (f x b)

-- ---- 1. events

-- a fake has row 0
abbrev pub row_of : Payload → ℕ
row_of None = 0
row_of (Some r) = r.row

-- the line of a slot in flight; a slot that is not has none
abbrev pub line_of : Letter → ℕ → ℕ → Stage → List Line
line_of l n slot still = []
line_of l n slot (flying b k p) = record { letter = l; tick = n; domain = domain_of slot; slot = slot; bank = b; kind = k; row = row_of p } ∷ []
line_of l n slot (done m) = []

-- the notice of a real request; a fake has none
abbrev pub payload_notice : ℕ → ℕ → Payload → List Notice
payload_notice n d None = []
payload_notice n d (Some r) = record { tick = n; domain = d; serial = r.serial } ∷ []

-- the notice of a slot in flight
abbrev pub notice_of : ℕ → ℕ → Stage → List Notice
notice_of n slot still = []
notice_of n slot (flying b k p) = payload_notice n (domain_of slot) p
notice_of n slot (done m) = []

-- an Issue writes an I line, a Done a D line
unfoldable pub event_line : ℕ → Event → Tables → List Line
event_line n (Issue t) b = line_of letter.I n t (b.stage t)
event_line n (Done t) b = line_of letter.D n t (b.stage t)

-- the Done of a real request writes a notice
unfoldable pub event_notice : ℕ → Event → Tables → List Notice
event_notice n (Issue t) b = []
event_notice n (Done t) b = notice_of n t (b.stage t)

-- a Done frees a slot of an open domain, and makes a flying vertex done
abbrev pub finished : Bool → ℕ → Stage → Stage
finished o n still = still
finished o n (flying b k p) = cond o still (done n)
finished o n (done m) = done m

unfoldable pub completed : Settings → ℕ → Event → Tables → Tables
completed c n (Issue t) b = b
completed c n (Done t) b = with_stage b (put b.stage t (finished (is_open c (domain_of t)) n (b.stage t)))

-- ---- 2. rounds

-- the tick of the Done, once it has come
abbrev pub done_tick : Stage → Option ℕ
done_tick still = None
done_tick (flying b k p) = None
done_tick (done m) = Some m

-- the Done tick of vertex i of lane ℓ, once it is done in this round
abbrev pub done_in : (ℕ → Stage) → ℕ → ℕ → Option ℕ
done_in s ℓ i = done_tick (s (ℓ * 8 + i))

-- the tick at which the round of lane ℓ ended, once all its vertices are done
unfoldable pub lane_end : Settings → (ℕ → Stage) → ℕ → Option ℕ
lane_end c s ℓ = round_end (done_in s ℓ) (length (pattern_at c ℓ).spots)

-- a stage where the round has ended or not: what is done becomes still
abbrev pub renewed : Option ℕ → Stage → Stage
renewed None x = x
renewed (Some m) still = still
renewed (Some m) (flying b k p) = flying b k p
renewed (Some m) (done j) = still

-- a lane whose vertices are all done gets its next start, and they become still
unfoldable pub rounds : Settings → Tables → Tables
rounds c b = record {
  stage = λ t. renewed (lane_end c b.stage (lane_of t)) (b.stage t);
  start = λ ℓ. next_start (pattern_at c ℓ).rest (lane_end c b.stage ℓ) (b.start ℓ);
  queue = b.queue;
}

-- ---- 3. departures

-- the due tick of a vertex, if it has one
unfoldable pub due_tick : Tables → Vertex → Option ℕ
due_tick b v = due (b.start (lane_of v.slot)) (done_in b.stage (lane_of v.slot)) v.edges (v.slot % 8)

-- the due tick is there, and is n or earlier
abbrev pub is_due : ℕ → Option ℕ → Bool
is_due n None = false
is_due n (Some m) = nat_le m n

abbrev pub is_still : Stage → Bool
is_still still = true
is_still (flying b k p) = false
is_still (done m) = false

-- a still vertex that is due leaves
unfoldable pub leaves : ℕ → Tables → Vertex → Bool
leaves n b v = is_still (b.stage v.slot) && is_due n (due_tick b v)

-- those that leave, in the order given
unfoldable pub leaving : ℕ → Tables → List Vertex → List Vertex
leaving n b [] = []
leaving n b (v ∷ vs) = cond (leaves n b v) (v ∷ leaving n b vs) (leaving n b vs)

abbrev pub same_kind : Kind → Kind → Bool
same_kind Read Read = true
same_kind Read Write = false
same_kind Write Read = false
same_kind Write Write = true

-- whether banks and kinds are the same
abbrev pub alike : ℕ → Kind → ℕ → Kind → Bool
alike b k b' k' = b == b' && same_kind k k'

-- whether a waiting request has this bank and kind
abbrev pub matches : ℕ → Kind → Waiting → Bool
matches b k w = alike w.bank w.kind b k

-- the oldest queued request with this bank and kind, else a fake
unfoldable pub oldest : ℕ → Kind → List Waiting → Payload
oldest b k [] = fake
oldest b k (w ∷ ws) = cond (matches b k w) (real w.row w.serial) (oldest b k ws)

-- the queue without it
unfoldable pub without : ℕ → Kind → List Waiting → List Waiting
without b k [] = []
without b k (w ∷ ws) = cond (matches b k w) ws (w ∷ without b k ws)

-- what goes with a vertex that leaves
unfoldable pub payload_for : Vertex → Tables → Payload
payload_for v b = oldest v.bank v.kind (b.queue (domain_of v.slot))

-- a vertex leaves: it flies with its payload, which leaves the queue
unfoldable pub departed : Vertex → Tables → Tables
departed v b = record {
  stage = put b.stage v.slot (flying v.bank v.kind (payload_for v b));
  start = b.start;
  queue = put b.queue (domain_of v.slot) (without v.bank v.kind (b.queue (domain_of v.slot)));
}

-- a T line
unfoldable pub take_line : ℕ → Vertex → Tables → List Line
take_line n v b = line_of letter.T n v.slot (flying v.bank v.kind (payload_for v b))

-- what the controller is asked to take for a vertex
abbrev pub request_of : Vertex → Request
request_of v = record { slot = v.slot; domain = domain_of v.slot; bank = v.bank; kind = v.kind }

-- ---- a whole tick, numbered n, from the controller's state s and the tables b

module _ (m : Meaning (List ℕ)) where
  -- the controller's state after it took the slots of these vertices, one after the other
  unfoldable pub taken_all : List Vertex → List ℕ → List ℕ
  taken_all [] s = s
  taken_all (v ∷ vs) s = taken_all vs (after m (Call.take (request_of v)) s)

  -- the events of the controller's step
  unfoldable pub step_events : List ℕ → List Event
  step_events s = m.ready (after m Call.step s)

  -- the tables after the events of tick n
  unfoldable pub after_events : Settings → ℕ → List ℕ → Tables → Tables
  after_events c n s b = through (completed c n) (step_events s) b

  -- and after the lanes got their next starts
  unfoldable pub after_rounds : Settings → ℕ → List ℕ → Tables → Tables
  after_rounds c n s b = rounds c (after_events c n s b)

  -- who leaves: this asks for no queue, row, serial or fake
  unfoldable pub departures : Settings → ℕ → List ℕ → Tables → List Vertex
  departures c n s b = leaving n (after_rounds c n s b) (vertices c)

  -- the tables after the tick
  unfoldable pub after_tick : Settings → ℕ → List ℕ → Tables → Tables
  after_tick c n s b = through departed (departures c n s b) (after_rounds c n s b)

  -- the controller's state after the tick: stepped, emptied, and with all that leave taken
  unfoldable pub controller_after : Settings → ℕ → List ℕ → Tables → List ℕ
  controller_after c n s b = taken_all (departures c n s b) (emptied m (step_events s) (after m Call.step s))

  -- the lines of the tick
  unfoldable pub lines : Settings → ℕ → List ℕ → Tables → List Line
  lines c n s b = written (event_line n) (completed c n) (step_events s) b ++ written (take_line n) departed (departures c n s b) (after_rounds c n s b)

  -- the notices of the tick
  unfoldable pub notices : Settings → ℕ → List ℕ → Tables → List Notice
  notices c n s b = written (event_notice n) (completed c n) (step_events s) b
