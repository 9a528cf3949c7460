-- The scheduler's tables as the model has them: stage by slot, start by lane, queue and serial by domain.
use Rattle.board.specs.Slots.{OpenSlot, free}
use Rattle.std.specs.Prelude.{ℕ, ◌/◌, Bool, true, false, List, Some, None, Option, slice_index_or}
use Rattle.interface.specs.declared.Kind.{Kind}
use Rattle.patterns.specs.declared.vertex.Vertex.{Vertex}
use Rattle.patterns.specs.declared.vertex.VertexState.{VertexState}
use Rattle.patterns.specs.declared.vertex.VertexState.TheVariants.{Still, Flying, Done}
use Rattle.patterns.specs.Lanes.{LaneView}
use Rattle.model.specs.Payloads.{Payload, fake}
use Rattle.model.specs.declared.Waiting.{Waiting}
use Rattle.model.specs.Settings.{Settings}
use Rattle.model.specs.Ticks.{Stage, still, flying, done, Tables}
use Rattle.model.specs.Calls.{State, setting, running, Running}
use Rattle.board.specs.Boards.{BoardView}
use Rattle.board.specs.Flights.{lane_at, vertex_at}
use Rattle.store.specs.Stores.{StoreView, backlog_at}

-- ---- slots

abbrev pub open_stage : OpenSlot → Payload → Stage
open_stage None p = still
open_stage (Some a) p = flying a.bank a.kind p

abbrev pub state_stage : ℕ → Kind → VertexState → Payload → Stage
state_stage b k Still p = still
state_stage b k Flying p = flying b k p
state_stage b k (Done c) p = done c.number

abbrev pub vertex_stage : Option Vertex → Payload → Stage
vertex_stage None p = still
vertex_stage (Some v) p = state_stage v.bank v.kind v.state p

-- a slot of an open domain, and one of a domain that is not open
abbrev pub slot_stage : Option ℕ → OpenSlot → Option Vertex → Payload → Stage
slot_stage (Some share) o v p = open_stage o p
slot_stage None o v p = vertex_stage v p

unfoldable pub stage_at : BoardView → StoreView → ℕ → Stage
stage_at b s t = slot_stage (slice_index_or b.shares (t / 64) None) (slice_index_or b.slots t free) (vertex_at b.lanes t) (slice_index_or s.payloads t fake)

-- ---- lanes

-- the start of a lane's round; one that is not set has the first tick
abbrev pub start_of : ℕ → Option ℕ → Option LaneView → ℕ
start_of first (Some share) l = first
start_of first None None = first
start_of first None (Some l) = l.start

unfoldable pub start_at : BoardView → ℕ → ℕ
start_at b ℓ = start_of b.first (slice_index_or b.shares (ℓ / 8) None) (lane_at b.lanes ℓ)

-- ---- domains

unfoldable pub queue_at : StoreView → ℕ → List Waiting
queue_at s d = (backlog_at s d).queue

unfoldable pub serial_at : StoreView → ℕ → ℕ
serial_at s d = (backlog_at s d).serial

-- ---- the whole

abbrev pub tables_of : BoardView → StoreView → Tables
tables_of b s = record { stage = stage_at b s; start = start_at b; queue = queue_at s }

abbrev pub running_of : ℕ → List ℕ → BoardView → StoreView → Running
running_of n c b s = record { tick = n; controller = c; tables = tables_of b s; serial = serial_at s }

-- a scheduler that has begun runs; one that has not is being set
abbrev pub state_of : Bool → Settings → Running → State
state_of false c x = setting c x.controller
state_of true c x = running c x
