-- What the slots have in flight, read from the board, and what an event of the controller does to it.
use Rattle.std.specs.Prelude.{ℕ, ◌/◌, ◌%◌, cond, nat_lt, List, [], Some, None, Option, slice_index_or}
use Rattle.std.specs.List.{slice_get}
use Rattle.interface.specs.declared.Event.{Event}
use Rattle.interface.specs.declared.Event.TheVariants as reported
use Rattle.interface.specs.declared.Kind.{Kind}
use Rattle.interface.specs.declared.Request.{Request}
use Rattle.patterns.specs.declared.tick.Tick.{Tick}
use Rattle.patterns.specs.declared.vertex.Vertex.{Vertex}
use Rattle.patterns.specs.declared.vertex.VertexEvent.TheVariants as event
use Rattle.patterns.specs.declared.vertex.VertexState.{VertexState}
use Rattle.patterns.specs.declared.vertex.VertexState.TheVariants.{Still, Flying, Done}
use Rattle.patterns.specs.Lanes.{LaneView}
use Rattle.board.specs.Slots.{OpenSlot, free}
use Rattle.board.specs.Boards.{BoardView, with_slot, advanced_board}

-- a slot's number is at most 511
abbrev pub slot_number : ℕ → Option ℕ
slot_number n = cond (nat_lt n 512) (Some n) None

-- ---- lanes by domain × 8 + lane, and vertices by slot

abbrev pub lane_at : List (List LaneView) → ℕ → Option LaneView
lane_at ts ℓ = slice_get (slice_index_or ts (ℓ / 8) []) (ℓ % 8)

abbrev pub vertex_in : Option LaneView → ℕ → Option Vertex
vertex_in None i = None
vertex_in (Some l) i = slice_get l.vertices i

abbrev pub vertex_at : List (List LaneView) → ℕ → Option Vertex
vertex_at ts t = vertex_in (lane_at ts (t / 8)) (t % 8)

-- ---- flights

abbrev pub request_in : ℕ → ℕ → Kind → Request
request_in t b k = record { slot = t; domain = t / 64; bank = b; kind = k }

abbrev pub open_flight : ℕ → OpenSlot → Option Request
open_flight t None = None
open_flight t (Some a) = Some (request_in t a.bank a.kind)

abbrev pub state_flight : ℕ → ℕ → Kind → VertexState → Option Request
state_flight t b k Still = None
state_flight t b k Flying = Some (request_in t b k)
state_flight t b k (Done c) = None

abbrev pub vertex_flight : ℕ → Option Vertex → Option Request
vertex_flight t None = None
vertex_flight t (Some v) = state_flight t v.bank v.kind v.state

-- in a slot of an open domain, and in one of a domain that is not open
abbrev pub flight_by : ℕ → Option ℕ → OpenSlot → Option Vertex → Option Request
flight_by t (Some share) o v = open_flight t o
flight_by t None o v = vertex_flight t v

-- the request that a slot has in flight, if it has one
unfoldable pub flight_at : BoardView → ℕ → Option Request
flight_at b t = flight_by t (slice_index_or b.shares (t / 64) None) (slice_index_or b.slots t free) (vertex_at b.lanes t)

-- ---- Dones

abbrev pub finished_by : Option ℕ → Tick → ℕ → BoardView → BoardView
finished_by (Some share) n t b = with_slot t free b
finished_by None n t b = advanced_board (event.Done n) t b

-- a Done frees a slot of an open domain, and moves a vertex on
abbrev pub finished_board : Tick → ℕ → BoardView → BoardView
finished_board n t b = finished_by (slice_index_or b.shares (t / 64) None) n t b

-- what an event does to the board
abbrev pub heard_board : Tick → Event → BoardView → BoardView
heard_board n (reported.Issue t) b = b
heard_board n (reported.Done t) b = finished_board n t b
