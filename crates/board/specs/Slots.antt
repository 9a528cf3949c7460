-- The slots of open domains.
use Rattle.std.specs.Prelude.{ℕ, Bool, true, false, Some, None, Option}
use Rattle.interface.specs.declared.Kind.{Kind}
use Rattle.interface.specs.Meaning.{any}
use Rattle.patterns.specs.declared.vertex.Vertex.{Vertex}
use Rattle.patterns.specs.Lanes.{LaneView}
use Rattle.model.specs.Ticks.{alike}
use Rattle.model.specs.Calls.{slot_in_turn}
use Rattle.interface.specs.declared.Access.{Access}

-- a slot of an open domain: free, or held by a request with this bank and kind
abbrev pub OpenSlot : Type 0
OpenSlot = Option Access

abbrev pub free : OpenSlot
free = None

abbrev pub held : ℕ → Kind → OpenSlot
held b k = Some (record { bank = b; kind = k })

abbrev pub is_free : OpenSlot → Bool
is_free None = true
is_free (Some a) = false

-- the slot of an open domain for the request with this serial
abbrev pub turn_of : ℕ → ℕ → Option ℕ → Option ℕ
turn_of d i None = None
turn_of d i (Some share) = Some (slot_in_turn d share i)

-- ---- the vertices that a request may go with

abbrev pub vertex_serves : ℕ → Kind → Vertex → Bool
vertex_serves b k v = alike v.bank v.kind b k

abbrev pub lane_serves : ℕ → Kind → LaneView → Bool
lane_serves b k l = any (vertex_serves b k) l.vertices
