-- Who leaves in a tick, read from the board: no queue, row or serial has a part in it.
use Rattle.std.specs.Prelude.{ℕ, suc, ◌+◌, ◌*◌, Bool, true, false, cond, ◌&&◌, List, [], ◌∷◌, ◌++◌, length, Some, None, Option, nat_lt}
use Rattle.interface.specs.declared.Request.{Request}
use Rattle.patterns.specs.declared.vertex.Vertex.{Vertex}
use Rattle.patterns.specs.declared.vertex.VertexEvent.TheVariants.{Due}
use Rattle.patterns.specs.declared.vertex.VertexState.{VertexState}
use Rattle.patterns.specs.declared.vertex.VertexState.TheVariants.{Still, Flying, Done}
use Rattle.patterns.specs.Lanes.{LaneView, due_in}
use Rattle.model.specs.Ticks.{is_due}
use Rattle.board.specs.Boards.{BoardView, advanced_board}

abbrev pub has_not_left : VertexState → Bool
has_not_left Still = true
has_not_left Flying = false
has_not_left (Done c) = false

-- vertex number i of a lane is still and due at tick n
abbrev pub leaves_in : ℕ → LaneView → ℕ → Vertex → Bool
leaves_in n l i v = has_not_left v.state && is_due n (due_in l i)

abbrev pub request_from : ℕ → ℕ → Vertex → Request
request_from d t v = record { slot = t; domain = d; bank = v.bank; kind = v.kind }

-- of the vertices from number i on, in slots from base on, those that leave
unfoldable pub lane_leaving : ℕ → LaneView → ℕ → ℕ → ℕ → List Vertex → List Request
lane_leaving n l d base i [] = []
lane_leaving n l d base i (v ∷ vs) = cond (leaves_in n l i v) (request_from d (base + i) v ∷ lane_leaving n l d base (suc i) vs) (lane_leaving n l d base (suc i) vs)

-- of the lanes of domain d from number i on
unfoldable pub lanes_leaving : ℕ → ℕ → ℕ → List LaneView → List Request
lanes_leaving n d i [] = []
lanes_leaving n d i (l ∷ ls) = lane_leaving n l d (d * 64 + i * 8) 0 l.vertices ++ lanes_leaving n d (suc i) ls

-- an open domain has no vertices
abbrev pub domain_leaving : ℕ → ℕ → Option ℕ → List LaneView → List Request
domain_leaving n d (Some share) ls = []
domain_leaving n d None ls = lanes_leaving n d 0 ls

-- of the domains from number d on
unfoldable pub domains_leaving : ℕ → ℕ → List (Option ℕ) → List (List LaneView) → List Request
domains_leaving n d [] ts = []
domains_leaving n d (s ∷ ss) [] = domain_leaving n d s [] ++ domains_leaving n (suc d) ss []
domains_leaving n d (s ∷ ss) (t ∷ ts) = domain_leaving n d s t ++ domains_leaving n (suc d) ss ts

-- by rising domain, lane and vertex, the requests of the vertices that leave at tick n
abbrev pub board_leaving : ℕ → BoardView → List Request
board_leaving n b = domains_leaving n 0 b.shares b.lanes

-- ---- the list of them, which has memory for 512

abbrev pub Requests : Type 0
Requests = List Request

abbrev pub added : Request → List Request → List Request
added q qs = cond (nat_lt (length qs) 512) (qs ++ (q ∷ [])) qs

unfoldable pub all_added : List Request → List Request → List Request
all_added [] qs = qs
all_added (p ∷ ps) qs = all_added ps (added p qs)

-- ---- and what their leaving does to the board

unfoldable pub departed_board : List Request → BoardView → BoardView
departed_board [] b = b
departed_board (q ∷ qs) b = departed_board qs (advanced_board Due q.slot b)
