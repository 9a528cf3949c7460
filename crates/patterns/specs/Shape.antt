-- What a lane may be, and by which number a lane that may not be is refused.
-- Vertices and edges come as a setting call gives them, in the order of adding.
use Rattle.std.specs.Prelude.{ℕ, Bool, false, not, ◌&&◌, ◌||◌, List, [], ◌∷◌, ◌++◌, length, Some, None, Ok, Err, Option, Result, ◌==◌, nat_le, nat_lt}
use Rattle.interface.specs.Meaning.{any, check}
use Rattle.patterns.specs.declared.edge.Edge.{Edge}
use Rattle.patterns.specs.declared.setting.VertexSetting.{VertexSetting}
use Rattle.patterns.specs.declared.setting.EdgeSetting.{EdgeSetting}
use Rattle.patterns.specs.declared.setting.LaneRefusal.{LaneRefusal}
use Rattle.patterns.specs.declared.setting.LaneRefusal.TheVariants as refusal
use Rattle.patterns.specs.declared.vertex.Vertex.{Vertex}
use Rattle.patterns.specs.declared.vertex.VertexState.TheVariants.{Still}

-- the number by which each refusal is known
abbrev pub number : LaneRefusal → ℕ
number refusal.Domain = 2
number refusal.Count = 4
number refusal.Bank = 5
number refusal.Edge = 6
number refusal.Places = 7

-- the number of the refusal, where an answer is one
abbrev pub refused : {T : Type 0} → Result T LaneRefusal → Option ℕ
refused (Ok x) = None
refused (Err e) = Some (number e)

-- ---- vertices

-- 1 to 8 vertices
abbrev pub vertex_count : ℕ → Bool
vertex_count n = nat_le 1 n && nat_le n 8

-- a bank above 7
abbrev pub high_bank : VertexSetting → Bool
high_bank v = nat_lt 7 v.bank

-- ---- edges

-- from one vertex to one other, whatever the weights
abbrev pub same_pair : EdgeSetting → EdgeSetting → Bool
same_pair e f = e.source == f.source && e.target == f.target

-- in a lane of n vertices, after the edges that were added earlier, an edge is bad where its source is not below its target,
-- its target is no vertex, its weight is above 1,000, its pair is there already, or it is the 17th
abbrev pub bad_edge : ℕ → List EdgeSetting → EdgeSetting → Bool
bad_edge n earlier e =
    nat_le e.target e.source
    || (nat_le n e.target
    || (nat_lt 1000 e.weight
    || (any (same_pair e) earlier
    || nat_le 16 (length earlier))))

-- one of the edges is bad after those before it
abbrev pub bad_edges : ℕ → List EdgeSetting → List EdgeSetting → Bool
bad_edges n earlier [] = false
bad_edges n earlier (e ∷ es) = bad_edge n earlier e || bad_edges n (earlier ++ (e ∷ [])) es

-- ---- the checks in their order

-- the vertices, edges and rest of a lane are checked, and then what comes later
abbrev pub shape_checks : List VertexSetting → List EdgeSetting → ℕ → Option ℕ → Option ℕ
shape_checks vs es rest later =
    check (not (vertex_count (length vs))) 4
    (check (any high_bank vs) 5
    (check (bad_edges (length vs) [] es || nat_lt 1000 rest) 6 later))

-- a lane for a domain with a number of lanes, where some places are free
abbrev pub lane_refusal : ℕ → ℕ → List VertexSetting → List EdgeSetting → ℕ → Option ℕ
lane_refusal lanes free vs es rest =
    check (nat_le 8 lanes) 4
    (shape_checks vs es rest
    (check (nat_lt free (length vs)) 7 None))

-- ---- what an accepted lane has

-- a vertex as its lane holds it at first
abbrev pub vertex_of : VertexSetting → Vertex
vertex_of v = record { bank = v.bank; kind = v.kind; state = Still }

-- the same edge in the lane
abbrev pub edge_of : EdgeSetting → Edge
edge_of e = record { source = e.source; target = e.target; weight = e.weight }
