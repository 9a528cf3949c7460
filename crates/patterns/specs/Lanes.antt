-- A lane as plain values: when its vertices are due, and its rounds.
use Rattle.std.specs.Prelude.{ℕ, zero, suc, List, [], ◌∷◌, map, length, Some, None, Option, slice_index_or}
use Rattle.patterns.specs.declared.edge.Edge.{Edge}
use Rattle.patterns.specs.declared.vertex.Vertex.{Vertex}
use Rattle.patterns.specs.declared.vertex.VertexEvent.{VertexEvent}
use Rattle.patterns.specs.declared.vertex.VertexEvent.TheVariants.{NewRound}
use Rattle.patterns.specs.declared.setting.VertexSetting.{VertexSetting}
use Rattle.patterns.specs.declared.setting.EdgeSetting.{EdgeSetting}
use Rattle.patterns.specs.Shape.{vertex_of, edge_of}
use Rattle.patterns.specs.Moves.{moved, done_tick}
use Rattle.patterns.specs.Due.{due, round_end, next_start}

-- what a lane holds
pub record LaneView : Type 0 where
  pub vertices : List Vertex
  pub edges : List Edge
  pub rest : ℕ
  pub start : ℕ

-- a lane as it is set, before its first start
abbrev pub lane_of : List VertexSetting → List EdgeSetting → ℕ → LaneView
lane_of vs es rest = record { vertices = map vertex_of vs; edges = map edge_of es; rest = rest; start = 0 }

abbrev pub vertex_done : Vertex → Option ℕ
vertex_done v = done_tick v.state

-- the Done tick of each vertex that is done in this round
abbrev pub done_by : List Vertex → ℕ → Option ℕ
done_by vs k = slice_index_or (map vertex_done vs) k None

abbrev pub due_in : LaneView → ℕ → Option ℕ
due_in l v = due l.start (done_by l.vertices) l.edges v

-- the list with the element at a place changed
abbrev pub changed : {X : Type 0} → (X → X) → List X → ℕ → List X
changed f [] i = []
changed f (x ∷ xs) zero = f x ∷ xs
changed f (x ∷ xs) (suc i) = x ∷ changed f xs i

-- an event moves one vertex on
abbrev pub advanced : VertexEvent → ℕ → LaneView → LaneView
advanced e v l = record { vertices = changed (moved e) l.vertices v; edges = l.edges; rest = l.rest; start = l.start }

-- the last Done tick, once all vertices are done
abbrev pub ended : LaneView → Option ℕ
ended l = round_end (done_by l.vertices) (length l.vertices)

-- the next round, from the last Done tick of this one
abbrev pub renewed_at : Option ℕ → LaneView → LaneView
renewed_at None l = l
renewed_at (Some c) l = record { vertices = map (moved NewRound) l.vertices; edges = l.edges; rest = l.rest; start = next_start l.rest (Some c) l.start }

-- once all vertices are done, all become still, and the next start is the last Done tick and the rest
abbrev pub renewed : LaneView → LaneView
renewed l = renewed_at (ended l) l

abbrev pub started : ℕ → LaneView → LaneView
started tick l = record { vertices = l.vertices; edges = l.edges; rest = l.rest; start = tick }
