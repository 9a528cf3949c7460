use Rattle.std.proofs.Common.{◌≡◌, map, take, vec_items, vec_len, vec_capacity}
use Rattle.patterns.specs.Shape.{vertex_of}
use Rattle.patterns.proofs.lane.set_vertices.Given as goal

abbrev pub invariant-loop-vertex : goal.invariant-loop-vertex
invariant-loop-vertex l = (vec_items l.list ≡ map vertex_of (take l.vertex-index l.vertices)) × (vec_len l.list ≡ l.vertex-index) × (vec_capacity l.list ≡ vec_capacity l.initial.list)
