use Rattle.std.proofs.Common.{◌≡◌, map, take, vec_items, vec_len, vec_capacity}
use Rattle.patterns.specs.Shape.{edge_of}
use Rattle.patterns.proofs.lane.set_edges.Given as goal

abbrev pub invariant-loop-edge : goal.invariant-loop-edge
invariant-loop-edge l = (vec_items l.list ≡ map edge_of (take l.edge-index l.edges)) × (vec_len l.list ≡ l.edge-index) × (vec_capacity l.list ≡ vec_capacity l.initial.list)
