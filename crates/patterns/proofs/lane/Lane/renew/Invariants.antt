use Rattle.std.proofs.Common.{◌≡◌, ◌++◌, map, take, drop}
use Rattle.patterns.specs.Moves.{moved}
use Rattle.patterns.specs.declared.vertex.VertexEvent.TheVariants.{NewRound}
use Rattle.patterns.proofs.lane.Lane.renew.Given as goal

abbrev pub invariant-loop-vertex : goal.invariant-loop-vertex
invariant-loop-vertex l = l.vertex-items ≡ map (moved NewRound) (take l.vertex-index l.fn.self.vertices) ++ drop l.vertex-index l.fn.self.vertices
