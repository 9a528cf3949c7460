use Rattle.std.proofs.Common.{◌≡◌, [], take, drop}
use Rattle.patterns.specs.Shape.{bad_edges}
use Rattle.patterns.proofs.shape.has_bad.Given as goal

abbrev pub invariant-loop-number : goal.invariant-loop-number
invariant-loop-number l = bad_edges l.vertices (take l.number l.edges) (drop l.number l.edges) ≡ bad_edges l.vertices [] l.edges
