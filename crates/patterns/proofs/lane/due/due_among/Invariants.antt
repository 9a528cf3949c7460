use Rattle.std.proofs.Common.{◌≡◌, drop}
use Rattle.patterns.specs.Due.{due}
use Rattle.patterns.specs.Lanes.{done_by}
use Rattle.patterns.proofs.Releases.{onward, releases}
use Rattle.patterns.proofs.lane.due.due_among.Given as goal

abbrev pub invariant-loop-edge : goal.invariant-loop-edge
invariant-loop-edge l = onward l.start l.latest (releases (done_by l.vertices) l.vertex (drop l.edge-index l.edges)) ≡ due l.start (done_by l.vertices) l.edges l.vertex
