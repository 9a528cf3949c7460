use Rattle.std.proofs.Common.{rules}
use Rattle.interface.proofs.Loops.{map_turn, map_long}
use Rattle.patterns.specs.Moves.{moved}
use Rattle.patterns.specs.declared.vertex.VertexEvent.TheVariants.{NewRound}
use Rattle.patterns.proofs.lane.Lane.renew.Goals as goal

pub loop-vertex-preserved : goal.loop-vertex-preserved
loop-vertex-preserved c =
    let vs = c.args.self.now.vertices in
    map_turn (moved NewRound) vs c.loop-vertex.vertex-items c.loop-vertex.vertex-index _ c.advance.new.self (search rules)
    (map_long (moved NewRound) vs c.loop-vertex.vertex-items c.loop-vertex.vertex-index c.loop-vertex.invariant) c.loop-vertex.invariant c.advance.ensures
