use Rattle.std.proofs.Common.{rules}
use Rattle.interface.proofs.Loops.{map_turn, map_long}
use Rattle.patterns.specs.Lanes.{renewed}
use Rattle.patterns.proofs.domain.DomainLanes.renew.Goals as goal

pub loop-lane-preserved : goal.loop-lane-preserved
loop-lane-preserved c =
    let ls = c.args.self.now in
    map_turn (renewed) ls c.loop-lane.lane-items c.loop-lane.lane-index _ c.renew.new.self (search rules)
    (map_long (renewed) ls c.loop-lane.lane-items c.loop-lane.lane-index c.loop-lane.invariant) c.loop-lane.invariant c.renew.ensures
