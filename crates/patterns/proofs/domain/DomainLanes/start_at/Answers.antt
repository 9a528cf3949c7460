use Rattle.std.proofs.Common.{rules}
use Rattle.interface.proofs.Loops.{map_turn, map_long}
use Rattle.patterns.specs.Lanes.{started}
use Rattle.patterns.proofs.domain.DomainLanes.start_at.Goals as goal

pub loop-lane-preserved : goal.loop-lane-preserved
loop-lane-preserved c =
    let ls = c.args.self.now in
    map_turn (started c.args.tick) ls c.loop-lane.lane-items c.loop-lane.lane-index _ c.start_at.new.self (search rules)
    (map_long (started c.args.tick) ls c.loop-lane.lane-items c.loop-lane.lane-index c.loop-lane.invariant) c.loop-lane.invariant c.start_at.ensures
