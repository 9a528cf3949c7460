use Rattle.std.proofs.Common.{◌≡◌, drop}
use Rattle.board.specs.Leaving.{lane_leaving, all_added}
use Rattle.board.proofs.departures.Departures.add_lane.Given as goal

abbrev pub invariant-loop-number : goal.invariant-loop-number
invariant-loop-number l =
    all_added (lane_leaving l.tick l.lane l.domain l.base l.number (drop l.number l.vertices)) l.self
    ≡ all_added (lane_leaving l.tick l.lane l.domain l.base 0 l.vertices) l.initial.self
