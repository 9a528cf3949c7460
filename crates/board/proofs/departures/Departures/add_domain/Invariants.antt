use Rattle.std.proofs.Common.{◌≡◌, [], get_or, drop}
use Rattle.board.specs.Leaving.{lanes_leaving, all_added}
use Rattle.board.proofs.departures.Departures.add_domain.Given as goal

abbrev pub invariant-loop-number : goal.invariant-loop-number
invariant-loop-number l =
    all_added (lanes_leaving l.tick l.domain l.number (drop l.number (get_or l.board.lanes l.domain []))) l.self
    ≡ all_added (lanes_leaving l.tick l.domain 0 (get_or l.board.lanes l.domain [])) l.initial.self
