use Rattle.std.proofs.Common.{◌≡◌, [], drop}
use Rattle.board.specs.Leaving.{domains_leaving, all_added, board_leaving}
use Rattle.board.proofs.departures.Departures.fill.Given as goal

abbrev pub invariant-loop-domain : goal.invariant-loop-domain
invariant-loop-domain l =
    let b = l.board in
    all_added (domains_leaving l.tick l.domain (drop l.domain b.shares) (drop l.domain b.lanes)) l.self ≡ all_added (board_leaving l.tick b) []
