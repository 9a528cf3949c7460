use Rattle.std.proofs.Common.{◌≡◌, ◌≤◌, take}
use Rattle.tally.specs.Counts.{lines_with, is_taken, is_issued, is_done}
use Rattle.tally.proofs.count.Given as goal

abbrev pub invariant-loop-line : goal.invariant-loop-line
invariant-loop-line l =
    (l.taken ≡ lines_with is_taken (take l.line-index l.lines))
    × (l.issued ≡ lines_with is_issued (take l.line-index l.lines))
    × (l.done ≡ lines_with is_done (take l.line-index l.lines))
    × (l.taken ≤ l.line-index) × (l.issued ≤ l.line-index) × (l.done ≤ l.line-index)
