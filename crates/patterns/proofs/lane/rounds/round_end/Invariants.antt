use Rattle.std.specs.Option.{option_map}
use Rattle.patterns.specs.Lanes.{done_by}
use Rattle.patterns.proofs.Ends.{Ended}
use Rattle.patterns.proofs.lane.rounds.round_end.Given as goal

abbrev pub invariant-loop-vertex : goal.invariant-loop-vertex
invariant-loop-vertex l = Ended (done_by l.vertices) l.vertex-index (option_map (λ t. t.number) l.last)
