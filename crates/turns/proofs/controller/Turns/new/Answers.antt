use Rattle.turns.proofs.Histories.{by_turns, isolated, done_in_time}
use Rattle.turns.proofs.controller.Turns.new.Goals as goal

pub returns : goal.returns
returns c = record { made = c.empty.ensures; by_turns = by_turns; isolated = isolated; done_in_time = done_in_time }
