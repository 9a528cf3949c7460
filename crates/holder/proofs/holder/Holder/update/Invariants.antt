use Rattle.std.proofs.Common.{◌≡◌, ◌++◌, map, take, drop}
use Rattle.holder.proofs.holder.Holder.update.Given as goal

abbrev pub invariant-loop-e : goal.invariant-loop-e
invariant-loop-e g l = l.e-items ≡ map (g.C.Change.changed l.change) (take l.e-index l.initial.e-items) ++ drop l.e-index l.initial.e-items
