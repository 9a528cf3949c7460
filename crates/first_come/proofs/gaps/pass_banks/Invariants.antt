use Rattle.std.proofs.Common.{◌≡◌, ◌-◌, ◌++◌, map, take, drop}
use Rattle.first_come.proofs.gaps.pass_banks.Given as goal

abbrev pub invariant-loop-n : goal.invariant-loop-n
invariant-loop-n l = l.banks ≡ map (λ k. k - 1) (take l.n-index l.initial.banks) ++ drop l.n-index l.initial.banks
