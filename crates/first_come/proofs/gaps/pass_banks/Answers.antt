use Rattle.std.proofs.Common.{◌-◌, ◌<◌, ◌≤◌, length, ◌∙◌, arith}
use Rattle.interface.proofs.Loops.{map_turn, map_done, map_long}
use Rattle.first_come.proofs.gaps.pass_banks.Goals as goal

pub loop-n-preserved : goal.loop-n-preserved
loop-n-preserved c =
    let h : c.loop-n.n-index < length c.args.banks.now = omega arith in
    let l = map_long (λ k. k - 1) c.args.banks.now c.loop-n.banks c.loop-n.n-index c.loop-n.invariant in
    map_turn (λ k. k - 1) c.args.banks.now c.loop-n.banks c.loop-n.n-index 0 c.saturating_sub.result h l c.loop-n.invariant c.saturating_sub.ensures

pub returns : goal.returns
returns c =
    let h : length c.args.banks.now ≤ c.loop-n.n-index = omega arith in
    c.loop-n.invariant ∙ map_done (λ k. k - 1) c.args.banks.now c.loop-n.n-index h
