use Rattle.std.proofs.Common.{ap, ◌∙◌}
use Rattle.model.specs.Settings.{Settings, blank}
use Rattle.model.specs.Calls.{setting}
use Rattle.scheduler.proofs.Begins.{fresh_new, blank_is}
use Rattle.scheduler.proofs.scheduler.Scheduler.new.Goals as goal

pub invariant_of-result : goal.invariant_of-result
invariant_of-result g c = fresh_new c.in_ok-board.board c.in_ok-store.store c.in_ok-board.ensures c.in_ok-store.ensures

pub returns : goal.returns
returns g c =
    let m = g.C.Controller in
    ap (λ (k : Settings). setting k (m.state c.restarted.result)) (blank_is c.in_ok-board.board c.in_ok-board.ensures)
    ∙ ap (setting blank) c.restarted.ensures
