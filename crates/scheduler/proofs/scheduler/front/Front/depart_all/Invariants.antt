use Rattle.std.proofs.Common.{◌≡◌, drop}
use Rattle.board.specs.Leaving.{departed_board}
use Rattle.scheduler.specs.Hearing.{taken_by}
use Rattle.scheduler.proofs.scheduler.front.Front.depart_all.Given as goal

abbrev pub invariant-loop-request : goal.invariant-loop-request
invariant-loop-request g l =
    let m = g.C.Controller in
    (departed_board (drop l.request-index l.requests) l.self.board ≡ departed_board l.requests l.initial.self.board)
    × (taken_by m.meaning (drop l.request-index l.requests) (m.state l.self.controller) ≡ taken_by m.meaning l.requests (m.state l.initial.self.controller))
