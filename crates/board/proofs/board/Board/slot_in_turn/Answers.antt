use Rattle.std.proofs.Common.{arith, rules}
use Rattle.board.proofs.Limits.{shared_low}
use Rattle.board.proofs.board.Board.slot_in_turn.Goals as goal

pub overflow_mul-result : goal.overflow_mul-result
overflow_mul-result c =
    let low = shared_low c.args.self.now.shares c.args.domain c.in_ok-share.share.slots c.known.ensures.board.eight c.in_ok-share.ensures in
    omega (arith, low)

pub overflow_add-result : goal.overflow_add-result
overflow_add-result c =
    let low = shared_low c.args.self.now.shares c.args.domain c.in_ok-share.share.slots c.known.ensures.board.eight c.in_ok-share.ensures in
    search (rules, low)

pub returns-clause-low : goal.returns-clause-low
returns-clause-low c =
    let low = shared_low c.args.self.now.shares c.args.domain c.in_ok-share.share.slots c.known.ensures.board.eight c.in_ok-share.ensures in
    search (rules, low)
