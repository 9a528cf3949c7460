use Rattle.std.proofs.Common.{arith}
use Rattle.holder.specs.Holding.{slot_by}
use Rattle.holder.proofs.Places.{dropped_found, dropped_absent}
use Rattle.holder.proofs.holder.Holder.end.Goals as goal

pub returns-in-Some : goal.returns-in-Some
returns-in-Some g c =
    let d = dropped_found (slot_by g.E.OfRequest.request) c.args.slot c.args.self.now.entries c.in-Some.i in
    grind (arith, d)

pub returns-in_default : goal.returns-in_default
returns-in_default g c =
    let d = dropped_absent (slot_by g.E.OfRequest.request) c.args.slot c.args.self.now.entries in
    grind (arith, d)
