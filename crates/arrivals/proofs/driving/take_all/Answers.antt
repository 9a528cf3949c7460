use Rattle.std.proofs.Common.{sym, ◌∙◌, arith}
use Rattle.interface.specs.declared.Kind.TheVariants.{Read}
use Rattle.arrivals.specs.declared.reading.Arrival.{Arrival}
use Rattle.arrivals.proofs.Admitting.{one_taken, none_taken}
use Rattle.arrivals.proofs.driving.take_all.Goals as goal

-- what an index past the end would read
abbrev nothing : Arrival
nothing = record { step = 0; request = record { slot = 0; domain = 0; bank = 0; kind = Read } }

pub loop-taken-preserved : goal.loop-taken-preserved
loop-taken-preserved g c =
    let m = g.C.Controller in
    let t = one_taken m.meaning c.args.step c.args.arrivals.now c.loop-taken.taken nothing (m.state c.loop-taken.controller) (m.state c.offer.new.controller)
    c.loop-taken-test.true (sym c.offer.ensures.answer ∙ c.if-not-offer.false) c.offer.ensures.after in
    (omega (arith, t.0, c.loop-taken.invariant.0), sym t.1 ∙ c.loop-taken.invariant.1)

pub returns-then-not-offer : goal.returns-then-not-offer
returns-then-not-offer g c =
    let m = g.C.Controller in
    let t = none_taken m.meaning c.args.step c.args.arrivals.now c.loop-taken.taken nothing (m.state c.loop-taken.controller) (m.state c.offer.new.controller)
    c.loop-taken-test.true (sym c.offer.ensures.answer ∙ c.if-not-offer.true) c.offer.ensures.after in
    record { answer = omega (arith, t.0, c.loop-taken.invariant.0); within = omega arith; after = sym t.1 ∙ c.loop-taken.invariant.1 }
