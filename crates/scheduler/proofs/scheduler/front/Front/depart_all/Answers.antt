use Rattle.std.proofs.Common.{◌∙◌}
use Rattle.interface.specs.declared.Kind.TheVariants.{Read}
use Rattle.interface.specs.declared.Request.{Request}
use Rattle.scheduler.proofs.Loops.{departed_turn, taken_turn, departed_end, taken_end}
use Rattle.scheduler.proofs.scheduler.front.Front.depart_all.Goals as goal

-- what a read past the end of the list would give
abbrev no_request : Request
no_request = record { slot = 0; domain = 0; bank = 0; kind = Read }

pub loop-request-preserved : goal.loop-request-preserved
loop-request-preserved g c =
    let m = g.C.Controller in
    let qs = c.args.requests.now in
    let i = c.loop-request.request-index in (
      departed_turn m.meaning qs i no_request c.loop-request-test.true c.loop-request.self.board c.depart.new.self.board c.depart.ensures.board ∙ c.loop-request.invariant.0,
      taken_turn m.meaning qs i no_request c.loop-request-test.true (m.state c.loop-request.self.controller) (m.state c.depart.new.self.controller) c.depart.ensures.controller ∙ c.loop-request.invariant.1,
    )

pub returns : goal.returns
returns g c =
    let m = g.C.Controller in
    let qs = c.args.requests.now in
    let i = c.loop-request.request-index in
    record {
      board = departed_end m.meaning qs i c.loop-request-test.false c.loop-request.self.board ∙ c.loop-request.invariant.0;
      controller = taken_end m.meaning qs i c.loop-request-test.false (m.state c.loop-request.self.controller) ∙ c.loop-request.invariant.1;
    }
