use Rattle.std.proofs.Common.{get_or, None, ap, ◌∙◌, rules}
use Rattle.board.specs.Slots.{free}
use Rattle.board.specs.Flights.{flight_at, open_flight}
use Rattle.board.proofs.Flying.{slot_is, slot_past, flight_past, flight_open, flight_vertex}
use Rattle.board.proofs.board.Board.in_flight.Goals as goal

pub returns-in_err-place : goal.returns-in_err-place
returns-in_err-place c =
    let k = c.known.ensures.board in
    let e = flight_past c.args.self.now c.args.slot k.eight k.as_many (slot_past c.args.slot c.in_err-place.ensures) in
    search (rules, e)

pub returns-in-Some : goal.returns-in-Some
returns-in-Some c =
    let b = c.args.self.now in
    let place = c.in_ok-place.place.number in
    flight_open b place _ c.open_flight.result (c.in-Some.ensures ∙ ap (λ d. get_or b.shares d None) c.domain.ensures) (c.open_flight.ensures ∙ ap (open_flight place) (c.holder.ensures ∙ ap (λ i. get_or b.slots i free) c.index.ensures))
    ∙ ap (flight_at b) (slot_is c.args.slot place c.in_ok-place.ensures)

pub returns-in-None : goal.returns-in-None
returns-in-None c =
    let b = c.args.self.now in
    let place = c.in_ok-place.place.number in
    flight_vertex b place c.vertex.result c.vertex_flight.result (c.in-None.ensures ∙ ap (λ d. get_or b.shares d None) c.domain.ensures) c.vertex.ensures c.vertex_flight.ensures
    ∙ ap (flight_at b) (slot_is c.args.slot place c.in_ok-place.ensures)
