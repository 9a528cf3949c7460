use Rattle.std.proofs.Common.{◌≡◌, Some, None, sym, ap, ◌∙◌, rules}
use Rattle.model.specs.Calls.{first}
use Rattle.std.specs.Option.{option_map}
use Rattle.patterns.specs.Ticks.{tick_number}
use Rattle.board.specs.contracts.board.Board.{the_view}
use Rattle.board.proofs.Limits.{first_refused, first_accepted, first_known, refused_view, accepted_view}
use Rattle.board.proofs.board.Board.set_first.Goals as goal

pub returns-in_err-tick-clause-answer : goal.returns-in_err-tick-clause-answer
returns-in_err-tick-clause-answer c = λ places. let none : None ≡ tick_number c.args.number = search rules in let e = first_refused c.args.self.now places c.args.number none in search (rules, e)

pub returns-in_err-tick-clause-after : goal.returns-in_err-tick-clause-after
returns-in_err-tick-clause-after c = λ places. let none : None ≡ tick_number c.args.number = search rules in refused_view c.args.self.now places (first c.args.number) _ (first_refused c.args.self.now places c.args.number none)

pub invariant_of-self : goal.invariant_of-self
invariant_of-self c = (first_known (the_view c.self.inside) c.self.inside.used c.self.invariant.0 _, c.self.invariant.1)

pub returns-clause-answer : goal.returns-clause-answer
returns-clause-answer c = λ places.
    let some : Some c.in_ok-tick.tick.number ≡ tick_number c.args.number = ap (option_map (λ t. t.number)) (sym c.in_ok-tick.ensures.ok_part) ∙ c.new.ensures in
    (first_accepted c.args.self.now places c.args.number c.in_ok-tick.tick.number some).0

pub returns-clause-after : goal.returns-clause-after
returns-clause-after c =
    let b = the_view c.self.inside in
    rw (← c.self.view_is) (λ places.
    let some : Some c.in_ok-tick.tick.number ≡ tick_number c.args.number = ap (option_map (λ t. t.number)) (sym c.in_ok-tick.ensures.ok_part) ∙ c.new.ensures in
    let e = first_accepted b places c.args.number c.in_ok-tick.tick.number some in
    accepted_view b _ places (first c.args.number) e.0 (ap (λ n. record { first = n; shares = b.shares; lanes = b.lanes; slots = b.slots }) e.1))
