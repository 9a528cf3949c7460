use Rattle.std.proofs.Common.{ℕ, List, Option, ap, ◌∙◌, rules}
use Rattle.model.specs.Calls.{opens}
use Rattle.board.specs.Boards.{BoardView, slots_set, with_setting}
use Rattle.board.specs.contracts.board.Board.{the_view}
use Rattle.board.proofs.Limits.{open_refusal, open_known, known_after, refused_view, accepted_view, shares_set}
use Rattle.board.proofs.board.Board.open.Goals as goal

pub returns-in_err-chosen-clause-answer : goal.returns-in_err-chosen-clause-answer
returns-in_err-chosen-clause-answer c =
    let b = c.args.self.now in
    let e = c.in_err-chosen.ensures.answer ∙ open_refusal b (slots_set b) c.known.ensures.board c.args.places c.args.domain c.args.share in
    search (rules, e)

pub returns-in_err-chosen-clause-after : goal.returns-in_err-chosen-clause-after
returns-in_err-chosen-clause-after c =
    let b = c.args.self.now in
    refused_view b c.args.places (opens c.args.domain c.args.share) _ (c.in_err-chosen.ensures.answer ∙ open_refusal b (slots_set b) c.known.ensures.board c.args.places c.args.domain c.args.share)

pub invariant_of-self : goal.invariant_of-self
invariant_of-self c =
    let b = c.args.self.now in
    let a = the_view c.self.inside in
    let z = opens c.args.domain c.args.share in
    let e = c.in_ok-chosen.ensures.answer ∙ open_refusal b (slots_set b) c.known.ensures.board c.args.places c.args.domain c.args.share in
    let is = ap (λ (s : List (Option ℕ)). record { first = a.first; shares = s; lanes = a.lanes; slots = a.slots }) (shares_set c.self.inside.shares.items c.args.domain c.args.share c.in_ok-chosen.chosen c.in_ok-chosen.ensures.share)
    ∙ ap (λ (x : BoardView). with_setting x z) c.self.view_is in
    (known_after c.args.share c.self.invariant.0 c.self.view_is (open_known b (slots_set b) c.known.ensures.board c.args.places c.args.domain c.args.share e) is, c.self.invariant.1)

pub returns-clause-answer : goal.returns-clause-answer
returns-clause-answer c =
    let b = c.args.self.now in
    c.in_ok-chosen.ensures.answer ∙ open_refusal b (slots_set b) c.known.ensures.board c.args.places c.args.domain c.args.share

pub returns-clause-after : goal.returns-clause-after
returns-clause-after c =
    let b = c.args.self.now in
    let a = the_view c.self.inside in
    let z = opens c.args.domain c.args.share in
    let e = c.in_ok-chosen.ensures.answer ∙ open_refusal b (slots_set b) c.known.ensures.board c.args.places c.args.domain c.args.share in
    accepted_view b _ c.args.places z e
    (ap (λ (s : List (Option ℕ)). record { first = a.first; shares = s; lanes = a.lanes; slots = a.slots }) (shares_set c.self.inside.shares.items c.args.domain c.args.share c.in_ok-chosen.chosen c.in_ok-chosen.ensures.share)
    ∙ ap (λ (x : BoardView). with_setting x z) c.self.view_is)
