use Rattle.std.proofs.Common.{◌≡◌, Some, None, sym, ap, ◌∙◌}
use Rattle.std.proofs.lemmas.Result.{err_from_is_err_and}
use Rattle.interface.specs.Meaning.{Call, accepted, refused, number}
use Rattle.interface.proofs.Codes.{after_is, step_is}
use Rattle.held.specs.Rows.{busy, passed}
use Rattle.turns.specs.State.{State, with_rows, issue_in_turn, counted, state_meaning, state_codes, state_of, state_back}
use Rattle.turns.proofs.controller.TurnsController.step.Goals as goal

pub returns-in_err-step : goal.returns-in_err-step
returns-in_err-step c =
    rw (← c.self.view_is) (
    let s : State = record { rows = c.self.inside.table; step = c.self.inside.step } in
    let p = err_from_is_err_and c.from_residual.result c.from_residual.ensures.1 in
    let busy_now : busy s.rows ≡ Some (number c.in_err-step.field-0.0) = sym c.in_err-step.ensures.answer in
    record {
      answer = ap refused p.1 ∙ ap (λ y. Some (number y)) p.2 ∙ step_is state_codes state_of state_back state_meaning s _ busy_now;
      after = after_is state_codes state_of state_back state_meaning Call.step s _
          (ap (with_rows s) (c.step.ensures.after ∙ ap (λ o. accepted o (passed s.rows) s.rows) busy_now)
          ∙ ap (λ o. accepted o (state_meaning.stepped s) s) (sym busy_now));
    })

pub returns : goal.returns
returns c =
    rw (← c.self.view_is) (
    let s : State = record { rows = c.self.inside.table; step = c.self.inside.step } in
    let free : busy s.rows ≡ None = sym c.in_ok-step.ensures.answer in
    record {
      answer = step_is state_codes state_of state_back state_meaning s _ free;
      after = after_is state_codes state_of state_back state_meaning Call.step s _
          (c.take_turn.ensures
          ∙ ap (λ t. counted (issue_in_turn (with_rows s t))) (c.step.ensures.after ∙ ap (λ o. accepted o (passed s.rows) s.rows) free)
          ∙ ap (λ o. accepted o (state_meaning.stepped s) s) (sym free));
    })
