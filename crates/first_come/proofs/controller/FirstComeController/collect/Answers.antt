use Rattle.std.proofs.Common.{sym, ap, ◌∙◌}
use Rattle.interface.specs.Meaning.{Call, is_empty}
use Rattle.interface.proofs.Codes.{cond_ap, after_is, collect_is}
use Rattle.first_come.specs.State.{State, state_codes, state_of, state_back, state_meaning}
use Rattle.first_come.proofs.States.{with_rows}
use Rattle.first_come.proofs.controller.FirstComeController.collect.Goals as goal

pub returns : goal.returns
returns c =
    rw (← c.self.view_is) (
    let s : State = record { rows = c.self.inside.table; gaps = c.self.inside.gaps } in
    record {
      answer = collect_is state_codes state_of state_back state_meaning s _ (sym c.collect.ensures.answer);
      after = after_is state_codes state_of state_back state_meaning Call.collect s _
          (ap (with_rows s) c.collect.ensures.after ∙ sym (cond_ap (with_rows s) (is_empty s.rows.events) _ _));
    })
