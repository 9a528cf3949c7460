use Rattle.std.proofs.Common.{sym, ap, ◌∙◌}
use Rattle.interface.specs.Meaning.{Call, take_refusal}
use Rattle.interface.proofs.Codes.{accepted_ap, after_is, take_is}
use Rattle.first_come.specs.State.{State, state_codes, state_of, state_back, state_meaning}
use Rattle.first_come.proofs.States.{with_rows}
use Rattle.first_come.proofs.controller.FirstComeController.take.Goals as goal

pub returns : goal.returns
returns c =
    rw (← c.self.view_is) (
    let s : State = record { rows = c.self.inside.table; gaps = c.self.inside.gaps } in
    let q = c.args.request in
    record {
      answer = take_is state_codes state_of state_back state_meaning q s _ (sym c.take.ensures.answer);
      after = after_is state_codes state_of state_back state_meaning (Call.take q) s _
          (ap (with_rows s) c.take.ensures.after ∙ sym (accepted_ap (with_rows s) (take_refusal state_meaning s q) _ _));
    })
