use Rattle.std.proofs.Common.{sym, ◌∙◌}
use Rattle.interface.specs.Meaning.{Call, take_refusal}
use Rattle.interface.proofs.Codes.{accepted_ap, after_is, take_is}
use Rattle.turns.specs.State.{with_rows, state_meaning, state_codes, state_of, state_back}
use Rattle.turns.proofs.controller.TurnsController.take.Goals as goal

pub returns : goal.returns
returns c =
    let s = c.args.self.now in
    let q = c.args.request in
    record {
      answer = take_is state_codes state_of state_back state_meaning q s _ (sym c.hold.ensures.answer);
      after = after_is state_codes state_of state_back state_meaning (Call.take q) s _
          (c.hold.ensures.after ∙ sym (accepted_ap (with_rows s) (take_refusal state_meaning s q) _ _));
    }
