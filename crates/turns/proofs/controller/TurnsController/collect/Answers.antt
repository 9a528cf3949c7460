use Rattle.std.proofs.Common.{sym, ◌∙◌}
use Rattle.interface.specs.Meaning.{Call, is_empty}
use Rattle.interface.proofs.Codes.{cond_ap, after_is, collect_is}
use Rattle.turns.specs.State.{with_rows, state_meaning, state_codes, state_of, state_back}
use Rattle.turns.proofs.controller.TurnsController.collect.Goals as goal

pub returns : goal.returns
returns c =
    let s = c.args.self.now in
    record {
      answer = collect_is state_codes state_of state_back state_meaning s _ (sym c.hand_out.ensures.answer);
      after = after_is state_codes state_of state_back state_meaning Call.collect s _
          (c.hand_out.ensures.after ∙ sym (cond_ap (with_rows s) (is_empty s.rows.events) _ _));
    }
