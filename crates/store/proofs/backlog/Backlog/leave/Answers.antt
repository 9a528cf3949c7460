use Rattle.std.proofs.Common.{List, ap, ◌∙◌, rules}
use Rattle.model.specs.declared.Waiting.{Waiting}
use Rattle.model.specs.Payloads.{real}
use Rattle.store.proofs.Oldest.{found, missing}
use Rattle.store.proofs.backlog.Backlog.leave.Goals as goal

pub returns-in_err-place : goal.returns-in_err-place
returns-in_err-place c =
    let h = missing c.args.access.bank c.args.access.kind c.self.inside.queue.items (search rules) in
    rw (← c.self.view_is) (record { value = c.from_residual.ensures ∙ h.0; after = ap (λ (l : List Waiting). record { queue = l; serial = c.self.inside.serial }) h.1 })

pub returns : goal.returns
returns c =
    let h = found c.args.access.bank c.args.access.kind c.self.inside.queue.items c.in_ok-place.place (search rules) c.remove-request.result in
    rw (← c.self.view_is) (
    record {
      value = ap (λ (w : Waiting). real w.row w.serial) c.remove-request.ensures.value ∙ h.0;
      after = ap (λ (l : List Waiting). record { queue = l; serial = c.self.inside.serial }) (c.remove-request.ensures.items ∙ h.1);
    })
