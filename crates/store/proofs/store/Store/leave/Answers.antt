use Rattle.std.proofs.Common.{◌≤◌, length, sym, ap, ◌∙◌, rules}
use Rattle.std.proofs.lemmas.List.{get_or_past}
use Rattle.model.specs.Ticks.{oldest}
use Rattle.store.specs.Stores.{StoreView, BacklogView, no_backlog, unqueued}
use Rattle.store.proofs.Room.{that_domain, no_such_domain}
use Rattle.store.proofs.store.Store.leave.Goals as goal

pub returns-in_err-get_mut : goal.returns-in_err-get_mut
unfolding oldest
returns-in_err-get_mut c =
    let a = c.args.access in
    let d = c.args.domain in
    rw (← c.self.view_is) (
    let s : StoreView = record { backlogs = c.self.inside.backlogs.items; payloads = c.self.inside.payloads.items } in
    let past : length s.backlogs ≤ d = search rules in
    record {
      value = c.from_residual.ensures ∙ ap (λ (x : BacklogView). oldest a.bank a.kind x.queue) (sym (get_or_past s.backlogs d no_backlog past));
      after = no_such_domain (unqueued a.bank a.kind) s d past;
    })

pub returns : goal.returns
returns c =
    let a = c.args.access in
    let d = c.args.domain in
    rw (← c.self.view_is) (
    let s : StoreView = record { backlogs = c.self.inside.backlogs.items; payloads = c.self.inside.payloads.items } in
    record {
      value = search rules;
      after = that_domain (unqueued a.bank a.kind) s d c.in_ok-get_mut.field-0.now c.leave.new.self (search rules) c.leave.ensures.after;
    })
