use Rattle.std.proofs.Common.{◌≤◌, length, ◌∙◌, rules}
use Rattle.store.specs.Stores.{StoreView, backlog_at, counted, numbered}
use Rattle.store.proofs.Room.{numbered_with_serial, same_change, that_domain, no_such_domain}
use Rattle.store.proofs.store.Store.count.Goals as goal
use Rattle.store.proofs.store.Store.count.Goals.{in-Some, in_default}

pub returns : goal.returns
returns c =
    let d = c.args.domain in
    rw (← c.self.view_is) (
    let s : StoreView = record { backlogs = c.self.inside.backlogs.items; payloads = c.self.inside.payloads.items } in
    elim c.match-get_mut.branch [
      | in-Some w ↦
          let after = that_domain numbered s d w.in-Some.backlog.now w.count.new.self (search rules) w.count.ensures.after in
          rw w.self-inside-is (record { after = after; with_serial = λ serial. after ∙ same_change numbered counted d s (numbered_with_serial (backlog_at s d) serial) })
      | in_default w ↦
          let past : length s.backlogs ≤ d = search rules in
          rw w.self-inside-is (record { after = no_such_domain numbered s d past; with_serial = λ serial. no_such_domain counted s d past })
    ])
