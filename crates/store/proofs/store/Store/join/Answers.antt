use Rattle.std.proofs.Common.{◌≤◌, length, ◌∙◌, rules}
use Rattle.store.specs.Stores.{StoreView, BacklogView, backlog_at, queued, joined}
use Rattle.store.proofs.Room.{joined_with_room, same_change, that_domain, no_such_domain}
use Rattle.store.proofs.store.Store.join.Goals as goal
use Rattle.store.proofs.store.Store.join.Goals.{in-Some, in_default}

pub returns : goal.returns
returns c =
    let a = c.args.access in
    let d = c.args.domain in
    let enters : BacklogView → BacklogView = joined a.bank a.kind c.args.row in
    let waits : BacklogView → BacklogView = queued a.bank a.kind c.args.row in
    rw (← c.self.view_is) (
    let s : StoreView = record { backlogs = c.self.inside.backlogs.items; payloads = c.self.inside.payloads.items } in
    elim c.match-get_mut.branch [
      | in-Some w ↦
          let after = that_domain enters s d w.in-Some.backlog.now w.join.new.self (search rules) w.join.ensures.after in
          rw w.self-inside-is (record { after = after; with_room = λ room serial. after ∙ same_change enters waits d s (joined_with_room a.bank a.kind c.args.row (backlog_at s d) room serial) })
      | in_default w ↦
          let past : length s.backlogs ≤ d = search rules in
          rw w.self-inside-is (record { after = no_such_domain enters s d past; with_room = λ room serial. no_such_domain waits s d past })
    ])
