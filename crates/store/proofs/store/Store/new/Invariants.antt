use Rattle.std.proofs.Common.{◌≡◌, ◌≤◌, replicate, vec_items, vec_len, vec_capacity}
use Rattle.store.specs.Stores.{no_backlog}
use Rattle.store.proofs.store.Store.new.Given as goal

abbrev pub invariant-loop : goal.invariant-loop
invariant-loop l = (vec_len l.backlogs ≡ l.counter) × (8 ≤ vec_capacity l.backlogs) × (vec_items l.backlogs ≡ replicate l.counter no_backlog)
