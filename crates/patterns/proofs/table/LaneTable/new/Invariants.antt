use Rattle.std.proofs.Common.{◌≡◌, ◌≤◌, [], replicate, vec_items, vec_len, vec_capacity}
use Rattle.patterns.proofs.table.LaneTable.new.Given as goal

abbrev pub invariant-loop : goal.invariant-loop
invariant-loop l = (vec_len l.domains ≡ l.counter) × (8 ≤ vec_capacity l.domains) × (vec_items l.domains ≡ replicate l.counter [])
