-- The checks of a submit, from the tables.
use Rattle.std.specs.Prelude.{ℕ, ◌^◌, not, ◌||◌, [], length, Some, None, Option, nat_le, nat_lt, slice_index_or}
use Rattle.interface.specs.Meaning.{any, check}
use Rattle.interface.specs.declared.Kind.{Kind}
use Rattle.board.specs.Sets.{is_unset_at}
use Rattle.board.specs.Slots.{free, is_free, turn_of, lane_serves}
use Rattle.board.specs.Boards.{BoardView}
use Rattle.store.specs.Stores.{StoreView, backlog_at}

-- the slot in turn of an open domain is held
abbrev pub held_check : BoardView → ℕ → Option ℕ
held_check b slot = check (not (is_free (slice_index_or b.slots slot free))) 14 None

-- no vertex of a protected domain has the bank and kind, or 16 wait
abbrev pub queue_checks : BoardView → StoreView → ℕ → ℕ → Kind → Option ℕ
queue_checks b s d bank kind =
    check (not (any (lane_serves bank kind) (slice_index_or b.lanes d []))) 12
    (check (nat_lt 15 (length (backlog_at s d).queue)) 13 None)

-- for a domain that has a slot in turn, and so is open, and for one that has none
abbrev pub side_checks : BoardView → StoreView → ℕ → ℕ → Kind → Option ℕ → Option ℕ
side_checks b s d bank kind (Some slot) = held_check b slot
side_checks b s d bank kind None = queue_checks b s d bank kind

abbrev pub turn_at : BoardView → StoreView → ℕ → Option ℕ
turn_at b s d = turn_of d (backlog_at s d).serial (slice_index_or b.shares d None)

abbrev pub submit_checks : BoardView → StoreView → ℕ → ℕ → Kind → ℕ → Option ℕ
submit_checks b s d bank kind row =
    check (is_unset_at b.shares b.lanes d) 8
    (check (nat_lt 7 bank) 9
    (check (nat_lt row 1 || nat_lt 65535 row) 10
    (check (nat_le (10 ^ 18) (backlog_at s d).serial) 11
    (side_checks b s d bank kind (turn_at b s d)))))
