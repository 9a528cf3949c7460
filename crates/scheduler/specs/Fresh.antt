-- Tables that nothing has happened to since they were made, but for settings.
use Rattle.std.specs.Prelude.{◌≡◌, ℕ, Bool, true, false, not, ◌&&◌, ◌||◌, List, Option, nat_lt}
use Rattle.std.specs.Option.{is_some}
use Rattle.interface.specs.Meaning.{any, is_empty}
use Rattle.patterns.specs.declared.vertex.Vertex.{Vertex}
use Rattle.patterns.specs.declared.vertex.VertexState.{VertexState}
use Rattle.patterns.specs.declared.vertex.VertexState.TheVariants.{Still, Flying, Done}
use Rattle.patterns.specs.Lanes.{LaneView}
use Rattle.board.specs.Slots.{is_free}
use Rattle.board.specs.Boards.{BoardView}
use Rattle.store.specs.Stores.{BacklogView, StoreView}

abbrev pub has_moved : VertexState → Bool
has_moved Still = false
has_moved Flying = true
has_moved (Done c) = true

-- some vertex has left
abbrev pub lane_moved : LaneView → Bool
lane_moved l = any (λ (v : Vertex). has_moved v.state) l.vertices

abbrev pub lanes_moved : List (List LaneView) → Bool
lanes_moved ts = any (λ ls. any lane_moved ls) ts

-- some request came
abbrev pub backlog_used : BacklogView → Bool
backlog_used x = not (is_empty x.queue) || nat_lt 0 x.serial

-- every vertex is still, every open slot free, and no request has come
unfoldable pub untouched : BoardView → StoreView → Bool
untouched b s = not (lanes_moved b.lanes) && (not (any (λ o. not (is_free o)) b.slots) && not (any backlog_used s.backlogs))

-- a run that has not begun, with no number of a next tick, has untouched tables
abbrev pub Fresh : Option ℕ → BoardView → StoreView → Type 0
Fresh next b s = (is_some next || untouched b s) ≡ true
