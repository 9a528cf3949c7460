-- The public side of the tables as plain values, and what the setting calls do to it.
use Rattle.std.specs.Prelude.{◌≡◌, ℕ, ◌/◌, ◌%◌, true, List, [], ◌∷◌, ◌++◌, map, length, replicate, Some, None, Option, slice_set}
use Rattle.interface.specs.Meaning.{accepted}
use Rattle.patterns.specs.Lanes.{LaneView, lane_of, changed, started, renewed, advanced}
use Rattle.patterns.specs.declared.vertex.VertexEvent.{VertexEvent}
use Rattle.model.specs.Settings.{Settings, all_slots}
use Rattle.model.specs.Calls.{Setting, opens, lane, first, setting_refusal}
use Rattle.board.specs.declared.share.Share.{Share}
use Rattle.board.specs.Sets.{shares_view, settings_by, formed}
use Rattle.board.specs.Slots.{OpenSlot, free}

pub record BoardView : Type 0 where
  pub first : ℕ
  pub shares : List (Option ℕ)
  pub lanes : List (List LaneView)
  pub slots : List OpenSlot

-- the board of these parts
abbrev pub board_of : ℕ → List (Option Share) → List (List LaneView) → List OpenSlot → BoardView
board_of n shares lanes slots = record { first = n; shares = shares_view shares; lanes = lanes; slots = slots }

abbrev pub settings_of : BoardView → Settings
settings_of b = settings_by b.first b.shares b.lanes

-- how many slots all shares and vertices have together
abbrev pub slots_set : BoardView → ℕ
slots_set b = length (all_slots (settings_of b))

-- what is known of a board: eight domains, the number of slots that are set, and lanes as they should be
pub record Known (b : BoardView) (used : ℕ) : Type 0 where
  pub eight : length b.shares ≡ 8
  pub as_many : length b.lanes ≡ 8
  pub counted : used ≡ slots_set b
  pub in_form : formed b.lanes ≡ true

-- an accepted setting
abbrev pub with_setting : BoardView → Setting → BoardView
with_setting b (opens d n) = record { first = b.first; shares = slice_set b.shares d (Some n); lanes = b.lanes; slots = b.slots }
with_setting b (lane d vs es rest) = record { first = b.first; shares = b.shares; lanes = changed (λ ls. ls ++ (lane_of vs es rest ∷ [])) b.lanes d; slots = b.slots }
with_setting b (first n) = record { first = n; shares = b.shares; lanes = b.lanes; slots = b.slots }

-- a setting, where there are so many places; a refused one changes nothing
abbrev pub set_with : ℕ → Setting → BoardView → BoardView
set_with places z b = accepted (setting_refusal places (settings_of b) z) (with_setting b z) b

unfoldable pub free_slots : List OpenSlot
free_slots = replicate 512 free

-- nothing is set, and no slot is held
abbrev pub new_board : BoardView
new_board = record { first = 0; shares = replicate 8 None; lanes = replicate 8 []; slots = free_slots }

-- one open slot changed
abbrev pub with_slot : ℕ → OpenSlot → BoardView → BoardView
with_slot t o b = record { first = b.first; shares = b.shares; lanes = b.lanes; slots = slice_set b.slots t o }

-- every lane starts its first round at the first tick
abbrev pub started_board : BoardView → BoardView
started_board b = record { first = b.first; shares = b.shares; lanes = map (map (started b.first)) b.lanes; slots = b.slots }

-- every lane whose vertices are all done begins its next round
abbrev pub renewed_board : BoardView → BoardView
renewed_board b = record { first = b.first; shares = b.shares; lanes = map (map renewed) b.lanes; slots = b.slots }

-- an event moves the vertex of a slot on
abbrev pub advanced_board : VertexEvent → ℕ → BoardView → BoardView
advanced_board e t b = record { first = b.first; shares = b.shares; lanes = changed (λ ls. changed (advanced e (t % 8)) ls (t / 8 % 8)) b.lanes (t / 64); slots = b.slots }
