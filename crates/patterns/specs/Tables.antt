-- The lanes of a domain, and of all domains, as plain values.
use Rattle.std.specs.Prelude.{ℕ, ◌≤◌, List, [], ◌∷◌, ◌++◌, length, Option, nat_le, slice_index_or}
use Rattle.interface.specs.Meaning.{check, accepted}
use Rattle.patterns.specs.declared.setting.VertexSetting.{VertexSetting}
use Rattle.patterns.specs.declared.setting.EdgeSetting.{EdgeSetting}
use Rattle.patterns.specs.Shape.{lane_refusal}
use Rattle.patterns.specs.Lanes.{LaneView, lane_of}

-- the lanes with one more at the end, unless it is refused
abbrev pub with_lane : ℕ → List VertexSetting → List EdgeSetting → ℕ → List LaneView → List LaneView
with_lane free vs es rest ls = accepted (lane_refusal (length ls) free vs es rest) (ls ++ (lane_of vs es rest ∷ [])) ls

-- why a lane is not added to a domain of the table
abbrev pub table_refusal : List (List LaneView) → ℕ → ℕ → List VertexSetting → List EdgeSetting → ℕ → Option ℕ
table_refusal t d free vs es rest = check (nat_le (length t) d) 2 (lane_refusal (length (slice_index_or t d [])) free vs es rest)

-- no domain has more than 8 lanes
abbrev pub FewLanes : List (List LaneView) → Type 0
FewLanes t = (d : ℕ) → length (slice_index_or t d []) ≤ 8
