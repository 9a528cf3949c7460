-- What is set, read from the shares and lanes of the domains.
use Rattle.std.specs.Prelude.{ℕ, ◌^◌, Bool, true, false, not, ◌&&◌, ◌||◌, List, [], ◌∷◌, map, length, Some, None, Option, nat_le, nat_lt, slice_index_or}
use Rattle.std.specs.Option.{option_map}
use Rattle.interface.specs.Meaning.{any, check, is_empty}
use Rattle.patterns.specs.declared.edge.Edge.{Edge}
use Rattle.patterns.specs.declared.vertex.Vertex.{Vertex}
use Rattle.patterns.specs.declared.setting.VertexSetting.{VertexSetting}
use Rattle.patterns.specs.declared.setting.EdgeSetting.{EdgeSetting}
use Rattle.patterns.specs.Lanes.{LaneView}
use Rattle.patterns.specs.Shape.{lane_refusal}
use Rattle.model.specs.Settings.{Pattern, Role, unset, opened, protected, Settings}
use Rattle.board.specs.declared.share.Share.{Share}

-- the share of each domain that is open
abbrev pub shares_view : List (Option Share) → List (Option ℕ)
shares_view ss = map (option_map (λ (s : Share). s.slots)) ss

-- ---- settings

abbrev pub spot_of : Vertex → VertexSetting
spot_of v = record { bank = v.bank; kind = v.kind }

abbrev pub pattern_of : LaneView → Pattern
pattern_of l = record { spots = map spot_of l.vertices; edges = l.edges; rest = l.rest }

-- a domain with a share is open, and one with lanes protected
abbrev pub role_at : Option ℕ → List LaneView → Role
role_at (Some n) ls = opened n
role_at None [] = unset
role_at None (l ∷ ls) = protected (map pattern_of (l ∷ ls))

unfoldable pub roles_of : List (Option ℕ) → List (List LaneView) → List Role
roles_of [] ts = []
roles_of (s ∷ ss) [] = role_at s [] ∷ roles_of ss []
roles_of (s ∷ ss) (t ∷ ts) = role_at s t ∷ roles_of ss ts

abbrev pub settings_by : ℕ → List (Option ℕ) → List (List LaneView) → Settings
settings_by first ss ts = record { first = first; roles = roles_of ss ts }

-- ---- lanes

abbrev pub low_source : Edge → Bool
low_source e = nat_lt e.source 8

-- at most 8 vertices, and edges that come from such
abbrev pub lane_formed : LaneView → Bool
lane_formed l = nat_le (length l.vertices) 8 && not (any (λ e. not (low_source e)) l.edges)

abbrev pub domain_formed : List LaneView → Bool
domain_formed ls = nat_le (length ls) 8 && not (any (λ l. not (lane_formed l)) ls)

-- every domain has at most 8 lanes, and these are as they should be
unfoldable pub formed : List (List LaneView) → Bool
formed ts = not (any (λ ls. not (domain_formed ls)) ts)

-- ---- the checks of the setting calls, where some slots are used

abbrev pub no_share : Option ℕ → Bool
no_share None = true
no_share (Some n) = false

abbrev pub is_unset_at : List (Option ℕ) → List (List LaneView) → ℕ → Bool
is_unset_at ss ts d = no_share (slice_index_or ss d None) && is_empty (slice_index_or ts d [])

abbrev pub open_checks : List (Option ℕ) → List (List LaneView) → ℕ → ℕ → ℕ → Option ℕ
open_checks ss ts free d n =
    check (nat_lt 7 d || not (is_unset_at ss ts d)) 2
    (check (nat_lt n 1 || nat_lt 16 n) 3
    (check (nat_lt free n) 7 None))

abbrev pub takes_no_lane : List (Option ℕ) → ℕ → Bool
takes_no_lane ss d = nat_lt 7 d || not (no_share (slice_index_or ss d None))

abbrev pub lane_checks : List (Option ℕ) → List (List LaneView) → ℕ → ℕ → List VertexSetting → List EdgeSetting → ℕ → Option ℕ
lane_checks ss ts free d vs es rest =
    check (takes_no_lane ss d) 2
    (lane_refusal (length (slice_index_or ts d [])) free vs es rest)

abbrev pub first_checks : ℕ → Option ℕ
first_checks n = check (nat_lt (10 ^ 18) n) 16 None
