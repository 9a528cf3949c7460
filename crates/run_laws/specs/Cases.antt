-- Worked cases of the refusals, due ticks and rounds: each a value as the definitions give it, and the value that it has.
use Rattle.std.specs.Prelude.{◌≡◌, ℕ, zero, suc, List, [], ◌∷◌, Some, None, Option}
use Rattle.std.specs.List.{AllByRecursion}
use Rattle.interface.specs.declared.Kind.TheVariants.{Read}
use Rattle.patterns.specs.declared.edge.Edge.{Edge}
use Rattle.patterns.specs.declared.setting.VertexSetting.{VertexSetting}
use Rattle.model.specs.Calls.{Setting, opens, lane, settled, setting_refusal, started, tick_refusal}
use Rattle.model.specs.Settings.{Pattern, Settings, blank}
use Rattle.run_laws.specs.Departures.{due_in_round, round_start}

pub record Case : Type 0 where
  pub given : Option ℕ
  pub expected : Option ℕ

abbrev case : Option ℕ → Option ℕ → Case
case g e = record { given = g; expected = e }

abbrev read_at : ℕ → VertexSetting
read_at bank = record { bank = bank; kind = Read }

abbrev edge : ℕ → ℕ → ℕ → Edge
edge s t w = record { source = s; target = t; weight = w }

-- ---- refusals, over a controller with 32 places

abbrev weighed : ℕ → Setting
weighed w = lane 0 (read_at 0 ∷ read_at 1 ∷ []) (record { source = 0; target = 1; weight = w } ∷ []) 0

-- the domains 0 and 1 open with 16 slots each
abbrev full : Settings
full = settled (settled blank (opens 0 16)) (opens 1 16)

-- ---- one read of bank 0, with rest 100, done at tick 27

abbrev single : Pattern
single = record { spots = read_at 0 ∷ []; edges = []; rest = 100 }

abbrev single_dones : ℕ → List ℕ
single_dones i = 27 ∷ []

-- ---- five reads on banks 0 to 4, each done 27 ticks after it left

abbrev five : Pattern
five = record {
  spots = read_at 0 ∷ read_at 1 ∷ read_at 2 ∷ read_at 3 ∷ read_at 4 ∷ [];
  edges = edge 0 1 10 ∷ edge 0 2 20 ∷ edge 1 3 5 ∷ edge 2 3 0 ∷ edge 3 4 7 ∷ [];
  rest = 50;
}

abbrev five_dones : ℕ → List ℕ
five_dones zero = 27 ∷ []
five_dones (suc zero) = 64 ∷ []
five_dones (suc (suc zero)) = 74 ∷ []
five_dones (suc (suc (suc zero))) = 101 ∷ []
five_dones (suc (suc (suc (suc i)))) = 135 ∷ []

abbrev pub cases : List Case
cases =
    -- weight 1,000 passes, 1,001 is a bad edge
    case (setting_refusal 32 blank (weighed 1000)) None
    ∷ case (setting_refusal 32 blank (weighed 1001)) (Some 6)
    -- 32 slots pass, 33 are too many
    ∷ case (setting_refusal 32 (settled blank (opens 0 16)) (opens 1 16)) None
    ∷ case (setting_refusal 32 full (opens 2 1)) (Some 7)
    -- 95 lines or 31 notices are too few
    ∷ case (tick_refusal (started full []) 96 32) None
    ∷ case (tick_refusal (started full []) 95 32) (Some 15)
    ∷ case (tick_refusal (started full []) 96 31) (Some 15)
    -- the single read leaves at tick 0, and at tick 127 again
    ∷ case (due_in_round 0 single single_dones 0 0) (Some 0)
    ∷ case (due_in_round 0 single single_dones 1 0) (Some 127)
    -- the five leave at 0, 37, 47, 74 and 108, and the next round starts at 185
    ∷ case (due_in_round 0 five five_dones 0 0) (Some 0)
    ∷ case (due_in_round 0 five five_dones 0 1) (Some 37)
    ∷ case (due_in_round 0 five five_dones 0 2) (Some 47)
    ∷ case (due_in_round 0 five five_dones 0 3) (Some 74)
    ∷ case (due_in_round 0 five five_dones 0 4) (Some 108)
    ∷ case (round_start 0 five five_dones 1) (Some 185)
    ∷ []

-- Every case has its value.
abbrev pub CasesHold : Type 0
CasesHold = AllByRecursion (λ c. c.given ≡ c.expected) cases
