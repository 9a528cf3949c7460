-- What the first-come controller means.
use Rattle.std.specs.Prelude.{◌≡◌, ℕ, cond, List, [], Some, None, Option, refl}
use Rattle.std.proofs.Common.{ap}
use Rattle.interface.specs.Meaning.{Meaning}
use Rattle.interface.specs.Coded.{coded}
use Rattle.interface.specs.Codec.{Codec, number_codec, many, both, via}
use Rattle.held.specs.declared.entries.Entry.{Entry}
use Rattle.held.specs.Entries.{anyone, next_of}
use Rattle.held.specs.Rows.{Rows, no_rows, passed, table_meaning, issue_oldest, rows_codec}
use Rattle.first_come.specs.declared.gaps.Gaps.{Gaps}
use Rattle.first_come.specs.Gaps.{no_gaps, gaps_passed, allows, with_issue}

pub record State : Type 0 where
  pub rows : Rows
  pub gaps : Gaps

abbrev pub beginning : State
beginning = record { rows = no_rows; gaps = no_gaps }

-- 32 times the greatest gap, and the longest delay
abbrev pub first_come_span : ℕ
first_come_span = 1498

-- ---- a step

-- a step passes, and the Dones whose delay has run out are ready
abbrev pub elapsed : State → State
elapsed s = record { rows = passed s.rows; gaps = gaps_passed s.gaps }

-- the oldest request that waits is issued if the gaps allow
abbrev pub issue_if : State → Option Entry → State
issue_if s None = s
issue_if s (Some e) = cond (allows s.gaps e.request) (record { rows = issue_oldest anyone s.rows; gaps = with_issue e.request s.gaps }) s

abbrev pub issue : State → State
issue s = issue_if s (next_of anyone s.rows.entries)

-- ---- the meaning

abbrev pub state_meaning : Meaning State
state_meaning = record {
  start = λ s. beginning;
  places = λ s. 32;
  span = λ s. first_come_span;
  held = λ s. (table_meaning first_come_span).held s.rows;
  ready = λ s. (table_meaning first_come_span).ready s.rows;
  taken = λ s q. record { rows = (table_meaning first_come_span).taken s.rows q; gaps = s.gaps };
  stepped = λ s. issue (elapsed s);
  collected = λ s. record { rows = (table_meaning first_come_span).collected s.rows; gaps = s.gaps };
}

-- ---- the state as a list of numbers

unfoldable pub gaps_codec : Codec Gaps
gaps_codec =
    via {Y = Gaps} (λ p. record { reads = p.0; writes = p.1.0; banks = p.1.1 }) (λ g. (g.reads, (g.writes, g.banks))) (λ g. refl)
    (both number_codec (both number_codec (many number_codec)))

unfoldable pub state_codec : Codec State
state_codec = via {Y = State} (λ p. record { rows = p.0; gaps = p.1 }) (λ s. (s.rows, s.gaps)) (λ s. refl) (both rows_codec gaps_codec)

unfoldable pub state_codes : State → List ℕ
state_codes s = state_codec.put s []

unfoldable pub state_of : List ℕ → State
state_of ns = (state_codec.get ns).0

pub state_back : (s : State) → state_of (state_codes s) ≡ s
unfolding state_codes state_of
state_back s = ap (λ p. p.0) (state_codec.back s [])

abbrev pub first_come_meaning : Meaning (List ℕ)
first_come_meaning = coded state_codes state_of state_meaning
