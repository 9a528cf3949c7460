-- What the controller by turns means.
use Rattle.std.specs.Prelude.{◌≡◌, ℕ, ◌+◌, ◌/◌, ◌%◌, cond, List, [], Some, None, Option, ◌==◌, refl}
use Rattle.std.proofs.Common.{ap}
use Rattle.interface.specs.Meaning.{Meaning}
use Rattle.interface.specs.Coded.{coded}
use Rattle.interface.specs.Codec.{Codec, number_codec, both, via}
use Rattle.held.specs.Entries.{of_domain}
use Rattle.held.specs.Rows.{Rows, no_rows, table_meaning, issue_oldest, rows_codec}

pub record State : Type 0 where
  pub rows : Rows
  -- the number of the next step in its round: the steps since the reset, modulo 368
  pub step : ℕ

abbrev pub beginning : State
beginning = record { rows = no_rows; step = 0 }

-- 32 rounds of 368 steps, and the longest delay from issue to Done, 26
abbrev pub turns_span : ℕ
turns_span = 11802

abbrev pub with_rows : State → Rows → State
with_rows s t = record { rows = t; step = s.step }

-- ---- a step

-- Whose turn a step is, by its number in the round: domain d has step 46 × d.
abbrev pub whose_turn : ℕ → Option ℕ
whose_turn n = cond (n % 46 == 0) (Some (n / 46)) None

-- the oldest request that waits, of those whose turn it is, is issued; if none waits, the turn is lost
abbrev pub issue_for : Option ℕ → Rows → Rows
issue_for None t = t
issue_for (Some d) t = issue_oldest (of_domain d) t

abbrev pub issue_in_turn : State → State
issue_in_turn s = with_rows s (issue_for (whose_turn s.step) s.rows)

abbrev pub counted : State → State
counted s = record { rows = s.rows; step = (s.step + 1) % 368 }

-- ---- the meaning

abbrev pub state_meaning : Meaning State
state_meaning = record {
  start = λ s. beginning;
  places = λ s. 32;
  span = λ s. turns_span;
  held = λ s. (table_meaning turns_span).held s.rows;
  ready = λ s. (table_meaning turns_span).ready s.rows;
  taken = λ s q. with_rows s ((table_meaning turns_span).taken s.rows q);
  stepped = λ s. counted (issue_in_turn (with_rows s ((table_meaning turns_span).stepped s.rows)));
  collected = λ s. with_rows s ((table_meaning turns_span).collected s.rows);
}

-- ---- the state as a list of numbers

unfoldable pub state_codec : Codec State
state_codec = via {Y = State} (λ p. record { rows = p.0; step = p.1 }) (λ s. (s.rows, s.step)) (λ s. refl) (both rows_codec number_codec)

unfoldable pub state_codes : State → List ℕ
state_codes s = state_codec.put s []

unfoldable pub state_of : List ℕ → State
state_of ns = (state_codec.get ns).0

pub state_back : (s : State) → state_of (state_codes s) ≡ s
unfolding state_codes state_of
state_back s = ap (λ p. p.0) (state_codec.back s [])

abbrev pub turns_meaning : Meaning (List ℕ)
turns_meaning = coded state_codes state_of state_meaning
