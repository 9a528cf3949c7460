-- When the vertices of a lane leave, read off the T and D lines of a bus record.
-- Rounds are counted from 0. In each round a vertex has one T line and one D line, so that those of round r are the r-th of
-- its slot, counted from 0.
use Rattle.std.specs.Prelude.{◌≡◌, ℕ, zero, suc, ◌+◌, ◌*◌, ◌<◌, ◌≤◌, Bool, true, false, cond, ◌&&◌, List, [], ◌∷◌, map, length, Some, None, filter, Option, ◌==◌, nat_lt}
use Rattle.std.specs.Option.{option_map}
use Rattle.patterns.specs.Due.{due, round_end, longest_round}
use Rattle.patterns.specs.declared.edge.Edge.{Edge}
use Rattle.model.specs.Settings.{Pattern}
use Rattle.model.specs.declared.Letter.TheVariants as letter
use Rattle.model.specs.declared.Letter.{Letter}
use Rattle.model.specs.declared.Line.{Line}

-- ---- lines of a slot

abbrev pub is_T : Letter → Bool
is_T letter.T = true
is_T letter.I = false
is_T letter.D = false

abbrev pub is_D : Letter → Bool
is_D letter.T = false
is_D letter.I = false
is_D letter.D = true

abbrev pub line_ticks : (Letter → Bool) → ℕ → List Line → List ℕ
line_ticks p slot ls = map (λ (l : Line). l.tick) (filter (λ l. p l.letter && l.slot == slot) ls)

-- the ticks of the T lines of vertex i of lane ℓ, in order; and of its D lines
abbrev pub takes_of : List Line → ℕ → ℕ → List ℕ
takes_of ls ℓ i = line_ticks is_T (ℓ * 8 + i) ls

abbrev pub dones_of : List Line → ℕ → ℕ → List ℕ
dones_of ls ℓ i = line_ticks is_D (ℓ * 8 + i) ls

-- the r-th of a list, counted from 0, if there are so many
abbrev pub nth : List ℕ → ℕ → Option ℕ
nth [] r = None
nth (x ∷ xs) zero = Some x
nth (x ∷ xs) (suc r) = nth xs r

-- ---- rounds

-- The start of round r: the first tick, and then the last Done tick of the round before plus the rest, once all its vertices
-- are done. dones gives the D ticks of each vertex.
abbrev pub round_start : ℕ → Pattern → (ℕ → List ℕ) → ℕ → Option ℕ
round_start first p dones zero = Some first
round_start first p dones (suc r) = option_map (λ e. e + p.rest) (round_end (λ u. nth (dones u) r) (length p.spots))

-- from a start, if there is one
abbrev pub due_when : Option ℕ → (ℕ → Option ℕ) → List Edge → ℕ → Option ℕ
due_when None done es i = None
due_when (Some s) done es i = due s done es i

-- the due tick of vertex i in round r, over the Done ticks of that round
abbrev pub due_in_round : ℕ → Pattern → (ℕ → List ℕ) → ℕ → ℕ → Option ℕ
due_in_round first p dones r i = due_when (round_start first p dones r) (λ u. nth (dones u) r) p.edges i

-- a tick, if it comes before tick n
abbrev pub before : ℕ → Option ℕ → Option ℕ
before n None = None
before n (Some t) = cond (nat_lt t n) (Some t) None

-- ---- one vertex in one round, in a run whose next tick is n

pub record Departs (first n span : ℕ) (p : Pattern) (takes dones : ℕ → List ℕ) (i r : ℕ) : Type 0 where
  -- It leaves at its due tick, as the edges give it from the D lines: neither sooner nor later, and not without one.
  pub on_time : nth (takes i) r ≡ before n (due_in_round first p dones r i)
  -- It is done after it left, and by the end of the span.
  pub done_after : (d : ℕ) → nth (dones i) r ≡ Some d → (t : ℕ) × (nth (takes i) r ≡ Some t) × (t < d) × (d ≤ t + span)
  pub done_soon : (t : ℕ) → nth (takes i) r ≡ Some t → t + span < n → (d : ℕ) × (nth (dones i) r ≡ Some d)
  -- It leaves in every round: in round r within (r + 1) × R ticks of the first.
  pub again : first + suc r * longest_round span (length p.spots) p.edges p.rest < n → (t : ℕ) × (nth (takes i) r ≡ Some t)
