-- When a vertex of a lane is due, when a round ends and the next starts, and R, which bounds how long a round lasts.
-- Vertices go by their number in the lane; `done` gives the Done tick of each vertex that is done in this round.
use Rattle.std.specs.Prelude.{ℕ, zero, suc, ◌+◌, ◌*◌, max, Bool, List, [], ◌∷◌, map, Some, None, filter, Option, ◌==◌}
use Rattle.std.specs.Option.{option_map}
use Rattle.patterns.specs.declared.edge.Edge.{Edge}

-- the later of two ticks; none while either is none
abbrev pub later : Option ℕ → Option ℕ → Option ℕ
later None y = None
later (Some x) None = None
later (Some x) (Some y) = Some (max x y)

-- the greatest of a tick and the others; none while one of them is none
abbrev pub greatest : Option ℕ → List (Option ℕ) → Option ℕ
greatest x [] = x
greatest x (y ∷ ys) = later x (greatest y ys)

-- ---- departures

abbrev pub comes_into : ℕ → Edge → Bool
comes_into v e = e.target == v

-- the edges that come into vertex v
abbrev pub incoming : ℕ → List Edge → List Edge
incoming v es = filter (comes_into v) es

-- the tick from which an edge lets its target go: the source's Done tick and the weight
abbrev pub release : (ℕ → Option ℕ) → Edge → Option ℕ
release done e = option_map (λ c. c + e.weight) (done e.source)

abbrev pub greatest_or : ℕ → List (Option ℕ) → Option ℕ
greatest_or start [] = Some start
greatest_or start (x ∷ xs) = greatest x xs

-- the due tick of vertex v: the greatest release over the edges that come into it, none until all their sources are done,
-- and the lane's start where no edge comes in
abbrev pub due : ℕ → (ℕ → Option ℕ) → List Edge → ℕ → Option ℕ
due start done es v = greatest_or start (map (release done) (incoming v es))

-- ---- rounds

-- the last Done tick of the first n vertices, once all of them are done
abbrev pub round_end : (ℕ → Option ℕ) → ℕ → Option ℕ
round_end done zero = None
round_end done (suc zero) = done 0
round_end done (suc (suc n)) = later (round_end done (suc n)) (done (suc n))

-- the start after a round's end: the end and the rest, or the same start while the round goes on
abbrev pub next_start : ℕ → Option ℕ → ℕ → ℕ
next_start rest None start = start
next_start rest (Some c) start = c + rest

-- ---- length of a round

abbrev pub all_weights : List Edge → ℕ
all_weights [] = 0
all_weights (e ∷ es) = e.weight + all_weights es

-- R of a lane of n vertices
abbrev pub longest_round : ℕ → ℕ → List Edge → ℕ → ℕ
longest_round span n es rest = n * span + all_weights es + rest
