-- What it is to be the due tick of a vertex, said without computing it.
use Rattle.std.specs.Prelude.{◌≡◌, ℕ, ◌+◌, ◌≤◌, ◌⊎◌, List, [], ◌∷◌, Some, None, Option}
use Rattle.std.specs.List.{AllByRecursion}
use Rattle.patterns.specs.declared.edge.Edge.{Edge}
use Rattle.patterns.specs.Due.{incoming}
use Rattle.patterns.specs.Lanes.{LaneView, done_by}

-- one of the edges has the property
abbrev pub SomeEdge : (Edge → Type 0) → List Edge → Type 0
SomeEdge P [] = ⊥
SomeEdge P (e ∷ es) = P e ⊎ SomeEdge P es

module _ (done : ℕ → Option ℕ) where
  -- the source of the edge is not done in this round
  abbrev pub Waits : Edge → Type 0
  Waits e = done e.source ≡ None

  -- the source is done, at a tick that with the weight is not after t
  abbrev pub LetsGoBy : ℕ → Edge → Type 0
  LetsGoBy t e = (c : ℕ) × (done e.source ≡ Some c) × (c + e.weight ≤ t)

  -- the source is done, at a tick that with the weight is t
  abbrev pub LetsGoAt : ℕ → Edge → Type 0
  LetsGoAt t e = (c : ℕ) × (done e.source ≡ Some c) × (c + e.weight ≡ t)

  -- of the edges that come in: there is none, and t is the start; or each lets go by t, and one of them at t itself
  abbrev pub Greatest : ℕ → List Edge → ℕ → Type 0
  Greatest start [] t = t ≡ start
  Greatest start (e ∷ es) t = AllByRecursion (LetsGoBy t) (e ∷ es) × SomeEdge (LetsGoAt t) (e ∷ es)

  -- a due tick is the greatest; where there is none, one of the edges still waits
  abbrev pub DueTick : ℕ → List Edge → Option ℕ → Type 0
  DueTick start es None = SomeEdge Waits es
  DueTick start es (Some t) = Greatest start es t

-- the answer is the due tick of vertex v, or there is none yet
abbrev pub IsDue : LaneView → ℕ → Option ℕ → Type 0
IsDue l v r = DueTick (done_by l.vertices) l.start (incoming v l.edges) r
