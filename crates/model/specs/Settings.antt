-- What is set before a run: the domains, their shares and lanes, and the slots that these have.
use Rattle.std.specs.Prelude.{ℕ, zero, suc, ◌+◌, ◌*◌, ◌/◌, ◌%◌, Bool, true, false, List, [], ◌∷◌, ◌++◌, replicate, slice_index_or}
use Rattle.interface.specs.declared.Kind.{Kind}
use Rattle.patterns.specs.declared.edge.Edge.{Edge}
use Rattle.patterns.specs.declared.setting.VertexSetting.{VertexSetting}

-- the pattern of a lane
pub record Pattern : Type 0 where
  pub spots : List VertexSetting
  pub edges : List Edge
  pub rest : ℕ

-- how a domain is set: not yet, open with a share, or protected with its lanes
pub data Role : Type 0 where
  unset : Role
  opened : ℕ → Role
  protected : List Pattern → Role

-- the first tick's number, and the roles of the domains 0 to 7
pub record Settings : Type 0 where
  pub first : ℕ
  pub roles : List Role

-- as nothing is set
abbrev pub blank : Settings
blank = record { first = 0; roles = replicate 8 unset }

-- ---- domains

-- a domain above 7 is not set
abbrev pub role_of : Settings → ℕ → Role
role_of c d = slice_index_or c.roles d unset

abbrev pub share_of : Role → ℕ
share_of unset = 0
share_of (opened n) = n
share_of (protected ps) = 0

abbrev pub patterns_of : Role → List Pattern
patterns_of unset = []
patterns_of (opened n) = []
patterns_of (protected ps) = ps

abbrev pub is_unset : Role → Bool
is_unset unset = true
is_unset (opened n) = false
is_unset (protected ps) = false

abbrev pub is_opened : Role → Bool
is_opened unset = false
is_opened (opened n) = true
is_opened (protected ps) = false

abbrev pub is_open : Settings → ℕ → Bool
is_open c d = is_opened (role_of c d)

-- ---- slots: domain × 64 + lane × 8 + vertex, so that slot / 8 numbers the lanes of all domains

abbrev pub domain_of : ℕ → ℕ
domain_of slot = slot / 64

abbrev pub lane_of : ℕ → ℕ
lane_of slot = slot / 8

-- a vertex with its slot, and the edges of its lane
pub record Vertex : Type 0 where
  pub slot : ℕ
  pub bank : ℕ
  pub kind : Kind
  pub edges : List Edge

-- the pattern of the lane with this number, domain × 8 + lane; one that is not set has no vertex
unfoldable pub pattern_at : Settings → ℕ → Pattern
pattern_at c ℓ = slice_index_or (patterns_of (role_of c (ℓ / 8))) (ℓ % 8) (record { spots = []; edges = []; rest = 0 })

-- vertices from number i on, in slots from base on
unfoldable pub vertices_from : ℕ → ℕ → List Edge → List VertexSetting → List Vertex
vertices_from base i es [] = []
vertices_from base i es (v ∷ vs) = record { slot = base + i; bank = v.bank; kind = v.kind; edges = es } ∷ vertices_from base (suc i) es vs

-- the vertices of a lane
unfoldable pub lane_vertices : Settings → ℕ → List Vertex
lane_vertices c ℓ = vertices_from (ℓ * 8) 0 (pattern_at c ℓ).edges (pattern_at c ℓ).spots

-- those of the lanes below ℓ
unfoldable pub vertices_below : Settings → ℕ → List Vertex
vertices_below c zero = []
vertices_below c (suc ℓ) = vertices_below c ℓ ++ lane_vertices c ℓ

-- every vertex, by rising domain, lane and vertex
unfoldable pub vertices : Settings → List Vertex
vertices c = vertices_below c 64

abbrev pub slots_of : List Vertex → List ℕ
slots_of [] = []
slots_of (v ∷ vs) = v.slot ∷ slots_of vs

-- n slots from a on
unfoldable pub slots_from : ℕ → ℕ → List ℕ
slots_from a zero = []
slots_from a (suc n) = a ∷ slots_from (suc a) n

-- the slots of the shares of the domains below d
unfoldable pub open_slots : Settings → ℕ → List ℕ
open_slots c zero = []
open_slots c (suc d) = open_slots c d ++ slots_from (d * 64) (share_of (role_of c d))

-- the slots of all vertices and shares together
unfoldable pub all_slots : Settings → List ℕ
all_slots c = slots_of (vertices c) ++ open_slots c 8
