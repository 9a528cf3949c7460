-- Due ticks and ends of rounds, over the slots of a lane.
use Rattle.std.proofs.Common.{◌≡◌, ℕ, suc, ◌+◌, ◌*◌, max, Bool, true, false, cond, eqb, List, [], ◌∷◌, map, length, Some, None, Option, sym, refl, ap, ◌∙◌, arith}
use Rattle.patterns.specs.Due.{later, greatest, greatest_or, release, incoming, due, round_end}
use Rattle.patterns.specs.declared.edge.Edge.{Edge}
use Rattle.patterns.specs.declared.setting.VertexSetting.{VertexSetting}
use Rattle.model.specs.Settings.{Settings, Vertex, pattern_at, vertices_from, lane_vertices}
use Rattle.model.specs.Ticks.{Stage, done_tick, done_in, lane_end}

-- where an edge comes from: a slot and a weight
pub record Source : Type 0 where
  pub slot : ℕ
  pub weight : ℕ

unfoldable pub sources_into : ℕ → ℕ → List Edge → List Source
sources_into base i [] = []
sources_into base i (e ∷ es) = cond (eqb e.target i) (record { slot = base + e.source; weight = e.weight } ∷ sources_into base i es) (sources_into base i es)

abbrev pub plus : ℕ → Option ℕ → Option ℕ
plus w None = None
plus w (Some m) = Some (m + w)

unfoldable pub greatest_of : (ℕ → Stage) → List Source → Option ℕ
greatest_of s [] = Some 0
greatest_of s (e ∷ es) = later (plus e.weight (done_tick (s e.slot))) (greatest_of s es)

unfoldable pub due_from : ℕ → (ℕ → Stage) → List Source → Option ℕ
due_from start s [] = Some start
due_from start s (e ∷ es) = greatest_of s (e ∷ es)

abbrev released : (ℕ → Stage) → Source → Option ℕ
released s e = plus e.weight (done_tick (s e.slot))

releases : (s : ℕ → Stage) (ℓ i : ℕ) (es : List Edge) → map (release (done_in s ℓ)) (incoming i es) ≡ map (released s) (sources_into (ℓ * 8) i es)
unfolding sources_into
releases s ℓ i [] = refl
releases s ℓ i (e ∷ es) = go (eqb e.target i) (releases s ℓ i es)
  where
    one : (o : Option ℕ) → Rattle.std.specs.Option.option_map (λ c. c + e.weight) o ≡ plus e.weight o
    one None = refl
    one (Some m) = refl

    go : (t : Bool) → map (release (done_in s ℓ)) (incoming i es) ≡ map (released s) (sources_into (ℓ * 8) i es)
        → map (release (done_in s ℓ)) (cond t (e ∷ incoming i es) (incoming i es)) ≡ map (released s) (cond t (record { slot = ℓ * 8 + e.source; weight = e.weight } ∷ sources_into (ℓ * 8) i es) (sources_into (ℓ * 8) i es))
    go true h = ap (λ z. release (done_in s ℓ) e ∷ z) h ∙ ap (λ z. z ∷ map (released s) (sources_into (ℓ * 8) i es)) (one (done_in s ℓ e.source))
    go false h = h

later_least : (o : Option ℕ) → o ≡ later o (Some 0)
later_least None = refl
later_least (Some m) = let e : m ≡ max m 0 = omega arith in ap Some e

greatest_is : (s : ℕ → Stage) (x : Option ℕ) (ss : List Source) → greatest x (map (released s) ss) ≡ later x (greatest_of s ss)
unfolding greatest_of
greatest_is s x [] = later_least x
greatest_is s x (e ∷ ss) = ap (later x) (greatest_is s (released s e) ss)

from_is : (start : ℕ) (s : ℕ → Stage) (ss : List Source) → greatest_or start (map (released s) ss) ≡ due_from start s ss
unfolding due_from greatest_of
from_is start s [] = refl
from_is start s (e ∷ ss) = greatest_is s (released s e) ss

pub due_is : (start : ℕ) (s : ℕ → Stage) (ℓ i : ℕ) (es : List Edge) → due start (done_in s ℓ) es i ≡ due_from start s (sources_into (ℓ * 8) i es)
due_is start s ℓ i es = ap (greatest_or start) (releases s ℓ i es) ∙ from_is start s (sources_into (ℓ * 8) i es)

-- ---- ends of rounds

-- the last Done tick, once all are done
unfoldable pub last_from : Option ℕ → (ℕ → Stage) → List Vertex → Option ℕ
last_from o s [] = o
last_from o s (v ∷ vs) = last_from (later o (done_tick (s v.slot))) s vs

unfoldable pub last_done : (ℕ → Stage) → List Vertex → Option ℕ
last_done s [] = None
last_done s (v ∷ vs) = last_from (done_tick (s v.slot)) s vs

end_from : (s : ℕ → Stage) (ℓ j : ℕ) (es : List Edge) (ss : List VertexSetting) → last_from (round_end (done_in s ℓ) (suc j)) s (vertices_from (ℓ * 8) (suc j) es ss) ≡ round_end (done_in s ℓ) (suc j + length ss)
unfolding last_from vertices_from
end_from s ℓ j es [] = let same : suc j ≡ suc j + 0 = omega arith in ap (round_end (done_in s ℓ)) same
end_from s ℓ j es (p ∷ ss) =
    let same : suc (suc j) + length ss ≡ suc j + suc (length ss) = omega arith in
    end_from s ℓ (suc j) es ss ∙ ap (round_end (done_in s ℓ)) same

end_all : (s : ℕ → Stage) (ℓ : ℕ) (es : List Edge) (ss : List VertexSetting) → round_end (done_in s ℓ) (length ss) ≡ last_done s (vertices_from (ℓ * 8) 0 es ss)
unfolding last_done vertices_from
end_all s ℓ es [] = refl
end_all s ℓ es (p ∷ ss) =
    let same : 1 + length ss ≡ suc (length ss) = omega arith in
    sym (end_from s ℓ 0 es ss ∙ ap (round_end (done_in s ℓ)) same)

pub lane_end_is : (c : Settings) (s : ℕ → Stage) (ℓ : ℕ) → lane_end c s ℓ ≡ last_done s (lane_vertices c ℓ)
unfolding lane_end lane_vertices
lane_end_is c s ℓ = end_all s ℓ (pattern_at c ℓ).edges (pattern_at c ℓ).spots
