-- Lanes that move on stay the same patterns.
use Rattle.std.proofs.Common.{◌≡◌, ℕ, zero, suc, not, ◌&&◌, ◌||◌, leb, List, [], ◌∷◌, map, length, Some, None, Option, refl, ap, ◌∙◌}
use Rattle.interface.specs.Meaning.{any}
use Rattle.patterns.specs.declared.vertex.Vertex.{Vertex}
use Rattle.patterns.specs.declared.vertex.VertexEvent.{VertexEvent}
use Rattle.patterns.specs.declared.vertex.VertexEvent.TheVariants.{NewRound}
use Rattle.patterns.specs.declared.setting.VertexSetting.{VertexSetting}
use Rattle.patterns.specs.Moves.{moved}
use Rattle.patterns.specs.Lanes.{LaneView, changed, advanced, ended, renewed_at, renewed}
use Rattle.model.specs.Settings.{protected}
use Rattle.board.specs.Sets.{spot_of, pattern_of, role_at, roles_of, lane_formed, domain_formed, formed}
use Rattle.board.proofs.Limits.{lane_form, length_changed}

spots_moved : (e : VertexEvent) (vs : List Vertex) → map spot_of (map (moved e) vs) ≡ map spot_of vs
spots_moved e [] = refl
spots_moved e (v ∷ vs) = ap (λ l. spot_of v ∷ l) (spots_moved e vs)

spots_advanced : (e : VertexEvent) (vs : List Vertex) (i : ℕ) → map spot_of (changed (moved e) vs i) ≡ map spot_of vs
spots_advanced e [] i = refl
spots_advanced e (v ∷ vs) zero = refl
spots_advanced e (v ∷ vs) (suc i) = ap (λ l. spot_of v ∷ l) (spots_advanced e vs i)

pub renewed_pattern : (l : LaneView) → pattern_of (renewed l) ≡ pattern_of l
renewed_pattern l = go (ended l)
  where
    go : (o : Option ℕ) → pattern_of (renewed_at o l) ≡ pattern_of l
    go None = refl
    go (Some c) = ap (λ (vs : List VertexSetting). record { spots = vs; edges = l.edges; rest = l.rest }) (spots_moved NewRound l.vertices)

pub advanced_pattern : (e : VertexEvent) (i : ℕ) (l : LaneView) → pattern_of (advanced e i l) ≡ pattern_of l
advanced_pattern e i l = ap (λ (vs : List VertexSetting). record { spots = vs; edges = l.edges; rest = l.rest }) (spots_advanced e l.vertices i)

module _ (g : LaneView → LaneView) (same : (l : LaneView) → pattern_of (g l) ≡ pattern_of l) where
  patterns_changed : (ls : List LaneView) (i : ℕ) → map pattern_of (changed g ls i) ≡ map pattern_of ls
  patterns_changed [] i = refl
  patterns_changed (l ∷ ls) zero = ap (λ p. p ∷ map pattern_of ls) (same l)
  patterns_changed (l ∷ ls) (suc i) = ap (λ ps. pattern_of l ∷ ps) (patterns_changed ls i)

  role_changed : (s : Option ℕ) (ls : List LaneView) (i : ℕ) → role_at s (changed g ls i) ≡ role_at s ls
  role_changed (Some n) ls i = refl
  role_changed None [] i = refl
  role_changed None (l ∷ ls) zero = ap protected (patterns_changed (l ∷ ls) zero)
  role_changed None (l ∷ ls) (suc i) = ap protected (patterns_changed (l ∷ ls) (suc i))

  pub roles_changed : (ss : List (Option ℕ)) (ts : List (List LaneView)) (d i : ℕ) → roles_of ss (changed (λ ls. changed g ls i) ts d) ≡ roles_of ss ts
  unfolding roles_of
  roles_changed [] ts d i = refl
  roles_changed (s ∷ ss) [] d i = refl
  roles_changed (s ∷ ss) (t ∷ ts) zero i = ap (λ r. r ∷ roles_of ss ts) (role_changed s t i)
  roles_changed (s ∷ ss) (t ∷ ts) (suc d) i = ap (λ rs. role_at s t ∷ rs) (roles_changed ss ts d i)

  any_changed : (ls : List LaneView) (i : ℕ) → any (λ l. not (lane_formed l)) (changed g ls i) ≡ any (λ l. not (lane_formed l)) ls
  any_changed [] i = refl
  any_changed (l ∷ ls) zero = ap (λ t. not t || any (λ l. not (lane_formed l)) ls) (lane_form g same l)
  any_changed (l ∷ ls) (suc i) = ap (λ t. not (lane_formed l) || t) (any_changed ls i)

  domain_changed : (ls : List LaneView) (i : ℕ) → domain_formed (changed g ls i) ≡ domain_formed ls
  domain_changed ls i = ap (λ n. leb n 8 && not (any (λ l. not (lane_formed l)) (changed g ls i))) (length_changed g ls i) ∙ ap (λ t. leb (length ls) 8 && not t) (any_changed ls i)

  any_domains : (ts : List (List LaneView)) (d i : ℕ) → any (λ ls. not (domain_formed ls)) (changed (λ ls. changed g ls i) ts d) ≡ any (λ ls. not (domain_formed ls)) ts
  any_domains [] d i = refl
  any_domains (t ∷ ts) zero i = ap (λ x. not x || any (λ ls. not (domain_formed ls)) ts) (domain_changed t i)
  any_domains (t ∷ ts) (suc d) i = ap (λ x. not (domain_formed t) || x) (any_domains ts d i)

  pub formed_changed : (ts : List (List LaneView)) (d i : ℕ) → formed (changed (λ ls. changed g ls i) ts d) ≡ formed ts
  unfolding formed
  formed_changed ts d i = ap not (any_domains ts d i)
