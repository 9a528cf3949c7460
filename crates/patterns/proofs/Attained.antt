-- The due tick as it is computed is the greatest release.
use Rattle.std.proofs.Common.{◌≡◌, ℕ, ◌+◌, ◌≤◌, max, Bool, true, false, leb, List, [], ◌∷◌, map, Some, None, Option, sym, refl, ap, ◌∙◌, subst, inl, inr, arith, leb-false, leb-true}
use Rattle.std.specs.Option.{option_map}
use Rattle.std.specs.List.{AllByRecursion}
use Rattle.patterns.specs.declared.edge.Edge.{Edge}
use Rattle.patterns.specs.declared.vertex.Vertex.{Vertex}
use Rattle.patterns.specs.Due.{later, greatest, greatest_or, release, due, incoming}
use Rattle.patterns.specs.Lanes.{LaneView, done_by, due_in}
use Rattle.patterns.specs.Greatest.{SomeEdge, LetsGoBy, LetsGoAt, Greatest, DueTick, IsDue}

module _ (done : ℕ → Option ℕ) where
  all_later : (s t : ℕ) (es : List Edge) → s ≤ t → AllByRecursion (LetsGoBy done s) es → AllByRecursion (LetsGoBy done t) es
  all_later s t [] le all = tt
  all_later s t (e ∷ es) le all = ((all.0.0, all.0.1, omega (arith, le, all.0.2)), all_later s t es le all.1)

  one_edge : (start : ℕ) (e : Edge) (d : Option ℕ) → done e.source ≡ d → DueTick done start (e ∷ []) (option_map (λ c. c + e.weight) d)
  one_edge start e None is = inl is
  one_edge start e (Some c) is = (((c, is, omega arith), tt), inl (c, is, refl))

  more_edges : (start : ℕ) (e f : Edge) (es : List Edge) (d rest : Option ℕ) → done e.source ≡ d → DueTick done start (f ∷ es) rest → DueTick done start (e ∷ f ∷ es) (later (option_map (λ c. c + e.weight) d) rest)
  more_edges start e f es None rest is below = inl is
  more_edges start e f es (Some c) None is below = inr below
  more_edges start e f es (Some c) (Some s) is below = go (leb s (c + e.weight)) refl
    where
      here : LetsGoBy done (max (c + e.weight) s) e
      here = (c, is, omega arith)

      all : AllByRecursion (LetsGoBy done (max (c + e.weight) s)) (f ∷ es)
      all = all_later s (max (c + e.weight) s) (f ∷ es) (omega arith) below.0

      go : (b : Bool) → leb s (c + e.weight) ≡ b → Greatest done start (e ∷ f ∷ es) (max (c + e.weight) s)
      go true q = let le = leb-true s (c + e.weight) q in ((here, all), inl (c, is, omega (arith, le)))
      go false q =
          let lt = leb-false s (c + e.weight) q in
          let same : s ≡ max (c + e.weight) s = omega (arith, lt) in
          ((here, all), inr (subst (λ n. SomeEdge (LetsGoAt done n) (f ∷ es)) same below.1))

  from_edge : (start : ℕ) (e : Edge) (es : List Edge) → DueTick done start (e ∷ es) (greatest (release done e) (map (release done) es))
  from_edge start e [] = one_edge start e (done e.source) refl
  from_edge start e (f ∷ es) = more_edges start e f es (done e.source) (greatest (release done f) (map (release done) es)) refl (from_edge start f es)

  pub greatest_is : (start : ℕ) (es : List Edge) → DueTick done start es (greatest_or start (map (release done) es))
  greatest_is start [] = refl
  greatest_is start (e ∷ es) = from_edge start e es

-- what a computed due tick is, for a lane that holds these vertices and edges
pub is_due : (l : LaneView) (vs : List Vertex) (es : List Edge) (v : ℕ) (r : Option ℕ) → r ≡ due l.start (done_by vs) es v → vs ≡ l.vertices → es ≡ l.edges → (r ≡ due_in l v) × IsDue l v r
is_due l vs es v r e same-vertices same_edges =
    let value : r ≡ due_in l v = e ∙ ap (λ x. due l.start (done_by x) es v) same-vertices ∙ ap (λ x. due l.start (done_by l.vertices) x v) same_edges in
    (value, subst (IsDue l v) (sym value) (greatest_is (done_by l.vertices) l.start (incoming v l.edges)))
