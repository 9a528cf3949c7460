-- What is known of a lane that passed its checks.
use Rattle.std.proofs.Common.{◌≡◌, ℕ, zero, suc, ◌+◌, ◌<◌, ◌≤◌, Bool, true, false, not, ◌||◌, ltb, leb, List, [], ◌∷◌, ◌++◌, length, get_or, Some, None, Option, sym, refl, ap, ◌∙◌, arith, length-append, ltb-false, leb-false, leb-true}
use borrow.Author.Tests.{not-false, lt-leb}
use Rattle.std.proofs.lemmas.Bool.{and_parts, or_parts}
use Rattle.interface.specs.Meaning.{any, check, accepted}
use Rattle.patterns.specs.declared.setting.VertexSetting.{VertexSetting}
use Rattle.patterns.specs.declared.setting.EdgeSetting.{EdgeSetting}
use Rattle.patterns.specs.Shape.{vertex_count, high_bank, same_pair, bad_edge, bad_edges, shape_checks, lane_refusal}
use Rattle.patterns.specs.Lanes.{LaneView, lane_of}
use Rattle.patterns.specs.Tables.{with_lane, table_refusal}

pub any_fails : {X : Type 0} (p : X → Bool) (xs : List X) (i : ℕ) (d : X) → any p xs ≡ false → i < length xs → p (get_or xs i d) ≡ false
any_fails p [] i d e lt = absurd (omega arith)
any_fails p (x ∷ xs) zero d e lt = (or_parts (p x) (any p xs) e).0
any_fails p (x ∷ xs) (suc i) d e lt = any_fails p xs i d (or_parts (p x) (any p xs) e).1 (omega arith)

-- an edge that is not bad
pub record GoodEdge (n : ℕ) (e : EdgeSetting) : Type 0 where
  pub order : e.source < e.target
  pub inside : e.target < n
  pub light : e.weight ≤ 1000

module _ (n : ℕ) (earlier : List EdgeSetting) (e : EdgeSetting) (ok : bad_edge n earlier e ≡ false) where
  order_parts : (leb e.target e.source ≡ false) × ((leb n e.target || (ltb 1000 e.weight || (any (same_pair e) earlier || leb 16 (length earlier)))) ≡ false)
  order_parts = or_parts (leb e.target e.source) _ ok

  inside_parts : (leb n e.target ≡ false) × ((ltb 1000 e.weight || (any (same_pair e) earlier || leb 16 (length earlier))) ≡ false)
  inside_parts = or_parts (leb n e.target) _ order_parts.1

  weight_parts : (ltb 1000 e.weight ≡ false) × ((any (same_pair e) earlier || leb 16 (length earlier)) ≡ false)
  weight_parts = or_parts (ltb 1000 e.weight) _ inside_parts.1

  good_edge : GoodEdge n e
  good_edge = record { order = leb-false _ _ order_parts.0; inside = leb-false _ _ inside_parts.0; light = ltb-false _ _ weight_parts.0 }

  fewer : length earlier < 16
  fewer = leb-false 16 (length earlier) (or_parts (any (same_pair e) earlier) (leb 16 (length earlier)) weight_parts.1).1

pub good_edges : (n : ℕ) (earlier es : List EdgeSetting) (i : ℕ) (d : EdgeSetting) → bad_edges n earlier es ≡ false → i < length es → GoodEdge n (get_or es i d)
good_edges n earlier [] i d ok lt = absurd (omega arith)
good_edges n earlier (e ∷ es) zero d ok lt = good_edge n earlier e (or_parts (bad_edge n earlier e) (bad_edges n (earlier ++ (e ∷ [])) es) ok).0
good_edges n earlier (e ∷ es) (suc i) d ok lt = good_edges n (earlier ++ (e ∷ [])) es i d (or_parts (bad_edge n earlier e) (bad_edges n (earlier ++ (e ∷ [])) es) ok).1 (omega arith)

few_after : (n : ℕ) (earlier es : List EdgeSetting) → bad_edges n earlier es ≡ false → length earlier ≤ 16 → length earlier + length es ≤ 16
few_after n earlier [] ok le = omega arith
few_after n earlier (e ∷ es) ok le =
    let parts = or_parts (bad_edge n earlier e) (bad_edges n (earlier ++ (e ∷ [])) es) ok in
    let longer : length (earlier ++ (e ∷ [])) ≡ length earlier + 1 = length-append earlier (e ∷ []) in
    let lt : length earlier < 16 = fewer n earlier e parts.0 in
    let rest = few_after n (earlier ++ (e ∷ [])) es parts.1 (omega (arith, longer, lt)) in
    omega (arith, longer, rest)

pub few_edges : (n : ℕ) (es : List EdgeSetting) → bad_edges n [] es ≡ false → length es ≤ 16
few_edges n es ok = let h : 0 + length es ≤ 16 = few_after n [] es ok (omega arith) in omega (arith, h)

pub passes : (fails : Bool) (n : ℕ) (later : Option ℕ) → check fails n later ≡ None → (fails ≡ false) × (later ≡ None)
passes true n later e = let z : ◌≡◌ {A = ℕ} 0 1 = cc in absurd (omega arith)
passes false n later e = (refl, e)

passed_check : (fails : Bool) (n : ℕ) (later : Option ℕ) → fails ≡ false → later ≡ None → check fails n later ≡ None
passed_check fails n later e f = ap (λ b. check b n later) e ∙ f

-- the facts behind an accepted lane
pub record Accepted (vs : List VertexSetting) (es : List EdgeSetting) (rest : ℕ) : Type 0 where
  pub some : 1 ≤ length vs
  pub few : length vs ≤ 8
  pub banks : any high_bank vs ≡ false
  pub edges : bad_edges (length vs) [] es ≡ false
  pub short : rest ≤ 1000

pub accepted_from : (vs : List VertexSetting) (es : List EdgeSetting) (rest : ℕ) → shape_checks vs es rest None ≡ None → Accepted vs es rest
accepted_from vs es rest e =
    let one = passes (not (vertex_count (length vs))) 4 _ e in
    let two = passes (any high_bank vs) 5 _ one.1 in
    let three = passes (bad_edges (length vs) [] es || ltb 1000 rest) 6 None two.1 in
    let count = and_parts (leb 1 (length vs)) (leb (length vs) 8) (not-false _ one.0) in
    let last = or_parts (bad_edges (length vs) [] es) (ltb 1000 rest) three.0 in
    record { some = leb-true _ _ count.0; few = leb-true _ _ count.1; banks = two.0; edges = last.0; short = ltb-false 1000 rest last.1 }

-- what comes after the checks of a lane's parts does not matter for them
pub shape_passes : (vs : List VertexSetting) (es : List EdgeSetting) (rest : ℕ) (later : Option ℕ) → shape_checks vs es rest later ≡ None → shape_checks vs es rest None ≡ None
shape_passes vs es rest later e =
    let one = passes (not (vertex_count (length vs))) 4 _ e in
    let two = passes (any high_bank vs) 5 _ one.1 in
    let three = passes (bad_edges (length vs) [] es || ltb 1000 rest) 6 later two.1 in
    passed_check _ 4 _ one.0 (passed_check _ 5 _ two.0 (passed_check _ 6 None three.0 refl))

-- the lanes of a domain after a lane was refused, and after it was added at the end
module _ (free : ℕ) (vs : List VertexSetting) (es : List EdgeSetting) (rest : ℕ) (ls : List LaneView) (lanes : ℕ) (count : lanes ≡ length ls) where
  pub lane_refused : (k : ℕ) → Some k ≡ lane_refusal lanes free vs es rest → (Some k ≡ lane_refusal (length ls) free vs es rest) × (ls ≡ with_lane free vs es rest ls)
  lane_refused k e =
      let answer : Some k ≡ lane_refusal (length ls) free vs es rest = e ∙ ap (λ n. lane_refusal n free vs es rest) count in
      (answer, ap (λ o. accepted o (ls ++ (lane_of vs es rest ∷ [])) ls) answer)

  pub lane_added : (l : LaneView) → None ≡ lane_refusal lanes free vs es rest → l ≡ lane_of vs es rest → (None ≡ lane_refusal (length ls) free vs es rest) × (ls ++ (l ∷ []) ≡ with_lane free vs es rest ls)
  lane_added l e is =
      let answer : None ≡ lane_refusal (length ls) free vs es rest = e ∙ ap (λ n. lane_refusal n free vs es rest) count in
      (answer, ap (λ (x : LaneView). ls ++ (x ∷ [])) is ∙ ap (λ o. accepted o (ls ++ (lane_of vs es rest ∷ [])) ls) answer)

-- an accepted lane finds a place in its domain, and its parts passed their checks
pub few_lanes : (lanes free : ℕ) (vs : List VertexSetting) (es : List EdgeSetting) (rest : ℕ) → None ≡ lane_refusal lanes free vs es rest → lanes < 8
few_lanes lanes free vs es rest e = leb-false 8 lanes (passes (leb 8 lanes) 4 _ (sym e)).0

pub good_shape : (lanes free : ℕ) (vs : List VertexSetting) (es : List EdgeSetting) (rest : ℕ) → None ≡ lane_refusal lanes free vs es rest → shape_checks vs es rest None ≡ None
good_shape lanes free vs es rest e = shape_passes vs es rest _ (passes (leb 8 lanes) 4 _ (sym e)).1

module _ (t : List (List LaneView)) (d free : ℕ) (vs : List VertexSetting) (es : List EdgeSetting) (rest : ℕ) where
  pub in_domain : (ls : List LaneView) (r : Option ℕ) → d < length t → ls ≡ get_or t d [] → r ≡ lane_refusal (length ls) free vs es rest → r ≡ table_refusal t d free vs es rest
  in_domain ls r lt e is =
      is
      ∙ ap (λ (l : List LaneView). lane_refusal (length l) free vs es rest) e
      ∙ sym (ap (λ b. check b 2 (lane_refusal (length (get_or t d [])) free vs es rest)) (lt-leb (length t) d lt))
