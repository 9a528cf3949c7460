-- The list of those who leave, as the loops over lanes and domains make it, and how long it is.
use Rattle.std.proofs.Common.{◌≡◌, ℕ, zero, suc, ◌+◌, ◌*◌, ◌<◌, ◌≤◌, Bool, true, false, cond, not, ltb, leb, List, [], ◌∷◌, ◌++◌, length, get_or, drop, Some, None, Option, sym, refl, ap, ◌∙◌, add-one, arith, length-append}
use Rattle.std.proofs.lemmas.List.{at_drop_more, at_drop_all, append-nil, append_assoc}
use Rattle.std.proofs.lemmas.Bool.{lt-ltb, leb-true}
use Rattle.std.specs.List.{slice_get}
use Rattle.interface.specs.Meaning.{any}
use Rattle.interface.specs.declared.Request.{Request}
use Rattle.patterns.specs.declared.vertex.Vertex.{Vertex}
use Rattle.patterns.specs.Lanes.{LaneView}
use Rattle.board.specs.Sets.{no_share, lane_formed, domain_formed, formed}
use Rattle.board.specs.Leaving.{leaves_in, request_from, lane_leaving, lanes_leaving, domain_leaving, domains_leaving, added, all_added}
use Rattle.board.proofs.Limits.{formed_at, not_back, not_back', and_parts, or_false}

-- ---- one by one

pub all_added_append : (xs ys qs : List Request) → all_added (xs ++ ys) qs ≡ all_added ys (all_added xs qs)
unfolding all_added
all_added_append [] ys qs = refl
all_added_append (x ∷ xs) ys qs = all_added_append xs ys (added x qs)

pub all_fit : (xs qs : List Request) → length xs + length qs ≤ 512 → all_added xs qs ≡ qs ++ xs
unfolding all_added
all_fit [] qs le = sym (append-nil qs)
all_fit (x ∷ xs) qs le =
    let room : ltb (length qs) 512 ≡ true = lt-ltb (length qs) 512 (omega arith) in
    ap (λ t. all_added xs (cond t (qs ++ (x ∷ [])) qs)) room
    ∙ all_fit xs (qs ++ (x ∷ [])) (omega (arith, length-append qs (x ∷ [])))
    ∙ append_assoc qs (x ∷ []) xs

-- ---- the loop over the vertices of a lane

module _ (n : ℕ) (l : LaneView) (d base : ℕ) (vs : List Vertex) (i : ℕ) (v : Vertex) (lt : i < length vs) (read : v ≡ get_or vs i v) where
  front : lane_leaving n l d base i (drop i vs) ≡ cond (leaves_in n l i v) (request_from d (base + i) v ∷ lane_leaving n l d base (i + 1) (drop (i + 1) vs)) (lane_leaving n l d base (i + 1) (drop (i + 1) vs))
  unfolding lane_leaving
  front =
      at_drop_more (lane_leaving n l d base i) vs i v lt
      ∙ ap (λ (w : Vertex). lane_leaving n l d base i (w ∷ drop (i + 1) vs)) (sym read)
      ∙ ap (λ k. cond (leaves_in n l i v) (request_from d (base + i) v ∷ lane_leaving n l d base k (drop (i + 1) vs)) (lane_leaving n l d base k (drop (i + 1) vs))) (sym (add-one i))

  pub lane_goes : leaves_in n l i v ≡ true → lane_leaving n l d base i (drop i vs) ≡ request_from d (base + i) v ∷ lane_leaving n l d base (i + 1) (drop (i + 1) vs)
  lane_goes e = front ∙ ap (λ t. cond t (request_from d (base + i) v ∷ lane_leaving n l d base (i + 1) (drop (i + 1) vs)) (lane_leaving n l d base (i + 1) (drop (i + 1) vs))) e

  pub lane_stays : leaves_in n l i v ≡ false → lane_leaving n l d base i (drop i vs) ≡ lane_leaving n l d base (i + 1) (drop (i + 1) vs)
  lane_stays e = front ∙ ap (λ t. cond t (request_from d (base + i) v ∷ lane_leaving n l d base (i + 1) (drop (i + 1) vs)) (lane_leaving n l d base (i + 1) (drop (i + 1) vs))) e

pub lane_none : (n : ℕ) (l : LaneView) (d base : ℕ) (vs : List Vertex) (i : ℕ) → length vs ≤ i → lane_leaving n l d base i (drop i vs) ≡ []
unfolding lane_leaving
lane_none n l d base vs i le = at_drop_all (lane_leaving n l d base i) vs i le

-- ---- the loop over the lanes of a domain

pub lanes_front : (n d : ℕ) (ls : List LaneView) (i : ℕ) (l : LaneView) → Some l ≡ slice_get ls i → lanes_leaving n d i (drop i ls) ≡ lane_leaving n l d (d * 64 + i * 8) 0 l.vertices ++ lanes_leaving n d (i + 1) (drop (i + 1) ls)
unfolding lanes_leaving
lanes_front n d ls i l e = go ls i e i ∙ ap (λ k. lane_leaving n l d (d * 64 + i * 8) 0 l.vertices ++ lanes_leaving n d k (drop k ls)) (sym (add-one i))
  where
    go : (ls : List LaneView) (j : ℕ) → Some l ≡ slice_get ls j → (i : ℕ) → lanes_leaving n d i (drop j ls) ≡ lane_leaving n l d (d * 64 + i * 8) 0 l.vertices ++ lanes_leaving n d (suc i) (drop (suc j) ls)
    go [] j e i = let z : ◌≡◌ {A = ℕ} 0 1 = (cc) in absurd (omega arith)
    go (x ∷ ls) zero e i = let q : x ≡ l = (cc) in ap (λ (y : LaneView). lane_leaving n y d (d * 64 + i * 8) 0 y.vertices ++ lanes_leaving n d (suc i) ls) q
    go (x ∷ ls) (suc j) e i = go ls j e i

pub lanes_none : (n d : ℕ) (ls : List LaneView) (i : ℕ) → length ls ≤ i → lanes_leaving n d i (drop i ls) ≡ []
unfolding lanes_leaving
lanes_none n d ls i le = at_drop_all (lanes_leaving n d i) ls i le

pub no_lane : (ls : List LaneView) (i : ℕ) → None ≡ slice_get ls i → length ls ≤ i
no_lane [] i e = omega arith
no_lane (l ∷ ls) zero e = let z : ◌≡◌ {A = ℕ} 0 1 = (cc) in absurd (omega arith)
no_lane (l ∷ ls) (suc i) e = let k = no_lane ls i e in omega arith

-- ---- the loop over the domains

pub domains_front : (n : ℕ) (ss : List (Option ℕ)) (ts : List (List LaneView)) (d : ℕ) → d < length ss → length ss ≡ length ts
    → domains_leaving n d (drop d ss) (drop d ts) ≡ domain_leaving n d (get_or ss d None) (get_or ts d []) ++ domains_leaving n (d + 1) (drop (d + 1) ss) (drop (d + 1) ts)
unfolding domains_leaving
domains_front n ss ts d lt same = go ss ts d lt same d ∙ ap (λ k. domain_leaving n d (get_or ss d None) (get_or ts d []) ++ domains_leaving n k (drop k ss) (drop k ts)) (sym (add-one d))
  where
    go : (ss : List (Option ℕ)) (ts : List (List LaneView)) (j : ℕ) → j < length ss → length ss ≡ length ts → (d : ℕ)
        → domains_leaving n d (drop j ss) (drop j ts) ≡ domain_leaving n d (get_or ss j None) (get_or ts j []) ++ domains_leaving n (suc d) (drop (suc j) ss) (drop (suc j) ts)
    go [] ts j lt same d = absurd (omega arith)
    go (s ∷ ss) [] j lt same d = absurd (omega arith)
    go (s ∷ ss) (t ∷ ts) zero lt same d = refl
    go (s ∷ ss) (t ∷ ts) (suc j) lt same d = go ss ts j (omega arith) (omega arith) d

pub domains_none : (n : ℕ) (ss : List (Option ℕ)) (ts : List (List LaneView)) (d : ℕ) → length ss ≤ d → domains_leaving n d (drop d ss) (drop d ts) ≡ []
unfolding domains_leaving
domains_none n ss ts d le = at_drop_all (λ (x : List (Option ℕ)). domains_leaving n d x (drop d ts)) ss d le

-- ---- at most 512

lane_few : (n : ℕ) (l : LaneView) (d base i : ℕ) (vs : List Vertex) → length (lane_leaving n l d base i vs) ≤ length vs
unfolding lane_leaving
lane_few n l d base i [] = omega arith
lane_few n l d base i (v ∷ vs) = let few = lane_few n l d base (suc i) vs in go few (leaves_in n l i v)
  where
    go : length (lane_leaving n l d base (suc i) vs) ≤ length vs → (t : Bool) → length (cond t (request_from d (base + i) v ∷ lane_leaving n l d base (suc i) vs) (lane_leaving n l d base (suc i) vs)) ≤ suc (length vs)
    go few true = omega (arith, few)
    go few false = omega (arith, few)

lane_small : (l : LaneView) → lane_formed l ≡ true → length l.vertices ≤ 8
lane_small l e = leb-true (length l.vertices) 8 (and_parts (leb (length l.vertices) 8) _ e).0

lanes_few : (n d i : ℕ) (ls : List LaneView) → any (λ l. not (lane_formed l)) ls ≡ false → length (lanes_leaving n d i ls) ≤ length ls * 8
unfolding lanes_leaving
lanes_few n d i [] e = omega arith
lanes_few n d i (l ∷ ls) e =
    let q = or_false (not (lane_formed l)) _ e in
    let one = lane_few n l d (d * 64 + i * 8) 0 l.vertices in
    let small = lane_small l (not_back (lane_formed l) q.0) in
    let later = lanes_few n d (suc i) ls q.1 in
    omega (arith, one, small, later, length-append (lane_leaving n l d (d * 64 + i * 8) 0 l.vertices) (lanes_leaving n d (suc i) ls))

domain_few : (n d : ℕ) (s : Option ℕ) (ls : List LaneView) → domain_formed ls ≡ true → length (domain_leaving n d s ls) ≤ 64
domain_few n d (Some share) ls e = omega arith
domain_few n d None ls e =
    let q = and_parts (leb (length ls) 8) _ e in
    let many = leb-true (length ls) 8 q.0 in
    let few = lanes_few n d 0 ls (not_back' _ q.1) in
    omega (arith, many, few)

pub domains_few : (n d : ℕ) (ss : List (Option ℕ)) (ts : List (List LaneView)) → any (λ ls. not (domain_formed ls)) ts ≡ false → length (domains_leaving n d ss ts) ≤ length ss * 64
unfolding domains_leaving
domains_few n d [] ts e = omega arith
domains_few n d (s ∷ ss) [] e =
    let one = domain_few n d s [] refl in
    let later = domains_few n (suc d) ss [] e in
    omega (arith, one, later, length-append (domain_leaving n d s []) (domains_leaving n (suc d) ss []))
domains_few n d (s ∷ ss) (t ∷ ts) e =
    let q = or_false (not (domain_formed t)) _ e in
    let one = domain_few n d s t (not_back (domain_formed t) q.0) in
    let later = domains_few n (suc d) ss ts q.1 in
    omega (arith, one, later, length-append (domain_leaving n d s t) (domains_leaving n (suc d) ss ts))

-- ---- a lane of a board that is in form has at most 8 vertices, and a domain at most 8 lanes

module _ (ts : List (List LaneView)) (ok : formed ts ≡ true) (d : ℕ) where
  domain_ok : domain_formed (get_or ts d []) ≡ true
  unfolding formed
  domain_ok = formed_at ts d (not_back' _ ok)

  pub few_lanes : length (get_or ts d []) ≤ 8
  few_lanes = leb-true (length (get_or ts d [])) 8 (and_parts (leb (length (get_or ts d [])) 8) _ domain_ok).0

  pub few_vertices : (i : ℕ) (l : LaneView) → Some l ≡ slice_get (get_or ts d []) i → length l.vertices ≤ 8
  few_vertices i l e = go (get_or ts d []) i (not_back' _ (and_parts (leb (length (get_or ts d [])) 8) _ domain_ok).1) e
    where
      go : (ls : List LaneView) (i : ℕ) → any (λ x. not (lane_formed x)) ls ≡ false → Some l ≡ slice_get ls i → length l.vertices ≤ 8
      go [] i e h = let z : ◌≡◌ {A = ℕ} 0 1 = (cc) in absurd (omega arith)
      go (x ∷ ls) zero e h = let q : x ≡ l = (cc) in let s = lane_small x (not_back (lane_formed x) (or_false (not (lane_formed x)) _ e).0) in let z = ap (λ (y : LaneView). length y.vertices) q in omega (arith, s, z)
      go (x ∷ ls) (suc i) e h = go ls i (or_false (not (lane_formed x)) _ e).1 h

-- ---- open domains

pub open_none : (n d : ℕ) (s : Option ℕ) (ls : List LaneView) → true ≡ not (no_share s) → domain_leaving n d s ls ≡ []
open_none n d (Some share) ls e = refl
open_none n d None ls e = let z : ◌≡◌ {A = ℕ} 0 1 = (cc) in absurd (omega arith)

pub closed_lanes : (n d : ℕ) (s : Option ℕ) (ls : List LaneView) → false ≡ not (no_share s) → lanes_leaving n d 0 ls ≡ domain_leaving n d s ls
closed_lanes n d (Some share) ls e = let z : ◌≡◌ {A = ℕ} 0 1 = (cc) in absurd (omega arith)
closed_lanes n d None ls e = refl

pub none_added : (qs : List Request) → all_added [] qs ≡ qs
unfolding all_added
none_added qs = refl

pub one_added : (q : Request) (ps qs : List Request) → all_added (q ∷ ps) qs ≡ all_added ps (added q qs)
unfolding all_added
one_added q ps qs = refl
