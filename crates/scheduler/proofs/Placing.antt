-- One vertex of the board moved on.
use Rattle.std.proofs.Common.{◌≡◌, ℕ, zero, suc, ◌/◌, ◌%◌, Bool, true, false, cond, eqb, List, [], ◌∷◌, length, get_or, Some, None, Option, sym, refl, ap, ◌∙◌, arith}
use mathlib.Core.Path.{fun_ext}
use Rattle.std.proofs.lemmas.Bool.{eqb-true, eqb-false}
use Rattle.std.specs.Option.{option_map}
use Rattle.std.specs.List.{slice_get}
use Rattle.patterns.specs.declared.vertex.VertexEvent.{VertexEvent}
use Rattle.patterns.specs.Moves.{moved}
use Rattle.patterns.specs.Lanes.{LaneView, changed, advanced}
use Rattle.model.specs.Settings.{Role, Settings, all_slots}
use Rattle.board.specs.Boards.{BoardView, settings_of, advanced_board}
use Rattle.board.specs.Flights.{lane_at, vertex_in, vertex_at}
use Rattle.board.proofs.Moves.{advanced_pattern, roles_changed, formed_changed}
use Rattle.store.specs.Stores.{StoreView}
use Rattle.scheduler.specs.Views.{start_of, start_at}
use Rattle.scheduler.proofs.Submitted.{Sound}

-- ---- one element changed

nth_same : {X : Type 0} (f : X → X) (xs : List X) (i : ℕ) → slice_get (changed f xs i) i ≡ option_map f (slice_get xs i)
nth_same f [] i = refl
nth_same f (x ∷ xs) zero = refl
nth_same f (x ∷ xs) (suc i) = nth_same f xs i

nth_other : {X : Type 0} (f : X → X) (xs : List X) (i j : ℕ) → (j ≡ i → ⊥) → slice_get (changed f xs i) j ≡ slice_get xs j
nth_other f [] i j ne = refl
nth_other f (x ∷ xs) zero zero ne = absurd (ne refl)
nth_other f (x ∷ xs) zero (suc j) ne = refl
nth_other f (x ∷ xs) (suc i) zero ne = refl
nth_other f (x ∷ xs) (suc i) (suc j) ne = nth_other f xs i j (λ e. ne (ap suc e))

-- past the list too, where the default stays
read_same : {X : Type 0} (f : X → X) (xs : List X) (i : ℕ) (d : X) → f d ≡ d → get_or (changed f xs i) i d ≡ f (get_or xs i d)
read_same f [] i d e = sym e
read_same f (x ∷ xs) zero d e = refl
read_same f (x ∷ xs) (suc i) d e = read_same f xs i d e

read_other : {X : Type 0} (f : X → X) (xs : List X) (i j : ℕ) (d : X) → (j ≡ i → ⊥) → get_or (changed f xs i) j d ≡ get_or xs j d
read_other f [] i j d ne = refl
read_other f (x ∷ xs) zero zero d ne = absurd (ne refl)
read_other f (x ∷ xs) zero (suc j) d ne = refl
read_other f (x ∷ xs) (suc i) zero d ne = refl
read_other f (x ∷ xs) (suc i) (suc j) d ne = read_other f xs i j d (λ e. ne (ap suc e))

length_changed : {X : Type 0} (f : X → X) (xs : List X) (i : ℕ) → length (changed f xs i) ≡ length xs
length_changed f [] i = refl
length_changed f (x ∷ xs) zero = refl
length_changed f (x ∷ xs) (suc i) = ap suc (length_changed f xs i)

-- ---- one lane of a table changed

module _ (g : LaneView → LaneView) (ts : List (List LaneView)) where
  lane_same : (d i : ℕ) → slice_get (get_or (changed (λ ls. changed g ls i) ts d) d []) i ≡ option_map g (slice_get (get_or ts d []) i)
  lane_same d i =
      ap (λ (ls : List LaneView). slice_get ls i) (read_same (λ ls. changed g ls i) ts d [] refl)
      ∙ nth_same g (get_or ts d []) i

  lane_beside : (d i k : ℕ) → (k ≡ i → ⊥) → slice_get (get_or (changed (λ ls. changed g ls i) ts d) d []) k ≡ slice_get (get_or ts d []) k
  lane_beside d i k ne =
      ap (λ (ls : List LaneView). slice_get ls k) (read_same (λ ls. changed g ls i) ts d [] refl)
      ∙ nth_other g (get_or ts d []) i k ne

  -- the lane with number m, domain × 8 + lane
  lane_there : (d i m : ℕ) → m / 8 ≡ d → m % 8 ≡ i → lane_at (changed (λ ls. changed g ls i) ts d) m ≡ option_map g (lane_at ts m)
  lane_there d i m p q =
      ap (λ k. slice_get (get_or (changed (λ ls. changed g ls i) ts d) k []) (m % 8)) p
      ∙ ap (λ k. slice_get (get_or (changed (λ ls. changed g ls i) ts d) d []) k) q
      ∙ lane_same d i
      ∙ ap (λ k. option_map g (slice_get (get_or ts d []) k)) (sym q)
      ∙ ap (λ k. option_map g (slice_get (get_or ts k []) (m % 8))) (sym p)

  lane_elsewhere : (d i m : ℕ) → (m / 8 ≡ d → m % 8 ≡ i → ⊥) → lane_at (changed (λ ls. changed g ls i) ts d) m ≡ lane_at ts m
  lane_elsewhere d i m ne = go (eqb (m / 8) d) refl
    where
      go : (x : Bool) → eqb (m / 8) d ≡ x → lane_at (changed (λ ls. changed g ls i) ts d) m ≡ lane_at ts m
      go true e =
          let p = eqb-true (m / 8) d e in
          ap (λ k. slice_get (get_or (changed (λ ls. changed g ls i) ts d) k []) (m % 8)) p
          ∙ lane_beside d i (m % 8) (ne p)
          ∙ ap (λ k. slice_get (get_or ts k []) (m % 8)) (sym p)
      go false e = ap (λ (ls : List LaneView). slice_get ls (m % 8)) (read_other (λ ls. changed g ls i) ts d (m / 8) [] (eqb-false (m / 8) d e))

-- ---- one vertex of a lane moved on

vertex_there : (e : VertexEvent) (i : ℕ) (x : Option LaneView) → vertex_in (option_map (advanced e i) x) i ≡ option_map (moved e) (vertex_in x i)
vertex_there e i None = refl
vertex_there e i (Some l) = nth_same (moved e) l.vertices i

vertex_elsewhere : (e : VertexEvent) (i k : ℕ) (x : Option LaneView) → (k ≡ i → ⊥) → vertex_in (option_map (advanced e i) x) k ≡ vertex_in x k
vertex_elsewhere e i k None ne = refl
vertex_elsewhere e i k (Some l) ne = nth_other (moved e) l.vertices i k ne

start_there : (first : ℕ) (o : Option ℕ) (e : VertexEvent) (i : ℕ) (x : Option LaneView) → start_of first o (option_map (advanced e i) x) ≡ start_of first o x
start_there first (Some n) e i x = refl
start_there first None e i None = refl
start_there first None e i (Some l) = refl

module _ (e : VertexEvent) (t : ℕ) (b : BoardView) where
  -- only the lane of slot t is changed
  pub lane_moved : (m : ℕ) → lane_at (advanced_board e t b).lanes m ≡ cond (eqb m (t / 8)) (option_map (advanced e (t % 8)) (lane_at b.lanes m)) (lane_at b.lanes m)
  lane_moved m = go (eqb m (t / 8)) refl
    where
      go : (x : Bool) → eqb m (t / 8) ≡ x → lane_at (advanced_board e t b).lanes m ≡ cond x (option_map (advanced e (t % 8)) (lane_at b.lanes m)) (lane_at b.lanes m)
      go true is = let q = eqb-true m (t / 8) is in lane_there (advanced e (t % 8)) b.lanes (t / 64) (t / 8 % 8) m (omega (arith, q)) (omega (arith, q))
      go false is = let ne = eqb-false m (t / 8) is in lane_elsewhere (advanced e (t % 8)) b.lanes (t / 64) (t / 8 % 8) m (λ p q. ne (omega (arith, p, q)))

  -- only the vertex of slot t is moved on
  pub vertex_moved : (j : ℕ) → vertex_at (advanced_board e t b).lanes j ≡ cond (eqb j t) (option_map (moved e) (vertex_at b.lanes j)) (vertex_at b.lanes j)
  vertex_moved j = ap (λ (x : Option LaneView). vertex_in x (j % 8)) (lane_moved (j / 8)) ∙ go (eqb j t) (eqb (j / 8) (t / 8)) refl refl
    where
      go : (x y : Bool) → eqb j t ≡ x → eqb (j / 8) (t / 8) ≡ y
          → vertex_in (cond y (option_map (advanced e (t % 8)) (lane_at b.lanes (j / 8))) (lane_at b.lanes (j / 8))) (j % 8) ≡ cond x (option_map (moved e) (vertex_at b.lanes j)) (vertex_at b.lanes j)
      go true true p q =
          let same : j % 8 ≡ t % 8 = ap (λ k. k % 8) (eqb-true j t p) in
          ap (λ k. vertex_in (option_map (advanced e (t % 8)) (lane_at b.lanes (j / 8))) k) same
          ∙ vertex_there e (t % 8) (lane_at b.lanes (j / 8))
          ∙ ap (λ k. option_map (moved e) (vertex_in (lane_at b.lanes (j / 8)) k)) (sym same)
      go true false p q = absurd (eqb-false (j / 8) (t / 8) q (ap (λ k. k / 8) (eqb-true j t p)))
      go false true p q =
          let ne = eqb-false j t p in
          let at = eqb-true (j / 8) (t / 8) q in
          vertex_elsewhere e (t % 8) (j % 8) (lane_at b.lanes (j / 8)) (λ r. ne (omega (arith, at, r)))
      go false false p q = refl

  -- starts stay
  pub starts_stay : start_at (advanced_board e t b) ≡ start_at b
  unfolding start_at
  starts_stay = fun_ext (λ m. ap (λ (x : Option LaneView). start_of b.first (get_or b.shares (m / 8) None) x) (lane_moved m) ∙ go m (eqb m (t / 8)))
    where
      go : (m : ℕ) (x : Bool) → start_of b.first (get_or b.shares (m / 8) None) (cond x (option_map (advanced e (t % 8)) (lane_at b.lanes m)) (lane_at b.lanes m)) ≡ start_of b.first (get_or b.shares (m / 8) None) (lane_at b.lanes m)
      go m true = start_there b.first (get_or b.shares (m / 8) None) e (t % 8) (lane_at b.lanes m)
      go m false = refl

  -- what is set stays
  pub settings_stay : settings_of (advanced_board e t b) ≡ settings_of b
  settings_stay = ap (λ (rs : List Role). record { first = b.first; roles = rs }) (roles_changed (advanced e (t % 8)) (advanced_pattern e (t % 8)) b.shares b.lanes (t / 64) (t / 8 % 8))

  -- and what is known of the tables
  pub sound_stays : (s : StoreView) (used : ℕ) → Sound b s used → Sound (advanced_board e t b) s used
  sound_stays s used ok = record {
    board = record {
      eight = ok.board.eight;
      as_many = length_changed (λ ls. changed (advanced e (t % 8)) ls (t / 8 % 8)) b.lanes (t / 64) ∙ ok.board.as_many;
      counted = ok.board.counted ∙ ap (λ (c : Settings). length (all_slots c)) (sym settings_stay);
      in_form = formed_changed (advanced e (t % 8)) (advanced_pattern e (t % 8)) b.lanes (t / 64) (t / 8 % 8) ∙ ok.board.in_form;
    };
    slots = ok.slots;
    shares = ok.shares;
    backlogs = ok.backlogs;
    payloads = ok.payloads;
  }
