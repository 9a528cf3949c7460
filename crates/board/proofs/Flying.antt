-- What a slot has in flight, from what is read of it.
use Rattle.std.proofs.Common.{◌≡◌, ℕ, Bool, true, false, ltb, ltb-false, refl, ◌/◌, ◌%◌, ◌≤◌, List, [], length, get_or, Some, None, Option, sym, ap, ◌∙◌, arith}
use Rattle.std.proofs.lemmas.List.{get_or_past}
use Rattle.std.specs.List.{slice_get}
use Rattle.interface.specs.declared.Request.{Request}
use Rattle.patterns.specs.declared.vertex.Vertex.{Vertex}
use Rattle.patterns.specs.Lanes.{LaneView}
use Rattle.board.specs.Slots.{free}
use Rattle.board.specs.Boards.{BoardView}
use Rattle.board.specs.Flights.{slot_number, vertex_in, vertex_at, open_flight, vertex_flight, flight_by, flight_at}

module _ (b : BoardView) (t : ℕ) where
  pub flight_past : length b.shares ≡ 8 → length b.lanes ≡ 8 → 512 ≤ t → None ≡ flight_at b t
  unfolding flight_at
  flight_past eight many le =
      sym (ap (λ (o : Option ℕ). flight_by t o (get_or b.slots t free) (vertex_at b.lanes t)) (get_or_past b.shares (t / 64) None (omega (arith, eight, le)))
      ∙ ap (λ (ls : List LaneView). vertex_flight t (vertex_in (slice_get ls (t / 8 % 8)) (t % 8))) (get_or_past b.lanes (t / 8 / 8) [] (omega (arith, many, le))))

  pub flight_open : (n : ℕ) (r : Option Request) → Some n ≡ get_or b.shares (t / 64) None → r ≡ open_flight t (get_or b.slots t free) → r ≡ flight_at b t
  unfolding flight_at
  flight_open n r share is = is ∙ ap (λ (s : Option ℕ). flight_by t s (get_or b.slots t free) (vertex_at b.lanes t)) share

  pub flight_vertex : (v : Option Vertex) (r : Option Request) → None ≡ get_or b.shares (t / 64) None → v ≡ vertex_at b.lanes t → r ≡ vertex_flight t v → r ≡ flight_at b t
  unfolding flight_at
  flight_vertex v r share read is =
      is ∙ ap (vertex_flight t) read
      ∙ ap (λ (s : Option ℕ). flight_by t s (get_or b.slots t free) (vertex_at b.lanes t)) share

pub slot_is : (n m : ℕ) → Some m ≡ slot_number n → m ≡ n
slot_is n m e = go (ltb n 512) refl
  where
    go : (t : Bool) → ltb n 512 ≡ t → m ≡ n
    go true k = cc
    go false k = let z : ◌≡◌ {A = ℕ} 0 1 = cc in absurd (omega arith)

pub slot_past : (n : ℕ) → None ≡ slot_number n → 512 ≤ n
slot_past n e = go (ltb n 512) refl
  where
    go : (t : Bool) → ltb n 512 ≡ t → 512 ≤ n
    go true k = let z : ◌≡◌ {A = ℕ} 0 1 = cc in absurd (omega arith)
    go false k = ltb-false n 512 k
