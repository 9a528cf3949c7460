-- The next rounds, by lanes and as the model has them.
use Rattle.board.specs.Slots.{OpenSlot, free}
use Rattle.std.proofs.Common.{◌≡◌, ℕ, zero, suc, ◌+◌, ◌*◌, ◌/◌, ◌%◌, ◌<◌, List, [], ◌∷◌, map, length, get_or, Some, None, Option, sym, refl, ap, ◌∙◌, arith}
use mathlib.Core.Path.{fun_ext}
use lib.ListN.{length-map}
use Rattle.std.proofs.lemmas.List.{get_or_past}
use Rattle.std.specs.Option.{option_map}
use Rattle.std.specs.List.{slice_get}
use Rattle.patterns.specs.declared.vertex.Vertex.{Vertex}
use Rattle.patterns.specs.declared.vertex.VertexState.{VertexState}
use Rattle.patterns.specs.declared.vertex.VertexState.TheVariants.{Still, Flying, Done}
use Rattle.patterns.specs.declared.vertex.VertexEvent.TheVariants.{NewRound}
use Rattle.patterns.specs.Moves.{next, moved}
use Rattle.patterns.specs.Moves as moves
use Rattle.patterns.specs.Due.{later, round_end, next_start}
use Rattle.patterns.specs.Lanes.{LaneView, vertex_done, done_by, ended, renewed_at}
use Rattle.patterns.specs.Lanes as lanes
use Rattle.model.specs.Payloads.{Payload, fake}
use Rattle.model.specs.Settings.{Pattern, Role, patterns_of, pattern_at}
use Rattle.model.specs.Ticks.{Stage, done_tick, done_in, lane_end, renewed, rounds}
use Rattle.board.specs.Sets.{spot_of, pattern_of, role_at}
use Rattle.board.specs.Boards.{BoardView, settings_of, renewed_board}
use Rattle.store.specs.Stores.{StoreView}
use Rattle.board.proofs.Limits.{role}
use Rattle.board.specs.Flights.{lane_at, vertex_in}
use Rattle.scheduler.specs.Views.{state_stage, vertex_stage, slot_stage, stage_at, start_of, start_at, queue_at, tables_of}
use Rattle.scheduler.proofs.Begins.{lane_at_map}
use Rattle.scheduler.proofs.Submitted.{Sound, shapes}

abbrev pub pattern_by : Option ℕ → Option LaneView → Pattern
pattern_by (Some n) l = record { spots = []; edges = []; rest = 0 }
pattern_by None None = record { spots = []; edges = []; rest = 0 }
pattern_by None (Some l) = pattern_of l

pub pattern_nth : (ls : List LaneView) (i : ℕ) → get_or (map pattern_of ls) i (record { spots = []; edges = []; rest = 0 }) ≡ pattern_by None (slice_get ls i)
pattern_nth [] i = get_or_past [] i (record { spots = []; edges = []; rest = 0 }) (omega arith)
pattern_nth (l ∷ ls) zero = refl
pattern_nth (l ∷ ls) (suc i) = pattern_nth ls i

pattern_role : (s : Option ℕ) (ls : List LaneView) (i : ℕ) → get_or (patterns_of (role_at s ls)) i (record { spots = []; edges = []; rest = 0 }) ≡ pattern_by s (slice_get ls i)
pattern_role (Some n) ls i = get_or_past [] i (record { spots = []; edges = []; rest = 0 }) (omega arith)
pattern_role None [] i = get_or_past [] i (record { spots = []; edges = []; rest = 0 }) (omega arith)
pattern_role None (l ∷ ls) i = pattern_nth (l ∷ ls) i

round_same : (f g : ℕ → Option ℕ) (n : ℕ) → ((i : ℕ) → i < n → f i ≡ g i) → round_end f n ≡ round_end g n
round_same f g zero h = refl
round_same f g (suc zero) h = h 0 (omega arith)
round_same f g (suc (suc n)) h =
    ap (λ o. later o (f (suc n))) (round_same f g (suc n) (λ i lt. h i (omega arith))) ∙ ap (λ o. later (round_end g (suc n)) o) (h (suc n) (omega arith))

state_done : (b : ℕ) (v : Vertex) (p : Payload) → done_tick (vertex_stage (Some v) p) ≡ vertex_done v
state_done b v p = go v.state
  where
    go : (x : VertexState) → done_tick (state_stage v.bank v.kind x p) ≡ moves.done_tick x
    go Still = refl
    go Flying = refl
    go (Done c) = refl

done_nth : (vs : List Vertex) (i : ℕ) (p : Payload) → done_tick (vertex_stage (slice_get vs i) p) ≡ done_by vs i
done_nth [] i p = sym (get_or_past [] i None (omega arith))
done_nth (v ∷ vs) zero p = state_done 0 v p
done_nth (v ∷ vs) (suc i) p = done_nth vs i p

renew_stage : (m : ℕ) (b : ℕ) (v : Vertex) (p : Payload) → vertex_stage (Some (moved NewRound v)) p ≡ renewed (Some m) (vertex_stage (Some v) p)
renew_stage m b v p = go v.state
  where
    go : (x : VertexState) → state_stage v.bank v.kind (next NewRound x) p ≡ renewed (Some m) (state_stage v.bank v.kind x p)
    go Still = refl
    go Flying = refl
    go (Done c) = refl

renew_nth : (m : ℕ) (vs : List Vertex) (i : ℕ) (p : Payload) → vertex_stage (slice_get (map (moved NewRound) vs) i) p ≡ renewed (Some m) (vertex_stage (slice_get vs i) p)
renew_nth m [] i p = refl
renew_nth m (v ∷ vs) zero p = renew_stage m 0 v p
renew_nth m (v ∷ vs) (suc i) p = renew_nth m vs i p

renew_lane : (o : Option ℕ) (l : LaneView) (i : ℕ) (p : Payload) → vertex_stage (slice_get (renewed_at o l).vertices i) p ≡ renewed o (vertex_stage (slice_get l.vertices i) p)
renew_lane None l i p = refl
renew_lane (Some m) l i p = renew_nth m l.vertices i p

renew_start : (o : Option ℕ) (l : LaneView) → (renewed_at o l).start ≡ next_start l.rest o l.start
renew_start None l = refl
renew_start (Some m) l = refl

pub stage_read : (x : BoardView) (s : StoreView) (t : ℕ) → stage_at x s t ≡ slot_stage (get_or x.shares (t / 64) None) (get_or x.slots t free) (vertex_in (lane_at x.lanes (t / 8)) (t % 8)) (get_or s.payloads t fake)
unfolding stage_at
stage_read x s t = refl

abbrev end_by : Option ℕ → Option LaneView → Option ℕ
end_by (Some n) l = None
end_by None None = None
end_by None (Some l) = ended l

slot_renew : (o : Option ℕ) (x : Option LaneView) (w : OpenSlot) (i : ℕ) (p : Payload) → slot_stage o w (vertex_in (option_map lanes.renewed x) i) p ≡ renewed (end_by o x) (slot_stage o w (vertex_in x i) p)
slot_renew (Some n) x w i p = refl
slot_renew None None w i p = refl
slot_renew None (Some l) w i p = renew_lane (ended l) l i p

start_renew : (f : ℕ) (o : Option ℕ) (x : Option LaneView) → start_of f o (option_map lanes.renewed x) ≡ next_start (pattern_by o x).rest (end_by o x) (start_of f o x)
start_renew f (Some n) x = refl
start_renew f None None = refl
start_renew f None (Some l) = renew_start (ended l) l

module _ (b : BoardView) (s : StoreView) (used : ℕ) (ok : Sound b s used) where
  pub pattern_is : (ℓ : ℕ) → pattern_at (settings_of b) ℓ ≡ pattern_by (get_or b.shares (ℓ / 8) None) (lane_at b.lanes ℓ)
  unfolding pattern_at
  pattern_is ℓ =
      ap (λ (r : Role). get_or (patterns_of r) (ℓ % 8) (record { spots = []; edges = []; rest = 0 })) (role b used ok.board (ℓ / 8))
      ∙ pattern_role (get_or b.shares (ℓ / 8) None) (get_or b.lanes (ℓ / 8) []) (ℓ % 8)

  pub stage_of_lane : (ℓ i : ℕ) (l : LaneView) → i < 8 → get_or b.shares (ℓ / 8) None ≡ None → lane_at b.lanes ℓ ≡ Some l → done_tick (stage_at b s (ℓ * 8 + i)) ≡ done_by l.vertices i
  unfolding stage_at
  stage_of_lane ℓ i l lt bare is =
      let t = ℓ * 8 + i in
      let d : t / 64 ≡ ℓ / 8 = omega arith in
      let q : t / 8 ≡ ℓ = omega arith in
      let r : t % 8 ≡ i = omega arith in
      ap (λ (x : Option ℕ). done_tick (slot_stage x (get_or b.slots t free) (vertex_in (lane_at b.lanes (t / 8)) (t % 8)) (get_or s.payloads t fake))) (ap (λ k. get_or b.shares k None) d ∙ bare)
      ∙ ap (λ (x : Option LaneView). done_tick (vertex_stage (vertex_in x (t % 8)) (get_or s.payloads t fake))) (ap (lane_at b.lanes) q ∙ is)
      ∙ ap (λ k. done_tick (vertex_stage (slice_get l.vertices k) (get_or s.payloads t fake))) r
      ∙ done_nth l.vertices i (get_or s.payloads t fake)

  end_go : (ℓ : ℕ) (o : Option ℕ) (x : Option LaneView) → get_or b.shares (ℓ / 8) None ≡ o → lane_at b.lanes ℓ ≡ x → round_end (done_in (stage_at b s) ℓ) (length (pattern_at (settings_of b) ℓ).spots) ≡ end_by o x
  end_go ℓ (Some n) x e f = ap (λ (p : Pattern). round_end (done_in (stage_at b s) ℓ) (length p.spots)) (pattern_is ℓ ∙ ap (λ (o : Option ℕ). pattern_by o (lane_at b.lanes ℓ)) e)
  end_go ℓ None None e f = ap (λ (p : Pattern). round_end (done_in (stage_at b s) ℓ) (length p.spots)) (pattern_is ℓ ∙ ap (λ (o : Option ℕ). pattern_by o (lane_at b.lanes ℓ)) e ∙ ap (pattern_by None) f)
  end_go ℓ None (Some l) e f =
      let is : pattern_at (settings_of b) ℓ ≡ pattern_of l = pattern_is ℓ ∙ ap (λ (o : Option ℕ). pattern_by o (lane_at b.lanes ℓ)) e ∙ ap (pattern_by None) f in
      let count : length (pattern_at (settings_of b) ℓ).spots ≡ length l.vertices = ap (λ (p : Pattern). length p.spots) is ∙ length-map l.vertices spot_of in
      let few = shapes b s used ok ℓ in
      ap (round_end (done_in (stage_at b s) ℓ)) count
      ∙ round_same (done_in (stage_at b s) ℓ) (done_by l.vertices) (length l.vertices) (λ i j. stage_of_lane ℓ i l (omega (arith, few, count, j)) e f)

  end_is : (ℓ : ℕ) → lane_end (settings_of b) (stage_at b s) ℓ ≡ end_by (get_or b.shares (ℓ / 8) None) (lane_at b.lanes ℓ)
  unfolding lane_end
  end_is ℓ = end_go ℓ (get_or b.shares (ℓ / 8) None) (lane_at b.lanes ℓ) refl refl

  stages_renewed : ◌≡◌ {A = ℕ → Stage} (stage_at (renewed_board b) s) (λ t. renewed (lane_end (settings_of b) (stage_at b s) (t / 8)) (stage_at b s t))
  stages_renewed = fun_ext (λ t. go t)
    where
      read : (x : BoardView) (t : ℕ) → stage_at x s t ≡ slot_stage (get_or x.shares (t / 64) None) (get_or x.slots t free) (vertex_in (lane_at x.lanes (t / 8)) (t % 8)) (get_or s.payloads t fake)
      read x t = stage_read x s t

      go : (t : ℕ) → stage_at (renewed_board b) s t ≡ renewed (lane_end (settings_of b) (stage_at b s) (t / 8)) (stage_at b s t)
      go t =
          let d : t / 64 ≡ t / 8 / 8 = omega arith in
          read (renewed_board b) t
          ∙ ap (λ (x : Option LaneView). slot_stage (get_or b.shares (t / 64) None) (get_or b.slots t free) (vertex_in x (t % 8)) (get_or s.payloads t fake)) (lane_at_map lanes.renewed b.lanes (t / 8))
          ∙ slot_renew (get_or b.shares (t / 64) None) (lane_at b.lanes (t / 8)) (get_or b.slots t free) (t % 8) (get_or s.payloads t fake)
          ∙ ap (λ (x : Stage). renewed (end_by (get_or b.shares (t / 64) None) (lane_at b.lanes (t / 8))) x) (sym (read b t))
          ∙ ap (λ (o : Option ℕ). renewed o (stage_at b s t)) (ap (λ k. end_by (get_or b.shares k None) (lane_at b.lanes (t / 8))) d ∙ sym (end_is (t / 8)))

  starts_renewed : ◌≡◌ {A = ℕ → ℕ} (start_at (renewed_board b)) (λ ℓ. next_start (pattern_at (settings_of b) ℓ).rest (lane_end (settings_of b) (stage_at b s) ℓ) (start_at b ℓ))
  unfolding start_at
  starts_renewed = fun_ext (λ ℓ.
      ap (λ (x : Option LaneView). start_of b.first (get_or b.shares (ℓ / 8) None) x) (lane_at_map lanes.renewed b.lanes ℓ)
      ∙ start_renew b.first (get_or b.shares (ℓ / 8) None) (lane_at b.lanes ℓ)
      ∙ ap (λ (p : Pattern). next_start p.rest (end_by (get_or b.shares (ℓ / 8) None) (lane_at b.lanes ℓ)) (start_at b ℓ)) (sym (pattern_is ℓ))
      ∙ ap (λ (o : Option ℕ). next_start (pattern_at (settings_of b) ℓ).rest o (start_at b ℓ)) (sym (end_is ℓ)))

  -- the lanes of the board that begin their next round are those of the model
  pub rounds_is : tables_of (renewed_board b) s ≡ rounds (settings_of b) (tables_of b s)
  unfolding rounds
  rounds_is =
      ap (λ (f : ℕ → Stage). record { stage = f; start = start_at (renewed_board b); queue = queue_at s }) stages_renewed
      ∙ ap (λ (f : ℕ → ℕ). record { stage = λ t. renewed (lane_end (settings_of b) (stage_at b s) (t / 8)) (stage_at b s t); start = f; queue = queue_at s }) starts_renewed
