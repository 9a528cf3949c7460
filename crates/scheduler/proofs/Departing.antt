-- Who leaves, by the board and as the model has it.
use Rattle.board.specs.Slots.{free}
use Rattle.std.proofs.Common.{◌≡◌, ℕ, zero, suc, ◌+◌, ◌*◌, ◌/◌, ◌%◌, ◌<◌, ◌≤◌, Bool, true, false, cond, not, ◌&&◌, leb, List, [], ◌∷◌, ◌++◌, map, length, get_or, drop, Some, None, Option, sym, refl, ap, ◌∙◌, subst, arith}
use Rattle.std.proofs.lemmas.List.{append-nil, append_assoc, map-append}
use Rattle.std.proofs.ByRecursion.{All-append}
use Rattle.std.proofs.lemmas.Bool.{ltb-true}
use Rattle.std.specs.Option.{option_map}
use Rattle.std.specs.List.{AllByRecursion, slice_get}
use Rattle.interface.specs.declared.Request.{Request}
use Rattle.interface.specs.Meaning.{any}
use Rattle.patterns.specs.declared.edge.Edge.{Edge}
use Rattle.patterns.specs.declared.vertex.Vertex.{Vertex}
use Rattle.patterns.specs.declared.vertex.VertexState.{VertexState}
use Rattle.patterns.specs.declared.vertex.VertexState.TheVariants.{Still, Flying, Done}
use Rattle.patterns.specs.Moves.{done_tick}
use Rattle.patterns.specs.Due.{comes_into, incoming, release, greatest_or, due}
use Rattle.patterns.specs.Lanes.{LaneView, done_by, due_in}
use Rattle.model.specs.Payloads.{Payload, fake}
use Rattle.model.specs.Settings.{Pattern, Settings, vertices_from, lane_vertices, vertices_below, vertices}
use Rattle.model.specs.Settings as model
use Rattle.model.specs.Ticks.{Tables, done_in, due_tick, is_due, is_still, leaves, leaving, request_of}
use Rattle.store.specs.Stores.{StoreView}
use Rattle.board.specs.Sets.{spot_of, low_source, lane_formed, formed}
use Rattle.board.specs.Boards.{BoardView, settings_of}
use Rattle.board.specs.Flights.{lane_at, vertex_in, vertex_at}
use Rattle.board.specs.Leaving.{has_not_left, leaves_in, request_from, lane_leaving, lanes_leaving, domain_leaving, domains_leaving, board_leaving}
use Rattle.board.proofs.Limits.{formed_at, not_back, not_back', and_parts, or_false}
use Rattle.board.proofs.Leaves.{lanes_front, lanes_none, no_lane, domains_front, domains_none, few_lanes, few_vertices}
use Rattle.scheduler.specs.Views.{state_stage, vertex_stage, slot_stage, stage_at, start_of, start_at, tables_of}
use Rattle.scheduler.proofs.Submitted.{Sound}
use Rattle.scheduler.proofs.Rounds.{pattern_by, pattern_is, stage_read, stage_of_lane}

-- a request whose vertex has not left: its domain is not open, and the vertex of its slot has its bank and kind and is not done
pub record Goes (b : BoardView) (q : Request) : Type 0 where
  pub low : q.slot < 512
  pub domain : q.domain ≡ q.slot / 64
  pub bare : get_or b.shares (q.slot / 64) None ≡ None
  pub vertex : Vertex
  pub there : vertex_at b.lanes q.slot ≡ Some vertex
  pub same_bank : vertex.bank ≡ q.bank
  pub same_kind : vertex.kind ≡ q.kind
  pub not_done : done_tick vertex.state ≡ None

-- ---- the lists of the numbers from a on, one after the other

module _ {A : Type 0} (f : ℕ → List A) where
  span : ℕ → ℕ → List A
  span a zero = []
  span a (suc k) = f a ++ span (suc a) k

  span_split : (a j k m : ℕ) → m ≡ j + k → span a m ≡ span a j ++ span (a + j) k
  unfolding span
  span_split a zero k m e =
      let z : m ≡ k = omega (arith, e) in
      let q : a ≡ a + 0 = omega arith in
      ap (span a) z ∙ ap (λ x. span x k) q
  span_split a (suc j) k zero e = absurd (omega (arith, e))
  span_split a (suc j) k (suc m) e =
      let q : suc a + j ≡ a + suc j = omega arith in
      ap (λ (xs : List A). f a ++ xs) (span_split (suc a) j k m (omega (arith, e)) ∙ ap (λ x. span (suc a) j ++ span x k) q)
      ∙ sym (append_assoc (f a) (span (suc a) j) (span (a + suc j) k))

  span_all : (P : A → Type 0) (a k top : ℕ) → a + k ≤ top → ((i : ℕ) → i < top → AllByRecursion P (f i)) → AllByRecursion P (span a k)
  unfolding span
  span_all P a zero top le h = tt
  span_all P a (suc k) top le h = All-append P (f a) (span (suc a) k) (h a (omega (arith, le))) (span_all P (suc a) k top (omega (arith, le)) h)

  span_none : (a k top : ℕ) → a + k ≤ top → ((i : ℕ) → a ≤ i → i < top → f i ≡ []) → span a k ≡ []
  unfolding span
  span_none a zero top le h = refl
  span_none a (suc k) top le h = ap (λ (xs : List A). xs ++ span (suc a) k) (h a (omega arith) (omega (arith, le))) ∙ span_none (suc a) k top (omega (arith, le)) (λ i low lt. h i (omega (arith, low)) lt)

below_span : (c : Settings) (m : ℕ) → vertices_below c m ≡ span (lane_vertices c) 0 m
unfolding vertices_below span
below_span c zero = refl
below_span c (suc m) =
    let z : 0 + m ≡ m = omega arith in
    ap (λ (xs : List model.Vertex). xs ++ lane_vertices c m) (below_span c m)
    ∙ sym (span_split (lane_vertices c) 0 m 1 (suc m) (omega arith) ∙ ap (λ (xs : List model.Vertex). span (lane_vertices c) 0 m ++ xs) (append-nil (lane_vertices c (0 + m)) ∙ ap (lane_vertices c) z))

vertices_span : (c : Settings) → vertices c ≡ span (lane_vertices c) 0 64
unfolding vertices
vertices_span c = below_span c 64

leaving_append : (n : ℕ) (x : Tables) (us vs : List model.Vertex) → leaving n x (us ++ vs) ≡ leaving n x us ++ leaving n x vs
unfolding leaving
leaving_append n x [] vs = refl
leaving_append n x (u ∷ us) vs = go (leaving_append n x us vs) (leaves n x u)
  where
    go : leaving n x (us ++ vs) ≡ leaving n x us ++ leaving n x vs → (t : Bool) → cond t (u ∷ leaving n x (us ++ vs)) (leaving n x (us ++ vs)) ≡ cond t (u ∷ leaving n x us) (leaving n x us) ++ leaving n x vs
    go e true = ap (λ (ws : List model.Vertex). u ∷ ws) e
    go e false = e

-- who leaves, lane by lane
span_leaving : (n : ℕ) (x : Tables) (f : ℕ → List model.Vertex) (g : ℕ → List Request) (a k : ℕ) → ((ℓ : ℕ) → map request_of (leaving n x (f ℓ)) ≡ g ℓ) → map request_of (leaving n x (span f a k)) ≡ span g a k
unfolding span leaving
span_leaving n x f g a zero h = refl
span_leaving n x f g a (suc k) h =
    ap (map request_of) (leaving_append n x (f a) (span f (suc a) k))
    ∙ map-append request_of (leaving n x (f a)) (leaving n x (span f (suc a) k))
    ∙ ap (λ (qs : List Request). qs ++ map request_of (leaving n x (span f (suc a) k))) (h a)
    ∙ ap (λ (qs : List Request). g a ++ qs) (span_leaving n x f g (suc a) k h)

-- ---- due ticks, over Done ticks that agree below 8

module _ (f g : ℕ → Option ℕ) (same : (i : ℕ) → i < 8 → f i ≡ g i) where
  releases : (v : ℕ) (es : List Edge) → any (λ e. not (low_source e)) es ≡ false → map (release f) (incoming v es) ≡ map (release g) (incoming v es)
  releases v [] h = refl
  releases v (e ∷ es) h =
      let q = or_false (not (low_source e)) _ h in
      go (same e.source (ltb-true e.source 8 (not_back (low_source e) q.0))) (releases v es q.1) (comes_into v e)
    where
      go : f e.source ≡ g e.source → map (release f) (incoming v es) ≡ map (release g) (incoming v es) → (t : Bool) → map (release f) (cond t (e ∷ incoming v es) (incoming v es)) ≡ map (release g) (cond t (e ∷ incoming v es) (incoming v es))
      go one later true = ap (λ (o : Option ℕ). option_map (λ c. c + e.weight) o ∷ map (release f) (incoming v es)) one ∙ ap (λ (os : List (Option ℕ)). release g e ∷ os) later
      go one later false = later

  due_same : (start v : ℕ) (es : List Edge) → any (λ e. not (low_source e)) es ≡ false → due start f es v ≡ due start g es v
  due_same start v es h = ap (greatest_or start) (releases v es h)

-- ---- one lane

still_is : (w : Vertex) (p : Payload) → is_still (vertex_stage (Some w) p) ≡ has_not_left w.state
still_is w p = go w.state
  where
    go : (x : VertexState) → is_still (state_stage w.bank w.kind x p) ≡ has_not_left x
    go Still = refl
    go Flying = refl
    go (Done c) = refl

not_left : (x : VertexState) → has_not_left x ≡ true → done_tick x ≡ None
not_left Still e = refl
not_left Flying e = refl
not_left (Done c) e = let z : ◌≡◌ {A = ℕ} 0 1 = (cc) in absurd (omega arith)

lane_in_form : (ls : List LaneView) (i : ℕ) (l : LaneView) → any (λ x. not (lane_formed x)) ls ≡ false → slice_get ls i ≡ Some l → lane_formed l ≡ true
lane_in_form [] i l e h = let z : ◌≡◌ {A = ℕ} 0 1 = (cc) in absurd (omega arith)
lane_in_form (x ∷ ls) zero l e h = let q : l ≡ x = (cc) in ap lane_formed q ∙ not_back (lane_formed x) (or_false (not (lane_formed x)) _ e).0
lane_in_form (x ∷ ls) (suc i) l e h = lane_in_form ls i l (or_false (not (lane_formed x)) _ e).1 h

-- the requests of lane ℓ: one that is not there has none
abbrev part_by : ℕ → ℕ → Option ℕ → Option LaneView → List Request
part_by n ℓ (Some share) x = []
part_by n ℓ None None = []
part_by n ℓ None (Some l) = lane_leaving n l (ℓ / 8) (ℓ * 8) 0 l.vertices

abbrev part : ℕ → BoardView → ℕ → List Request
part n b ℓ = part_by n ℓ (get_or b.shares (ℓ / 8) None) (lane_at b.lanes ℓ)

module _ (b : BoardView) (s : StoreView) (used : ℕ) (ok : Sound b s used) (n : ℕ) where
  module _ (ℓ : ℕ) (l : LaneView) (bare : get_or b.shares (ℓ / 8) None ≡ None) (is : lane_at b.lanes ℓ ≡ Some l) where
    well : lane_formed l ≡ true
    unfolding formed
    well =
        let f = formed_at b.lanes (ℓ / 8) (not_back' _ ok.board.in_form) in
        lane_in_form (get_or b.lanes (ℓ / 8) []) (ℓ % 8) l (not_back' _ (and_parts (leb (length (get_or b.lanes (ℓ / 8) [])) 8) _ f).1) is

    sources : any (λ e. not (low_source e)) l.edges ≡ false
    sources = not_back' _ (and_parts (leb (length l.vertices) 8) _ well).1

    vertex_is : (k : ℕ) → k < 8 → vertex_at b.lanes (ℓ * 8 + k) ≡ slice_get l.vertices k
    vertex_is k lt =
        let q : (ℓ * 8 + k) / 8 ≡ ℓ = omega (arith, lt) in
        let r : (ℓ * 8 + k) % 8 ≡ k = omega (arith, lt) in
        ap (λ (x : Option LaneView). vertex_in x ((ℓ * 8 + k) % 8)) (ap (lane_at b.lanes) q ∙ is) ∙ ap (slice_get l.vertices) r

    bare_at : (k : ℕ) → k < 8 → get_or b.shares ((ℓ * 8 + k) / 64) None ≡ None
    bare_at k lt = let d : (ℓ * 8 + k) / 64 ≡ ℓ / 8 = omega (arith, lt) in ap (λ x. get_or b.shares x None) d ∙ bare

    still_at : (k : ℕ) (w : Vertex) → k < 8 → slice_get l.vertices k ≡ Some w → is_still (stage_at b s (ℓ * 8 + k)) ≡ has_not_left w.state
    still_at k w lt e =
        let t = ℓ * 8 + k in
        ap is_still (stage_read b s t)
        ∙ ap (λ (x : Option ℕ). is_still (slot_stage x (get_or b.slots t free) (vertex_at b.lanes t) (get_or s.payloads t fake))) (bare_at k lt)
        ∙ ap (λ (x : Option Vertex). is_still (vertex_stage x (get_or s.payloads t fake))) (vertex_is k lt ∙ e)
        ∙ still_is w (get_or s.payloads t fake)

    start_is : start_at b ℓ ≡ l.start
    unfolding start_at
    start_is = ap (λ (x : Option ℕ). start_of b.first x (lane_at b.lanes ℓ)) bare ∙ ap (start_of b.first None) is

    due_is : (v : model.Vertex) (k : ℕ) → k < 8 → v.slot ≡ ℓ * 8 + k → v.edges ≡ l.edges → due_tick (tables_of b s) v ≡ due_in l k
    unfolding due_tick
    due_is v k lt at es =
        let q : v.slot / 8 ≡ ℓ = omega (arith, lt, at) in
        let r : v.slot % 8 ≡ k = omega (arith, lt, at) in
        ap (λ x. due (start_at b x) (done_in (stage_at b s) x) v.edges (v.slot % 8)) q
        ∙ ap (λ x. due (start_at b ℓ) (done_in (stage_at b s) ℓ) v.edges x) r
        ∙ ap (λ (x : List Edge). due (start_at b ℓ) (done_in (stage_at b s) ℓ) x k) es
        ∙ ap (λ x. due x (done_in (stage_at b s) ℓ) l.edges k) start_is
        ∙ due_same (done_in (stage_at b s) ℓ) (done_by l.vertices) (λ i j. stage_of_lane b s used ok ℓ i l j bare is) l.start k l.edges sources

    leaves_is : (v : model.Vertex) (k : ℕ) (w : Vertex) → k < 8 → slice_get l.vertices k ≡ Some w → v.slot ≡ ℓ * 8 + k → v.edges ≡ l.edges → leaves n (tables_of b s) v ≡ leaves_in n l k w
    unfolding leaves
    leaves_is v k w lt e at es =
        ap (λ t. is_still (stage_at b s t) && is_due n (due_tick (tables_of b s) v)) at
        ∙ ap (λ t. t && is_due n (due_tick (tables_of b s) v)) (still_at k w lt e)
        ∙ ap (λ (o : Option ℕ). has_not_left w.state && is_due n o) (due_is v k lt at es)

    -- the vertices from number k on stand in the list at hand
    next_at : (k : ℕ) (w : Vertex) (vs : List Vertex) → ((j : ℕ) → slice_get l.vertices (k + j) ≡ slice_get (w ∷ vs) j) → (j : ℕ) → slice_get l.vertices (suc k + j) ≡ slice_get vs j
    next_at k w vs at j = let z : suc k + j ≡ k + suc j = omega arith in ap (slice_get l.vertices) z ∙ at (suc j)

    first_at : (k : ℕ) (w : Vertex) (vs : List Vertex) → ((j : ℕ) → slice_get l.vertices (k + j) ≡ slice_get (w ∷ vs) j) → slice_get l.vertices k ≡ Some w
    first_at k w vs at = let z : k ≡ k + 0 = omega arith in ap (slice_get l.vertices) z ∙ at 0

    lane_from : (k : ℕ) (vs : List Vertex) → k + length vs ≤ 8 → ((j : ℕ) → slice_get l.vertices (k + j) ≡ slice_get vs j)
        → map request_of (leaving n (tables_of b s) (vertices_from (ℓ * 8) k l.edges (map spot_of vs))) ≡ lane_leaving n l (ℓ / 8) (ℓ * 8) k vs
    unfolding leaving vertices_from lane_leaving
    lane_from k [] few at = refl
    lane_from k (w ∷ vs) few at =
        let lt : k < 8 = omega (arith, few) in
        ap (λ t. map request_of (cond t (v ∷ later) later)) (leaves_is v k w lt (first_at k w vs at) refl refl)
        ∙ go (omega (arith, lt)) (lane_from (suc k) vs (omega (arith, few)) (next_at k w vs at)) (leaves_in n l k w)
      where
        v : model.Vertex
        v = record { slot = ℓ * 8 + k; bank = w.bank; kind = w.kind; edges = l.edges }

        later : List model.Vertex
        later = leaving n (tables_of b s) (vertices_from (ℓ * 8) (suc k) l.edges (map spot_of vs))

        go : (ℓ * 8 + k) / 64 ≡ ℓ / 8 → map request_of later ≡ lane_leaving n l (ℓ / 8) (ℓ * 8) (suc k) vs → (t : Bool)
            → map request_of (cond t (v ∷ later) later) ≡ cond t (request_from (ℓ / 8) (ℓ * 8 + k) w ∷ lane_leaving n l (ℓ / 8) (ℓ * 8) (suc k) vs) (lane_leaving n l (ℓ / 8) (ℓ * 8) (suc k) vs)
        go dom ih true = ap (λ d. request_from d (ℓ * 8 + k) w ∷ map request_of later) dom ∙ ap (λ (qs : List Request). request_from (ℓ / 8) (ℓ * 8 + k) w ∷ qs) ih
        go dom ih false = ih

    lane_goes : ℓ < 64 → (k : ℕ) (vs : List Vertex) → k + length vs ≤ 8 → ((j : ℕ) → slice_get l.vertices (k + j) ≡ slice_get vs j) → AllByRecursion (Goes b) (lane_leaving n l (ℓ / 8) (ℓ * 8) k vs)
    unfolding lane_leaving
    lane_goes low k [] few at = tt
    lane_goes low k (w ∷ vs) few at = go (omega (arith, few)) (first_at k w vs at) (lane_goes low (suc k) vs (omega (arith, few)) (next_at k w vs at)) (leaves_in n l k w) refl
      where
        go : k < 8 → slice_get l.vertices k ≡ Some w → AllByRecursion (Goes b) (lane_leaving n l (ℓ / 8) (ℓ * 8) (suc k) vs) → (t : Bool) → leaves_in n l k w ≡ t
            → AllByRecursion (Goes b) (cond t (request_from (ℓ / 8) (ℓ * 8 + k) w ∷ lane_leaving n l (ℓ / 8) (ℓ * 8) (suc k) vs) (lane_leaving n l (ℓ / 8) (ℓ * 8) (suc k) vs))
        go lt here ih true e = (
          record {
            low = omega (arith, low, lt);
            domain = omega (arith, lt);
            bare = bare_at k lt;
            vertex = w;
            there = vertex_is k lt ∙ here;
            same_bank = refl;
            same_kind = refl;
            not_done = not_left w.state (and_parts (has_not_left w.state) _ e).0;
          },
          ih,
        )
        go lt here ih false e = ih

    few_here : 0 + length l.vertices ≤ 8
    few_here = let f = few_vertices b.lanes ok.board.in_form (ℓ / 8) (ℓ % 8) l (sym is) in omega (arith, f)

    all_here : (j : ℕ) → slice_get l.vertices (0 + j) ≡ slice_get l.vertices j
    all_here j = let z : 0 + j ≡ j = omega arith in ap (slice_get l.vertices) z

  -- ---- any lane

  lane_part : (ℓ : ℕ) → map request_of (leaving n (tables_of b s) (lane_vertices (settings_of b) ℓ)) ≡ part n b ℓ
  unfolding lane_vertices leaving vertices_from
  lane_part ℓ =
      ap (λ (p : Pattern). map request_of (leaving n (tables_of b s) (vertices_from (ℓ * 8) 0 p.edges p.spots))) (pattern_is b s used ok ℓ)
      ∙ go (get_or b.shares (ℓ / 8) None) (lane_at b.lanes ℓ) refl refl
    where
      go : (o : Option ℕ) (x : Option LaneView) → get_or b.shares (ℓ / 8) None ≡ o → lane_at b.lanes ℓ ≡ x
          → map request_of (leaving n (tables_of b s) (vertices_from (ℓ * 8) 0 (pattern_by o x).edges (pattern_by o x).spots)) ≡ part_by n ℓ o x
      go (Some share) x e f = refl
      go None None e f = refl
      go None (Some l) e f = lane_from ℓ l e f 0 l.vertices (few_here ℓ l e f) (all_here ℓ l e f)

  part_goes : (ℓ : ℕ) → ℓ < 64 → AllByRecursion (Goes b) (part n b ℓ)
  part_goes ℓ low = go (get_or b.shares (ℓ / 8) None) (lane_at b.lanes ℓ) refl refl
    where
      go : (o : Option ℕ) (x : Option LaneView) → get_or b.shares (ℓ / 8) None ≡ o → lane_at b.lanes ℓ ≡ x → AllByRecursion (Goes b) (part_by n ℓ o x)
      go (Some share) x e f = tt
      go None None e f = tt
      go None (Some l) e f = lane_goes ℓ l e f low 0 l.vertices (few_here ℓ l e f) (all_here ℓ l e f)

  part_at : (ℓ : ℕ) (o : Option ℕ) (x : Option LaneView) → get_or b.shares (ℓ / 8) None ≡ o → lane_at b.lanes ℓ ≡ x → part n b ℓ ≡ part_by n ℓ o x
  part_at ℓ o x e f = ap (λ (y : Option ℕ). part_by n ℓ y (lane_at b.lanes ℓ)) e ∙ ap (part_by n ℓ o) f

  -- ---- the lanes of a domain that is not open, from number i on

  lanes_span : (d : ℕ) → get_or b.shares d None ≡ None → (k i : ℕ) → i + k ≡ 8 → lanes_leaving n d i (drop i (get_or b.lanes d [])) ≡ span (part n b) (d * 8 + i) k
  unfolding span
  lanes_span d bare zero i e = lanes_none n d (get_or b.lanes d []) i (let f = few_lanes b.lanes ok.board.in_form d in omega (arith, f, e))
  lanes_span d bare (suc k) i e =
      let up : d * 8 + (i + 1) ≡ suc (d * 8 + i) = omega arith in
      go (omega (arith, e)) (lanes_span d bare k (i + 1) (omega (arith, e)) ∙ ap (λ a. span (part n b) a k) up) (slice_get ls i) refl
    where
      ls : List LaneView
      ls = get_or b.lanes d []

      ℓ : ℕ
      ℓ = d * 8 + i

      here : ℓ / 8 ≡ d → ℓ % 8 ≡ i → (x : Option LaneView) → slice_get ls i ≡ x → part n b ℓ ≡ part_by n ℓ None x
      here q r x f = part_at ℓ None x (ap (λ c. get_or b.shares c None) q ∙ bare) (ap (λ c. slice_get (get_or b.lanes c []) (ℓ % 8)) q ∙ ap (slice_get ls) r ∙ f)

      go : i < 8 → lanes_leaving n d (i + 1) (drop (i + 1) ls) ≡ span (part n b) (suc ℓ) k → (x : Option LaneView) → slice_get ls i ≡ x → lanes_leaving n d i (drop i ls) ≡ part n b ℓ ++ span (part n b) (suc ℓ) k
      go lt ih (Some l) f =
          let q : ℓ / 8 ≡ d = omega (arith, lt) in
          let r : ℓ % 8 ≡ i = omega (arith, lt) in
          let z : d * 64 + i * 8 ≡ ℓ * 8 = omega arith in
          lanes_front n d ls i l (sym f)
          ∙ ap (λ (qs : List Request). lane_leaving n l d (d * 64 + i * 8) 0 l.vertices ++ qs) ih
          ∙ ap (λ c. lane_leaving n l d c 0 l.vertices ++ span (part n b) (suc ℓ) k) z
          ∙ ap (λ c. lane_leaving n l c (ℓ * 8) 0 l.vertices ++ span (part n b) (suc ℓ) k) (sym q)
          ∙ ap (λ (qs : List Request). qs ++ span (part n b) (suc ℓ) k) (sym (here q r (Some l) f))
      go lt ih None f =
          let q : ℓ / 8 ≡ d = omega (arith, lt) in
          let r : ℓ % 8 ≡ i = omega (arith, lt) in
          let le = no_lane ls i (sym f) in
          lanes_none n d ls i le
          ∙ sym (lanes_none n d ls (i + 1) (omega (arith, le)))
          ∙ ih
          ∙ ap (λ (qs : List Request). qs ++ span (part n b) (suc ℓ) k) (sym (here q r None f))

  -- ---- domains

  domain_span : (d : ℕ) → domain_leaving n d (get_or b.shares d None) (get_or b.lanes d []) ≡ span (part n b) (d * 8) 8
  domain_span d = go (get_or b.shares d None) refl
    where
      go : (o : Option ℕ) → get_or b.shares d None ≡ o → domain_leaving n d o (get_or b.lanes d []) ≡ span (part n b) (d * 8) 8
      go (Some share) e =
          sym (span_none (part n b) (d * 8) 8 (d * 8 + 8) (omega arith) (λ i low lt.
          let q : i / 8 ≡ d = omega (arith, low, lt) in
          part_at i (Some share) (lane_at b.lanes i) (ap (λ c. get_or b.shares c None) q ∙ e) refl))
      go None e = let z : d * 8 + 0 ≡ d * 8 = omega arith in lanes_span d e 8 0 refl ∙ ap (λ a. span (part n b) a 8) z

  domains_span : (k d : ℕ) → d + k ≡ 8 → domains_leaving n d (drop d b.shares) (drop d b.lanes) ≡ span (part n b) (d * 8) (k * 8)
  unfolding span
  domains_span zero d e = domains_none n b.shares b.lanes d (omega (arith, e, ok.board.eight))
  domains_span (suc k) d e =
      let a : (d + 1) * 8 ≡ d * 8 + 8 = omega arith in
      domains_front n b.shares b.lanes d (omega (arith, e, ok.board.eight)) (ok.board.eight ∙ sym ok.board.as_many)
      ∙ ap (λ (qs : List Request). qs ++ domains_leaving n (d + 1) (drop (d + 1) b.shares) (drop (d + 1) b.lanes)) (domain_span d)
      ∙ ap (λ (qs : List Request). span (part n b) (d * 8) 8 ++ qs) (domains_span k (d + 1) (omega (arith, e)) ∙ ap (λ c. span (part n b) c (k * 8)) a)
      ∙ sym (span_split (part n b) (d * 8) 8 (k * 8) (suc k * 8) (omega arith))

  board_span : board_leaving n b ≡ span (part n b) 0 64
  board_span = domains_span 8 0 refl

  -- those who leave are the model's
  pub leaving_is : board_leaving n b ≡ map request_of (leaving n (tables_of b s) (vertices (settings_of b)))
  leaving_is =
      board_span
      ∙ sym (ap (λ (vs : List model.Vertex). map request_of (leaving n (tables_of b s) vs)) (vertices_span (settings_of b))
      ∙ span_leaving n (tables_of b s) (lane_vertices (settings_of b)) (part n b) 0 64 lane_part)

  -- and each of them is a vertex that has not left
  pub all_go : AllByRecursion (Goes b) (board_leaving n b)
  all_go = subst (AllByRecursion (Goes b)) (sym board_span) (span_all (part n b) (Goes b) 0 64 64 (omega arith) part_goes)
