-- What the leaving of vertices does to the tables, on the board and in the store, and as the model has it.
use Rattle.board.specs.Slots.{free}
use Rattle.std.proofs.Common.{◌≡◌, ℕ, zero, suc, ◌/◌, ◌<◌, Bool, true, false, cond, eqb, List, [], ◌∷◌, ◌++◌, map, length, get_or, set, Some, None, Option, sym, refl, ap, ◌∙◌, arith, length-set}
use mathlib.Core.Path.{fun_ext}
use Rattle.std.proofs.lemmas.List.{get_or-set_same, get_or-set_other}
use Rattle.std.proofs.lemmas.Bool.{eqb-true, eqb-false, eq-eqb}
use Rattle.std.specs.Option.{option_map}
use Rattle.std.specs.List.{AllByRecursion}
use Rattle.interface.specs.Meaning.{Meaning, Call, after}
use Rattle.interface.specs.declared.Kind.{Kind}
use Rattle.interface.specs.declared.Request.{Request}
use Rattle.patterns.specs.declared.vertex.Vertex.{Vertex}
use Rattle.patterns.specs.declared.vertex.VertexState.{VertexState}
use Rattle.patterns.specs.declared.vertex.VertexState.TheVariants.{Still, Flying, Done}
use Rattle.patterns.specs.declared.vertex.VertexEvent.TheVariants.{Due}
use Rattle.patterns.specs.Moves.{next, moved, done_tick}
use Rattle.patterns.specs.Lanes.{changed}
use Rattle.model.specs.declared.Letter.TheVariants as letter
use Rattle.model.specs.declared.Line.{Line}
use Rattle.model.specs.Payloads.{Payload, fake}
use Rattle.model.specs.declared.Waiting.{Waiting}
use Rattle.model.specs.Settings.{Settings}
use Rattle.model.specs.Settings as model
use Rattle.model.specs.Ticks.{Stage, flying, Tables, put, through, written, line_of, oldest, without, payload_for, departed, take_line, request_of, taken_all}
use Rattle.board.specs.Boards.{BoardView, settings_of, advanced_board}
use Rattle.board.specs.Flights.{vertex_at}
use Rattle.board.specs.Leaving.{departed_board}
use Rattle.store.specs.Stores.{StoreView, backlog_at, unqueued}
use Rattle.store.specs.Lines.{line_with, load_for, loaded, all_loaded, load_lines}
use Rattle.scheduler.specs.Hearing.{taken_by}
use Rattle.scheduler.specs.Views.{state_stage, vertex_stage, slot_stage, stage_at, start_at, queue_at, serial_at, tables_of}
use Rattle.scheduler.proofs.Submitted.{Sound, put_backlog, keep_backlog}
use Rattle.scheduler.proofs.Rounds.{stage_read}
use Rattle.scheduler.proofs.Placing.{vertex_moved, starts_stay, settings_stay, sound_stays}
use Rattle.scheduler.proofs.Departing.{Goes}

-- ---- one that leaves

-- as the model's `departed`, from the request alone
abbrev pub departs : Request → Tables → Tables
departs q b = record {
  stage = put b.stage q.slot (flying q.bank q.kind (oldest q.bank q.kind (b.queue q.domain)));
  start = b.start;
  queue = put b.queue q.domain (without q.bank q.kind (b.queue q.domain));
}

flies : (b : ℕ) (k : Kind) (x : VertexState) (p : Payload) → done_tick x ≡ None → state_stage b k (next Due x) p ≡ flying b k p
flies b k Still p e = refl
flies b k Flying p e = refl
flies b k (Done c) p e = let z : ◌≡◌ {A = ℕ} 0 1 = (cc) in absurd (omega arith)

flying_like : (v : Vertex) (b : ℕ) (k : Kind) (p : Payload) → v.bank ≡ b → v.kind ≡ k → done_tick v.state ≡ None → vertex_stage (Some (moved Due v)) p ≡ flying b k p
flying_like v b k p e f n = flies v.bank v.kind v.state p n ∙ ap (λ x. flying x v.kind p) e ∙ ap (λ x. flying b x p) f

module _ (b : BoardView) (s : StoreView) (used : ℕ) (ok : Sound b s used) (q : Request) (goes : Goes b q) where
  stages_gone : ◌≡◌ {A = ℕ → Stage} (stage_at (advanced_board Due q.slot b) (loaded q s)) (put (stage_at b s) q.slot (flying q.bank q.kind (load_for q s)))
  stages_gone = fun_ext (λ j. go j (eqb j q.slot) refl)
    where
      t : ℕ
      t = q.slot

      p : Payload
      p = load_for q s

      read : (x : BoardView) (y : StoreView) (j : ℕ) → stage_at x y j ≡ slot_stage (get_or x.shares (j / 64) None) (get_or x.slots j free) (vertex_at x.lanes j) (get_or y.payloads j fake)
      read x y j = stage_read x y j

      at_slot : slot_stage (get_or b.shares (q.slot / 64) None) (get_or b.slots q.slot free) (vertex_at (advanced_board Due q.slot b).lanes q.slot) (get_or (set s.payloads q.slot (load_for q s)) q.slot fake) ≡ flying q.bank q.kind (load_for q s)
      at_slot =
          ap (λ (o : Option ℕ). slot_stage o (get_or b.slots q.slot free) (vertex_at (advanced_board Due q.slot b).lanes q.slot) (get_or (set s.payloads q.slot (load_for q s)) q.slot fake)) goes.bare
          ∙ ap (λ (v : Option Vertex). vertex_stage v (get_or (set s.payloads q.slot (load_for q s)) q.slot fake))
          (vertex_moved Due q.slot b q.slot ∙ ap (λ u. cond u (option_map (moved Due) (vertex_at b.lanes q.slot)) (vertex_at b.lanes q.slot)) (eq-eqb q.slot q.slot refl) ∙ ap (option_map (moved Due)) goes.there)
          ∙ ap (λ (x : Payload). vertex_stage (Some (moved Due goes.vertex)) x) (get_or-set_same s.payloads q.slot (load_for q s) fake (omega (arith, goes.low, ok.payloads)))
          ∙ flying_like goes.vertex q.bank q.kind (load_for q s) goes.same_bank goes.same_kind goes.not_done

      go : (j : ℕ) (u : Bool) → eqb j q.slot ≡ u → stage_at (advanced_board Due q.slot b) (loaded q s) j ≡ cond u (flying q.bank q.kind (load_for q s)) (stage_at b s j)
      go j true e =
          ap (stage_at (advanced_board Due q.slot b) (loaded q s)) (eqb-true j q.slot e)
          ∙ read (advanced_board Due q.slot b) (loaded q s) q.slot
          ∙ at_slot
      go j false e =
          read (advanced_board Due q.slot b) (loaded q s) j
          ∙ ap (λ (v : Option Vertex). slot_stage (get_or b.shares (j / 64) None) (get_or b.slots j free) v (get_or (set s.payloads q.slot (load_for q s)) j fake))
          (vertex_moved Due q.slot b j ∙ ap (λ u. cond u (option_map (moved Due) (vertex_at b.lanes j)) (vertex_at b.lanes j)) e)
          ∙ ap (λ (x : Payload). slot_stage (get_or b.shares (j / 64) None) (get_or b.slots j free) (vertex_at b.lanes j) x) (get_or-set_other s.payloads q.slot j (load_for q s) fake (eqb-false j q.slot e))
          ∙ sym (read b s j)

  low_domain : q.domain < length s.backlogs
  low_domain = let l = goes.low in let d = goes.domain in let e = ok.backlogs in omega (arith, l, d, e)

  pub queues_gone : ◌≡◌ {A = ℕ → List Waiting} (queue_at (loaded q s)) (put (queue_at s) q.domain (without q.bank q.kind (queue_at s q.domain)))
  unfolding queue_at
  queues_gone = put_backlog (λ x. x.queue) (unqueued q.bank q.kind) s q.domain (without q.bank q.kind (backlog_at s q.domain).queue) low_domain refl

  pub serials_stay : ◌≡◌ {A = ℕ → ℕ} (serial_at (loaded q s)) (serial_at s)
  unfolding serial_at
  serials_stay = keep_backlog (λ x. x.serial) (unqueued q.bank q.kind) s q.domain low_domain (λ x. refl)

  -- the board and the store after it has left are the model's tables
  pub one_gone : tables_of (advanced_board Due q.slot b) (loaded q s) ≡ departs q (tables_of b s)
  unfolding queue_at
  one_gone =
      ap (λ (f : ℕ → Stage). record { stage = f; start = start_at (advanced_board Due q.slot b); queue = queue_at (loaded q s) }) stages_gone
      ∙ ap (λ (f : ℕ → ℕ). record { stage = put (stage_at b s) q.slot (flying q.bank q.kind (load_for q s)); start = f; queue = queue_at (loaded q s) }) (starts_stay Due q.slot b)
      ∙ ap (λ (f : ℕ → List Waiting). record { stage = put (stage_at b s) q.slot (flying q.bank q.kind (load_for q s)); start = start_at b; queue = f }) queues_gone

  length_changed : {X : Type 0} (f : X → X) (xs : List X) (i : ℕ) → length (changed f xs i) ≡ length xs
  length_changed f [] i = refl
  length_changed f (x ∷ xs) zero = refl
  length_changed f (x ∷ xs) (suc i) = ap suc (length_changed f xs i)

  pub sound_gone : Sound (advanced_board Due q.slot b) (loaded q s) used
  sound_gone =
      let k = sound_stays Due q.slot b s used ok in
      record {
        board = k.board;
        slots = k.slots;
        shares = k.shares;
        backlogs = length_changed (unqueued q.bank q.kind) s.backlogs q.domain ∙ ok.backlogs;
        payloads = length-set s.payloads q.slot (load_for q s) ∙ ok.payloads;
      }

-- those that have not left yet still go
goes_on : (b : BoardView) (t : ℕ) (q : Request) → Goes b q → Goes (advanced_board Due t b) q
goes_on b t q g = go (eqb q.slot t) refl
  where
    keeps : (x : VertexState) → done_tick x ≡ None → done_tick (next Due x) ≡ None
    keeps Still e = refl
    keeps Flying e = refl
    keeps (Done c) e = e

    go : (u : Bool) → eqb q.slot t ≡ u → Goes (advanced_board Due t b) q
    go true e = record {
      low = g.low;
      domain = g.domain;
      bare = g.bare;
      vertex = moved Due g.vertex;
      there = vertex_moved Due t b q.slot ∙ ap (λ v. cond v (option_map (moved Due) (vertex_at b.lanes q.slot)) (vertex_at b.lanes q.slot)) e ∙ ap (option_map (moved Due)) g.there;
      same_bank = g.same_bank;
      same_kind = g.same_kind;
      not_done = keeps g.vertex.state g.not_done;
    }
    go false e = record {
      low = g.low;
      domain = g.domain;
      bare = g.bare;
      vertex = g.vertex;
      there = vertex_moved Due t b q.slot ∙ ap (λ v. cond v (option_map (moved Due) (vertex_at b.lanes q.slot)) (vertex_at b.lanes q.slot)) e ∙ g.there;
      same_bank = g.same_bank;
      same_kind = g.same_kind;
      not_done = g.not_done;
    }

all_on : (b : BoardView) (t : ℕ) (qs : List Request) → AllByRecursion (Goes b) qs → AllByRecursion (Goes (advanced_board Due t b)) qs
all_on b t [] h = tt
all_on b t (q ∷ qs) h = (goes_on b t q h.0, all_on b t qs h.1)

-- ---- all that leave

-- the T line of a request, as the model's `take_line`
abbrev pub leave_line : ℕ → Request → Tables → List Line
leave_line n q b = line_of letter.T n q.slot (flying q.bank q.kind (oldest q.bank q.kind (b.queue q.domain)))

module _ (n used : ℕ) where
  pub all_gone : (qs : List Request) (b : BoardView) (s : StoreView) → Sound b s used → AllByRecursion (Goes b) qs → tables_of (departed_board qs b) (all_loaded qs s) ≡ through departs qs (tables_of b s)
  unfolding departed_board all_loaded through
  all_gone [] b s ok h = refl
  all_gone (q ∷ qs) b s ok h =
      all_gone qs (advanced_board Due q.slot b) (loaded q s) (sound_gone b s used ok q h.0) (all_on b q.slot qs h.1)
      ∙ ap (through departs qs) (one_gone b s used ok q h.0)

  pub lines_gone : (qs : List Request) (b : BoardView) (s : StoreView) → Sound b s used → AllByRecursion (Goes b) qs → load_lines n qs s ≡ written (leave_line n) departs qs (tables_of b s)
  unfolding load_lines written queue_at
  lines_gone [] b s ok h = refl
  lines_gone (q ∷ qs) b s ok h =
      ap (λ d. record { letter = letter.T; tick = n; domain = d; slot = q.slot; bank = q.bank; kind = q.kind; row = (line_with letter.T n q (load_for q s)).row } ∷ load_lines n qs (loaded q s)) h.0.domain
      ∙ ap (λ ls. leave_line n q (tables_of b s) ++ ls) (lines_gone qs (advanced_board Due q.slot b) (loaded q s) (sound_gone b s used ok q h.0) (all_on b q.slot qs h.1)
      ∙ ap (written (leave_line n) departs qs) (one_gone b s used ok q h.0))

  pub serials_gone : (qs : List Request) (b : BoardView) (s : StoreView) → Sound b s used → AllByRecursion (Goes b) qs → ◌≡◌ {A = ℕ → ℕ} (serial_at (all_loaded qs s)) (serial_at s)
  unfolding all_loaded
  serials_gone [] b s ok h = refl
  serials_gone (q ∷ qs) b s ok h =
      serials_gone qs (advanced_board Due q.slot b) (loaded q s) (sound_gone b s used ok q h.0) (all_on b q.slot qs h.1)
      ∙ serials_stay b s used ok q h.0

pub settings_gone : (qs : List Request) (b : BoardView) → settings_of (departed_board qs b) ≡ settings_of b
unfolding departed_board
settings_gone [] b = refl
settings_gone (q ∷ qs) b = settings_gone qs (advanced_board Due q.slot b) ∙ settings_stay Due q.slot b

-- ---- the model's vertices, by their requests

pub departed_by : (vs : List model.Vertex) (b : Tables) → through departed vs b ≡ through departs (map request_of vs) b
unfolding through departed payload_for
departed_by [] b = refl
departed_by (v ∷ vs) b = departed_by vs (departs (request_of v) b)

pub lines_by : (n : ℕ) (vs : List model.Vertex) (b : Tables) → written (take_line n) departed vs b ≡ written (leave_line n) departs (map request_of vs) b
unfolding written departed payload_for take_line
lines_by n [] b = refl
lines_by n (v ∷ vs) b = ap (λ ls. leave_line n (request_of v) b ++ ls) (lines_by n vs (departs (request_of v) b))

pub taken_same : (m : Meaning (List ℕ)) (vs : List model.Vertex) (s : List ℕ) → taken_all m vs s ≡ taken_by m (map request_of vs) s
unfolding taken_all taken_by
taken_same m [] s = refl
taken_same m (v ∷ vs) s = taken_same m vs (after m (Call.take (request_of v)) s)
