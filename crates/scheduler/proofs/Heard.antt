-- The events of a step, as the board has them and as the model has them.
use Rattle.board.specs.Slots.{OpenSlot, free}
use Rattle.std.proofs.Common.{◌≡◌, ℕ, ◌/◌, ◌<◌, Bool, true, false, cond, not, eqb, List, [], ◌∷◌, ◌++◌, length, get_or, set, Some, None, Option, sym, refl, ap, ◌∙◌, arith, length-set}
use mathlib.Core.Path.{fun_ext}
use Rattle.std.proofs.lemmas.List.{get_or-set_same, get_or-set_other}
use Rattle.std.proofs.lemmas.Bool.{eqb-true, eqb-false}
use Rattle.std.specs.Option.{option_map}
use Rattle.interface.specs.declared.Event.{Event}
use Rattle.interface.specs.declared.Event.TheVariants as reported
use Rattle.patterns.specs.declared.tick.Tick.{Tick}
use Rattle.patterns.specs.declared.vertex.Vertex.{Vertex}
use Rattle.patterns.specs.declared.vertex.VertexEvent.TheVariants as event
use Rattle.patterns.specs.declared.vertex.VertexState.{VertexState}
use Rattle.patterns.specs.declared.vertex.VertexState.TheVariants.{Still, Flying, Done}
use Rattle.patterns.specs.Moves.{next, moved}
use Rattle.model.specs.declared.Letter.{Letter}
use Rattle.model.specs.declared.Letter.TheVariants as letter
use Rattle.model.specs.declared.Line.{Line}
use Rattle.model.specs.declared.Notice.{Notice}
use Rattle.model.specs.Payloads.{Payload, fake}
use Rattle.model.specs.Settings.{Settings, is_opened, is_open}
use Rattle.model.specs.Ticks.{Stage, still, Tables, put, with_stage, line_of, notice_of, event_line, event_notice, finished, completed, through, written}
use Rattle.board.specs.Sets.{no_share}
use Rattle.board.specs.Boards.{BoardView, settings_of, with_slot, advanced_board}
use Rattle.board.specs.Flights.{vertex_at, state_flight, flight_by, flight_at, finished_by, heard_board}
use Rattle.board.proofs.Limits.{role}
use Rattle.board.proofs.Roles.{opened_at}
use Rattle.store.specs.Lines.{flight_line, flight_notice}
use Rattle.store.specs.Stores.{StoreView}
use Rattle.scheduler.specs.Views.{open_stage, state_stage, vertex_stage, slot_stage, stage_at, start_at, queue_at, tables_of}
use Rattle.scheduler.specs.Hearing.{heard_line, heard_notice, all_heard, heard_lines, heard_notices}
use Rattle.scheduler.proofs.Submitted.{Sound, low_share}
use Rattle.scheduler.proofs.Placing.{vertex_moved, starts_stay, settings_stay, sound_stays}

-- ---- what is in flight, and the stage

line_by : (l : Letter) (m t : ℕ) (s : StoreView) (o : Option ℕ) (w : OpenSlot) (v : Option Vertex) → flight_line l m s (flight_by t o w v) ≡ line_of l m t (slot_stage o w v (get_or s.payloads t fake))
line_by l m t s (Some n) None v = refl
line_by l m t s (Some n) (Some a) v = refl
line_by l m t s None w None = refl
line_by l m t s None w (Some v) = go v.state
  where
    go : (x : VertexState) → flight_line l m s (state_flight t v.bank v.kind x) ≡ line_of l m t (state_stage v.bank v.kind x (get_or s.payloads t fake))
    go Still = refl
    go Flying = refl
    go (Done c) = refl

notice_by : (m t : ℕ) (s : StoreView) (o : Option ℕ) (w : OpenSlot) (v : Option Vertex) → flight_notice m s (flight_by t o w v) ≡ notice_of m t (slot_stage o w v (get_or s.payloads t fake))
notice_by m t s (Some n) None v = refl
notice_by m t s (Some n) (Some a) v = refl
notice_by m t s None w None = refl
notice_by m t s None w (Some v) = go v.state
  where
    go : (x : VertexState) → flight_notice m s (state_flight t v.bank v.kind x) ≡ notice_of m t (state_stage v.bank v.kind x (get_or s.payloads t fake))
    go Still = refl
    go Flying = refl
    go (Done c) = refl

-- ---- one stage finished

open_finished : (m : ℕ) (w : OpenSlot) (p : Payload) → still ≡ finished true m (open_stage w p)
open_finished m None p = refl
open_finished m (Some a) p = refl

vertex_finished : (n : Tick) (v : Option Vertex) (p : Payload) → vertex_stage (option_map (moved (event.Done n)) v) p ≡ finished false n.number (vertex_stage v p)
vertex_finished n None p = refl
vertex_finished n (Some v) p = go v.state
  where
    go : (x : VertexState) → state_stage v.bank v.kind (next (event.Done n) x) p ≡ finished false n.number (state_stage v.bank v.kind x p)
    go Still = refl
    go Flying = refl
    go (Done c) = refl

-- a Done in an open domain frees its slot
stages_freed : (b : BoardView) (s : StoreView) (m t share : ℕ) → t < length b.slots → get_or b.shares (t / 64) None ≡ Some share
    → ◌≡◌ {A = ℕ → Stage} (stage_at (with_slot t free b) s) (put (stage_at b s) t (finished true m (stage_at b s t)))
unfolding stage_at
stages_freed b s m t share lt is = fun_ext (λ j. go j (eqb j t) refl)
  where
    go : (j : ℕ) (x : Bool) → eqb j t ≡ x
        → slot_stage (get_or b.shares (j / 64) None) (get_or (set b.slots t free) j free) (vertex_at b.lanes j) (get_or s.payloads j fake)
        ≡ cond x (finished true m (slot_stage (get_or b.shares (t / 64) None) (get_or b.slots t free) (vertex_at b.lanes t) (get_or s.payloads t fake))) (slot_stage (get_or b.shares (j / 64) None) (get_or b.slots j free) (vertex_at b.lanes j) (get_or s.payloads j fake))
    go j true e =
        ap (λ k. slot_stage (get_or b.shares (k / 64) None) (get_or (set b.slots t free) k free) (vertex_at b.lanes k) (get_or s.payloads k fake)) (eqb-true j t e)
        ∙ ap (λ (o : Option ℕ). slot_stage o (get_or (set b.slots t free) t free) (vertex_at b.lanes t) (get_or s.payloads t fake)) is
        ∙ ap (λ (w : OpenSlot). open_stage w (get_or s.payloads t fake)) (get_or-set_same b.slots t free free lt)
        ∙ open_finished m (get_or b.slots t free) (get_or s.payloads t fake)
        ∙ ap (λ (o : Option ℕ). finished true m (slot_stage o (get_or b.slots t free) (vertex_at b.lanes t) (get_or s.payloads t fake))) (sym is)
    go j false e =
        ap (λ (w : OpenSlot). slot_stage (get_or b.shares (j / 64) None) w (vertex_at b.lanes j) (get_or s.payloads j fake)) (get_or-set_other b.slots t j free free (eqb-false j t e))

-- a Done in another domain moves its vertex on
stages_done : (b : BoardView) (s : StoreView) (n : Tick) (t : ℕ) → get_or b.shares (t / 64) None ≡ None
    → ◌≡◌ {A = ℕ → Stage} (stage_at (advanced_board (event.Done n) t b) s) (put (stage_at b s) t (finished false n.number (stage_at b s t)))
unfolding stage_at
stages_done b s n t bare = fun_ext (λ j.
    ap (λ (v : Option Vertex). slot_stage (get_or b.shares (j / 64) None) (get_or b.slots j free) v (get_or s.payloads j fake)) (vertex_moved (event.Done n) t b j)
    ∙ go j (eqb j t) refl)
  where
    go : (j : ℕ) (x : Bool) → eqb j t ≡ x
        → slot_stage (get_or b.shares (j / 64) None) (get_or b.slots j free) (cond x (option_map (moved (event.Done n)) (vertex_at b.lanes j)) (vertex_at b.lanes j)) (get_or s.payloads j fake)
        ≡ cond x (finished false n.number (slot_stage (get_or b.shares (t / 64) None) (get_or b.slots t free) (vertex_at b.lanes t) (get_or s.payloads t fake))) (slot_stage (get_or b.shares (j / 64) None) (get_or b.slots j free) (vertex_at b.lanes j) (get_or s.payloads j fake))
    go j true e =
        ap (λ k. slot_stage (get_or b.shares (k / 64) None) (get_or b.slots k free) (option_map (moved (event.Done n)) (vertex_at b.lanes k)) (get_or s.payloads k fake)) (eqb-true j t e)
        ∙ ap (λ (o : Option ℕ). slot_stage o (get_or b.slots t free) (option_map (moved (event.Done n)) (vertex_at b.lanes t)) (get_or s.payloads t fake)) bare
        ∙ vertex_finished n (vertex_at b.lanes t) (get_or s.payloads t fake)
        ∙ ap (λ (o : Option ℕ). finished false n.number (slot_stage o (get_or b.slots t free) (vertex_at b.lanes t) (get_or s.payloads t fake))) (sym bare)
    go j false e = refl

starts_same : (b : BoardView) (t : ℕ) (w : OpenSlot) → start_at (with_slot t w b) ≡ start_at b
unfolding start_at
starts_same b t w = refl

-- an open slot that is written leaves what is known
sound_slot : (b : BoardView) (s : StoreView) (used : ℕ) (t : ℕ) (w : OpenSlot) → Sound b s used → Sound (with_slot t w b) s used
sound_slot b s used t w ok = record {
  board = record {
    eight = ok.board.eight;
    as_many = ok.board.as_many;
    counted = ok.board.counted;
    in_form = ok.board.in_form;
  };
  slots = length-set b.slots t w ∙ ok.slots;
  shares = ok.shares;
  backlogs = ok.backlogs;
  payloads = ok.payloads;
}

-- ---- one event

module _ (b : BoardView) (s : StoreView) (used : ℕ) (ok : Sound b s used) (n : Tick) where
  pub line_is : (e : Event) → heard_line n e b s ≡ event_line n.number e (tables_of b s)
  unfolding event_line flight_at stage_at
  line_is (reported.Issue t) = line_by letter.I n.number t s (get_or b.shares (t / 64) None) (get_or b.slots t free) (vertex_at b.lanes t)
  line_is (reported.Done t) = line_by letter.D n.number t s (get_or b.shares (t / 64) None) (get_or b.slots t free) (vertex_at b.lanes t)

  pub notice_is : (e : Event) → heard_notice n e b s ≡ event_notice n.number e (tables_of b s)
  unfolding event_notice flight_at stage_at
  notice_is (reported.Issue t) = refl
  notice_is (reported.Done t) = notice_by n.number t s (get_or b.shares (t / 64) None) (get_or b.slots t free) (vertex_at b.lanes t)

  open_is : (d : ℕ) → not (no_share (get_or b.shares d None)) ≡ is_open (settings_of b) d
  open_is d = sym (ap is_opened (role b used ok.board d) ∙ opened_at (get_or b.shares d None) (get_or b.lanes d []))

  done_by : (t : ℕ) (o : Option ℕ) → get_or b.shares (t / 64) None ≡ o → tables_of (finished_by o n t b) s ≡ with_stage (tables_of b s) (put (stage_at b s) t (finished (not (no_share o)) n.number (stage_at b s t)))
  done_by t (Some share) is =
      let low = low_share b s used ok (t / 64) share is in
      ap (λ (f : ℕ → Stage). record { stage = f; start = start_at (with_slot t free b); queue = queue_at s }) (stages_freed b s n.number t share (omega (arith, low, ok.slots)) is)
      ∙ ap (λ (f : ℕ → ℕ). record { stage = put (stage_at b s) t (finished true n.number (stage_at b s t)); start = f; queue = queue_at s }) (starts_same b t free)
  done_by t None is =
      ap (λ (f : ℕ → Stage). record { stage = f; start = start_at (advanced_board (event.Done n) t b); queue = queue_at s }) (stages_done b s n t is)
      ∙ ap (λ (f : ℕ → ℕ). record { stage = put (stage_at b s) t (finished false n.number (stage_at b s t)); start = f; queue = queue_at s }) (starts_stay (event.Done n) t b)

  pub tables_are : (e : Event) → tables_of (heard_board n e b) s ≡ completed (settings_of b) n.number e (tables_of b s)
  unfolding completed
  tables_are (reported.Issue t) = refl
  tables_are (reported.Done t) =
      done_by t (get_or b.shares (t / 64) None) refl
      ∙ ap (λ x. with_stage (tables_of b s) (put (stage_at b s) t (finished x n.number (stage_at b s t)))) (open_is (t / 64))

  pub settings_are : (e : Event) → settings_of (heard_board n e b) ≡ settings_of b
  settings_are (reported.Issue t) = refl
  settings_are (reported.Done t) = go (get_or b.shares (t / 64) None)
    where
      go : (o : Option ℕ) → settings_of (finished_by o n t b) ≡ settings_of b
      go (Some share) = refl
      go None = settings_stay (event.Done n) t b

  pub still_sound : (e : Event) → Sound (heard_board n e b) s used
  still_sound (reported.Issue t) = ok
  still_sound (reported.Done t) = go (get_or b.shares (t / 64) None)
    where
      go : (o : Option ℕ) → Sound (finished_by o n t b) s used
      go (Some share) = sound_slot b s used t free ok
      go None = sound_stays (event.Done n) t b s used ok

-- ---- all events of a step

module _ (s : StoreView) (used : ℕ) (n : Tick) where
  pub all_settings : (es : List Event) (b : BoardView) → Sound b s used → settings_of (all_heard n es b) ≡ settings_of b
  unfolding all_heard
  all_settings [] b ok = refl
  all_settings (e ∷ es) b ok = all_settings es (heard_board n e b) (still_sound b s used ok n e) ∙ settings_are b s used ok n e

  pub all_sound : (es : List Event) (b : BoardView) → Sound b s used → Sound (all_heard n es b) s used
  unfolding all_heard
  all_sound [] b ok = ok
  all_sound (e ∷ es) b ok = all_sound es (heard_board n e b) (still_sound b s used ok n e)

  pub all_tables : (es : List Event) (b : BoardView) → Sound b s used → tables_of (all_heard n es b) s ≡ through (completed (settings_of b) n.number) es (tables_of b s)
  unfolding all_heard through
  all_tables [] b ok = refl
  all_tables (e ∷ es) b ok =
      all_tables es (heard_board n e b) (still_sound b s used ok n e)
      ∙ ap (λ (c : Settings). through (completed c n.number) es (tables_of (heard_board n e b) s)) (settings_are b s used ok n e)
      ∙ ap (λ (x : Tables). through (completed (settings_of b) n.number) es x) (tables_are b s used ok n e)

  pub all_lines : (es : List Event) (b : BoardView) → Sound b s used → heard_lines n es b s ≡ written (event_line n.number) (completed (settings_of b) n.number) es (tables_of b s)
  unfolding heard_lines written
  all_lines [] b ok = refl
  all_lines (e ∷ es) b ok =
      ap (λ (ls : List Line). ls ++ heard_lines n es (heard_board n e b) s) (line_is b s used ok n e)
      ∙ ap (λ (ls : List Line). event_line n.number e (tables_of b s) ++ ls)
      (all_lines es (heard_board n e b) (still_sound b s used ok n e)
      ∙ ap (λ (c : Settings). written (event_line n.number) (completed c n.number) es (tables_of (heard_board n e b) s)) (settings_are b s used ok n e)
      ∙ ap (λ (x : Tables). written (event_line n.number) (completed (settings_of b) n.number) es x) (tables_are b s used ok n e))

  pub all_notices : (es : List Event) (b : BoardView) → Sound b s used → heard_notices n es b s ≡ written (event_notice n.number) (completed (settings_of b) n.number) es (tables_of b s)
  unfolding heard_notices written
  all_notices [] b ok = refl
  all_notices (e ∷ es) b ok =
      ap (λ (ls : List Notice). ls ++ heard_notices n es (heard_board n e b) s) (notice_is b s used ok n e)
      ∙ ap (λ (ls : List Notice). event_notice n.number e (tables_of b s) ++ ls)
      (all_notices es (heard_board n e b) (still_sound b s used ok n e)
      ∙ ap (λ (c : Settings). written (event_notice n.number) (completed c n.number) es (tables_of (heard_board n e b) s)) (settings_are b s used ok n e)
      ∙ ap (λ (x : Tables). written (event_notice n.number) (completed (settings_of b) n.number) es x) (tables_are b s used ok n e))
