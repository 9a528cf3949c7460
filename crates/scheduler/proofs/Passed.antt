-- An accepted tick: the steps of the code one after the other come to the model's tick.
use Rattle.std.proofs.Common.{◌≡◌, ℕ, suc, List, ◌++◌, map, length, sym, ap, ◌∙◌}
use lib.ListN.{length-map}
use Rattle.interface.specs.Emptied.{emptied}
use Rattle.interface.specs.Meaning.{Meaning, Call, after}
use Rattle.interface.specs.declared.Event.{Event}
use Rattle.interface.specs.declared.Request.{Request}
use Rattle.patterns.specs.declared.tick.Tick.{Tick}
use Rattle.patterns.specs.Lanes.{LaneView}
use Rattle.patterns.specs.Lanes as lanes
use Rattle.model.specs.declared.Line.{Line}
use Rattle.model.specs.declared.Notice.{Notice}
use Rattle.model.specs.Settings.{Role, Settings, vertices, all_slots}
use Rattle.model.specs.Ticks.{Tables, through, written, completed, event_line, rounds, leaving, request_of, step_events, after_events, after_rounds, departures, after_tick, controller_after, lines, notices}
use Rattle.model.specs.Calls.{ticked}
use Rattle.board.specs.Boards.{BoardView, settings_of, renewed_board}
use Rattle.board.specs.Leaving.{board_leaving, departed_board}
use Rattle.board.proofs.Limits.{roles_map, formed_map}
use Rattle.board.proofs.Moves.{renewed_pattern}
use Rattle.store.specs.Pages.{Page, wrote_all}
use Rattle.store.specs.Stores.{StoreView}
use Rattle.store.specs.Lines.{all_loaded, load_lines}
use Rattle.scheduler.specs.Hearing.{all_heard, heard_lines, heard_notices, taken_by}
use Rattle.scheduler.specs.Views.{serial_at, tables_of, running_of}
use Rattle.scheduler.proofs.Submitted.{Sound}
use Rattle.scheduler.proofs.Rounds.{rounds_is}
use Rattle.scheduler.proofs.Loops.{wrote_append}
use Rattle.scheduler.proofs.Heard.{all_settings, all_sound, all_tables, all_lines, all_notices}
use Rattle.scheduler.proofs.Departing.{leaving_is, all_go}
use Rattle.scheduler.proofs.Gone.{departs, leave_line, all_gone, lines_gone, serials_gone, settings_gone, departed_by, lines_by, taken_same}

-- ---- the next rounds change no settings

settings_renewed : (b : BoardView) → settings_of (renewed_board b) ≡ settings_of b
settings_renewed b = ap (λ (rs : List Role). record { first = b.first; roles = rs }) (roles_map lanes.renewed renewed_pattern b.shares b.lanes)

sound_renewed : (b : BoardView) (s : StoreView) (used : ℕ) → Sound b s used → Sound (renewed_board b) s used
sound_renewed b s used ok = record {
  board = record {
    eight = ok.board.eight;
    as_many = length-map b.lanes _ ∙ ok.board.as_many;
    counted = ok.board.counted ∙ ap (λ (c : Settings). length (all_slots c)) (sym (settings_renewed b));
    in_form = formed_map lanes.renewed renewed_pattern b.lanes ∙ ok.board.in_form;
  };
  slots = ok.slots;
  shares = ok.shares;
  backlogs = ok.backlogs;
  payloads = ok.payloads;
}

-- ---- one step after the other

module _ (m : Meaning (List ℕ)) (b : BoardView) (s : StoreView) (used : ℕ) (ok : Sound b s used) (n : Tick) (c : List ℕ) where
  abbrev events : List Event
  events = m.ready (after m Call.step c)

  abbrev heard : BoardView
  heard = all_heard n events b

  abbrev renewed : BoardView
  renewed = renewed_board heard

  abbrev leavers : List Request
  leavers = board_leaving n.number renewed

  sound_heard : Sound heard s used
  sound_heard = all_sound s used n events b ok

  sound_next : Sound renewed s used
  sound_next = sound_renewed heard s used sound_heard

  settings_heard : settings_of heard ≡ settings_of b
  settings_heard = all_settings s used n events b ok

  settings_next : settings_of renewed ≡ settings_of b
  settings_next = settings_renewed heard ∙ settings_heard

  tables_next : tables_of renewed s ≡ after_rounds m (settings_of b) n.number c (tables_of b s)
  unfolding after_rounds after_events step_events
  tables_next =
      rounds_is heard s used sound_heard
      ∙ ap (λ (k : Settings). rounds k (tables_of heard s)) settings_heard
      ∙ ap (rounds (settings_of b)) (all_tables s used n events b ok)

  leavers_are : leavers ≡ map request_of (departures m (settings_of b) n.number c (tables_of b s))
  unfolding departures
  leavers_are =
      leaving_is renewed s used sound_next n.number
      ∙ ap (λ (k : Settings). map request_of (leaving n.number (tables_of renewed s) (vertices k))) settings_next
      ∙ ap (λ (t : Tables). map request_of (leaving n.number t (vertices (settings_of b)))) tables_next

  tables_gone : tables_of (departed_board leavers renewed) (all_loaded leavers s) ≡ after_tick m (settings_of b) n.number c (tables_of b s)
  unfolding after_tick
  tables_gone =
      all_gone n.number used leavers renewed s sound_next (all_go renewed s used sound_next n.number)
      ∙ ap (λ (qs : List Request). through departs qs (tables_of renewed s)) leavers_are
      ∙ ap (through departs (map request_of (departures m (settings_of b) n.number c (tables_of b s)))) tables_next
      ∙ sym (departed_by (departures m (settings_of b) n.number c (tables_of b s)) (after_rounds m (settings_of b) n.number c (tables_of b s)))

  controller_gone : taken_by m leavers (emptied m events (after m Call.step c)) ≡ controller_after m (settings_of b) n.number c (tables_of b s)
  unfolding controller_after step_events
  controller_gone =
      ap (λ (qs : List Request). taken_by m qs (emptied m events (after m Call.step c))) leavers_are
      ∙ sym (taken_same m (departures m (settings_of b) n.number c (tables_of b s)) (emptied m events (after m Call.step c)))

  pub settings_same : settings_of (departed_board leavers renewed) ≡ settings_of b
  settings_same = settings_gone leavers renewed ∙ settings_next

  pub running_same : running_of (suc n.number) (taken_by m leavers (emptied m events (after m Call.step c))) (departed_board leavers renewed) (all_loaded leavers s) ≡ ticked m (settings_of b) (running_of n.number c b s)
  unfolding ticked
  running_same =
      ap (λ (x : List ℕ). record { tick = suc n.number; controller = x; tables = tables_of (departed_board leavers renewed) (all_loaded leavers s); serial = serial_at (all_loaded leavers s) }) controller_gone
      ∙ ap (λ (t : Tables). record { tick = suc n.number; controller = controller_after m (settings_of b) n.number c (tables_of b s); tables = t; serial = serial_at (all_loaded leavers s) }) tables_gone
      ∙ ap (λ (f : ℕ → ℕ). record { tick = suc n.number; controller = controller_after m (settings_of b) n.number c (tables_of b s); tables = after_tick m (settings_of b) n.number c (tables_of b s); serial = f })
      (serials_gone n.number used leavers renewed s sound_next (all_go renewed s used sound_next n.number))

  pub lines_same : heard_lines n events b s ++ load_lines n.number leavers s ≡ lines m (settings_of b) n.number c (tables_of b s)
  unfolding lines step_events
  lines_same =
      ap (λ (ls : List Line). ls ++ load_lines n.number leavers s) (all_lines s used n events b ok)
      ∙ ap (λ (ls : List Line). written (event_line n.number) (completed (settings_of b) n.number) events (tables_of b s) ++ ls)
      (lines_gone n.number used leavers renewed s sound_next (all_go renewed s used sound_next n.number)
      ∙ ap (λ (qs : List Request). written (leave_line n.number) departs qs (tables_of renewed s)) leavers_are
      ∙ ap (written (leave_line n.number) departs (map request_of (departures m (settings_of b) n.number c (tables_of b s)))) tables_next
      ∙ sym (lines_by n.number (departures m (settings_of b) n.number c (tables_of b s)) (after_rounds m (settings_of b) n.number c (tables_of b s))))

  pub notices_same : heard_notices n events b s ≡ notices m (settings_of b) n.number c (tables_of b s)
  unfolding notices step_events
  notices_same = all_notices s used n events b ok

-- ---- from what the calls of a tick leave

module _ (m : Meaning (List ℕ)) (b : BoardView) (s : StoreView) (used : ℕ) (ok : Sound b s used) (n : Tick) (c c1 c2 c3 : List ℕ) (b1 b2 b3 : BoardView) (s3 : StoreView) (qs : List Request)
    (stepped : c1 ≡ after m Call.step c) (emptied-is : c2 ≡ emptied m (m.ready c1) c1) (heard-is : b1 ≡ all_heard n (m.ready c1) b) (renewed-is : b2 ≡ renewed_board b1)
    (leavers-is : qs ≡ board_leaving n.number b2) (gone-is : b3 ≡ departed_board qs b2) (taken_is : c3 ≡ taken_by m qs c2) (loaded-is : s3 ≡ all_loaded qs s) where
  at_next : b2 ≡ renewed m b s used ok n c
  at_next = renewed-is ∙ ap renewed_board (heard-is ∙ ap (λ (x : List ℕ). all_heard n (m.ready x) b) stepped)

  at_leavers : qs ≡ leavers m b s used ok n c
  at_leavers = leavers-is ∙ ap (board_leaving n.number) at_next

  at_board : b3 ≡ departed_board (leavers m b s used ok n c) (renewed m b s used ok n c)
  at_board = gone-is ∙ ap (λ (x : List Request). departed_board x b2) at_leavers ∙ ap (departed_board (leavers m b s used ok n c)) at_next

  at_store : s3 ≡ all_loaded (leavers m b s used ok n c) s
  at_store = loaded-is ∙ ap (λ (x : List Request). all_loaded x s) at_leavers

  at_controller : c3 ≡ taken_by m (leavers m b s used ok n c) (emptied m (events m b s used ok n c) (after m Call.step c))
  at_controller =
      taken_is ∙ ap (λ (x : List Request). taken_by m x c2) at_leavers
      ∙ ap (taken_by m (leavers m b s used ok n c)) (emptied-is ∙ ap (λ (x : List ℕ). emptied m (m.ready x) x) stepped)

  pub settings_passed : settings_of b3 ≡ settings_of b
  settings_passed = ap settings_of at_board ∙ settings_same m b s used ok n c

  pub running_passed : (t : ℕ) → t ≡ suc n.number → running_of t c3 b3 s3 ≡ ticked m (settings_of b) (running_of n.number c b s)
  running_passed t e =
      ap (λ k. running_of k c3 b3 s3) e
      ∙ ap (λ (x : List ℕ). running_of (suc n.number) x b3 s3) at_controller
      ∙ ap (λ (x : BoardView). running_of (suc n.number) (taken_by m (leavers m b s used ok n c) (emptied m (events m b s used ok n c) (after m Call.step c))) x s3) at_board
      ∙ ap (running_of (suc n.number) (taken_by m (leavers m b s used ok n c) (emptied m (events m b s used ok n c) (after m Call.step c))) (departed_board (leavers m b s used ok n c) (renewed m b s used ok n c))) at_store
      ∙ running_same m b s used ok n c

  pub lines_passed : (p p1 p2 : Page Line) → p1 ≡ wrote_all (heard_lines n (m.ready c1) b s) p → p2 ≡ wrote_all (load_lines n.number qs s) p1 → p2 ≡ wrote_all (lines m (settings_of b) n.number c (tables_of b s)) p
  lines_passed p p1 p2 e f =
      f ∙ ap (wrote_all (load_lines n.number qs s)) e
      ∙ ap (λ (x : List ℕ). wrote_all (load_lines n.number qs s) (wrote_all (heard_lines n (m.ready x) b s) p)) stepped
      ∙ ap (λ (x : List Request). wrote_all (load_lines n.number x s) (wrote_all (heard_lines n (events m b s used ok n c) b s) p)) at_leavers
      ∙ sym (wrote_append (heard_lines n (events m b s used ok n c) b s) (load_lines n.number (leavers m b s used ok n c) s) p)
      ∙ ap (λ (ls : List Line). wrote_all ls p) (lines_same m b s used ok n c)

  pub notices_passed : (p p1 : Page Notice) → p1 ≡ wrote_all (heard_notices n (m.ready c1) b s) p → p1 ≡ wrote_all (notices m (settings_of b) n.number c (tables_of b s)) p
  notices_passed p p1 e =
      e ∙ ap (λ (x : List ℕ). wrote_all (heard_notices n (m.ready x) b s) p) stepped
      ∙ ap (λ (ns : List Notice). wrote_all ns p) (notices_same m b s used ok n c)
