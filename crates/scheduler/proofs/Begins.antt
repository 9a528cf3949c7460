-- From untouched tables a run begins with every slot still, every lane at the first tick, and no request.
use Rattle.std.proofs.Common.{◌≡◌, ℕ, zero, suc, ◌/◌, ◌%◌, Bool, true, false, not, ◌&&◌, ◌||◌, ltb, List, [], ◌∷◌, ◌++◌, map, get_or, replicate, Some, None, Option, sym, refl, ap, ◌∙◌, arith}
use mathlib.Core.Path.{fun_ext}
use Rattle.std.proofs.lemmas.Bool.{ltb-false}
use Rattle.std.proofs.lemmas.Option.{slice_get-map}
use Rattle.std.specs.Option.{option_map}
use Rattle.std.specs.List.{slice_get}
use Rattle.interface.specs.Meaning.{Meaning, any, is_empty, accepted}
use Rattle.patterns.specs.declared.vertex.Vertex.{Vertex}
use Rattle.patterns.specs.declared.vertex.VertexState.{VertexState}
use Rattle.patterns.specs.declared.vertex.VertexState.TheVariants.{Still, Flying, Done}
use Rattle.patterns.specs.declared.setting.VertexSetting.{VertexSetting}
use Rattle.patterns.specs.Lanes.{LaneView, lane_of, changed, started}
use Rattle.patterns.specs.Shape.{vertex_of}
use Rattle.model.specs.Payloads.{Payload, fake}
use Rattle.model.specs.declared.Waiting.{Waiting}
use Rattle.model.specs.Settings.{Settings, Role, blank}
use Rattle.model.specs.Ticks.{Stage, still}
use Rattle.model.specs.Calls.{Running, State, running, Setting, opens, lane, first, setting_refusal, begins, good, outcome}
use Rattle.model.specs.Calls as calls
use Rattle.board.specs.Slots.{OpenSlot, free, is_free}
use Rattle.board.specs.Sets.{roles_of}
use Rattle.board.specs.Boards.{BoardView, settings_of, with_setting, set_with, started_board, new_board, free_slots}
use Rattle.store.specs.Stores.{BacklogView, StoreView, no_backlog, new_store}
use Rattle.board.proofs.Limits.{or_false, and_parts, not_back, not_back', roles_map}
use Rattle.scheduler.specs.Fresh.{has_moved, lane_moved, lanes_moved, backlog_used, untouched}
use Rattle.board.specs.Flights.{lane_at, vertex_in}
use Rattle.scheduler.specs.Views.{open_stage, state_stage, vertex_stage, slot_stage, stage_at, start_of, start_at, queue_at, serial_at, running_of, state_of}

any_get_or : {X : Type 0} (p : X → Bool) (xs : List X) (i : ℕ) (d : X) → any p xs ≡ false → p d ≡ false → p (get_or xs i d) ≡ false
any_get_or p [] zero d e f = f
any_get_or p [] (suc i) d e f = f
any_get_or p (x ∷ xs) zero d e f = (or_false (p x) (any p xs) e).0
any_get_or p (x ∷ xs) (suc i) d e f = any_get_or p xs i d (or_false (p x) (any p xs) e).1 f

-- what a test says of the element at a place, if there is one
abbrev test_of : {X : Type 0} → (X → Bool) → Option X → Bool
test_of p None = false
test_of p (Some x) = p x

any_nth : {X : Type 0} (p : X → Bool) (xs : List X) (i : ℕ) → any p xs ≡ false → test_of p (slice_get xs i) ≡ false
any_nth p [] i e = refl
any_nth p (x ∷ xs) zero e = (or_false (p x) (any p xs) e).0
any_nth p (x ∷ xs) (suc i) e = any_nth p xs i (or_false (p x) (any p xs) e).1

-- ---- the parts of untouched tables

module _ (b : BoardView) (s : StoreView) (ok : untouched b s ≡ true) where
  no_lane_moved : lanes_moved b.lanes ≡ false
  unfolding untouched
  no_lane_moved = not_back' _ (and_parts (not (lanes_moved b.lanes)) _ ok).0

  no_slot_held : any (λ o. not (is_free o)) b.slots ≡ false
  unfolding untouched
  no_slot_held = not_back' _ (and_parts (not (any (λ o. not (is_free o)) b.slots)) _ (and_parts (not (lanes_moved b.lanes)) _ ok).1).0

  no_request : any backlog_used s.backlogs ≡ false
  unfolding untouched
  no_request = not_back' _ (and_parts (not (any (λ o. not (is_free o)) b.slots)) _ (and_parts (not (lanes_moved b.lanes)) _ ok).1).1

free_stage : (o : OpenSlot) (p : Payload) → not (is_free o) ≡ false → open_stage o p ≡ still
free_stage None p e = refl
free_stage (Some a) p e = let z : ◌≡◌ {A = ℕ} 0 1 = (cc) in absurd (omega arith)

still_stage : (v : Option Vertex) (p : Payload) → test_of (λ v. has_moved v.state) v ≡ false → vertex_stage v p ≡ still
still_stage None p e = refl
still_stage (Some v) p e = go v.state e
  where
    go : (x : VertexState) → has_moved x ≡ false → state_stage v.bank v.kind x p ≡ still
    go Still e = refl
    go Flying e = let z : ◌≡◌ {A = ℕ} 0 1 = (cc) in absurd (omega arith)
    go (Done c) e = let z : ◌≡◌ {A = ℕ} 0 1 = (cc) in absurd (omega arith)

vertex_in_moved : (l : Option LaneView) (i : ℕ) → test_of lane_moved l ≡ false → test_of (λ v. has_moved v.state) (vertex_in l i) ≡ false
vertex_in_moved None i e = refl
vertex_in_moved (Some l) i e = any_nth (λ v. has_moved v.state) l.vertices i e

-- started lanes have moved no vertex
started_moved : (f : ℕ) (ls : List LaneView) → any lane_moved (map (started f) ls) ≡ any lane_moved ls
started_moved f [] = refl
started_moved f (l ∷ ls) = ap (λ t. lane_moved l || t) (started_moved f ls)

started_all : (f : ℕ) (ts : List (List LaneView)) → lanes_moved (map (map (started f)) ts) ≡ lanes_moved ts
started_all f [] = refl
started_all f (t ∷ ts) = ap (λ x. x || lanes_moved (map (map (started f)) ts)) (started_moved f t) ∙ ap (λ x. any lane_moved t || x) (started_all f ts)

get_or_none : {X : Type 0} (i : ℕ) (d : X) → get_or [] i d ≡ d
get_or_none zero d = refl
get_or_none (suc i) d = refl

get_or_maps : (g : LaneView → LaneView) (ts : List (List LaneView)) (d : ℕ) → get_or (map (map g) ts) d [] ≡ map g (get_or ts d [])
get_or_maps g [] d = get_or_none d [] ∙ ap (map g) (sym (get_or_none d []))
get_or_maps g (t ∷ ts) zero = refl
get_or_maps g (t ∷ ts) (suc d) = get_or_maps g ts d

pub lane_at_map : (g : LaneView → LaneView) (ts : List (List LaneView)) (ℓ : ℕ) → lane_at (map (map g) ts) ℓ ≡ option_map g (lane_at ts ℓ)
lane_at_map g ts ℓ = ap (λ (ls : List LaneView). slice_get ls (ℓ % 8)) (get_or_maps g ts (ℓ / 8)) ∙ slice_get-map g (get_or ts (ℓ / 8) []) (ℓ % 8)

start_is : (f : ℕ) (s : Option ℕ) (l : Option LaneView) → start_of f s (option_map (started f) l) ≡ f
start_is f (Some n) l = refl
start_is f None None = refl
start_is f None (Some l) = refl

unused : (x : BacklogView) → backlog_used x ≡ false → x ≡ no_backlog
unused x e =
    let p = or_false (not (is_empty x.queue)) (ltb 0 x.serial) e in
    let q = empty_is x.queue (not_back _ p.0) in
    let n = ltb-false 0 x.serial p.1 in
    let z : x.serial ≡ 0 = omega arith in
    ap (λ (l : List Waiting). record { queue = l; serial = x.serial }) q ∙ ap (λ k. record { queue = []; serial = k }) z
  where
    empty_is : (l : List Waiting) → is_empty l ≡ true → l ≡ []
    empty_is [] e = refl
    empty_is (w ∷ l) e = let z : ◌≡◌ {A = ℕ} 0 1 = (cc) in absurd (omega arith)

module _ (b : BoardView) (s : StoreView) (ok : untouched b s ≡ true) where
  all_still : ◌≡◌ {A = ℕ → Stage} (stage_at (started_board b) s) (λ t. still)
  unfolding stage_at
  all_still = fun_ext (λ t. go t (get_or b.shares (t / 64) None) (get_or s.payloads t fake))
    where
      go : (t : ℕ) (share : Option ℕ) (p : Payload) → slot_stage share (get_or b.slots t free) (vertex_in (lane_at (map (map (started b.first)) b.lanes) (t / 8)) (t % 8)) p ≡ still
      go t (Some n) p = free_stage (get_or b.slots t free) p (any_get_or (λ o. not (is_free o)) b.slots t free (no_slot_held b s ok) refl)
      go t None p =
          still_stage (vertex_in (lane_at (map (map (started b.first)) b.lanes) (t / 8)) (t % 8)) p
          (vertex_in_moved (lane_at (map (map (started b.first)) b.lanes) (t / 8)) (t % 8)
          (any_nth lane_moved (get_or (map (map (started b.first)) b.lanes) (t / 8 / 8) []) (t / 8 % 8)
          (any_get_or (λ ls. any lane_moved ls) (map (map (started b.first)) b.lanes) (t / 8 / 8) [] (started_all b.first b.lanes ∙ no_lane_moved b s ok) refl)))

  all_started : ◌≡◌ {A = ℕ → ℕ} (start_at (started_board b)) (λ ℓ. b.first)
  unfolding start_at
  all_started = fun_ext (λ ℓ. ap (λ (l : Option LaneView). start_of b.first (get_or b.shares (ℓ / 8) None) l) (lane_at_map (started b.first) b.lanes ℓ) ∙ start_is b.first (get_or b.shares (ℓ / 8) None) (lane_at b.lanes ℓ))

  no_queue : ◌≡◌ {A = ℕ → List Waiting} (queue_at s) (λ d. [])
  unfolding queue_at
  no_queue = fun_ext (λ d. ap (λ (x : BacklogView). x.queue) (unused (get_or s.backlogs d no_backlog) (any_get_or backlog_used s.backlogs d no_backlog (no_request b s ok) refl)))

  no_serial : ◌≡◌ {A = ℕ → ℕ} (serial_at s) (λ d. 0)
  unfolding serial_at
  no_serial = fun_ext (λ d. ap (λ (x : BacklogView). x.serial) (unused (get_or s.backlogs d no_backlog) (any_get_or backlog_used s.backlogs d no_backlog (no_request b s ok) refl)))

  same_settings : settings_of (started_board b) ≡ settings_of b
  same_settings = ap (λ (rs : List Role). record { first = b.first; roles = rs }) (roles_map (started b.first) (λ l. refl) b.shares b.lanes)

  -- the state after begin
  pub begun_is : (c : List ℕ) → running (settings_of (started_board b)) (running_of b.first c (started_board b) s) ≡ running (settings_of b) (calls.started (settings_of b) c)
  unfolding calls.started
  begun_is c =
      ap (λ (k : Settings). running k (running_of b.first c (started_board b) s)) same_settings
      ∙ ap (λ (f : ℕ → Stage). running (settings_of b) (record { tick = b.first; controller = c; tables = record { stage = f; start = start_at (started_board b); queue = queue_at s }; serial = serial_at s })) all_still
      ∙ ap (λ (f : ℕ → ℕ). running (settings_of b) (record { tick = b.first; controller = c; tables = record { stage = λ t. still; start = f; queue = queue_at s }; serial = serial_at s })) all_started
      ∙ ap (λ (f : ℕ → List Waiting). running (settings_of b) (record { tick = b.first; controller = c; tables = record { stage = λ t. still; start = λ ℓ. b.first; queue = f }; serial = serial_at s })) no_queue
      ∙ ap (λ (f : ℕ → ℕ). running (settings_of b) (record { tick = b.first; controller = c; tables = record { stage = λ t. still; start = λ ℓ. b.first; queue = λ d. [] }; serial = f })) no_serial

-- ---- settings touch nothing

still_new : (vs : List VertexSetting) → any (λ (v : Vertex). has_moved v.state) (map vertex_of vs) ≡ false
still_new [] = refl
still_new (v ∷ vs) = still_new vs

pushed_moved : (ls : List LaneView) (l : LaneView) → any lane_moved ls ≡ false → lane_moved l ≡ false → any lane_moved (ls ++ (l ∷ [])) ≡ false
pushed_moved [] l e f = ap (λ t. t || false) f
pushed_moved (x ∷ ls) l e f = let p = or_false (lane_moved x) (any lane_moved ls) e in ap (λ t. t || any lane_moved (ls ++ (l ∷ []))) p.0 ∙ pushed_moved ls l p.1 f

lane_moves_none : (ts : List (List LaneView)) (d : ℕ) (l : LaneView) → lanes_moved ts ≡ false → lane_moved l ≡ false → lanes_moved (changed (λ ls. ls ++ (l ∷ [])) ts d) ≡ false
lane_moves_none [] d l e f = refl
lane_moves_none (t ∷ ts) zero l e f = let p = or_false (any lane_moved t) (lanes_moved ts) e in ap (λ x. x || lanes_moved ts) (pushed_moved t l p.0 f) ∙ p.1
lane_moves_none (t ∷ ts) (suc d) l e f = let p = or_false (any lane_moved t) (lanes_moved ts) e in ap (λ x. x || lanes_moved (changed (λ ls. ls ++ (l ∷ [])) ts d)) p.0 ∙ lane_moves_none ts d l p.1 f

setting_keeps : (b : BoardView) (s : StoreView) (z : Setting) → untouched b s ≡ true → untouched (with_setting b z) s ≡ true
unfolding untouched
setting_keeps b s (opens d n) ok = ok
setting_keeps b s (first n) ok = ok
setting_keeps b s (lane d vs es rest) ok =
    let rest_ok = (and_parts (not (lanes_moved b.lanes)) _ ok).1 in
    ap (λ t. not t && (not (any (λ o. not (is_free o)) b.slots) && not (any backlog_used s.backlogs))) (lane_moves_none b.lanes d (lane_of vs es rest) (no_lane_moved b s ok) (still_new vs)) ∙ rest_ok

pub set_keeps : (b v : BoardView) (s : StoreView) (places : ℕ) (z : Setting) → v ≡ set_with places z b → untouched b s ≡ true → untouched v s ≡ true
set_keeps b v s places z is ok = ap (λ (x : BoardView). untouched x s) is ∙ go (setting_refusal places (settings_of b) z)
  where
    go : (o : Option ℕ) → untouched (accepted o (with_setting b z) b) s ≡ true
    go None = setting_keeps b s z ok
    go (Some k) = ok

-- ---- the fact that a scheduler keeps

or_right : (g u : Bool) → u ≡ true → (g || u) ≡ true
or_right true u e = refl
or_right false u e = e

pub fresh_kept : (g : Bool) (b v : BoardView) (s : StoreView) (places : ℕ) (z : Setting) → g ≡ false → v ≡ set_with places z b → (g || untouched b s) ≡ true → (g || untouched v s) ≡ true
fresh_kept g b v s places z e is ok = or_right g (untouched v s) (set_keeps b v s places z is (ap (λ t. t || untouched b s) (sym e) ∙ ok))

any_replicate : {X : Type 0} (p : X → Bool) (n : ℕ) (x : X) → p x ≡ false → any p (replicate n x) ≡ false
any_replicate p zero x e = refl
any_replicate p (suc n) x e = ap (λ t. t || any p (replicate n x)) e ∙ any_replicate p n x e

pub fresh_new : (b : BoardView) (s : StoreView) → b ≡ new_board → s ≡ new_store → untouched b s ≡ true
unfolding untouched free_slots
fresh_new b s e f =
    ap (λ (x : BoardView). untouched x s) e ∙ ap (λ (x : StoreView). untouched new_board x) f
    ∙ ap (λ t. not t && true) (any_replicate (λ o. not (is_free o)) 512 free refl)

pub blank_is : (b : BoardView) → b ≡ new_board → settings_of b ≡ blank
unfolding roles_of
blank_is b e = ap settings_of e

-- begin
pub begin_after : (m : Meaning (List ℕ)) (g : Bool) (t n : ℕ) (c : List ℕ) (b v : BoardView) (s : StoreView) → g ≡ false → v ≡ started_board b → n ≡ v.first → (g || untouched b s) ≡ true
    → running (settings_of v) (running_of n c v s) ≡ (outcome m (state_of g (settings_of b) (running_of t c b s)) begins).after
unfolding outcome
begin_after m g t n c b v s e is at ok =
    ap (λ k. running (settings_of v) (running_of k c v s)) at
    ∙ ap (λ (w : BoardView). running (settings_of w) (running_of w.first c w s)) is
    ∙ begun_is b s (ap (λ t. t || untouched b s) (sym e) ∙ ok) c
    ∙ ap (λ h. (outcome m (state_of h (settings_of b) (running_of t c b s)) begins).after) (sym e)

pub begin_reply : (m : Meaning (List ℕ)) (g : Bool) (k : Settings) (x : Running) → g ≡ false → good ≡ (outcome m (state_of g k x) begins).reply
unfolding outcome
begin_reply m g k x e = ap (λ h. (outcome m (state_of h k x) begins).reply) (sym e)
