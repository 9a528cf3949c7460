-- What a submit comes to, from what the tables say of it.
use Rattle.std.proofs.Common.{◌≡◌, ℕ, zero, suc, ◌/◌, ◌%◌, ◌^◌, ◌<◌, ◌≤◌, Bool, true, false, cond, not, ◌&&◌, ◌||◌, eqb, ltb, leb, List, [], ◌∷◌, ◌++◌, map, length, get_or, set, Some, None, Option, sym, refl, ap, ◌∙◌, mod-lt, add-one, arith}
use mathlib.Core.Path.{fun_ext}
use lib.ListN.{length-map}
use Rattle.std.proofs.lemmas.List.{get_or_past, get_or-set_same, get_or-set_other}
use Rattle.std.proofs.lemmas.Bool.{eqb-true, eqb-false, leb-true, leb-false, ltb-false, lt-ltb}
use Rattle.interface.specs.declared.Kind.{Kind}
use Rattle.interface.specs.Meaning.{Meaning, Call, after, any, check}
use Rattle.patterns.specs.Lanes.{LaneView, changed}
use Rattle.patterns.proofs.Checks.{passes}
use Rattle.model.specs.Payloads.{Payload, fake, real}
use Rattle.model.specs.declared.Waiting.{Waiting}
use Rattle.model.specs.Settings.{Pattern, Role, role_of, patterns_of, is_unset, pattern_at}
use Rattle.model.specs.Ticks.{Stage, flying, put, is_still}
use Rattle.model.specs.Calls.{State, running, Running, Reply, refused, serial, slot_in_turn, serves, role_refusal, submit_refusal, enqueued, taken_open, submitted, submit_outcome, unless, outcome}
use Rattle.model.specs.Calls as calls
use Rattle.board.specs.Sets.{spot_of, pattern_of, role_at, is_unset_at, formed, domain_formed, lane_formed}
use Rattle.board.specs.Slots.{OpenSlot, free, held, is_free, turn_of, lane_serves}
use Rattle.board.specs.Boards.{BoardView, Known, slots_set, settings_of, with_slot}
use Rattle.store.specs.Stores.{BacklogView, Sized, StoreView, backlog_at, no_backlog, with_backlog, with_payload, queued, counted, joined, numbered}
use Rattle.board.proofs.Limits.{role, formed_at, not_back, not_back', and_parts, or_false, check_tests, changed_at}
use Rattle.board.proofs.Roles.{unset_at}
use Rattle.board.specs.Flights.{lane_at, vertex_in}
use Rattle.scheduler.specs.Views.{open_stage, slot_stage, stage_at, start_at, queue_at, serial_at, running_of, state_of}
use Rattle.scheduler.specs.Submits.{queue_checks, side_checks, turn_at, submit_checks}
use Rattle.scheduler.proofs.Serving.{serves_is}

-- what is known of the tables
pub record Sound (b : BoardView) (s : StoreView) (used : ℕ) : Type 0 where
  pub board : Known b used
  pub slots : length b.slots ≡ 512
  pub shares : (d n : ℕ) → get_or b.shares d None ≡ Some n → (1 ≤ n) × (n ≤ 16)
  pub backlogs : length s.backlogs ≡ 8
  pub payloads : length s.payloads ≡ 512

pub sound : (b : BoardView) (s : StoreView) → Known b (slots_set b) → length b.slots ≡ 512 → ((d n : ℕ) → get_or b.shares d None ≡ Some n → (1 ≤ n) × (n ≤ 16)) → Sized s → Sound b s (slots_set b)
sound b s board slots shares sized = record { board = board; slots = slots; shares = shares; backlogs = sized.0; payloads = sized.1 }

-- ---- one element changed

changed_same : {X : Type 0} (f : X → X) (xs : List X) (i : ℕ) (d : X) → i < length xs → get_or (changed f xs i) i d ≡ f (get_or xs i d)
changed_same f [] i d lt = absurd (omega arith)
changed_same f (x ∷ xs) zero d lt = refl
changed_same f (x ∷ xs) (suc i) d lt = changed_same f xs i d (omega arith)

changed_other : {X : Type 0} (f : X → X) (xs : List X) (i j : ℕ) (d : X) → (j ≡ i → ⊥) → get_or (changed f xs i) j d ≡ get_or xs j d
changed_other f [] i j d ne = refl
changed_other f (x ∷ xs) zero zero d ne = absurd (ne refl)
changed_other f (x ∷ xs) zero (suc j) d ne = refl
changed_other f (x ∷ xs) (suc i) zero d ne = refl
changed_other f (x ∷ xs) (suc i) (suc j) d ne = changed_other f xs i j d (λ e. ne (ap suc e))

-- what is read of one domain's backlog after it is changed
pub put_backlog : {Y : Type 0} (read : BacklogView → Y) (f : BacklogView → BacklogView) (s : StoreView) (d : ℕ) (y : Y) → d < length s.backlogs → read (f (backlog_at s d)) ≡ y
    → ◌≡◌ {A = ℕ → Y} (λ j. read (backlog_at (with_backlog f d s) j)) (put (λ j. read (backlog_at s j)) d y)
put_backlog {Y} read f s d y lt is = fun_ext (λ j. go j (eqb j d) refl)
  where
    go : (j : ℕ) (t : Bool) → eqb j d ≡ t → read (backlog_at (with_backlog f d s) j) ≡ cond t y (read (backlog_at s j))
    go j true e = ap (λ k. read (backlog_at (with_backlog f d s) k)) (eqb-true j d e) ∙ ap read (changed_same f s.backlogs d no_backlog lt) ∙ is
    go j false e = ap read (changed_other f s.backlogs d j no_backlog (eqb-false j d e))

pub keep_backlog : {Y : Type 0} (read : BacklogView → Y) (f : BacklogView → BacklogView) (s : StoreView) (d : ℕ) → d < length s.backlogs → ((x : BacklogView) → read (f x) ≡ read x)
    → ◌≡◌ {A = ℕ → Y} (λ j. read (backlog_at (with_backlog f d s) j)) (λ j. read (backlog_at s j))
keep_backlog {Y} read f s d lt is = fun_ext (λ j. go j (eqb j d) refl)
  where
    go : (j : ℕ) (t : Bool) → eqb j d ≡ t → read (backlog_at (with_backlog f d s) j) ≡ read (backlog_at s j)
    go j true e =
        let at = eqb-true j d e in
        ap (λ k. read (backlog_at (with_backlog f d s) k)) at ∙ ap read (changed_same f s.backlogs d no_backlog lt) ∙ is (backlog_at s d) ∙ ap (λ k. read (backlog_at s k)) (sym at)
    go j false e = ap read (changed_other f s.backlogs d j no_backlog (eqb-false j d e))

-- ---- a protected request

pub enqueued_is : (n : ℕ) (c : List ℕ) (b : BoardView) (s : StoreView) (d bank : ℕ) (kind : Kind) (row : ℕ) → d < length s.backlogs
    → running_of n c b (with_backlog (queued bank kind row) d s) ≡ enqueued (running_of n c b s) d bank kind row
unfolding enqueued queue_at serial_at stage_at
enqueued_is n c b s d bank kind row lt =
    ap (λ (f : ℕ → List Waiting). record { tick = n; controller = c; tables = record { stage = stage_at b s; start = start_at b; queue = f }; serial = λ j. (backlog_at (with_backlog (queued bank kind row) d s) j).serial })
    (put_backlog (λ x. x.queue) (queued bank kind row) s d ((backlog_at s d).queue ++ (record { bank = bank; kind = kind; row = row; serial = (backlog_at s d).serial } ∷ [])) lt refl)
    ∙ ap (λ (f : ℕ → ℕ). record { tick = n; controller = c; tables = record { stage = stage_at b s; start = start_at b; queue = put (λ j. (backlog_at s j).queue) d ((backlog_at s d).queue ++ (record { bank = bank; kind = kind; row = row; serial = (backlog_at s d).serial } ∷ [])) }; serial = f })
    (put_backlog (λ x. x.serial) (queued bank kind row) s d (suc (backlog_at s d).serial) lt (add-one (backlog_at s d).serial))

-- ---- an open request

abbrev held_store : ℕ → ℕ → Payload → StoreView → StoreView
held_store d slot p s = with_backlog counted d (with_payload slot p s)

stage_put : (b : BoardView) (s : StoreView) (d slot share bank : ℕ) (kind : Kind) (p : Payload) → slot < length b.slots → slot < length s.payloads → get_or b.shares (slot / 64) None ≡ Some share
    → ◌≡◌ {A = ℕ → Stage} (stage_at (with_slot slot (held bank kind) b) (held_store d slot p s)) (put (stage_at b s) slot (flying bank kind p))
unfolding stage_at
stage_put b s d slot share bank kind p lt lp is = fun_ext (λ j. go j (eqb j slot) refl)
  where
    after_stage : ℕ → Stage
    after_stage j = slot_stage (get_or b.shares (j / 64) None) (get_or (set b.slots slot (held bank kind)) j free) (vertex_in (lane_at b.lanes (j / 8)) (j % 8)) (get_or (set s.payloads slot p) j fake)

    go : (j : ℕ) (t : Bool) → eqb j slot ≡ t
        → slot_stage (get_or b.shares (j / 64) None) (get_or (set b.slots slot (held bank kind)) j free) (vertex_in (lane_at b.lanes (j / 8)) (j % 8)) (get_or (set s.payloads slot p) j fake)
        ≡ cond t (flying bank kind p) (slot_stage (get_or b.shares (j / 64) None) (get_or b.slots j free) (vertex_in (lane_at b.lanes (j / 8)) (j % 8)) (get_or s.payloads j fake))
    go j true e =
        ap (λ k. slot_stage (get_or b.shares (k / 64) None) (get_or (set b.slots slot (held bank kind)) k free) (vertex_in (lane_at b.lanes (k / 8)) (k % 8)) (get_or (set s.payloads slot p) k fake)) (eqb-true j slot e)
        ∙ ap (λ (o : Option ℕ). slot_stage o (get_or (set b.slots slot (held bank kind)) slot free) (vertex_in (lane_at b.lanes (slot / 8)) (slot % 8)) (get_or (set s.payloads slot p) slot fake)) is
        ∙ ap (λ (o : OpenSlot). open_stage o (get_or (set s.payloads slot p) slot fake)) (get_or-set_same b.slots slot (held bank kind) free lt)
        ∙ ap (λ (q : Payload). flying bank kind q) (get_or-set_same s.payloads slot p fake lp)
    go j false e =
        let ne = eqb-false j slot e in
        ap (λ (o : OpenSlot). slot_stage (get_or b.shares (j / 64) None) o (vertex_in (lane_at b.lanes (j / 8)) (j % 8)) (get_or (set s.payloads slot p) j fake)) (get_or-set_other b.slots slot j (held bank kind) free ne)
        ∙ ap (λ (q : Payload). slot_stage (get_or b.shares (j / 64) None) (get_or b.slots j free) (vertex_in (lane_at b.lanes (j / 8)) (j % 8)) q) (get_or-set_other s.payloads slot j p fake ne)

start_same : (b : BoardView) (slot : ℕ) (o : OpenSlot) → start_at (with_slot slot o b) ≡ start_at b
unfolding start_at
start_same b slot o = refl

pub taken_is : (m : Meaning (List ℕ)) (n : ℕ) (c c' : List ℕ) (b : BoardView) (s : StoreView) (d slot share bank : ℕ) (kind : Kind) (p : Payload) → d < length s.backlogs → slot < length b.slots → slot < length s.payloads → get_or b.shares (slot / 64) None ≡ Some share
    → c' ≡ after m (Call.take (record { slot = slot; domain = d; bank = bank; kind = kind })) c
    → running_of n c' (with_slot slot (held bank kind) b) (held_store d slot p s) ≡ taken_open m (running_of n c b s) d bank kind p slot
unfolding taken_open queue_at serial_at
taken_is m n c c' b s d slot share bank kind p ld lt lp is took =
    ap (λ (x : List ℕ). running_of n x (with_slot slot (held bank kind) b) (held_store d slot p s)) took
    ∙ ap (λ (f : ℕ → Stage). record { tick = n; controller = next; tables = record { stage = f; start = start_at (with_slot slot (held bank kind) b); queue = queue_at (held_store d slot p s) }; serial = serial_at (held_store d slot p s) }) (stage_put b s d slot share bank kind p lt lp is)
    ∙ ap (λ (f : ℕ → ℕ). record { tick = n; controller = next; tables = record { stage = put (stage_at b s) slot (flying bank kind p); start = f; queue = queue_at (held_store d slot p s) }; serial = serial_at (held_store d slot p s) }) (start_same b slot (held bank kind))
    ∙ ap (λ (f : ℕ → List Waiting). record { tick = n; controller = next; tables = record { stage = put (stage_at b s) slot (flying bank kind p); start = start_at b; queue = f }; serial = serial_at (held_store d slot p s) }) (keep_backlog (λ x. x.queue) counted (with_payload slot p s) d ld (λ x. refl))
    ∙ ap (λ (f : ℕ → ℕ). record { tick = n; controller = next; tables = record { stage = put (stage_at b s) slot (flying bank kind p); start = start_at b; queue = λ j. (backlog_at s j).queue }; serial = f }) (put_backlog (λ x. x.serial) counted (with_payload slot p s) d (suc (backlog_at s d).serial) ld (add-one (backlog_at s d).serial))
  where
    next : List ℕ
    next = after m (Call.take (record { slot = slot; domain = d; bank = bank; kind = kind })) c

-- ---- the checks

turn_slot : (d share i : ℕ) → (1 ≤ share) × (share ≤ 16) → slot_in_turn d share i / 64 ≡ d
turn_slot d share i b = let lt : i % share < share = mod-lt i (omega (arith, b.0)) in let m = b.1 in omega (arith, lt, m)

free_is : (o : OpenSlot) (p : Payload) → is_free o ≡ is_still (open_stage o p)
free_is None p = refl
free_is (Some a) p = refl

module _ (b : BoardView) (s : StoreView) (used : ℕ) (ok : Sound b s used) where
  pub shapes : (ℓ : ℕ) → length (pattern_at (settings_of b) ℓ).spots ≤ 8
  unfolding pattern_at formed
  shapes ℓ = small (get_or b.shares (ℓ / 8) None)
    where
      lane_small : (ls : List LaneView) (i : ℕ) → any (λ l. not (lane_formed l)) ls ≡ false → length (get_or (map pattern_of ls) i (record { spots = []; edges = []; rest = 0 })).spots ≤ 8
      lane_small [] i e = let z = ap (λ (p : Pattern). length p.spots) (get_or_past [] i (record { spots = []; edges = []; rest = 0 }) (omega arith)) in omega (arith, z)
      lane_small (l ∷ ls) zero e =
          let f = and_parts (leb (length l.vertices) 8) _ (not_back (lane_formed l) (or_false (not (lane_formed l)) _ e).0) in
          let q = leb-true (length l.vertices) 8 f.0 in
          omega (arith, q, length-map l.vertices spot_of)
      lane_small (l ∷ ls) (suc i) e = lane_small ls i (or_false (not (lane_formed l)) _ e).1

      role_small : (o : Option ℕ) (ls : List LaneView) → any (λ l. not (lane_formed l)) ls ≡ false → length (get_or (patterns_of (role_at o ls)) (ℓ % 8) (record { spots = []; edges = []; rest = 0 })).spots ≤ 8
      role_small (Some n) ls e = let z = ap (λ (p : Pattern). length p.spots) (get_or_past [] (ℓ % 8) (record { spots = []; edges = []; rest = 0 }) (omega arith)) in omega (arith, z)
      role_small None [] e = let z = ap (λ (p : Pattern). length p.spots) (get_or_past [] (ℓ % 8) (record { spots = []; edges = []; rest = 0 }) (omega arith)) in omega (arith, z)
      role_small None (l ∷ ls) e = lane_small (l ∷ ls) (ℓ % 8) e

      small : (o : Option ℕ) → length (get_or (patterns_of (role_of (settings_of b) (ℓ / 8))) (ℓ % 8) (record { spots = []; edges = []; rest = 0 })).spots ≤ 8
      small o =
          let z = ap (λ (r : Role). length (get_or (patterns_of r) (ℓ % 8) (record { spots = []; edges = []; rest = 0 })).spots) (role b used ok.board (ℓ / 8)) in
          let f = formed_at b.lanes (ℓ / 8) (not_back' _ ok.board.in_form) in
          let q = role_small (get_or b.shares (ℓ / 8) None) (get_or b.lanes (ℓ / 8) []) (not_back' _ (and_parts (leb (length (get_or b.lanes (ℓ / 8) [])) 8) _ f).1) in
          omega (arith, z, q)

  -- a domain with lanes is one of the eight
  pub low_lanes : (d : ℕ) (l : LaneView) (ls : List LaneView) → get_or b.lanes d [] ≡ l ∷ ls → d < 8
  low_lanes d l ls e = go (leb 8 d) refl
    where
      go : (t : Bool) → leb 8 d ≡ t → d < 8
      go true q =
          let le = leb-true 8 d q in
          let n : [] ≡ l ∷ ls = sym (get_or_past b.lanes d [] (omega (arith, le, ok.board.as_many))) ∙ e in
          let z : ◌≡◌ {A = ℕ} 0 1 = (cc) in absurd (omega arith)
      go false q = leb-false 8 d q

  pub low_share : (d n : ℕ) → get_or b.shares d None ≡ Some n → d < 8
  low_share d n e = go (leb 8 d) refl
    where
      go : (t : Bool) → leb 8 d ≡ t → d < 8
      go true q =
          let le = leb-true 8 d q in
          let k : None ≡ Some n = sym (get_or_past b.shares d None (omega (arith, le, ok.board.eight))) ∙ e in
          let z : ◌≡◌ {A = ℕ} 0 1 = (cc) in absurd (omega arith)
      go false q = leb-false 8 d q

  -- the slot in turn stands as its open slot says
  stage_in_turn : (d n i : ℕ) → get_or b.shares d None ≡ Some n → is_free (get_or b.slots (slot_in_turn d n i) free) ≡ is_still (stage_at b s (slot_in_turn d n i))
  unfolding stage_at
  stage_in_turn d n i e =
      let slot = slot_in_turn d n i in
      let at : get_or b.shares (slot / 64) None ≡ Some n = ap (λ k. get_or b.shares k None) (turn_slot d n i (ok.shares d n e)) ∙ e in
      free_is (get_or b.slots slot free) (get_or s.payloads slot fake)
      ∙ ap (λ (o : Option ℕ). is_still (slot_stage o (get_or b.slots slot free) (vertex_in (lane_at b.lanes (slot / 8)) (slot % 8)) (get_or s.payloads slot fake))) (sym at)

  module _ (t : ℕ) (c : List ℕ) (d bank : ℕ) (kind : Kind) (row : ℕ) where
    -- the checks of the domain's own side
    side : (o : Option ℕ) (ls : List LaneView) → get_or b.shares d None ≡ o → get_or b.lanes d [] ≡ ls → is_unset (role_at o ls) ≡ false
        → side_checks b s d bank kind (turn_of d (backlog_at s d).serial o) ≡ role_refusal (settings_of b) (running_of t c b s) d bank kind (role_at o ls)
    unfolding role_refusal queue_at serial_at formed
    side (Some n) ls e f u = ap (λ v. check (not v) 14 None) (stage_in_turn d n (backlog_at s d).serial e)
    side None [] e f u = let z : ◌≡◌ {A = ℕ} 0 1 = (cc) in absurd (omega arith)
    side None (l ∷ ls) e f u =
        let k = settings_of b in
        let form = formed_at b.lanes d (formed_false ok.board.in_form) in
        let many = leb-true (length (get_or b.lanes d [])) 8 (and_parts (leb (length (get_or b.lanes d [])) 8) _ form).0 in
        let pats : patterns_of (role_of k d) ≡ map pattern_of (get_or b.lanes d []) =
        ap patterns_of (role b used ok.board d ∙ ap (λ (o : Option ℕ). role_at o (get_or b.lanes d [])) e ∙ ap (λ (q : List LaneView). role_at None q) f) ∙ ap (map pattern_of) (sym f) in
        let same = serves_is k d bank kind (get_or b.lanes d []) (low_lanes d l ls f) many (λ ℓ lt. shapes ℓ) pats in
        ap (λ v. check (not v) 12 (check (ltb 15 (length (backlog_at s d).queue)) 13 None)) (sym same)
      where
        formed_false : formed b.lanes ≡ true → any (λ ls. not (domain_formed ls)) b.lanes ≡ false
        formed_false h = not_back' _ h

    pub refusal_is : submit_checks b s d bank kind row ≡ submit_refusal (settings_of b) (running_of t c b s) d bank kind row
    unfolding submit_refusal serial_at
    refusal_is =
        let k = settings_of b in
        let same : is_unset_at b.shares b.lanes d ≡ is_unset (role_of k d) = sym (ap is_unset (role b used ok.board d) ∙ unset_at (get_or b.shares d None) (get_or b.lanes d [])) in
        check_tests _ _ 8 _ _ same (λ u.
        ap (λ later. check (ltb 7 bank) 9 (check (ltb row 1 || ltb 65535 row) 10 (check (leb (10 ^ 18) (backlog_at s d).serial) 11 later)))
        (side (get_or b.shares d None) (get_or b.lanes d []) refl refl (ap is_unset (sym (role b used ok.board d)) ∙ u)
        ∙ ap (role_refusal k (running_of t c b s) d bank kind) (sym (role b used ok.board d))))

    module _ (m : Meaning (List ℕ)) (g : Bool) (begun : g ≡ true) where
      pub refused_reply : (j : ℕ) → Some j ≡ submit_checks b s d bank kind row → refused j ≡ (outcome m (state_of g (settings_of b) (running_of t c b s)) (calls.submit d bank kind row)).reply
      unfolding outcome
      refused_reply j e =
          ap (λ o. (unless o (running (settings_of b) (running_of t c b s)) (submit_outcome m (settings_of b) (running_of t c b s) d bank kind row)).reply) (e ∙ refusal_is)
          ∙ ap (λ h. (outcome m (state_of h (settings_of b) (running_of t c b s)) (calls.submit d bank kind row)).reply) (sym begun)

      pub refused_after : (j : ℕ) → Some j ≡ submit_checks b s d bank kind row → state_of g (settings_of b) (running_of t c b s) ≡ (outcome m (state_of g (settings_of b) (running_of t c b s)) (calls.submit d bank kind row)).after
      unfolding outcome
      refused_after j e =
          ap (λ h. state_of h (settings_of b) (running_of t c b s)) begun
          ∙ ap (λ o. (unless o (running (settings_of b) (running_of t c b s)) (submit_outcome m (settings_of b) (running_of t c b s) d bank kind row)).after) (e ∙ refusal_is)
          ∙ ap (λ h. (outcome m (state_of h (settings_of b) (running_of t c b s)) (calls.submit d bank kind row)).after) (sym begun)

      module _ (good : None ≡ submit_checks b s d bank kind row) where
        pub serial_is : (i : ℕ) → i ≡ (backlog_at s d).serial → serial i ≡ (outcome m (state_of g (settings_of b) (running_of t c b s)) (calls.submit d bank kind row)).reply
        unfolding outcome serial_at
        serial_is i e =
            ap serial e
            ∙ ap (λ o. (unless o (running (settings_of b) (running_of t c b s)) (submit_outcome m (settings_of b) (running_of t c b s) d bank kind row)).reply) (good ∙ refusal_is)
            ∙ ap (λ h. (outcome m (state_of h (settings_of b) (running_of t c b s)) (calls.submit d bank kind row)).reply) (sym begun)

        -- an accepted request leaves the state that its domain's role gives
        accepted_after : (y : Running) → y ≡ submitted m (running_of t c b s) d bank kind row (role_of (settings_of b) d) → running (settings_of b) y ≡ (outcome m (state_of g (settings_of b) (running_of t c b s)) (calls.submit d bank kind row)).after
        unfolding outcome
        accepted_after y is =
            ap (running (settings_of b)) is
            ∙ ap (λ o. (unless o (running (settings_of b) (running_of t c b s)) (submit_outcome m (settings_of b) (running_of t c b s) d bank kind row)).after) (good ∙ refusal_is)
            ∙ ap (λ h. (outcome m (state_of h (settings_of b) (running_of t c b s)) (calls.submit d bank kind row)).after) (sym begun)

        set_already : is_unset (role_of (settings_of b) d) ≡ false
        set_already =
            sym (sym (ap is_unset (role b used ok.board d) ∙ unset_at (get_or b.shares d None) (get_or b.lanes d [])))
            ∙ (passes (is_unset_at b.shares b.lanes d) 8 _ (sym good)).0

        -- there is a serial for it
        serial_low : ltb (backlog_at s d).serial (10 ^ 18) ≡ true
        serial_low =
            let one = (passes (is_unset_at b.shares b.lanes d) 8 _ (sym good)).1 in
            let two = (passes (ltb 7 bank) 9 _ one).1 in
            let three = (passes (ltb row 1 || ltb 65535 row) 10 _ two).1 in
            lt-ltb (backlog_at s d).serial (10 ^ 18) (leb-false (10 ^ 18) (backlog_at s d).serial (passes (leb (10 ^ 18) (backlog_at s d).serial) 11 _ three).0)

        -- and room in the queue, if the domain is protected
        queue_low : None ≡ turn_at b s d → ltb (length (backlog_at s d).queue) 16 ≡ true
        queue_low e =
            let one = (passes (is_unset_at b.shares b.lanes d) 8 _ (sym good)).1 in
            let two = (passes (ltb 7 bank) 9 _ one).1 in
            let three = (passes (ltb row 1 || ltb 65535 row) 10 _ two).1 in
            let four = (passes (leb (10 ^ 18) (backlog_at s d).serial) 11 _ three).1 in
            let side : queue_checks b s d bank kind ≡ None = ap (side_checks b s d bank kind) e ∙ four in
            let five = (passes (not (any (lane_serves bank kind) (get_or b.lanes d []))) 12 _ side).1 in
            let few = ltb-false 15 (length (backlog_at s d).queue) (passes (ltb 15 (length (backlog_at s d).queue)) 13 None five).0 in
            lt-ltb (length (backlog_at s d).queue) 16 (omega (arith, few))

        joins : None ≡ turn_at b s d → with_backlog (joined bank kind row) d s ≡ with_backlog (queued bank kind row) d s
        joins e =
            ap (λ (l : List BacklogView). record { backlogs = l; payloads = s.payloads })
            (changed_at (joined bank kind row) (queued bank kind row) s.backlogs d no_backlog
            (ap (λ u. cond (u && ltb (backlog_at s d).serial (10 ^ 18)) (queued bank kind row (backlog_at s d)) (backlog_at s d)) (queue_low e)
            ∙ ap (λ u. cond u (queued bank kind row (backlog_at s d)) (backlog_at s d)) serial_low))

        counts_on : (v : StoreView) → v.backlogs ≡ s.backlogs → with_backlog numbered d v ≡ with_backlog counted d v
        counts_on v same =
            ap (λ (l : List BacklogView). record { backlogs = l; payloads = v.payloads })
            (changed_at numbered counted v.backlogs d no_backlog
            (ap (λ u. cond u (counted (get_or v.backlogs d no_backlog)) (get_or v.backlogs d no_backlog)) (ap (λ (l : List BacklogView). ltb (get_or l d no_backlog).serial (10 ^ 18)) same ∙ serial_low)))

        queued_running : (o : Option ℕ) (ls : List LaneView) → get_or b.lanes d [] ≡ ls → None ≡ turn_of d (backlog_at s d).serial o → is_unset (role_at o ls) ≡ false
            → running_of t c b (with_backlog (queued bank kind row) d s) ≡ submitted m (running_of t c b s) d bank kind row (role_at o ls)
        unfolding submitted
        queued_running (Some n) ls f e u = let z : ◌≡◌ {A = ℕ} 0 1 = (cc) in absurd (omega arith)
        queued_running None [] f e u = let z : ◌≡◌ {A = ℕ} 0 1 = (cc) in absurd (omega arith)
        queued_running None (l ∷ ls) f e u = enqueued_is t c b s d bank kind row (let low = low_lanes d l ls f in omega (arith, low, ok.backlogs))

        pub joined_after : (s' : StoreView) → None ≡ turn_at b s d → s' ≡ with_backlog (joined bank kind row) d s
            → state_of g (settings_of b) (running_of t c b s') ≡ (outcome m (state_of g (settings_of b) (running_of t c b s)) (calls.submit d bank kind row)).after
        joined_after s' e is =
            ap (λ h. state_of h (settings_of b) (running_of t c b s')) begun
            ∙ ap (λ (y : StoreView). running (settings_of b) (running_of t c b y)) (is ∙ joins e)
            ∙ accepted_after _ (queued_running (get_or b.shares d None) (get_or b.lanes d []) refl e (ap is_unset (sym (role b used ok.board d)) ∙ set_already)
            ∙ ap (submitted m (running_of t c b s) d bank kind row) (sym (role b used ok.board d)))

        sent : (o : Option ℕ) (slot : ℕ) (c' : List ℕ) → get_or b.shares d None ≡ o → Some slot ≡ turn_of d (backlog_at s d).serial o
            → c' ≡ after m (Call.take (record { slot = slot; domain = d; bank = bank; kind = kind })) c
            → running_of t c' (with_slot slot (held bank kind) b) (with_backlog counted d (with_payload slot (real row (backlog_at s d).serial) s)) ≡ submitted m (running_of t c b s) d bank kind row (role_at o (get_or b.lanes d []))
        unfolding submitted serial_at
        sent None slot c' f e took = let z : ◌≡◌ {A = ℕ} 0 1 = (cc) in absurd (omega arith)
        sent (Some n) slot c' f e took =
            let at : slot ≡ slot_in_turn d n (backlog_at s d).serial = (cc) in
            let low = low_share d n f in
            let bound = ok.shares d n f in
            let part : (backlog_at s d).serial % n < n = mod-lt (backlog_at s d).serial (omega (arith, bound.0)) in
            let lt : slot < 512 = omega (arith, at, low, part, bound.1) in
            let dom : slot / 64 ≡ d = ap (λ k. k / 64) at ∙ turn_slot d n (backlog_at s d).serial bound in
            taken_is m t c c' b s d slot n bank kind (real row (backlog_at s d).serial) (omega (arith, low, ok.backlogs)) (omega (arith, lt, ok.slots)) (omega (arith, lt, ok.payloads)) (ap (λ k. get_or b.shares k None) dom ∙ f) took
            ∙ ap (taken_open m (running_of t c b s) d bank kind (real row (backlog_at s d).serial)) at

        pub sent_after : (slot : ℕ) (c' : List ℕ) (b' : BoardView) (s' s'' : StoreView) (i : ℕ) → i ≡ (backlog_at s d).serial → Some slot ≡ turn_at b s d
            → b' ≡ with_slot slot (held bank kind) b → c' ≡ after m (Call.take (record { slot = slot; domain = d; bank = bank; kind = kind })) c
            → s' ≡ with_payload slot (real row i) s → s'' ≡ with_backlog numbered d s'
            → state_of g (settings_of b') (running_of t c' b' s'') ≡ (outcome m (state_of g (settings_of b) (running_of t c b s)) (calls.submit d bank kind row)).after
        sent_after slot c' b' s' s'' i at turn holds took carries counts =
            let stored : s'' ≡ with_backlog counted d (with_payload slot (real row (backlog_at s d).serial) s) =
            counts ∙ ap (with_backlog numbered d) (carries ∙ ap (λ j. with_payload slot (real row j) s) at) ∙ counts_on (with_payload slot (real row (backlog_at s d).serial) s) refl in
            ap (λ h. state_of h (settings_of b') (running_of t c' b' s'')) begun
            ∙ ap (λ (y : BoardView). running (settings_of y) (running_of t c' y s'')) holds
            ∙ ap (λ (y : StoreView). running (settings_of b) (running_of t c' (with_slot slot (held bank kind) b) y)) stored
            ∙ accepted_after _ (sent (get_or b.shares d None) slot c' refl turn took ∙ ap (submitted m (running_of t c b s) d bank kind row) (sym (role b used ok.board d)))
