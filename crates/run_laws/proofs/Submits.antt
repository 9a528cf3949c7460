-- What every submit keeps.
use Rattle.std.proofs.Common.{◌≡◌, ℕ, zero, suc, ◌+◌, ◌*◌, ◌%◌, ◌<◌, ◌≤◌, Bool, true, false, cond, not, ◌||◌, eqb, ltb, leb, ◌⊎◌, List, [], ◌∷◌, length, get_or, None, sym, refl, ap, ◌∙◌, subst, inl, inr, arith}
use Rattle.std.proofs.lemmas.Bool.{eqb-true, eqb-false, eq-eqb, ne_eqb, true≢false, ltb-false, not-false, or_left, or_right, cases_eq}
use Rattle.std.specs.List.{AllByRecursion}
use Rattle.interface.proofs.Bools.{or_right as or_none}
use Rattle.interface.specs.Lawful.{Lawful}
use Rattle.interface.specs.Meaning.{Call, after, take_refusal}
use Rattle.interface.specs.declared.Kind.{Kind}
use Rattle.model.specs.Calls.{Running, enqueued, limit, role_refusal, slot_in_turn, submit_refusal, submitted, taken_open}
use Rattle.model.specs.Settings.{is_unset, Role, Settings, Vertex, all_slots, domain_of, is_open, is_opened, lane_vertices, open_slots, opened, pattern_at, protected, role_of, share_of, slots_from, slots_of, unset}
use Rattle.model.specs.Ticks.{Stage, done, done_tick, flying, is_still, put, still}
use Rattle.model.specs.Payloads.{real}
use Rattle.run_laws.proofs.Departures.{is_flying, size}
use Rattle.run_laws.proofs.Holding.{holds, Controller, left, span, places, take_none, Taken, taken}
use Rattle.run_laws.proofs.Invariant.{slot_at, Inv, fine_left, last_cong, slot_closed}
use Rattle.run_laws.proofs.Room.{has, has_append, Within, room_for_one}
use Rattle.run_laws.proofs.Sound.{Sound, Small, role_small, check_none}

slots_from_has : (a n i : ℕ) → i < n → has (a + i) (slots_from a n) ≡ true
unfolding slots_from
slots_from_has a zero i h = absurd (omega arith)
slots_from_has a (suc n) zero h = or_left (eqb a (a + 0)) _ (eq-eqb a (a + 0) (omega arith))
slots_from_has a (suc n) (suc i) h = let e : suc a + i ≡ a + suc i = omega arith in or_right (eqb a (a + suc i)) _ (subst (λ z. has z (slots_from (suc a) n) ≡ true) e (slots_from_has (suc a) n i (omega arith)))

open_has : (c : Settings) (e i n : ℕ) → e < n → i < share_of (role_of c e) → has (e * 64 + i) (open_slots c n) ≡ true
unfolding open_slots
open_has c e i zero h k = absurd (omega arith)
open_has c e i (suc n) h k = has_append (e * 64 + i) (open_slots c n) (slots_from (n * 64) (share_of (role_of c n))) ∙ go (cases_eq e n) (λ l. open_has c e i n l k)
  where
    go : (e ≡ n) ⊎ (e ≡ n → ⊥) → (e < n → has (e * 64 + i) (open_slots c n) ≡ true) → (has (e * 64 + i) (open_slots c n) || has (e * 64 + i) (slots_from (n * 64) (share_of (role_of c n)))) ≡ true
    go (inl z) less = or_right (has (e * 64 + i) (open_slots c n)) _ (subst (λ y. has (e * 64 + i) (slots_from (y * 64) (share_of (role_of c y))) ≡ true) z (slots_from_has (e * 64) (share_of (role_of c e)) i k))
    go (inr ne) less = or_left (has (e * 64 + i) (open_slots c n)) (has (e * 64 + i) (slots_from (n * 64) (share_of (role_of c n)))) (less (omega (arith, ne)))

set_low : (ps : List Role) (e share : ℕ) → get_or ps e unset ≡ opened share → e < length ps
set_low [] e share z = absurd (true≢false (sym (ap is_opened z)))
set_low (p ∷ ps) zero share z = omega arith
set_low (p ∷ ps) (suc e) share z = let k = set_low ps e share z in omega arith

still_not : (x : Stage) → is_still x ≡ true → (is_flying x ≡ false) × (done_tick x ≡ None)
still_not still e = (refl, refl)
still_not (flying b k c) e = absurd (true≢false (sym e))
still_not (done m) e = absurd (true≢false (sym e))

module _ (r : Controller) (laws : Lawful r.meaning) (c : Settings) (sound : Sound c) (eight : length c.roles ≡ 8) (fit : length (all_slots c) ≤ places r) where
  keep_queue : (x : Running) (e b : ℕ) (k : Kind) (row : ℕ) → Inv r c x → Inv r c (enqueued x e b k row)
  unfolding enqueued
  keep_queue x e b k row inv = record { reached = inv.reached; quiet = inv.quiet; held_is = inv.held_is; lanes = inv.lanes; unfinished = inv.unfinished; starts = inv.starts }

  module _ (x : Running) (e b : ℕ) (k : Kind) (row share : ℕ) (inv : Inv r c x) (win : Within r laws c x) (is : role_of c e ≡ opened share) (low_bank : b ≤ 7) (free : is_still (x.tables.stage (slot_in_turn e share (x.serial e))) ≡ true) where
    slot : ℕ
    slot = slot_in_turn e share (x.serial e)

    low : e < 8
    low = let h = set_low c.roles e share is in omega arith

    fair : (1 ≤ share) × (share ≤ 16)
    fair = (subst Small is (role_small c e sound)).2

    within_share : x.serial e % share < share
    within_share = let h = fair.0 in omega arith

    slot_has : has (slot_in_turn e share (x.serial e)) (all_slots c) ≡ true
    unfolding all_slots
    slot_has = has_append (slot_in_turn e share (x.serial e)) (slots_of _) (open_slots c 8) ∙ or_right _ _ (open_has c e (x.serial e % share) 8 low (rw is within_share))

    unheld : holds (slot_in_turn e share (x.serial e)) (r.meaning.held x.controller) ≡ false
    unheld = inv.held_is (slot_in_turn e share (x.serial e)) ∙ (still_not _ free).0

    -- an open request is not refused by the controller
    pub open_taken : take_refusal r.meaning x.controller (record { slot = slot_in_turn e share (x.serial e); domain = e; bank = b; kind = k }) ≡ None
    open_taken = take_none r laws x.controller (record { slot = slot_in_turn e share (x.serial e); domain = e; bank = b; kind = k }) inv.reached
        (let h = fair.1 in let l = low in let w = within_share in omega arith) (let l = low in omega arith) low_bank unheld
        (room_for_one r laws c x inv fit win (slot_in_turn e share (x.serial e)) (still_not _ free).0 slot_has)

    one : Taken r laws x.controller (after r.meaning (Call.take (record { slot = slot_in_turn e share (x.serial e); domain = e; bank = b; kind = k })) x.controller) (slot_in_turn e share (x.serial e))
    one = taken r laws x.controller (record { slot = slot_in_turn e share (x.serial e); domain = e; bank = b; kind = k }) inv.reached unheld open_taken

    pub open_left : (t : ℕ) → is_flying (x.tables.stage t) ≡ true → left r (after r.meaning (Call.take (record { slot = slot_in_turn e share (x.serial e); domain = e; bank = b; kind = k })) x.controller) t ≡ left r x.controller t
    open_left t f = one.lefts t (inv.held_is t ∙ f)

    -- an open slot is no vertex's
    pub elsewhere : (ℓ i : ℕ) → i < size c ℓ → eqb (slot_at ℓ i) (slot_in_turn e share (x.serial e)) ≡ false
    elsewhere ℓ i h = ne_eqb (slot_at ℓ i) (slot_in_turn e share (x.serial e)) (λ z.
        let w = within_share in let f = fair.1 in
        let here : domain_of (slot_in_turn e share (x.serial e)) ≡ e = omega arith in
        true≢false (sym (ap is_opened is) ∙ ap (is_open c) (sym here ∙ ap domain_of (sym z)) ∙ slot_closed r laws c sound ℓ i h))

    keep_open : Inv r c (taken_open r.meaning x e b k (real row (x.serial e)) (slot_in_turn e share (x.serial e)))
    unfolding taken_open
    keep_open = record {
      reached = one.again;
      quiet = one.quiet ∙ inv.quiet;
      held_is = λ t. one.keeps t ∙ ap (λ z. z || eqb (slot_in_turn e share (x.serial e)) t) (inv.held_is t) ∙ held t (eqb t (slot_in_turn e share (x.serial e))) refl;
      lanes = λ ℓ hℓ i h. rw (elsewhere ℓ i h) (fine_left (span r) (x.tables.start ℓ) (pattern_at c ℓ).edges x.tick i (left r x.controller (slot_at ℓ i)) _ (x.tables.stage (slot_at ℓ i)) (open_left (slot_at ℓ i)) (inv.lanes ℓ hℓ i h));
      unfinished = λ ℓ hℓ. last_cong x.tables.stage _ (lane_vertices c ℓ) (every (lane_vertices c ℓ)) ∙ inv.unfinished ℓ hℓ;
      starts = inv.starts;
    }
      where
        held : (t : ℕ) (y : Bool) → eqb t (slot_in_turn e share (x.serial e)) ≡ y → (is_flying (x.tables.stage t) || eqb (slot_in_turn e share (x.serial e)) t) ≡ is_flying (cond y (flying b k (real row (x.serial e))) (x.tables.stage t))
        held t true z = or_right (is_flying (x.tables.stage t)) _ (eq-eqb (slot_in_turn e share (x.serial e)) t (sym (eqb-true t _ z)))
        held t false z = rw (ne_eqb (slot_in_turn e share (x.serial e)) t (λ w. eqb-false t _ z (sym w))) (or_none (is_flying (x.tables.stage t)))

        same_done : (t : ℕ) (y : Bool) → eqb t (slot_in_turn e share (x.serial e)) ≡ y → done_tick (cond y (flying b k (real row (x.serial e))) (x.tables.stage t)) ≡ done_tick (x.tables.stage t)
        same_done t true z = sym (ap (λ q. done_tick (x.tables.stage q)) (eqb-true t _ z) ∙ (still_not _ free).1)
        same_done t false z = refl

        every : (vs : List Vertex) → AllByRecursion (λ v. done_tick (put x.tables.stage (slot_in_turn e share (x.serial e)) (flying b k (real row (x.serial e))) v.slot) ≡ done_tick (x.tables.stage v.slot)) vs
        every [] = tt
        every (v ∷ vs) = (same_done v.slot _ refl, every vs)

    within_open : Within r laws c (taken_open r.meaning x e b k (real row (x.serial e)) (slot_in_turn e share (x.serial e)))
    unfolding taken_open
    within_open t = go (eqb t (slot_in_turn e share (x.serial e))) refl
      where
        go : (y : Bool) → eqb t (slot_in_turn e share (x.serial e)) ≡ y → is_flying (cond y (flying b k (real row (x.serial e))) (x.tables.stage t)) ≡ true → has t (all_slots c) ≡ true
        go true z f = subst (λ q. has q (all_slots c) ≡ true) (sym (eqb-true t _ z)) slot_has
        go false z f = win t f

  -- the facts that a submit was not refused gives
  module _ (x : Running) (e b : ℕ) (k : Kind) (row : ℕ) (ok : submit_refusal c x e b k row ≡ None) (inv : Inv r c x) (win : Within r laws c x) where
    pub low_bank : b ≤ 7
    unfolding submit_refusal
    low_bank = ltb-false 7 b (check_none _ _ _ (check_none (is_unset (role_of c e)) 8 _ ok).1).0

    pub role_ok : role_refusal c x e b k (role_of c e) ≡ None
    unfolding submit_refusal
    role_ok =
        let one = (check_none (is_unset (role_of c e)) 8 _ ok).1 in
        let two = (check_none (ltb 7 b) 9 _ one).1 in
        let three = (check_none (ltb row 1 || ltb 65535 row) 10 _ two).1 in
        (check_none (leb limit (x.serial e)) 11 _ three).1

    pub free_slot : (share : ℕ) → role_of c e ≡ opened share → is_still (x.tables.stage (slot_in_turn e share (x.serial e))) ≡ true
    unfolding role_refusal
    free_slot share is = not-false _ (check_none (not (is_still (x.tables.stage (slot_in_turn e share (x.serial e))))) 14 None (subst (λ q. role_refusal c x e b k q ≡ None) is role_ok)).0

    pub submit_keeps : Inv r c (submitted r.meaning x e b k row (role_of c e)) × Within r laws c (submitted r.meaning x e b k row (role_of c e))
    unfolding submitted enqueued
    submit_keeps = go (role_of c e) refl
      where
        go : (q : Role) → role_of c e ≡ q → Inv r c (submitted r.meaning x e b k row q) × Within r laws c (submitted r.meaning x e b k row q)
        go unset z = (inv, win)
        go (opened share) z = (keep_open x e b k row share inv win z low_bank (free_slot share z), within_open x e b k row share inv win z low_bank (free_slot share z))
        go (protected patterns) z = (keep_queue x e b k row inv, win)

    pub submit_left : (t : ℕ) → is_flying (x.tables.stage t) ≡ true → left r (submitted r.meaning x e b k row (role_of c e)).controller t ≡ left r x.controller t
    unfolding submitted enqueued taken_open
    submit_left t f = go (role_of c e) refl
      where
        go : (q : Role) → role_of c e ≡ q → left r (submitted r.meaning x e b k row q).controller t ≡ left r x.controller t
        go unset z = refl
        go (opened share) z = open_left x e b k row share inv win z low_bank (free_slot share z) t f
        go (protected patterns) z = refl
