-- The controller refuses nothing, and no number grows beyond its limit.
use Rattle.std.proofs.Common.{◌≡◌, ℕ, suc, ◌<◌, ◌≤◌, Bool, true, false, cond, not, ◌||◌, eqb, ltb, leb, List, [], ◌∷◌, length, Some, None, Option, sym, refl, ap, subst, arith}
use Rattle.std.proofs.lemmas.Bool.{true≢false, ltb-false, leb-false}
use Rattle.std.specs.List.{AllByRecursion}
use Rattle.interface.specs.Lawful.{Lawful}
use Rattle.interface.specs.Meaning.{Meaning, any, check, is_empty}
use Rattle.interface.specs.declared.Kind.{Kind}
use Rattle.patterns.specs.Shape.{shape_checks, vertex_count, high_bank, bad_edges}
use Rattle.patterns.specs.declared.setting.EdgeSetting.{EdgeSetting}
use Rattle.patterns.specs.declared.setting.VertexSetting.{VertexSetting}
use Rattle.model.specs.Calls.{Setting, opens, lane, first, Call, sets, begins, submit, ticks, refused, good, Running, State, setting, running, new, next_tick, limit, settled, too_many, setting_refusal, started, serves, slot_in_turn, role_refusal, submit_refusal, enqueued, taken_open, submitted, tick_refusal, ticked, Outcome, unless, submit_outcome, tick_outcome, outcome}
use Rattle.model.specs.Settings.{Role, unset, opened, protected, Settings, role_of, is_unset, is_opened, patterns_of, vertices}
use Rattle.model.specs.Ticks.{put, is_still}
use Rattle.run_laws.specs.Laws.{NeverRefused, SmallReply, SmallEntry, LimitsOf}
use Rattle.run_laws.specs.Runs.{trace, run, accepts}
use Rattle.run_laws.proofs.Always.{Good, good_step, good_all, new_fits}
use Rattle.run_laws.proofs.Counts.{few}
use Rattle.run_laws.proofs.Holding.{Controller}
use Rattle.run_laws.proofs.Invariant.{taking}
use Rattle.run_laws.proofs.Room.{room_for_tick, held_fits}
use Rattle.run_laws.proofs.Sound.{check_none}
use Rattle.run_laws.proofs.Submits.{open_taken, low_bank, free_slot}

-- ---- refusals

record Known (o : Option ℕ) : Type 0 where
  range : (k : ℕ) → o ≡ Some k → (1 ≤ k) × (k ≤ 16)

accepted : Known None
accepted = record { range = λ k e. absurd (let z : ◌≡◌ {A = ℕ} 0 1 = cc in omega arith) }

known_check : (t : Bool) (k : ℕ) (o : Option ℕ) → (1 ≤ k) × (k ≤ 16) → Known o → Known (check t k o)
known_check true k o h i = record { range = λ j e. let same : k ≡ j = cc in subst (λ z. (1 ≤ z) × (z ≤ 16)) same h }
known_check false k o h i = i

known_shape : (vs : List VertexSetting) (es : List EdgeSetting) (rest : ℕ) (o : Option ℕ) → Known o → Known (shape_checks vs es rest o)
known_shape vs es rest o h =
    known_check (not (vertex_count (length vs))) 4 _ (omega arith, omega arith)
    (known_check (any high_bank vs) 5 _ (omega arith, omega arith)
    (known_check (bad_edges (length vs) [] es || ltb 1000 rest) 6 o (omega arith, omega arith) h))

known_setting : (places : ℕ) (c : Settings) (s : Setting) → Known (setting_refusal places c s)
unfolding setting_refusal
known_setting places c (opens d n) =
    known_check (ltb 7 d || not (is_unset (role_of c d))) 2 _ (omega arith, omega arith)
    (known_check (ltb n 1 || ltb 16 n) 3 _ (omega arith, omega arith)
    (known_check (too_many places (settled c (opens d n))) 7 None (omega arith, omega arith) accepted))
known_setting places c (lane d vs es rest) =
    known_check (ltb 7 d || is_opened (role_of c d)) 2 _ (omega arith, omega arith)
    (known_check (ltb 7 (length (patterns_of (role_of c d)))) 4 _ (omega arith, omega arith)
    (known_shape vs es rest _ (known_check (too_many places (settled c (lane d vs es rest))) 7 None (omega arith, omega arith) accepted)))
known_setting places c (first n) = known_check (ltb limit n) 16 None (omega arith, omega arith) accepted

known_role : (c : Settings) (x : Running) (d b : ℕ) (k : Kind) (q : Role) → Known (role_refusal c x d b k q)
unfolding role_refusal
known_role c x d b k unset = accepted
known_role c x d b k (opened n) = known_check (not (is_still (x.tables.stage (slot_in_turn d n (x.serial d))))) 14 None (omega arith, omega arith) accepted
known_role c x d b k (protected ps) =
    known_check (not (serves d b k (vertices c))) 12 _ (omega arith, omega arith)
    (known_check (ltb 15 (length (x.tables.queue d))) 13 None (omega arith, omega arith) accepted)

known_submit : (c : Settings) (x : Running) (d b : ℕ) (k : Kind) (row : ℕ) → Known (submit_refusal c x d b k row)
unfolding submit_refusal
known_submit c x d b k row =
    known_check (is_unset (role_of c d)) 8 _ (omega arith, omega arith)
    (known_check (ltb 7 b) 9 _ (omega arith, omega arith)
    (known_check (ltb row 1 || ltb 65535 row) 10 _ (omega arith, omega arith)
    (known_check (leb limit (x.serial d)) 11 _ (omega arith, omega arith) (known_role c x d b k (role_of c d)))))

known_tick : (x : Running) (l n : ℕ) → Known (tick_refusal x l n)
unfolding tick_refusal
known_tick x l n = known_check (ltb l 96 || ltb n 32) 15 _ (omega arith, omega arith) (known_check (leb limit x.tick) 16 None (omega arith, omega arith) accepted)

by_known : (P : Outcome → Type 0) (o : Option ℕ) (w : State) (t : Outcome) → Known o → ((k : ℕ) → (1 ≤ k) × (k ≤ 16) → P (record { after = w; reply = refused k; bus = [] })) → (o ≡ None → P t) → P (unless o w t)
by_known P None w t h f g = g refl
by_known P (Some k) w t h f g = f k (h.range k refl)

-- ---- numbers

abbrev Small : State → Type 0
Small (setting c s) = c.first ≤ limit
Small (running c x) = (x.tick ≤ limit) × ((d : ℕ) → x.serial d ≤ limit)

-- an outcome that finds the next tick n
abbrev Fine : ℕ → Outcome → Type 0
Fine n u = SmallReply u.reply × (accepts n n u.reply ≡ true → n < limit) × Small u.after

settled_small : (c : Settings) (s : Setting) (places : ℕ) → c.first ≤ limit → setting_refusal places c s ≡ None → (settled c s).first ≤ limit
unfolding settled setting_refusal
settled_small c (opens d n) places h e = h
settled_small c (lane d vs es rest) places h e = h
settled_small c (first n) places h e = ltb-false limit n (check_none (ltb limit n) 16 None e).0

serial_below : (c : Settings) (x : Running) (d b : ℕ) (k : Kind) (row : ℕ) → submit_refusal c x d b k row ≡ None → x.serial d < limit
unfolding submit_refusal
serial_below c x d b k row e =
    let one = (check_none (is_unset (role_of c d)) 8 _ e).1 in
    let two = (check_none (ltb 7 b) 9 _ one).1 in
    let three = (check_none (ltb row 1 || ltb 65535 row) 10 _ two).1 in
    leb-false limit (x.serial d) (check_none (leb limit (x.serial d)) 11 _ three).0

tick_below : (x : Running) (l n : ℕ) → tick_refusal x l n ≡ None → x.tick < limit
unfolding tick_refusal
tick_below x l n e = leb-false limit x.tick (check_none (leb limit x.tick) 16 None (check_none (ltb l 96 || ltb n 32) 15 _ e).1).0

put_small : (f : ℕ → ℕ) (d : ℕ) → f d < limit → ((e : ℕ) → f e ≤ limit) → (e : ℕ) → put f d (suc (f d)) e ≤ limit
put_small f d h g e = go (eqb e d)
  where
    go : (t : Bool) → cond t (suc (f d)) (f e) ≤ limit
    go true = omega arith
    go false = g e

submitted_small : (m : Meaning (List ℕ)) (x : Running) (d b : ℕ) (k : Kind) (row : ℕ) (q : Role) → x.serial d < limit → (x.tick ≤ limit) × ((d : ℕ) → x.serial d ≤ limit)
    → ((submitted m x d b k row q).tick ≤ limit) × ((e : ℕ) → (submitted m x d b k row q).serial e ≤ limit)
unfolding submitted taken_open enqueued
submitted_small m x d b k row unset h s = s
submitted_small m x d b k row (opened n) h s = (s.0, put_small x.serial d h s.1)
submitted_small m x d b k row (protected ps) h s = (s.0, put_small x.serial d h s.1)

no_tick : (n : ℕ) → false ≡ true → n < limit
no_tick n e = absurd (true≢false (sym e))

module _ (r : Controller) (laws : Lawful r.meaning) where
  fine_one : (w : State) (a : Call) → Good r laws w → Small w → Fine (next_tick w) (outcome r.meaning w a)
  unfolding outcome started ticked
  fine_one (setting c s) (sets z) g h = by_known (Fine c.first) (setting_refusal (r.meaning.places s) c z) (setting c s) (record { after = setting (settled c z) s; reply = good; bus = [] }) (known_setting (r.meaning.places s) c z)
      (λ k i. (i, no_tick c.first, h)) (λ e. (tt, no_tick c.first, settled_small c z (r.meaning.places s) h e))
  fine_one (setting c s) begins g h = (tt, no_tick c.first, (h, λ d. omega arith))
  fine_one (setting c s) (submit d b k row) g h = ((omega arith, omega arith), no_tick c.first, h)
  fine_one (setting c s) (ticks l n) g h = ((omega arith, omega arith), no_tick c.first, h)
  fine_one (running c x) (sets z) g h = ((omega arith, omega arith), no_tick x.tick, h)
  fine_one (running c x) begins g h = ((omega arith, omega arith), no_tick x.tick, h)
  fine_one (running c x) (submit d b k row) g h = by_known (Fine x.tick) (submit_refusal c x d b k row) (running c x) (submit_outcome r.meaning c x d b k row) (known_submit c x d b k row)
      (λ j i. (i, no_tick x.tick, h)) (λ e. let low = serial_below c x d b k row e in (low, no_tick x.tick, submitted_small r.meaning x d b k row (role_of c d) low h))
  fine_one (running c x) (ticks l n) g h = by_known (Fine x.tick) (tick_refusal x l n) (running c x) (tick_outcome r.meaning c x) (known_tick x l n)
      (λ j i. (i, no_tick x.tick, h))
      (λ e. let low = tick_below x l n e in
      (few r laws c g.0.sound x g.1 (held_fits r laws c x g.1 g.0.fit g.2) (room_for_tick r laws c g.0.sound x g.1 g.0.fit g.2), (λ z. low), (low, h.1)))

  small : (cs : List Call) (w : State) → Good r laws w → Small w → AllByRecursion SmallEntry (trace r.meaning w cs)
  unfolding trace
  small [] w g h = tt
  small (a ∷ cs) w g h = let f = fine_one w a g h in (record { tick = next_small w h; accepted = f.1; reply = f.0 }, small cs (outcome r.meaning w a).after (good_step r laws w a g) f.2)
    where
      next_small : (w : State) → Small w → next_tick w ≤ limit
      next_small (setting c s) h = h
      next_small (running c x) h = h.0

  never : (c : Settings) (x : Running) → Good r laws (running c x) → NeverRefused r.meaning c x
  never c x g = record {
    step = ap (λ es. check (not (is_empty es)) 20 None) g.1.quiet;
    takes = (taking r laws c g.0.sound x g.1 (room_for_tick r laws c g.0.sound x g.1 g.0.fit g.2)).takes;
    open_take = λ d bank kind row share is e. open_taken r laws c g.0.sound g.0.eight g.0.fit x d bank kind row share g.1 g.2 is
        (low_bank r laws c g.0.sound g.0.eight g.0.fit x d bank kind row e g.1 g.2) (free_slot r laws c g.0.sound g.0.eight g.0.fit x d bank kind row e g.1 g.2 share is);
  }

pub limits : (m : Meaning (List ℕ)) → Lawful m → LimitsOf m
unfolding run
limits m laws b cs =
    (small r laws cs (new m b) (new_fits r laws, refl) (omega arith), λ c x e. never r laws c x (subst (Good r laws) e (good_all r laws cs (new m b) (new_fits r laws, refl))))
  where
    r : Controller
    r = record { meaning = m; origin = b }
