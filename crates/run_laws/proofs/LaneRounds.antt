-- A lane and its T and D ticks so far: what a tick keeps, and when vertices have left.
use Rattle.std.proofs.Common.{◌≡◌, ℕ, zero, suc, ◌+◌, ◌*◌, ◌<◌, ◌≤◌, Bool, true, false, cond, ◌&&◌, leb, List, [], ◌∷◌, ◌++◌, length, Some, None, Option, sym, refl, ap, ◌∙◌, subst, inl, inr, mul-le-mul_right, arith}
use Rattle.std.proofs.lemmas.List.{length-append}
use Rattle.std.proofs.lemmas.Bool.{cases_eq, true≢false, and_parts, leb-true, leb-false, lt-ltb, le-ltb}
use Rattle.std.specs.Option.{option_map}
use Rattle.std.specs.List.{AllByRecursion}
use Rattle.interface.specs.declared.Kind.TheVariants.{Read}
use Rattle.patterns.specs.Due.{due, round_end, next_start, longest_round}
use Rattle.patterns.specs.declared.edge.Edge.{Edge}
use Rattle.model.specs.Settings.{Pattern}
use Rattle.model.specs.Ticks.{Stage, still, flying, done, done_tick, is_still, is_due, finished, renewed}
use Rattle.model.specs.Payloads.{fake}
use Rattle.run_laws.specs.Departures.{nth, round_start, due_when, due_in_round, before, Departs}
use Rattle.run_laws.proofs.Departures.{is_flying}
use Rattle.run_laws.proofs.Rounds.{nth_append, nth_past, nth_last, nth_length, some_injective, Late, due_agree, due_new, end_agree, end_none, due_blank, start_stays, round_stays}

-- a list that grows keeps what it has
abbrev More : (xs ys : ℕ → List ℕ) → Type 0
More xs ys = (u r x : ℕ) → nth (xs u) r ≡ Some x → nth (ys u) r ≡ Some x

-- with n at the end, or not
abbrev pub maybe : Bool → ℕ → List ℕ
maybe t n = cond t (n ∷ []) []

nth_new : (xs : List ℕ) (t : Bool) (n r x : ℕ) → nth xs r ≡ None → nth (xs ++ maybe t n) r ≡ Some x → x ≡ n
nth_new [] true n zero x e f = some_injective x n (sym f)
nth_new [] true n (suc r) x e f = let z : ◌≡◌ {A = ℕ} 0 1 = cc in absurd (omega arith)
nth_new [] false n r x e f = let z : ◌≡◌ {A = ℕ} 0 1 = cc in absurd (omega arith)
nth_new (y ∷ xs) t n zero x e f = let z : ◌≡◌ {A = ℕ} 0 1 = cc in absurd (omega arith)
nth_new (y ∷ xs) t n (suc r) x e f = nth_new xs t n r x e f

length_more : (xs : List ℕ) (n : ℕ) → length (xs ++ (n ∷ [])) ≡ suc (length xs)
length_more xs n = simp length-append (omega arith)

length_same : (xs : List ℕ) → length (xs ++ []) ≡ length xs
length_same xs = simp length-append (omega arith)

-- the first tick, the span, and the lane's pattern
module _ (first span : ℕ) (p : Pattern) (order : AllByRecursion (λ (e : Edge). e.source < e.target) p.edges) where
  abbrev pub size_of : ℕ
  size_of = length p.spots

  abbrev pub R : ℕ
  R = longest_round span (length p.spots) p.edges p.rest

  -- before tick N, vertex i is done with round r
  pub record Over (N : ℕ) (tk dn : ℕ → List ℕ) (r i : ℕ) : Type 0 where
    pub left_at : ℕ
    pub done_at : ℕ
    pub take_is : nth (tk i) r ≡ Some left_at
    pub done_is : nth (dn i) r ≡ Some done_at
    pub due_is : due_in_round first p dn r i ≡ Some left_at
    pub after : left_at < done_at
    pub soon : done_at ≤ left_at + span
    pub gone : done_at < N

  -- before tick N, vertex i has left in round r, with l steps left
  pub record Out (N l : ℕ) (tk dn : ℕ → List ℕ) (r i : ℕ) : Type 0 where
    pub left_at : ℕ
    pub take_is : nth (tk i) r ≡ Some left_at
    pub due_is : due_in_round first p dn r i ≡ Some left_at
    pub past : left_at < N
    pub sure : N + l ≤ suc (left_at + span)
    pub some_left : 1 ≤ l

  over_more : (N M : ℕ) (tk uk dn en : ℕ → List ℕ) (r i : ℕ) → N ≤ M → More tk uk → More dn en → i < size_of → Over N tk dn r i → Over M uk en r i
  over_more N M tk uk dn en r i h a b k o = record {
    left_at = o.left_at;
    done_at = o.done_at;
    take_is = a i r o.left_at o.take_is;
    done_is = b i r o.done_at o.done_is;
    due_is = round_stays first p order dn en b r i o.left_at k o.due_is;
    after = o.after;
    soon = o.soon;
    gone = (let g = o.gone in omega arith);
  }

  -- how vertex i stands in round r before tick N, where no due tick has come before K
  abbrev pub Stands : ℕ → ℕ → ℕ → ℕ → (ℕ → List ℕ) → (ℕ → List ℕ) → ℕ → Stage → Type 0
  Stands N K r l tk dn i still = (length (tk i) ≡ r) × (length (dn i) ≡ r) × Late K (due_in_round first p dn r i)
  Stands N K r l tk dn i (flying b k c) = (length (tk i) ≡ suc r) × (length (dn i) ≡ r) × Out N l tk dn r i
  Stands N K r l tk dn i (done m) = (length (tk i) ≡ suc r) × (length (dn i) ≡ suc r) × Over N tk dn r i × (nth (dn i) r ≡ Some m)

  pub record LaneAt (N K start : ℕ) (stage : ℕ → Stage) (left : ℕ → ℕ) (tk dn : ℕ → List ℕ) : Type 0 where
    pub round : ℕ
    pub over : (r i : ℕ) → r < round → i < size_of → Over N tk dn r i
    pub now : (i : ℕ) → i < size_of → Stands N K round (left i) tk dn i (stage i)
    pub started : round_start first p dn round ≡ Some start
    pub bound : start ≤ first + round * R

  -- stages, steps left and T ticks matter at the vertices alone
  over_same : (N : ℕ) (tk uk dn : ℕ → List ℕ) (r i : ℕ) → uk i ≡ tk i → Over N tk dn r i → Over N uk dn r i
  over_same N tk uk dn r i f o = record { left_at = o.left_at; done_at = o.done_at; take_is = ap (λ xs. nth xs r) f ∙ o.take_is; done_is = o.done_is; due_is = o.due_is; after = o.after; soon = o.soon; gone = o.gone }

  stands_same : (N K r l k : ℕ) (tk uk dn : ℕ → List ℕ) (i : ℕ) (x : Stage) → (is_flying x ≡ true → k ≡ l) → uk i ≡ tk i → Stands N K r l tk dn i x → Stands N K r k uk dn i x
  stands_same N K r l k tk uk dn i still e f s = (ap length f ∙ s.0, s.1, s.2)
  stands_same N K r l k tk uk dn i (flying b y c) e f s =
      let o = s.2 in let same = e refl in let a = o.sure in let z = o.some_left in
      (ap length f ∙ s.0, s.1, record { left_at = o.left_at; take_is = ap (λ xs. nth xs r) f ∙ o.take_is; due_is = o.due_is; past = o.past; sure = omega arith; some_left = omega arith })
  stands_same N K r l k tk uk dn i (done m) e f s = (ap length f ∙ s.0, s.1, over_same N tk uk dn r i f s.2, s.3)

  pub lane_same : (N K start : ℕ) (stage stage' : ℕ → Stage) (left left' : ℕ → ℕ) (tk uk dn : ℕ → List ℕ)
      → ((i : ℕ) → i < size_of → stage' i ≡ stage i) → ((i : ℕ) → i < size_of → is_flying (stage i) ≡ true → left' i ≡ left i) → ((i : ℕ) → i < size_of → uk i ≡ tk i)
      → LaneAt N K start stage left tk dn → LaneAt N K start stage' left' uk dn
  lane_same N K start stage stage' left left' tk uk dn a b f lane = record {
    round = lane.round;
    over = λ r i h k. over_same N tk uk dn r i (f i k) (lane.over r i h k);
    now = λ i h. subst (Stands N K lane.round (left' i) uk dn i) (sym (a i h)) (stands_same N K lane.round (left i) (left' i) tk uk dn i (stage i) (b i h) (f i h) (lane.now i h));
    started = lane.started;
    bound = lane.bound;
  }

  -- the D ticks of the round are the Done ticks of the stages
  agrees : (N K r l : ℕ) (tk dn : ℕ → List ℕ) (i : ℕ) (x : Stage) → Stands N K r l tk dn i x → nth (dn i) r ≡ done_tick x
  agrees N K r l tk dn i still s = nth_past (dn i) r (let e = s.1 in omega arith)
  agrees N K r l tk dn i (flying b k c) s = nth_past (dn i) r (let e = s.1 in omega arith)
  agrees N K r l tk dn i (done m) s = s.3

  due_at : (start : ℕ) (dn : ℕ → List ℕ) (r i : ℕ) → round_start first p dn r ≡ Some start → due_in_round first p dn r i ≡ due start (λ u. nth (dn u) r) p.edges i
  due_at start dn r i e = ap (λ o. due_when o (λ u. nth (dn u) r) p.edges i) e

  -- ---- at the beginning

  pub begins : (left : ℕ → ℕ) → LaneAt first first first (λ i. still) left (λ i. []) (λ i. [])
  begins left = record {
    round = 0;
    over = λ r i h k. absurd (omega arith);
    now = λ i h. (refl, refl, due_blank (length p.spots) first first i (λ u. None) p.edges h order (λ u k. refl) (omega arith));
    started = refl;
    bound = omega arith;
  }

  -- ---- 1. events

  module _ (N start : ℕ) (stage : ℕ → Stage) (left : ℕ → ℕ) (tk dn : ℕ → List ℕ) (lane : LaneAt N N start stage left tk dn)
      (fin : ℕ → Bool) (left1 : ℕ → ℕ) (falls : (i : ℕ) → i < size_of → is_flying (stage i) ≡ true → fin i ≡ false → (left1 i < left i) × (1 ≤ left1 i)) where
    abbrev pub stage_1 : ℕ → Stage
    stage_1 i = cond (fin i) (finished false N (stage i)) (stage i)

    abbrev pub dones_1 : ℕ → List ℕ
    dones_1 i = dn i ++ maybe (fin i && is_flying (stage i)) N

    grown : More dn dones_1
    grown u r x e = nth_append (dn u) _ r x e

    same_takes : More tk tk
    same_takes u r x e = e

    start_1 : round_start first p dones_1 lane.round ≡ Some start
    start_1 = start_stays first p order dn dones_1 grown lane.round start lane.started

    late_1 : (i : ℕ) → i < size_of → Late N (due_in_round first p dn lane.round i) → Late N (due_in_round first p dones_1 lane.round i)
    late_1 i h late t e = due_new (length p.spots) (λ u. nth (dn u) lane.round) (λ u. nth (dones_1 u) lane.round) N start i p.edges h order
        (λ u k x z. grown u lane.round x z)
        (λ u k z x w. let same = nth_new (dn u) (fin u && is_flying (stage u)) N lane.round x z w in omega arith)
        (λ u w. late u (due_at start dn lane.round i lane.started ∙ w))
        t (sym (due_at start dones_1 lane.round i start_1) ∙ e)

    -- what the D ticks of a vertex become
    none_new : (i : ℕ) (t : Bool) → t ≡ false → length (dn i ++ maybe t N) ≡ length (dn i)
    none_new i t e = ap (λ y. length (dn i ++ maybe y N)) e ∙ length_same (dn i)

    and_not : (t : Bool) → (t && false) ≡ false
    and_not true = refl
    and_not false = refl

    stands_1 : (i : ℕ) → i < size_of → Stands (suc N) N lane.round (left1 i) tk dones_1 i (stage_1 i)
    stands_1 i h = go (stage i) refl (fin i) refl (lane.now i h)
      where
        go : (x : Stage) → stage i ≡ x → (t : Bool) → fin i ≡ t → Stands N N lane.round (left i) tk dn i x → Stands (suc N) N lane.round (left1 i) tk dones_1 i (cond t (finished false N x) x)
        go still e true f s = (s.0, none_new i _ (ap (λ x. fin i && is_flying x) e ∙ and_not (fin i)) ∙ s.1, late_1 i h s.2)
        go still e false f s = (s.0, none_new i _ (ap (λ x. fin i && is_flying x) e ∙ and_not (fin i)) ∙ s.1, late_1 i h s.2)
        go (done m) e true f s = (s.0, none_new i _ (ap (λ x. fin i && is_flying x) e ∙ and_not (fin i)) ∙ s.1, over_more N (suc N) tk tk dn dones_1 lane.round i (omega arith) same_takes grown h s.2, grown i lane.round m s.3)
        go (done m) e false f s = (s.0, none_new i _ (ap (λ x. fin i && is_flying x) e ∙ and_not (fin i)) ∙ s.1, over_more N (suc N) tk tk dn dones_1 lane.round i (omega arith) same_takes grown h s.2, grown i lane.round m s.3)
        go (flying b k c) e true f s =
            let new : (fin i && is_flying (stage i)) ≡ true = ap (λ y. y && is_flying (stage i)) f ∙ ap is_flying e in
            let at : nth (dones_1 i) lane.round ≡ Some N = ap (λ y. nth (dn i ++ maybe y N) lane.round) new ∙ nth_last (dn i) lane.round N s.1 in
            let o = s.2 in let a = o.past in let b' = o.sure in let c' = o.some_left in (
              s.0,
              ap (λ y. length (dn i ++ maybe y N)) new ∙ length_more (dn i) N ∙ ap suc s.1,
              record { left_at = o.left_at; done_at = N; take_is = o.take_is; done_is = at; due_is = round_stays first p order dn dones_1 grown lane.round i o.left_at h o.due_is; after = a; soon = omega arith; gone = omega arith },
              at,
            )
        go (flying b k c) e false f s =
            let o = s.2 in let a = o.past in let b' = o.sure in
            let l = falls i h (ap is_flying e) f in let l0 = l.0 in let l1 = l.1 in (
              s.0,
              none_new i _ (ap (λ y. y && is_flying (stage i)) f) ∙ s.1,
              record { left_at = o.left_at; take_is = o.take_is; due_is = round_stays first p order dn dones_1 grown lane.round i o.left_at h o.due_is; past = omega arith; sure = omega arith; some_left = l1 },
            )

    pub after_events : LaneAt (suc N) N start stage_1 left1 tk dones_1
    after_events = record {
      round = lane.round;
      over = λ r i h k. over_more N (suc N) tk tk dn dones_1 r i (omega arith) same_takes grown k (lane.over r i h k);
      now = stands_1;
      started = start_1;
      bound = lane.bound;
    }

  -- ---- 2. rounds

  module _ (M N start : ℕ) (stage : ℕ → Stage) (left : ℕ → ℕ) (tk dn : ℕ → List ℕ) (lane : LaneAt M N start stage left tk dn)
      (late : (m : ℕ) → round_end (λ u. done_tick (stage u)) size_of ≡ Some m → N ≤ m)
      (in-round : (m : ℕ) → round_end (λ u. done_tick (stage u)) size_of ≡ Some m → m + p.rest ≤ start + R) where
    ends_agree : round_end (λ u. nth (dn u) lane.round) size_of ≡ round_end (λ u. done_tick (stage u)) size_of
    ends_agree = end_agree size_of (λ u. nth (dn u) lane.round) (λ u. done_tick (stage u)) size_of (omega arith) (λ u h. agrees M N lane.round (left u) tk dn u (stage u) (lane.now u h))

    pub after_rounds : (o : Option ℕ) → round_end (λ u. done_tick (stage u)) size_of ≡ o → LaneAt M N (next_start p.rest o start) (λ i. renewed o (stage i)) left tk dn
    after_rounds None e = lane
    after_rounds (Some m) e = record {
      round = suc lane.round;
      over = λ r i h k. past r i h k;
      now = λ i h. here i h (stage i) refl (lane.now i h);
      started = again;
      bound = (let a = in-round m e in let b = lane.bound in omega arith);
    }
      where
        again : round_start first p dn (suc lane.round) ≡ Some (m + p.rest)
        again = ap (option_map (λ c. c + p.rest)) (ends_agree ∙ e)

        not_none : (i : ℕ) → i < size_of → done_tick (stage i) ≡ None → ⊥
        not_none i h z = let w = end_none (λ u. done_tick (stage u)) size_of i h z in let k : ◌≡◌ {A = ℕ} 0 1 = cc in omega arith

        past_now : (i : ℕ) → i < size_of → (x : Stage) → stage i ≡ x → Stands M N lane.round (left i) tk dn i x → Over M tk dn lane.round i
        past_now i h still z s = absurd (not_none i h (ap done_tick z))
        past_now i h (flying b k c) z s = absurd (not_none i h (ap done_tick z))
        past_now i h (done x) z s = s.2

        past : (r i : ℕ) → r < suc lane.round → i < size_of → Over M tk dn r i
        past r i h k = elim (cases_eq lane.round r) [ inl z ↦ subst (λ y. Over M tk dn y i) z (past_now i k (stage i) refl (lane.now i k)) | inr z ↦ lane.over r i (omega (arith, z)) k ]

        full : (i : ℕ) → i < size_of → (x : Stage) → stage i ≡ x → Stands M N lane.round (left i) tk dn i x → length (dn i) ≡ suc lane.round
        full i h still z s = absurd (not_none i h (ap done_tick z))
        full i h (flying b k c) z s = absurd (not_none i h (ap done_tick z))
        full i h (done x) z s = s.1

        here : (i : ℕ) → i < size_of → (x : Stage) → stage i ≡ x → Stands M N lane.round (left i) tk dn i x → Stands M N (suc lane.round) (left i) tk dn i (renewed (Some m) x)
        here i h still z s = absurd (not_none i h (ap done_tick z))
        here i h (flying b k c) z s = absurd (not_none i h (ap done_tick z))
        here i h (done x) z s = (
          s.0,
          s.1,
          λ t w. due_blank size_of N (m + p.rest) i (λ u. nth (dn u) (suc lane.round)) p.edges h order
              (λ u k. nth_past (dn u) (suc lane.round) (let f = full u k (stage u) refl (lane.now u k) in omega arith)) (let a = late m e in omega arith)
              t (sym (due_at (m + p.rest) dn (suc lane.round) i again) ∙ w),
        )

  -- ---- 3. departures

  module _ (N start : ℕ) (stage : ℕ → Stage) (left : ℕ → ℕ) (tk dn : ℕ → List ℕ) (lane : LaneAt (suc N) N start stage left tk dn)
      (goes : ℕ → Bool) (goes-is : (i : ℕ) → i < size_of → goes i ≡ (is_still (stage i) && is_due N (due start (λ u. done_tick (stage u)) p.edges i)))
      (stage3 : ℕ → Stage) (gone : (i : ℕ) → goes i ≡ true → is_flying (stage3 i) ≡ true) (stays : (i : ℕ) → goes i ≡ false → stage3 i ≡ stage i)
      (left3 : ℕ → ℕ) (spanned : (i : ℕ) → goes i ≡ true → (1 ≤ left3 i) × (left3 i ≤ span)) (kept : (i : ℕ) → i < size_of → is_flying (stage i) ≡ true → left3 i ≡ left i) where
    abbrev pub takes_3 : ℕ → List ℕ
    takes_3 i = tk i ++ maybe (goes i) N

    grown_3 : More tk takes_3
    grown_3 u r x e = nth_append (tk u) _ r x e

    same_dones : More dn dn
    same_dones u r x e = e

    due_now : (i : ℕ) → i < size_of → due_in_round first p dn lane.round i ≡ due start (λ u. done_tick (stage u)) p.edges i
    due_now i h = due_at start dn lane.round i lane.started
        ∙ due_agree size_of (λ u. nth (dn u) lane.round) (λ u. done_tick (stage u)) start i p.edges h order (λ u k. agrees (suc N) N lane.round (left u) tk dn u (stage u) (lane.now u k))

    due_exact : (o : Option ℕ) → Late N o → is_due N o ≡ true → o ≡ Some N
    due_exact None l e = absurd (true≢false (sym e))
    due_exact (Some t) l e = let a = leb-true t N e in let b = l t refl in let same : t ≡ N = omega arith in ap Some same

    due_not : (o : Option ℕ) → is_due N o ≡ false → Late (suc N) o
    due_not None e t z = let k : ◌≡◌ {A = ℕ} 0 1 = cc in absurd (omega arith)
    due_not (Some s) e t z = let a = leb-false s N e in let same : s ≡ t = some_injective s t z in omega arith

    no_more : (i : ℕ) → goes i ≡ false → length (takes_3 i) ≡ length (tk i)
    no_more i e = ap (λ y. length (tk i ++ maybe y N)) e ∙ length_same (tk i)

    flies : (i : ℕ) (x : Stage) → is_flying x ≡ true → Stands (suc N) (suc N) lane.round (left3 i) takes_3 dn i (flying 0 Read fake) → Stands (suc N) (suc N) lane.round (left3 i) takes_3 dn i x
    flies i still e s = absurd (true≢false (sym e))
    flies i (flying b k c) e s = s
    flies i (done m) e s = absurd (true≢false (sym e))

    leaves_now : (i : ℕ) → i < size_of → goes i ≡ true → (x : Stage) → stage i ≡ x → Stands (suc N) N lane.round (left i) tk dn i x → Stands (suc N) (suc N) lane.round (left3 i) takes_3 dn i (flying 0 Read fake)
    leaves_now i h e still z s =
        let due-N = due_exact (due_in_round first p dn lane.round i) s.2 (ap (is_due N) (due_now i h) ∙ (and_parts (is_still (stage i)) (is_due N (due start (λ u. done_tick (stage u)) p.edges i)) (sym (goes-is i h) ∙ e)).1) in
        let sp = spanned i e in let sp0 = sp.0 in let sp1 = sp.1 in (
          ap (λ y. length (tk i ++ maybe y N)) e ∙ length_more (tk i) N ∙ ap suc s.0,
          s.1,
          record { left_at = N; take_is = ap (λ y. nth (tk i ++ maybe y N) lane.round) e ∙ nth_last (tk i) lane.round N s.0; due_is = due-N; past = omega arith; sure = omega arith; some_left = sp0 },
        )
    leaves_now i h e (flying b k c) z s = absurd (true≢false (sym (and_parts (is_still (stage i)) _ (sym (goes-is i h) ∙ e)).0 ∙ ap is_still z))
    leaves_now i h e (done m) z s = absurd (true≢false (sym (and_parts (is_still (stage i)) _ (sym (goes-is i h) ∙ e)).0 ∙ ap is_still z))

    stays_now : (i : ℕ) → i < size_of → goes i ≡ false → (x : Stage) → stage i ≡ x → Stands (suc N) N lane.round (left i) tk dn i x → Stands (suc N) (suc N) lane.round (left3 i) takes_3 dn i x
    stays_now i h e still z s = (
      no_more i e ∙ s.0,
      s.1,
      due_not (due_in_round first p dn lane.round i)
          (ap (is_due N) (due_now i h) ∙ sym (ap (λ b. b && is_due N (due start (λ u. done_tick (stage u)) p.edges i)) (ap is_still z)) ∙ sym (goes-is i h) ∙ e),
    )
    stays_now i h e (flying b k c) z s =
        let o = s.2 in let same = kept i h (ap is_flying z) in let a = o.sure in let b' = o.some_left in
        (no_more i e ∙ s.0, s.1, record { left_at = o.left_at; take_is = grown_3 i lane.round o.left_at o.take_is; due_is = o.due_is; past = o.past; sure = omega arith; some_left = omega arith })
    stays_now i h e (done m) z s = (no_more i e ∙ s.0, s.1, over_more (suc N) (suc N) tk takes_3 dn dn lane.round i (omega arith) grown_3 same_dones h s.2, s.3)

    pub after_departures : LaneAt (suc N) (suc N) start stage3 left3 takes_3 dn
    after_departures = record {
      round = lane.round;
      over = λ r i h k. over_more (suc N) (suc N) tk takes_3 dn dn r i (omega arith) grown_3 same_dones k (lane.over r i h k);
      now = λ i h. go i h (goes i) refl;
      started = lane.started;
      bound = lane.bound;
    }
      where
        go : (i : ℕ) → i < size_of → (t : Bool) → goes i ≡ t → Stands (suc N) (suc N) lane.round (left3 i) takes_3 dn i (stage3 i)
        go i h true e = flies i (stage3 i) (gone i e) (leaves_now i h e (stage i) refl (lane.now i h))
        go i h false e = subst (Stands (suc N) (suc N) lane.round (left3 i) takes_3 dn i) (sym (stays i e)) (stays_now i h e (stage i) refl (lane.now i h))

  -- ---- what it says of each round

  module _ (N start : ℕ) (stage : ℕ → Stage) (left : ℕ → ℕ) (tk dn : ℕ → List ℕ) (lane : LaneAt N N start stage left tk dn)
      (unfinished : round_end (λ u. done_tick (stage u)) size_of ≡ None) (early : N ≤ start + R) where
    before_some : (t : ℕ) → t < N → Some t ≡ before N (Some t)
    before_some t h = sym (ap (λ b. cond b (Some t) None) (lt-ltb t N h))

    before_late : (o : Option ℕ) → Late N o → None ≡ before N o
    before_late None l = refl
    before_late (Some t) l = sym (ap (λ b. cond b (Some t) None) (le-ltb t N (l t refl)))

    over_departs : (r i : ℕ) → Over N tk dn r i → Departs first N span p tk dn i r
    over_departs r i o = record {
      on_time = o.take_is ∙ before_some o.left_at (let a = o.after in let b = o.gone in omega arith) ∙ ap (before N) (sym o.due_is);
      done_after = λ d e. let same : o.done_at ≡ d = some_injective o.done_at d (sym o.done_is ∙ e) in let a = o.after in let b = o.soon in (o.left_at, o.take_is, omega arith, omega arith);
      done_soon = λ t e h. (o.done_at, o.done_is);
      again = λ h. (o.left_at, o.take_is);
    }

    -- a later round than this has not begun
    not_soon : (r : ℕ) → lane.round ≤ r → first + suc r * R < N → ⊥
    not_soon r h e =
        let a = lane.bound in
        let m : lane.round * R ≤ r * R = mul-le-mul_right R h in
        omega arith

    stands_departs : (i : ℕ) → i < size_of → (x : Stage) → stage i ≡ x → Stands N N lane.round (left i) tk dn i x → Departs first N span p tk dn i lane.round
    stands_departs i h still z s = record {
      on_time = nothing ∙ before_late (due_in_round first p dn lane.round i) s.2;
      done_after = λ d e. absurd (let k = nth_length (dn i) lane.round d e in let l = s.1 in omega arith);
      done_soon = λ t e w. absurd (let k : ◌≡◌ {A = ℕ} 0 1 = cc (nothing, e) in omega arith);
      again = λ e. absurd (not_soon lane.round (omega arith) e);
    }
      where
        nothing : nth (tk i) lane.round ≡ None
        nothing = nth_past (tk i) lane.round (let l = s.0 in omega arith)
    stands_departs i h (flying b k c) z s = record {
      on_time = o.take_is ∙ before_some o.left_at o.past ∙ ap (before N) (sym o.due_is);
      done_after = λ d e. absurd (let k = nth_length (dn i) lane.round d e in let l = s.1 in omega arith);
      done_soon = λ t e w. absurd (let same : o.left_at ≡ t = some_injective o.left_at t (sym o.take_is ∙ e) in let a = o.sure in let b' = o.some_left in omega arith);
      again = λ e. (o.left_at, o.take_is);
    }
      where
        o : Out N (left i) tk dn lane.round i
        o = s.2
    stands_departs i h (done m) z s = over_departs lane.round i s.2

    -- at most one T and one D more than the rounds before
    few : (i : ℕ) (x : Stage) → Stands N N lane.round (left i) tk dn i x → (length (tk i) ≤ suc lane.round) × (length (dn i) ≤ suc lane.round)
    few i still s = let a = s.0 in let b = s.1 in (omega arith, omega arith)
    few i (flying b k c) s = let a = s.0 in let b' = s.1 in (omega arith, omega arith)
    few i (done m) s = let a = s.0 in let b = s.1 in (omega arith, omega arith)

    no_start : (i : ℕ) → i < size_of → (r : ℕ) → lane.round < r → round_start first p dn r ≡ None
    no_start i h zero k = absurd (omega arith)
    no_start i h (suc r) k = ap (option_map (λ c. c + p.rest)) (elim (cases_eq lane.round r) [
      | inl z ↦ subst (λ y. round_end (λ u. nth (dn u) y) size_of ≡ None) z (end_agree size_of (λ u. nth (dn u) lane.round) (λ u. done_tick (stage u)) size_of (omega arith) (λ u w. agrees N N lane.round (left u) tk dn u (stage u) (lane.now u w)) ∙ unfinished)
      | inr z ↦ end_none (λ u. nth (dn u) r) size_of i h (nth_past (dn i) r (let f = (few i (stage i) (lane.now i h)).1 in omega (arith, z)))
    ])

    later_departs : (i : ℕ) → i < size_of → (r : ℕ) → lane.round < r → Departs first N span p tk dn i r
    later_departs i h r k = record {
      on_time = nothing ∙ ap (λ o. before N (due_when o (λ u. nth (dn u) r) p.edges i)) (sym (no_start i h r k));
      done_after = λ d e. absurd (let w = nth_length (dn i) r d e in let l = (few i (stage i) (lane.now i h)).1 in omega arith);
      done_soon = λ t e w. absurd (let z : ◌≡◌ {A = ℕ} 0 1 = cc (nothing, e) in omega arith);
      again = λ e. absurd (not_soon r (omega arith) e);
    }
      where
        nothing : nth (tk i) r ≡ None
        nothing = nth_past (tk i) r (let l = (few i (stage i) (lane.now i h)).0 in omega arith)

    pub departs : (i r : ℕ) → i < size_of → Departs first N span p tk dn i r
    departs i r h = elim (cases_eq lane.round r) [
      | inl z ↦ subst (Departs first N span p tk dn i) z (stands_departs i h (stage i) refl (lane.now i h))
      | inr z ↦ side (leb r lane.round) refl z
    ]
      where
        side : (t : Bool) → leb r lane.round ≡ t → (lane.round ≡ r → ⊥) → Departs first N span p tk dn i r
        side true e ne = let k = leb-true r lane.round e in over_departs r i (lane.over r i (omega (arith, ne)) h)
        side false e ne = let k = leb-false r lane.round e in later_departs i h r (omega arith)
