-- The checks of the setting calls, with the free places in place of all slots.
use Rattle.std.proofs.Common.{◌≡◌, ℕ, zero, suc, ◌+◌, ◌-◌, ◌^◌, ◌<◌, ◌≤◌, Bool, true, false, not, ◌&&◌, ◌||◌, ltb, leb, List, [], ◌∷◌, ◌++◌, map, length, get_or, set, replicate, Some, None, Option, sym, refl, ap, ◌∙◌, subst, arith, length-append, length-set}
use lib.ListN.{length-map}
use Rattle.std.proofs.lemmas.Bool.{lt-ltb, le-ltb, ltb-true, ltb-false, lt-leb, le-leb, leb-true, leb-false}
use Rattle.interface.specs.Meaning.{check, any, accepted}
use Rattle.std.specs.Option.{option_map}
use Rattle.std.proofs.lemmas.List.{map-set, get_or_past}
use Rattle.patterns.specs.declared.setting.VertexSetting.{VertexSetting}
use Rattle.patterns.specs.declared.setting.EdgeSetting.{EdgeSetting}
use Rattle.patterns.specs.Lanes.{LaneView, lane_of, changed}
use Rattle.patterns.specs.Ticks.{tick_number}
use Rattle.patterns.specs.Tables.{with_lane, table_refusal}
use Rattle.patterns.proofs.Checks.{passes, few_lanes, good_shape, accepted_from, Accepted, GoodEdge, good_edges}
use Rattle.patterns.proofs.Checks as checks
use Rattle.patterns.specs.Shape.{lane_refusal, vertex_count, high_bank, bad_edges, edge_of}
use Rattle.model.specs.Settings.{Pattern, Role, unset, opened, protected, Settings, role_of, patterns_of, is_unset, is_opened, all_slots, vertices, vertices_below, lane_vertices, pattern_at, vertices_from, open_slots, slots_from}
use Rattle.model.specs.Calls.{Setting, opens, lane, first, settled, too_many, setting_refusal}
use Rattle.board.specs.Sets.{spot_of, pattern_of, roles_of, settings_by, role_at, no_share, is_unset_at, open_checks, takes_no_lane, lane_checks, lane_formed, domain_formed, low_source, formed, first_checks, shares_view}
use Rattle.board.specs.Boards.{BoardView, Known, slots_set, settings_of, with_setting, set_with}
use Rattle.board.specs.declared.share.Share.{Share}
use Rattle.board.proofs.Roles.{roles_length, role_is, unset_at, opened_at, lanes_at, open_settled, lane_settled}
use Rattle.board.proofs.Totals.{open_adds, lane_adds, roles_only}

-- so many more than are free, or together more than the places
free_test : (places used n : ℕ) → 1 ≤ n → ltb (places - used) n ≡ ltb places (used + n)
free_test places used n least = go (ltb places (used + n)) refl
  where
    go : (t : Bool) → ltb places (used + n) ≡ t → ltb (places - used) n ≡ t
    go true e = lt-ltb (places - used) n (let a = ltb-true places (used + n) e in omega arith)
    go false e = le-ltb (places - used) n (let a = ltb-false places (used + n) e in omega arith)

pub check_tests : (s t : Bool) (n : ℕ) (a b : Option ℕ) → s ≡ t → (t ≡ false → a ≡ b) → check s n a ≡ check t n b
check_tests s t n a b e h = ap (λ x. check x n a) e ∙ go t h
  where
    go : (t : Bool) → (t ≡ false → a ≡ b) → check t n a ≡ check t n b
    go true h = refl
    go false h = h refl

pub or_false : (s t : Bool) → (s || t) ≡ false → (s ≡ false) × (t ≡ false)
or_false true t e = let z : ◌≡◌ {A = ℕ} 0 1 = (cc) in absurd (omega arith)
or_false false t e = (refl, e)

pub not_back : (t : Bool) → not t ≡ false → t ≡ true
not_back true e = refl
not_back false e = let z : ◌≡◌ {A = ℕ} 0 1 = (cc) in absurd (omega arith)

pub is_unset_true : (r : Role) → is_unset r ≡ true → r ≡ unset
is_unset_true unset e = refl
is_unset_true (opened n) e = let z : ◌≡◌ {A = ℕ} 0 1 = (cc) in absurd (omega arith)
is_unset_true (protected ps) e = let z : ◌≡◌ {A = ℕ} 0 1 = (cc) in absurd (omega arith)

pub none_shared : (s : Option ℕ) → not (no_share s) ≡ false → s ≡ None
none_shared None e = refl
none_shared (Some n) e = let z : ◌≡◌ {A = ℕ} 0 1 = (cc) in absurd (omega arith)

-- ---- lanes that are as they should be

any_push : {X : Type 0} (p : X → Bool) (xs : List X) (x : X) → any p xs ≡ false → p x ≡ false → any p (xs ++ (x ∷ [])) ≡ false
any_push p [] x e f = ap (λ t. t || false) f
any_push p (y ∷ xs) x e f = let q = or_false (p y) (any p xs) e in ap (λ t. t || any p (xs ++ (x ∷ []))) q.0 ∙ any_push p xs x q.1 f

pub any_changed : {X : Type 0} (p : X → Bool) (f : X → X) (xs : List X) (i : ℕ) → any p xs ≡ false → ((x : X) → p x ≡ false → p (f x) ≡ false) → any p (changed f xs i) ≡ false
any_changed p f [] i e h = refl
any_changed p f (x ∷ xs) zero e h = let q = or_false (p x) (any p xs) e in ap (λ t. t || any p xs) (h x q.0) ∙ q.1
any_changed p f (x ∷ xs) (suc i) e h = let q = or_false (p x) (any p xs) e in ap (λ t. t || any p (changed f xs i)) q.0 ∙ any_changed p f xs i q.1 h

any_at : {X : Type 0} (p : X → Bool) (f : X → X) (xs : List X) (i : ℕ) (d : X) → any p xs ≡ false → p (f (get_or xs i d)) ≡ false → any p (changed f xs i) ≡ false
any_at p f [] i d e h = refl
any_at p f (x ∷ xs) zero d e h = let q = or_false (p x) (any p xs) e in ap (λ t. t || any p xs) h ∙ q.1
any_at p f (x ∷ xs) (suc i) d e h = let q = or_false (p x) (any p xs) e in ap (λ t. t || any p (changed f xs i)) q.0 ∙ any_at p f xs i d q.1 h

pub changed_at : {X : Type 0} (f g : X → X) (xs : List X) (i : ℕ) (d : X) → f (get_or xs i d) ≡ g (get_or xs i d) → changed f xs i ≡ changed g xs i
changed_at f g [] i d e = refl
changed_at f g (x ∷ xs) zero d e = ap (λ y. y ∷ xs) e
changed_at f g (x ∷ xs) (suc i) d e = ap (λ l. x ∷ l) (changed_at f g xs i d e)

changed_none : {X : Type 0} (f : X → X) (xs : List X) (i : ℕ) (d : X) → f (get_or xs i d) ≡ get_or xs i d → changed f xs i ≡ xs
changed_none f [] i d e = refl
changed_none f (x ∷ xs) zero d e = ap (λ y. y ∷ xs) e
changed_none f (x ∷ xs) (suc i) d e = ap (λ l. x ∷ l) (changed_none f xs i d e)

and_true : (s t : Bool) → s ≡ true → t ≡ true → (s && t) ≡ true
and_true s t e f = ap (λ x. x && t) e ∙ f

pub and_parts : (s t : Bool) → (s && t) ≡ true → (s ≡ true) × (t ≡ true)
and_parts true t e = (refl, e)
and_parts false t e = let z : ◌≡◌ {A = ℕ} 0 1 = (cc) in absurd (omega arith)

sources_low : (n : ℕ) (earlier es : List EdgeSetting) → n ≤ 8 → ((i : ℕ) (d : EdgeSetting) → i < length es → GoodEdge n (get_or es i d)) → any (λ e. not (low_source e)) (map edge_of es) ≡ false
sources_low n earlier [] few good = refl
sources_low n earlier (e ∷ es) few good =
    let g = good 0 e (omega arith) in
    let low : ltb e.source 8 ≡ true = lt-ltb e.source 8 (omega (arith, g.order, g.inside)) in
    ap (λ t. not t || any (λ x. not (low_source x)) (map edge_of es)) low ∙ sources_low n earlier es few (λ i d lt. good (suc i) d (omega arith))

lane_in_form : (vs : List VertexSetting) (es : List EdgeSetting) (rest : ℕ) → Accepted vs es rest → lane_formed (lane_of vs es rest) ≡ true
lane_in_form vs es rest a =
    and_true _ _ (ap (λ n. leb n 8) (length-map vs _) ∙ le-leb (length vs) 8 a.few)
    (ap not (sources_low (length vs) [] es a.few (λ i d lt. good_edges (length vs) [] es i d a.edges lt)))

domain_in_form : (ls : List LaneView) (l : LaneView) → domain_formed ls ≡ true → length ls < 8 → lane_formed l ≡ true → domain_formed (ls ++ (l ∷ [])) ≡ true
domain_in_form ls l e few f =
    let q = and_parts (leb (length ls) 8) (not (any (λ x. not (lane_formed x)) ls)) e in
    and_true _ _ (le-leb (length (ls ++ (l ∷ []))) 8 (omega (arith, length-append ls (l ∷ []))))
    (ap not (any_push (λ x. not (lane_formed x)) ls l (not_true _ q.1) (ap not f)))
  where
    not_true : (t : Bool) → not t ≡ true → t ≡ false
    not_true true e = let z : ◌≡◌ {A = ℕ} 0 1 = (cc) in absurd (omega arith)
    not_true false e = refl

pub not_back' : (t : Bool) → not t ≡ true → t ≡ false
not_back' true e = let z : ◌≡◌ {A = ℕ} 0 1 = (cc) in absurd (omega arith)
not_back' false e = refl

pub formed_at : (ts : List (List LaneView)) (d : ℕ) → any (λ ls. not (domain_formed ls)) ts ≡ false → domain_formed (get_or ts d []) ≡ true
formed_at [] d e = refl
formed_at (t ∷ ts) zero e = not_back (domain_formed t) (or_false _ _ e).0
formed_at (t ∷ ts) (suc d) e = formed_at ts d (or_false (not (domain_formed t)) _ e).1

pub length_changed : {X : Type 0} (f : X → X) (xs : List X) (i : ℕ) → length (changed f xs i) ≡ length xs
length_changed f [] i = refl
length_changed f (x ∷ xs) zero = refl
length_changed f (x ∷ xs) (suc i) = ap suc (length_changed f xs i)

module _ (b : BoardView) (used : ℕ) (k : Known b used) where
  pub role : (d : ℕ) → role_of (settings_of b) d ≡ role_at (get_or b.shares d None) (get_or b.lanes d [])
  role d = role_is b d (k.eight ∙ sym k.as_many)

  roles_eight : length (settings_of b).roles ≡ 8
  roles_eight = roles_length b.shares b.lanes ∙ k.eight

  pub open_refusal : (places d n : ℕ) → open_checks b.shares b.lanes (places - used) d n ≡ setting_refusal places (settings_of b) (opens d n)
  unfolding setting_refusal too_many
  open_refusal places d n =
      let c = settings_of b in
      let same : is_unset_at b.shares b.lanes d ≡ is_unset (role_of c d) = sym (ap is_unset (role d) ∙ unset_at (get_or b.shares d None) (get_or b.lanes d [])) in
      check_tests _ _ 2 _ _ (ap (λ t. ltb 7 d || not t) same) (λ e.
      check_tests _ _ 3 _ _ refl (λ f.
      ap (λ t. check t 7 None)
      (let p = or_false (ltb 7 d) (not (is_unset (role_of c d))) e in
      let q = or_false (ltb n 1) (ltb 16 n) f in
      let low = ltb-false 7 d p.0 in
      let least = ltb-false n 1 q.0 in
      let adds = open_adds c d n (omega arith) roles_eight (is_unset_true (role_of c d) (not_back (is_unset (role_of c d)) p.1)) in
      free_test places used n least ∙ ap (ltb places) (ap (λ u. u + n) k.counted ∙ sym adds))))

  pub lane_refused : (places d : ℕ) (vs : List VertexSetting) (es : List EdgeSetting) (rest : ℕ) → lane_checks b.shares b.lanes (places - used) d vs es rest ≡ setting_refusal places (settings_of b) (lane d vs es rest)
  unfolding setting_refusal too_many settled
  lane_refused places d vs es rest =
      let c = settings_of b in
      let same : not (no_share (get_or b.shares d None)) ≡ is_opened (role_of c d) = sym (ap is_opened (role d) ∙ opened_at (get_or b.shares d None) (get_or b.lanes d [])) in
      check_tests _ _ 2 _ _ (ap (λ t. ltb 7 d || t) same) (λ e.
      let p = or_false (ltb 7 d) (is_opened (role_of c d)) e in
      let low = ltb-false 7 d p.0 in
      let bare = none_shared (get_or b.shares d None) (same ∙ p.1) in
      let count : length (get_or b.lanes d []) ≡ length (patterns_of (role_of c d)) =
      sym (ap (λ (r : Role). length (patterns_of r)) (role d ∙ ap (λ (s : Option ℕ). role_at s (get_or b.lanes d [])) bare) ∙ lanes_at (get_or b.lanes d [])) in
      check_tests _ _ 4 _ _ (ap (leb 8) count ∙ eight_test (length (patterns_of (role_of c d)))) (λ f.
      check_tests _ _ 4 _ _ refl (λ v.
      ap (λ t. check (any high_bank vs) 5 (check (bad_edges (length vs) [] es || ltb 1000 rest) 6 (check t 7 None)))
      (let few = ltb-false 7 (length (patterns_of (role_of c d))) f in
      let least = at_least (length vs) v in
      let adds = lane_adds c d (record { spots = vs; edges = map edge_of es; rest = rest }) (omega arith) roles_eight p.1 (omega arith) in
      free_test places used (length vs) least ∙ ap (ltb places) (ap (λ u. u + length vs) k.counted ∙ sym adds)))))
    where
      eight_test : (n : ℕ) → leb 8 n ≡ ltb 7 n
      eight_test n = go (ltb 7 n) refl
        where
          go : (t : Bool) → ltb 7 n ≡ t → leb 8 n ≡ t
          go true e = le-leb 8 n (let a = ltb-true 7 n e in omega arith)
          go false e = lt-leb 8 n (let a = ltb-false 7 n e in omega arith)

      at_least : (n : ℕ) → not (vertex_count n) ≡ false → 1 ≤ n
      at_least zero e = let z : ◌≡◌ {A = ℕ} 0 1 = (cc) in absurd (omega arith)
      at_least (suc n) e = omega arith

  pub open_counts : (places d n : ℕ) → None ≡ setting_refusal places (settings_of b) (opens d n) → used + n ≡ length (all_slots (settings_of (with_setting b (opens d n))))
  unfolding setting_refusal
  open_counts places d n e =
      let c = settings_of b in
      let one = passes (ltb 7 d || not (is_unset (role_of c d))) 2 _ (sym e) in
      let p = or_false (ltb 7 d) (not (is_unset (role_of c d))) one.0 in
      let low = ltb-false 7 d p.0 in
      ap (λ u. u + n) k.counted
      ∙ sym (open_adds c d n (omega arith) roles_eight (is_unset_true (role_of c d) (not_back (is_unset (role_of c d)) p.1)))
      ∙ ap (λ (s : Settings). length (all_slots s)) (sym (open_settled b d n))

  module _ (places d : ℕ) (vs : List VertexSetting) (es : List EdgeSetting) (rest : ℕ) (ts : List (List LaneView)) (free : takes_no_lane b.shares d ≡ false) (moved : ts ≡ changed (with_lane (places - used) vs es rest) b.lanes d) where
    low_domain : d < 8
    low_domain = let a = ltb-false 7 d (or_false (ltb 7 d) _ free).0 in omega arith

    bare : get_or b.shares d None ≡ None
    bare = none_shared (get_or b.shares d None) (or_false (ltb 7 d) _ free).1

    -- the lane table's answer is that of the checks
    in_table : table_refusal b.lanes d (places - used) vs es rest ≡ lane_refusal (length (get_or b.lanes d [])) (places - used) vs es rest
    in_table = sym (checks.in_domain b.lanes d (places - used) vs es rest (get_or b.lanes d []) (lane_refusal (length (get_or b.lanes d [])) (places - used) vs es rest) (omega (arith, low_domain, k.as_many)) refl refl)

    pub as_refused : table_refusal b.lanes d (places - used) vs es rest ≡ setting_refusal places (settings_of b) (lane d vs es rest)
    as_refused =
        in_table
        ∙ sym (ap (λ t. check t 2 (lane_refusal (length (get_or b.lanes d [])) (places - used) vs es rest)) free)
        ∙ lane_refused places d vs es rest

    pub lane_not : (j : ℕ) → Some j ≡ table_refusal b.lanes d (places - used) vs es rest → ts ≡ b.lanes
    lane_not j e = moved ∙ changed_none (with_lane (places - used) vs es rest) b.lanes d [] (sym (checks.lane_refused (places - used) vs es rest (get_or b.lanes d []) (length (get_or b.lanes d [])) refl j (e ∙ in_table)).1)

    module _ (e : None ≡ table_refusal b.lanes d (places - used) vs es rest) where
      good : None ≡ lane_refusal (length (get_or b.lanes d [])) (places - used) vs es rest
      good = e ∙ in_table

      few : length (get_or b.lanes d []) < 8
      few = few_lanes _ _ vs es rest good

      pub lane_done : ts ≡ changed (λ ls. ls ++ (lane_of vs es rest ∷ [])) b.lanes d
      lane_done = moved ∙ changed_at (with_lane (places - used) vs es rest) (λ ls. ls ++ (lane_of vs es rest ∷ [])) b.lanes d [] (sym (checks.lane_added (places - used) vs es rest (get_or b.lanes d []) (length (get_or b.lanes d [])) refl (lane_of vs es rest) good refl).1)

      lane_counts : used + length vs ≡ length (all_slots (settings_of (with_setting b (lane d vs es rest))))
      unfolding settled
      lane_counts =
          let c = settings_of b in
          let at : role_of c d ≡ role_at None (get_or b.lanes d []) = role d ∙ ap (λ (s : Option ℕ). role_at s (get_or b.lanes d [])) bare in
          let closed : is_opened (role_of c d) ≡ false = ap is_opened at ∙ opened_at None (get_or b.lanes d []) in
          let count : length (patterns_of (role_of c d)) < 8 = let z = ap (λ (r : Role). length (patterns_of r)) at ∙ lanes_at (get_or b.lanes d []) in let f = few in omega (arith, z, f) in
          ap (λ u. u + length vs) k.counted
          ∙ sym (lane_adds c d (record { spots = vs; edges = map edge_of es; rest = rest }) low_domain roles_eight closed count)
          ∙ ap (λ (s : Settings). length (all_slots s)) (sym (lane_settled b d vs es rest (k.eight ∙ sym k.as_many) bare))

      lane_forms : formed ts ≡ true
      unfolding formed
      lane_forms =
          let a = accepted_from vs es rest (good_shape _ _ vs es rest good) in
          let all : any (λ ls. not (domain_formed ls)) b.lanes ≡ false = not_back' _ k.in_form in
          let here : domain_formed (get_or b.lanes d []) ≡ true = formed_at b.lanes d all in
          ap (λ (x : List (List LaneView)). not (any (λ ls. not (domain_formed ls)) x)) lane_done
          ∙ ap not (any_at (λ ls. not (domain_formed ls)) (λ ls. ls ++ (lane_of vs es rest ∷ [])) b.lanes d [] all
          (ap not (domain_in_form (get_or b.lanes d []) (lane_of vs es rest) here few (lane_in_form vs es rest a))))

      pub lane_known : Known (record { first = b.first; shares = b.shares; lanes = ts; slots = b.slots }) (used + length vs)
      lane_known = record {
        eight = k.eight;
        as_many = ap length moved ∙ length_changed (with_lane (places - used) vs es rest) b.lanes d ∙ k.as_many;
        counted = lane_counts ∙ ap (λ (t : List (List LaneView)). length (all_slots (settings_by b.first b.shares t))) (sym lane_done);
        in_form = lane_forms;
      }

-- ---- what a setting leaves

pub refused_view : (b : BoardView) (places : ℕ) (z : Setting) (j : ℕ) → Some j ≡ setting_refusal places (settings_of b) z → b ≡ set_with places z b
refused_view b places z j e = ap (λ o. accepted o (with_setting b z) b) e

pub accepted_view : (b v : BoardView) (places : ℕ) (z : Setting) → None ≡ setting_refusal places (settings_of b) z → v ≡ with_setting b z → v ≡ set_with places z b
accepted_view b v places z e is = is ∙ ap (λ o. accepted o (with_setting b z) b) e

-- a first tick that is refused, and one that is not
pub first_refused : (b : BoardView) (places n : ℕ) → None ≡ tick_number n → Some 16 ≡ setting_refusal places (settings_of b) (first n)
unfolding setting_refusal
first_refused b places n e = go (leb n (10 ^ 18)) refl
  where
    go : (t : Bool) → leb n (10 ^ 18) ≡ t → Some 16 ≡ first_checks n
    go true k = let z : ◌≡◌ {A = ℕ} 0 1 = cc in absurd (omega arith)
    go false k = sym (ap (λ x. check x 16 None) (lt-ltb (10 ^ 18) n (leb-false n (10 ^ 18) k)))

pub first_accepted : (b : BoardView) (places n m : ℕ) → Some m ≡ tick_number n → (None ≡ setting_refusal places (settings_of b) (first n)) × (m ≡ n)
unfolding setting_refusal
first_accepted b places n m e = go (leb n (10 ^ 18)) refl
  where
    go : (t : Bool) → leb n (10 ^ 18) ≡ t → (None ≡ first_checks n) × (m ≡ n)
    go true k = (sym (ap (λ x. check x 16 None) (le-ltb (10 ^ 18) n (leb-true n (10 ^ 18) k))), cc)
    go false k = let z : ◌≡◌ {A = ℕ} 0 1 = cc in absurd (omega arith)

-- a share that is written
pub shares_set : (ss : List (Option Share)) (d n : ℕ) (s : Share) → s.slots ≡ n → shares_view (set ss d (Some s)) ≡ set (shares_view ss) d (Some n)
shares_set ss d n s e = map-set (option_map (λ (s : Share). s.slots)) ss d (Some s) ∙ ap (λ k. set (shares_view ss) d (Some k)) e

pub lane_barred : (b : BoardView) (used : ℕ) → Known b used → (places d : ℕ) (vs : List VertexSetting) (es : List EdgeSetting) (rest : ℕ) → true ≡ takes_no_lane b.shares d → Some 2 ≡ setting_refusal places (settings_of b) (lane d vs es rest)
lane_barred b used k places d vs es rest e =
    ap (λ t. check t 2 (lane_refusal (length (get_or b.lanes d [])) (places - used) vs es rest)) e
    ∙ lane_refused b used k places d vs es rest

-- ---- a board on which nothing is set

pub blank_counted : (ss : List (Option ℕ)) (ts : List (List LaneView)) → ss ≡ replicate 8 None → ts ≡ replicate 8 [] → 0 ≡ length (all_slots (settings_by 0 ss ts))
unfolding all_slots vertices vertices_below lane_vertices pattern_at vertices_from open_slots slots_from roles_of
blank_counted ss ts e f =
    ap (λ (x : List (Option ℕ)). length (all_slots (settings_by 0 x (replicate 8 [])))) (sym e)
    ∙ ap (λ (x : List (List LaneView)). length (all_slots (settings_by 0 ss x))) (sym f)

pub blank_formed : (ts : List (List LaneView)) → ts ≡ replicate 8 [] → formed ts ≡ true
unfolding formed
blank_formed ts f = ap formed f

-- ---- lanes that move on, and stay the same patterns

module _ (g : LaneView → LaneView) (same : (l : LaneView) → pattern_of (g l) ≡ pattern_of l) where
  patterns_map : (ls : List LaneView) → map pattern_of (map g ls) ≡ map pattern_of ls
  patterns_map [] = refl
  patterns_map (l ∷ ls) = ap (λ p. p ∷ map pattern_of (map g ls)) (same l) ∙ ap (λ ps. pattern_of l ∷ ps) (patterns_map ls)

  role_map : (s : Option ℕ) (ls : List LaneView) → role_at s (map g ls) ≡ role_at s ls
  role_map (Some n) ls = refl
  role_map None [] = refl
  role_map None (l ∷ ls) = ap protected (patterns_map (l ∷ ls))

  pub roles_map : (ss : List (Option ℕ)) (ts : List (List LaneView)) → roles_of ss (map (map g) ts) ≡ roles_of ss ts
  unfolding roles_of
  roles_map [] ts = refl
  roles_map (s ∷ ss) [] = refl
  roles_map (s ∷ ss) (t ∷ ts) = ap (λ r. r ∷ roles_of ss (map (map g) ts)) (role_map s t) ∙ ap (λ rs. role_at s t ∷ rs) (roles_map ss ts)

  pub lane_form : (l : LaneView) → lane_formed (g l) ≡ lane_formed l
  lane_form l =
      ap (λ n. leb n 8 && not (any (λ e. not (low_source e)) (g l).edges)) (sym (length-map (g l).vertices spot_of) ∙ ap (λ (p : Pattern). length p.spots) (same l) ∙ length-map l.vertices spot_of)
      ∙ ap (λ (p : Pattern). leb (length l.vertices) 8 && not (any (λ e. not (low_source e)) p.edges)) (same l)

  any_form : (ls : List LaneView) → any (λ l. not (lane_formed l)) (map g ls) ≡ any (λ l. not (lane_formed l)) ls
  any_form [] = refl
  any_form (l ∷ ls) = ap (λ t. not t || any (λ l. not (lane_formed l)) (map g ls)) (lane_form l) ∙ ap (λ t. not (lane_formed l) || t) (any_form ls)

  domain_form : (ls : List LaneView) → domain_formed (map g ls) ≡ domain_formed ls
  domain_form ls = ap (λ n. leb n 8 && not (any (λ l. not (lane_formed l)) (map g ls))) (length-map ls g) ∙ ap (λ t. leb (length ls) 8 && not t) (any_form ls)

  any_domain : (ts : List (List LaneView)) → any (λ ls. not (domain_formed ls)) (map (map g) ts) ≡ any (λ ls. not (domain_formed ls)) ts
  any_domain [] = refl
  any_domain (t ∷ ts) = ap (λ b. not b || any (λ ls. not (domain_formed ls)) (map (map g) ts)) (domain_form t) ∙ ap (λ b. not (domain_formed t) || b) (any_domain ts)

  pub formed_map : (ts : List (List LaneView)) → formed (map (map g) ts) ≡ formed ts
  unfolding formed
  formed_map ts = ap not (any_domain ts)

-- an accepted lane is settled as the model says
pub lane_sets : (b : BoardView) (used : ℕ) → Known b used → (places d : ℕ) (vs : List VertexSetting) (es : List EdgeSetting) (rest : ℕ) → None ≡ setting_refusal places (settings_of b) (lane d vs es rest)
    → settings_of (with_setting b (lane d vs es rest)) ≡ settled (settings_of b) (lane d vs es rest)
unfolding setting_refusal
lane_sets b used k places d vs es rest e =
    let c = settings_of b in
    let one = passes (ltb 7 d || is_opened (role_of c d)) 2 _ (sym e) in
    let p = or_false (ltb 7 d) (is_opened (role_of c d)) one.0 in
    let same : is_opened (role_of c d) ≡ not (no_share (get_or b.shares d None)) = ap is_opened (role b used k d) ∙ opened_at (get_or b.shares d None) (get_or b.lanes d []) in
    lane_settled b d vs es rest (k.eight ∙ sym k.as_many) (none_shared (get_or b.shares d None) (sym same ∙ p.1))

-- ---- what stays known of a board

pub share_bounds : (ss : List (Option Share)) (d n : ℕ) → get_or (shares_view ss) d None ≡ Some n → (1 ≤ n) × (n ≤ 16)
share_bounds [] d n e = let q : None ≡ Some n = sym (get_or_past [] d None (omega arith)) ∙ e in let z : ◌≡◌ {A = ℕ} 0 1 = (cc) in absurd (omega arith)
share_bounds (None ∷ ss) zero n e = let z : ◌≡◌ {A = ℕ} 0 1 = (cc) in absurd (omega arith)
share_bounds (Some s ∷ ss) zero n e = let q : s.slots ≡ n = (cc) in (omega (arith, s.least), omega (arith, s.most))
share_bounds (s ∷ ss) (suc d) n e = share_bounds ss d n e

-- a domain that has a share is one of the eight
pub shared_low : (ss : List (Option ℕ)) (d n : ℕ) → length ss ≡ 8 → Some n ≡ get_or ss d None → d < 8
shared_low ss d n eight e = go (ltb d 8) refl
  where
    go : (t : Bool) → ltb d 8 ≡ t → d < 8
    go true k = ltb-true d 8 k
    go false k =
        let past = ltb-false d 8 k in
        let q : Some n ≡ None = e ∙ get_or_past ss d None (omega (arith, past, eight)) in
        let z : ◌≡◌ {A = ℕ} 0 1 = cc in absurd (omega arith)

module _ (b : BoardView) (used : ℕ) (k : Known b used) where
  -- where the lanes move on, and stay the same patterns
  pub lanes_known : (us : List (List LaneView)) → length us ≡ length b.lanes → roles_of b.shares us ≡ roles_of b.shares b.lanes → formed us ≡ formed b.lanes → (ts : List (List LaneView)) → ts ≡ us
      → Known (record { first = b.first; shares = b.shares; lanes = ts; slots = b.slots }) used
  lanes_known us many roles form ts is = record {
    eight = k.eight;
    as_many = ap length is ∙ many ∙ k.as_many;
    counted = k.counted
        ∙ ap (λ (rs : List Role). length (all_slots (record { first = b.first; roles = rs }))) (sym roles)
        ∙ ap (λ (t : List (List LaneView)). length (all_slots (settings_by b.first b.shares t))) (sym is);
    in_form = ap formed is ∙ form ∙ k.in_form;
  }

  pub first_known : (n : ℕ) → Known (with_setting b (first n)) used
  first_known n = record { eight = k.eight; as_many = k.as_many; counted = k.counted ∙ roles_only (settings_of b) (settings_of (with_setting b (first n))) refl; in_form = k.in_form }

  pub open_known : (places d n : ℕ) → None ≡ setting_refusal places (settings_of b) (opens d n) → Known (with_setting b (opens d n)) (used + n)
  open_known places d n e = record { eight = length-set b.shares d (Some n) ∙ k.eight; as_many = k.as_many; counted = open_counts b used k places d n e; in_form = k.in_form }

-- where the board has become another, and so many slots more are set
pub known_after : {a b w x : BoardView} {used : ℕ} (n : ℕ) → Known a used → a ≡ b → Known w (slots_set b + n) → x ≡ w → Known x (used + n)
known_after {w = w} {used = used} n k e h is = subst (λ y. Known y (used + n)) (sym is) (subst (λ u. Known w (u + n)) (sym (k.counted ∙ ap slots_set e)) h)
