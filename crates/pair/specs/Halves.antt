-- What a pair receives in a step of both controllers.
use Rattle.std.specs.Prelude.{◌≡◌, ℕ, ◌-◌, ◌^◌, ◌<◌, ◌≤◌, Bool, true, false, cond, not, ◌&&◌, ◌||◌, List, [], ◌∷◌, ◌++◌, map, ◌==◌, nat_eq, refl}
use Rattle.std.proofs.Common.{sym, ap, ◌∙◌, subst, append-nil, arith, eqb-true}
use Rattle.std.proofs.lemmas.Bool.{both_ways}
use Rattle.interface.specs.Meaning.{any}
use Rattle.interface.specs.Lawful.{issues, ends, Standing, standing, slot_of, events_of, Proper, Punctual}
use Rattle.interface.specs.Slots.{dropped}
use Rattle.interface.specs.declared.Request.{Request}
use Rattle.interface.specs.declared.Event.{Event}
use Rattle.interface.specs.declared.Event.TheVariants.{Issue, Done}
use Rattle.interface.proofs.Bools.{or_left, or_true, or_right, same}
use Rattle.interface.proofs.Slots.{events_of_append, marked, Traced, ends_append, ends_before}
use Rattle.layer.specs.declared.entry.Entry.{Entry}
use Rattle.layer.specs.Entries.{slot_of_entry, done_below, reading}
use Rattle.layer.proofs.Tables.{any_append}
use Rattle.layer.proofs.Receiving.{has, moved, nobody, stage, EachProper, absent_none, no_issues, no_ends}
use Rattle.layer.proofs.Readiness.{Ready}
use Rattle.layer.proofs.Synced.{Agree, EachPunctual}

-- ---- the events of both

append_none : (xs ys : List Event) → xs ≡ [] → xs ++ ys ≡ ys
append_none xs ys e = ap (λ l. l ++ ys) e

append_none_right : (xs ys : List Event) → ys ≡ [] → xs ++ ys ≡ xs
append_none_right xs ys e = ap (λ l. xs ++ l) e ∙ append-nil xs

one_of_two : (o d : Bool) (st : Standing) (xs ys : List Event) → Proper (cond (o || d) Standing.absent st) xs → Proper (cond (not o || d) Standing.absent st) ys → Proper (cond d Standing.absent st) (xs ++ ys)
one_of_two true d st xs ys p q = subst (Proper (cond d Standing.absent st)) (sym (append_none xs ys (absent_none xs p))) q
one_of_two false d st xs ys p q = subst (Proper (cond d Standing.absent st)) (sym (append_none_right xs ys (absent_none ys q))) p

module _ (other : Request → Bool) where
  abbrev pub opposite : Request → Bool
  opposite q = not (other q)

  pub each_of_two : (es ds : List Event) (ws : List Entry) → EachProper other es ws → EachProper opposite ds ws → EachProper nobody (es ++ ds) ws
  each_of_two es ds [] p q = tt
  each_of_two es ds (w ∷ ws) p q = (
    subst (Proper (cond w.done Standing.absent (stage w))) (sym (events_of_append w.request.slot es ds))
        (one_of_two (other w.request) w.done (stage w) (events_of w.request.slot es) (events_of w.request.slot ds) p.0 q.0),
    each_of_two es ds ws p.1 q.1,
  )

  first_alone : (o d : Bool) (n : ℕ) (st : Standing) (es ds : List Event) → Proper (cond (not o || d) Standing.absent st) (events_of n ds) → (o || d) ≡ false
      → (any (issues n) es ≡ any (issues n) (es ++ ds)) × (any (ends n) es ≡ any (ends n) (es ++ ds))
  first_alone true d n st es ds p a = absurd (both_ways true a refl)
  first_alone false d n st es ds p a = (
    sym (any_append (issues n) es ds ∙ ap (λ b. any (issues n) es || b) (no_issues n ds (absent_none _ p)) ∙ or_right (any (issues n) es)),
    sym (any_append (ends n) es ds ∙ ap (λ b. any (ends n) es || b) (no_ends n ds (absent_none _ p)) ∙ or_right (any (ends n) es)),
  )

  second_alone : (o d : Bool) (n : ℕ) (st : Standing) (es ds : List Event) → Proper (cond (o || d) Standing.absent st) (events_of n es) → (not o || d) ≡ false
      → (any (issues n) ds ≡ any (issues n) (es ++ ds)) × (any (ends n) ds ≡ any (ends n) (es ++ ds))
  second_alone false d n st es ds p a = absurd (both_ways true a refl)
  second_alone true d n st es ds p a = (
    sym (any_append (issues n) es ds ∙ ap (λ b. b || any (issues n) ds) (no_issues n es (absent_none _ p))),
    sym (any_append (ends n) es ds ∙ ap (λ b. b || any (ends n) ds) (no_ends n es (absent_none _ p))),
  )

  -- of its own requests each controller says what is received in all
  pub agree_first : (es ds : List Event) (ws : List Entry) → EachProper opposite ds ws → Agree other es (es ++ ds) ws
  agree_first es ds [] p = tt
  agree_first es ds (w ∷ ws) p = (first_alone (other w.request) w.done w.request.slot (stage w) es ds p.0, agree_first es ds ws p.1)

  pub agree_second : (es ds : List Event) (ws : List Entry) → EachProper other es ws → Agree opposite ds (es ++ ds) ws
  agree_second es ds [] p = tt
  agree_second es ds (w ∷ ws) p = (second_alone (other w.request) w.done w.request.slot (stage w) es ds p.0, agree_second es ds ws p.1)

pub none_of_two : (n : ℕ) (es ds : List Event) → events_of n es ≡ [] → events_of n ds ≡ [] → events_of n (es ++ ds) ≡ []
none_of_two n es ds p q = events_of_append n es ds ∙ append_none (events_of n es) (events_of n ds) p ∙ q

-- ---- a slot has one Done among the events

abbrev Once : List Event → Type 0
Once [] = Unit {0}
Once (Issue n ∷ es) = Once es
Once (Done n ∷ es) = (any (ends n) es ≡ false) × Once es

abbrev SomeProper : List Event → Type 0
SomeProper es = (n : ℕ) → (st : Standing) × Proper st (events_of n es)

later : (st : Standing) (e : Event) (es : List Event) → Proper st (e ∷ es) → (su : Standing) × Proper su es
later Standing.absent e es p = absurd p
later Standing.waiting (Issue n) es p = (Standing.in_flight, p)
later Standing.waiting (Done n) es p = absurd p
later Standing.in_flight (Issue n) es p = absurd p
later Standing.in_flight (Done n) es p = (Standing.absent, p)

ended_last : (st : Standing) (n : ℕ) (es : List Event) → Proper st (Done n ∷ es) → es ≡ []
ended_last Standing.absent n es p = absurd p
ended_last Standing.waiting n es p = absurd p
ended_last Standing.in_flight n es p = absent_none es p

some_later_at : (n : ℕ) (e : Event) (es : List Event) (b : Bool) → ((st : Standing) × Proper st (cond b (e ∷ events_of n es) (events_of n es))) → (st : Standing) × Proper st (events_of n es)
some_later_at n e es true p = later p.0 e (events_of n es) p.1
some_later_at n e es false p = p

some_later : (e : Event) (es : List Event) → SomeProper (e ∷ es) → SomeProper es
some_later e es p n = some_later_at n e es (slot_of e == n) (p n)

once : (es : List Event) → SomeProper es → Once es
once [] p = tt
once (Issue n ∷ es) p = once es (some_later (Issue n) es p)
once (Done n ∷ es) p = (
  no_ends n es (ended_last (p n).0 n (events_of n es) (subst (λ b. Proper (p n).0 (cond b (Done n ∷ events_of n es) (events_of n es))) (same n) (p n).1)),
  once es (some_later (Done n) es p),
)

-- ---- the Dones that are ready

ends_differ : (n k : ℕ) (es : List Event) → any (ends n) es ≡ false → any (ends k) es ≡ true → (n == k) ≡ false
ends_differ n k es e t = go (n == k) refl
  where
    go : (b : Bool) → (n == k) ≡ b → b ≡ false
    go true q = absurd (both_ways _ e (ap (λ j. any (ends j) es) (eqb-true n k q) ∙ t))
    go false q = refl

marked_dropped_at : (n k : ℕ) (x : Entry) (xs : List Entry) (b c : Bool) → has n x ≡ b → has k x ≡ c → (n == k) ≡ false → (marked slot_of_entry done_below k xs ≡ true → marked slot_of_entry done_below k (dropped slot_of_entry n xs) ≡ true)
    → ((c && x.done) || marked slot_of_entry done_below k xs) ≡ true → marked slot_of_entry done_below k (cond b xs (x ∷ dropped slot_of_entry n xs)) ≡ true
marked_dropped_at n k x xs true true p q o ih e = absurd (both_ways _ o (ap (λ j. nat_eq j k) (sym (eqb-true x.request.slot n p)) ∙ q))
marked_dropped_at n k x xs true false p q o ih e = e
marked_dropped_at n k x xs false c p q o ih e = ap (λ b. (b && x.done) || marked slot_of_entry done_below k (dropped slot_of_entry n xs)) q ∙ go (c && x.done) e
  where
    go : (b : Bool) → (b || marked slot_of_entry done_below k xs) ≡ true → (b || marked slot_of_entry done_below k (dropped slot_of_entry n xs)) ≡ true
    go true e = refl
    go false e = ih e

marked_dropped : (n k : ℕ) (xs : List Entry) → (n == k) ≡ false → marked slot_of_entry done_below k xs ≡ true → marked slot_of_entry done_below k (dropped slot_of_entry n xs) ≡ true
marked_dropped n k [] o e = e
marked_dropped n k (x ∷ xs) o e = marked_dropped_at n k x xs (has n x) (has k x) refl refl o (marked_dropped n k xs o) e

traced_once : (es : List Event) (ws : List Entry) → Once es → ((n : ℕ) → any (ends n) es ≡ true → marked slot_of_entry done_below n ws ≡ true) → Traced slot_of_entry done_below es ws
traced_once [] ws o h = tt
traced_once (Issue n ∷ es) ws o h = traced_once es ws o h
traced_once (Done n ∷ es) ws o h = (
  h n (or_left (n == n) _ (same n)),
  traced_once es (dropped slot_of_entry n ws) o.1 (λ k e. marked_dropped n k ws (ends_differ n k es o.0 e) (h k (or_true (n == k) _ e))),
)

marked_moved_at : (n : ℕ) (es : List Event) (w : Entry) (ws : List Entry) (b : Bool) → has n w ≡ b → any (ends n) es ≡ true → (any (has n) ws ≡ true → marked slot_of_entry done_below n (map (moved es) ws) ≡ true)
    → (b || any (has n) ws) ≡ true → ((b && (w.done || any (ends w.request.slot) es)) || marked slot_of_entry done_below n (map (moved es) ws)) ≡ true
marked_moved_at n es w ws true p e ih h = or_left _ _ (or_true w.done _ (ap (λ k. any (ends k) es) (eqb-true w.request.slot n p) ∙ e))
marked_moved_at n es w ws false p e ih h = ih h

marked_moved : (n : ℕ) (es : List Event) (ws : List Entry) → any (ends n) es ≡ true → any (has n) ws ≡ true → marked slot_of_entry done_below n (map (moved es) ws) ≡ true
marked_moved n es [] e h = h
marked_moved n es (w ∷ ws) e h = marked_moved_at n es w ws (has n w) refl e (marked_moved n es ws e) h

-- the Dones of a step are of requests that are held and now done
pub traced_received : (es : List Event) (ws : List Entry) → ((n : ℕ) → Proper (standing n (map (reading 0) ws)) (events_of n es)) → ((n : ℕ) → any (has n) ws ≡ false → events_of n es ≡ []) → Traced slot_of_entry done_below es (map (moved es) ws)
traced_received es ws p h = traced_once es (map (moved es) ws) (once es (λ n. (standing n (map (reading 0) ws), p n))) (λ n e. marked_moved n es ws e (held n e))
  where
    held : (n : ℕ) → any (ends n) es ≡ true → any (has n) ws ≡ true
    held n e = go (any (has n) ws) refl
      where
        go : (b : Bool) → any (has n) ws ≡ b → b ≡ true
        go true k = refl
        go false k = absurd (both_ways _ (no_ends n es (h n k)) e)

-- ---- a request that is done has its Done ready

done_ready_one : (d t : Bool) → (d ≡ true → false ≡ true) → (d || t) ≡ true → t ≡ true
done_ready_one true t h e = absurd (both_ways false refl (h refl))
done_ready_one false t h e = e

pub done_ready_step : (es : List Event) (ws : List Entry) → Ready done_below [] ws → Ready done_below es (map (moved es) ws)
done_ready_step es [] r = tt
done_ready_step es (w ∷ ws) r = (done_ready_one w.done (any (ends w.request.slot) es) r.0, done_ready_step es ws r.1)

-- ---- a Done is ready in time

not_done : (d : Bool) → (d ≡ true → false ≡ true) → d ≡ false
not_done true h = absurd (both_ways false refl (h refl))
not_done false h = refl

in_time : (o d : Bool) (n : ℕ) (es ds : List Event) (X Y : Type 0) → d ≡ false → X → Y → ((o || d) ≡ false → X → any (ends n) es ≡ true) → ((not o || d) ≡ false → Y → any (ends n) ds ≡ true) → any (ends n) (es ++ ds) ≡ true
in_time true d n es ds X Y e x y p q = ends_append n es ds (q e y)
in_time false d n es ds X Y e x y p q = ends_before n es ds (p e x)

pub punctual_both : (other : Request → Bool) (a b q : ℕ) (es ds : List Event) (ws : List Entry) → q < 2 ^ 64 → a ≤ q → b ≤ q → Ready done_below [] ws → EachPunctual other a es ws → EachPunctual (opposite other) b ds ws
    → Punctual (map (reading q) (map (moved (es ++ ds)) ws)) (es ++ ds)
punctual_both other a b q es ds [] hq ha hb r s t = tt
punctual_both other a b q es ds (w ∷ ws) hq ha hb r s t = (
  λ z. in_time (other w.request) w.done w.request.slot es ds ((a - w.age) - 1 ≡ 0) ((b - w.age) - 1 ≡ 0) (not_done w.done r.0) (omega arith) (omega arith) s.0 t.0,
  punctual_both other a b q es ds ws hq ha hb r.1 s.1 t.1,
)
