-- What hidden domains send does not show: tables whose hidden payloads are fake and whose hidden queues are empty go the same way.
use Rattle.std.proofs.Common.{◌≡◌, ℕ, ◌+◌, ◌*◌, ◌%◌, Bool, true, false, cond, ◌&&◌, eqb, List, [], ◌∷◌, ◌++◌, length, Some, None, Option, sym, refl, ap, ◌∙◌}
use mathlib.Core.Path.{fun_ext}
use Rattle.std.proofs.lemmas.Bool.{eqb-true}
use Rattle.interface.specs.Meaning.{Meaning}
use Rattle.interface.specs.declared.Event.TheVariants.{Done, Issue}
use Rattle.interface.specs.declared.Event.{Event}
use Rattle.patterns.specs.Due.{due, next_start, round_end}
use Rattle.model.specs.Settings.{Settings, Vertex, domain_of, lane_of, pattern_at, vertices}
use Rattle.model.specs.Ticks.{Stage, Tables, after_events, after_rounds, after_tick, completed, controller_after, departed, departures, done, done_tick, done_in, lane_end, due_tick, finished, flying, is_due, is_still, leaves, leaving, oldest, payload_for, put, renewed, rounds, step_events, still, through, without, written}
use Rattle.model.specs.Payloads.{fake}
use Rattle.model.specs.declared.Waiting.{Waiting}

abbrev pub masked : Bool → Stage → Stage
masked h still = still
masked h (flying b k c) = flying b k (cond h fake c)
masked h (done m) = done m

abbrev pub hidden : Bool → List Waiting → List Waiting
hidden h q = cond h [] q

-- a function of the place goes through `put`
pub map_put : {X Y : Type 0} (g : ℕ → X → Y) (f : ℕ → X) (i : ℕ) (x : X) → (λ (j : ℕ). g j (put f i x j)) ≡ put (λ j. g j (f j)) i (g i x)
map_put {X} {Y} g f i x = fun_ext (λ j. go j (eqb j i) refl)
  where
    go : (j : ℕ) (t : Bool) → eqb j i ≡ t → g j (cond t x (f j)) ≡ cond t (g i x) (g j (f j))
    go j true e = ap (λ k. g k x) (eqb-true j i e)
    go j false e = refl

pub tables_path : {s s' : ℕ → Stage} {a a' : ℕ → ℕ} {q q' : ℕ → List Waiting} → s ≡ s' → a ≡ a' → q ≡ q'
    → ◌≡◌ {A = Tables} (record { stage = s; start = a; queue = q }) (record { stage = s'; start = a'; queue = q' })
tables_path p q r = λ i. record { stage = p i; start = q i; queue = r i }

masked_finished : (h o : Bool) (n : ℕ) (x : Stage) → masked h (finished o n x) ≡ finished o n (masked h x)
masked_finished h o n still = refl
masked_finished h true n (flying b k c) = refl
masked_finished h false n (flying b k c) = refl
masked_finished h o n (done m) = refl

masked_done : (h : Bool) (x : Stage) → done_tick (masked h x) ≡ done_tick x
masked_done h still = refl
masked_done h (flying b k c) = refl
masked_done h (done m) = refl

masked_renewed : (h : Bool) (o : Option ℕ) (x : Stage) → masked h (renewed o x) ≡ renewed o (masked h x)
masked_renewed h None x = refl
masked_renewed h (Some m) still = refl
masked_renewed h (Some m) (flying b k c) = refl
masked_renewed h (Some m) (done j) = refl

pub masked_still : (h : Bool) (x : Stage) → is_still (masked h x) ≡ is_still x
masked_still h still = refl
masked_still h (flying b k c) = refl
masked_still h (done m) = refl

module _ (h : ℕ → Bool) where
  abbrev pub mask_stages : (ℕ → Stage) → ℕ → Stage
  mask_stages s t = masked (h (domain_of t)) (s t)

  abbrev pub mask : Tables → Tables
  mask b = record { stage = mask_stages b.stage; start = b.start; queue = λ d. hidden (h d) (b.queue d) }

  mask_put : (s : ℕ → Stage) (t : ℕ) (x : Stage) → mask_stages (put s t x) ≡ put (mask_stages s) t (masked (h (domain_of t)) x)
  mask_put s t x = map_put (λ j y. masked (h (domain_of j)) y) s t x

  pub mask_completed : (c : Settings) (n : ℕ) (e : Event) (b : Tables) → mask (completed c n e b) ≡ completed c n e (mask b)
  unfolding completed
  mask_completed c n (Issue t) b = refl
  mask_completed c n (Done t) b = tables_path (mask_put b.stage t _ ∙ ap (put (mask_stages b.stage) t) (masked_finished (h (domain_of t)) _ n (b.stage t))) refl refl

  done_mask : (s : ℕ → Stage) (ℓ : ℕ) → done_in (mask_stages s) ℓ ≡ done_in s ℓ
  done_mask s ℓ = fun_ext (λ i. masked_done (h (domain_of (ℓ * 8 + i))) (s (ℓ * 8 + i)))

  end_mask : (c : Settings) (s : ℕ → Stage) (ℓ : ℕ) → lane_end c (mask_stages s) ℓ ≡ lane_end c s ℓ
  unfolding lane_end
  end_mask c s ℓ = ap (λ f. round_end f (length (pattern_at c ℓ).spots)) (done_mask s ℓ)

  pub mask_rounds : (c : Settings) (b : Tables) → mask (rounds c b) ≡ rounds c (mask b)
  unfolding rounds
  mask_rounds c b = tables_path
      (fun_ext (λ t. masked_renewed (h (domain_of t)) (lane_end c b.stage (lane_of t)) (b.stage t) ∙ ap (λ o. renewed o (mask_stages b.stage t)) (sym (end_mask c b.stage (lane_of t)))))
      (fun_ext (λ ℓ. ap (λ o. next_start (pattern_at c ℓ).rest o (b.start ℓ)) (sym (end_mask c b.stage ℓ))))
      refl

  leaves_mask : (n : ℕ) (b : Tables) (v : Vertex) → leaves n (mask b) v ≡ leaves n b v
  unfolding leaves due_tick
  leaves_mask n b v = ap (λ x. x && is_due n (due (b.start (lane_of v.slot)) (done_in (mask_stages b.stage) (lane_of v.slot)) v.edges (v.slot % 8))) (masked_still (h (domain_of v.slot)) (b.stage v.slot))
      ∙ ap (λ f. is_still (b.stage v.slot) && is_due n (due (b.start (lane_of v.slot)) f v.edges (v.slot % 8))) (done_mask b.stage (lane_of v.slot))

  pub leaving_mask : (n : ℕ) (b : Tables) (vs : List Vertex) → leaving n (mask b) vs ≡ leaving n b vs
  unfolding leaving
  leaving_mask n b [] = refl
  leaving_mask n b (v ∷ vs) = rw (leaves_mask n b v, leaving_mask n b vs)

  pub mask_departed : (v : Vertex) (b : Tables) → mask (departed v b) ≡ departed v (mask b)
  unfolding departed payload_for oldest without
  mask_departed v b = tables_path
      (mask_put b.stage v.slot _ ∙ ap (λ c. put (mask_stages b.stage) v.slot (flying v.bank v.kind c)) (payload (h (domain_of v.slot))))
      refl
      (map_put (λ d q. hidden (h d) q) b.queue (domain_of v.slot) _ ∙ ap (put (λ d. hidden (h d) (b.queue d)) (domain_of v.slot)) (rest (h (domain_of v.slot))))
    where
      payload : (t : Bool) → cond t fake (oldest v.bank v.kind (b.queue (domain_of v.slot))) ≡ oldest v.bank v.kind (hidden t (b.queue (domain_of v.slot)))
      payload true = refl
      payload false = refl

      rest : (t : Bool) → hidden t (without v.bank v.kind (b.queue (domain_of v.slot))) ≡ without v.bank v.kind (hidden t (b.queue (domain_of v.slot)))
      rest true = refl
      rest false = refl

  pub mask_through : {A : Type 0} (f : A → Tables → Tables) → ((x : A) (b : Tables) → mask (f x b) ≡ f x (mask b)) → (xs : List A) (b : Tables) → mask (through f xs b) ≡ through f xs (mask b)
  unfolding through
  mask_through f g [] b = refl
  mask_through f g (x ∷ xs) b = mask_through f g xs (f x b) ∙ ap (through f xs) (g x b)

  -- what is written, seen through q, is the same
  pub mask_written : {A O P : Type 0} (q : List O → List P) → ((x y : List O) → q (x ++ y) ≡ q x ++ q y) → (out : A → Tables → List O) (f : A → Tables → Tables)
      → ((x : A) (b : Tables) → mask (f x b) ≡ f x (mask b)) → ((x : A) (b : Tables) → q (out x (mask b)) ≡ q (out x b))
      → (xs : List A) (b : Tables) → q (written out f xs (mask b)) ≡ q (written out f xs b)
  unfolding written
  mask_written q qa out f g k [] b = refl
  mask_written q qa out f g k (x ∷ xs) b =
      qa (out x (mask b)) (written out f xs (f x (mask b)))
      ∙ ap (λ z. z ++ q (written out f xs (f x (mask b)))) (k x b)
      ∙ ap (λ z. q (out x b) ++ q (written out f xs z)) (sym (g x b))
      ∙ ap (λ z. q (out x b) ++ z) (mask_written q qa out f g k xs (f x b))
      ∙ sym (qa (out x b) (written out f xs (f x b)))

  module _ (r : Meaning (List ℕ)) (c : Settings) (n : ℕ) (s : List ℕ) (b : Tables) where
    pub events_mask : mask (after_events r c n s b) ≡ after_events r c n s (mask b)
    unfolding after_events
    events_mask = mask_through (completed c n) (mask_completed c n) (step_events r s) b

    pub rounds_mask : mask (after_rounds r c n s b) ≡ after_rounds r c n s (mask b)
    unfolding after_rounds
    rounds_mask = mask_rounds c (after_events r c n s b) ∙ ap (rounds c) events_mask

    pub departures_mask : departures r c n s (mask b) ≡ departures r c n s b
    unfolding departures
    departures_mask = ap (λ z. leaving n z (vertices c)) (sym rounds_mask) ∙ leaving_mask n (after_rounds r c n s b) (vertices c)

    pub tick_mask : mask (after_tick r c n s b) ≡ after_tick r c n s (mask b)
    unfolding after_tick
    tick_mask = mask_through departed mask_departed (departures r c n s b) (after_rounds r c n s b)
        ∙ ap (through departed (departures r c n s b)) rounds_mask
        ∙ ap (λ z. through departed z (after_rounds r c n s (mask b))) (sym departures_mask)

    pub controller_mask : controller_after r c n s (mask b) ≡ controller_after r c n s b
    unfolding controller_after
    controller_mask = rw departures_mask
