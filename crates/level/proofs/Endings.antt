-- The Dones of one slot over a history.
use Rattle.std.proofs.Common.{◌≡◌, ℕ, ◌+◌, ◌-◌, ◌^◌, ◌<◌, ◌≤◌, min, Bool, true, false, cond, ◌&&◌, ◌||◌, leb, List, [], ◌∷◌, ◌++◌, Some, None, Option, sym, refl, ap, ◌∙◌, subst, append-nil, arith, leb-false, leb-true}
use borrow.Author.Tests.{both_ways}
use Rattle.interface.specs.Meaning.{any}
use Rattle.interface.specs.Lawful.{ends}
use Rattle.interface.specs.declared.Request.{Request}
use Rattle.interface.specs.declared.Event.{Event}
use Rattle.layer.specs.declared.entry.Entry.{Entry}
use Rattle.layer.specs.Entries.{new_entry, is_due}
use Rattle.layer.proofs.Receiving.{moved}
use Rattle.level.specs.Laws.{done_at, Delayed}

-- ---- all is done

abbrev Complete : ℕ → List ℕ → List ℕ → List ℕ → Type 0
Complete L [] [] [] = Unit {0}
Complete L [] [] (d ∷ ds) = ⊥
Complete L [] (b ∷ bs) ds = ⊥
Complete L (k ∷ ks) [] ds = ⊥
Complete L (k ∷ ks) (b ∷ bs) [] = ⊥
Complete L (k ∷ ks) (b ∷ bs) (d ∷ ds) = (d ≡ done_at L k b) × Complete L ks bs ds

complete_more : (L k b : ℕ) (ks bs ds : List ℕ) → Complete L ks bs ds → Complete L (ks ++ (k ∷ [])) (bs ++ (b ∷ [])) (ds ++ (done_at L k b ∷ []))
complete_more L k b [] [] [] c = (refl, tt)
complete_more L k b [] [] (d ∷ ds) c = absurd c
complete_more L k b [] (x ∷ bs) ds c = absurd c
complete_more L k b (y ∷ ks) [] ds c = absurd c
complete_more L k b (y ∷ ks) (x ∷ bs) [] c = absurd c
complete_more L k b (y ∷ ks) (x ∷ bs) (d ∷ ds) c = (c.0, complete_more L k b ks bs ds c.1)

delayed_complete : (L t : ℕ) (ks bs ds : List ℕ) → Complete L ks bs ds → Delayed L t ks bs ds
delayed_complete L t [] [] [] c = tt
delayed_complete L t [] [] (d ∷ ds) c = c
delayed_complete L t [] (b ∷ bs) ds c = c
delayed_complete L t (k ∷ ks) [] ds c = absurd c
delayed_complete L t (k ∷ ks) (b ∷ bs) [] c = absurd c
delayed_complete L t (k ∷ ks) (b ∷ bs) (d ∷ ds) c = (c.0, delayed_complete L t ks bs ds c.1)

delayed_below : (L t k : ℕ) (ks bs ds : List ℕ) → Complete L ks bs ds → Delayed L t (ks ++ (k ∷ [])) bs ds
delayed_below L t k [] [] [] c = refl
delayed_below L t k [] [] (d ∷ ds) c = absurd c
delayed_below L t k [] (b ∷ bs) ds c = absurd c
delayed_below L t k (y ∷ ks) [] ds c = absurd c
delayed_below L t k (y ∷ ks) (b ∷ bs) [] c = absurd c
delayed_below L t k (y ∷ ks) (b ∷ bs) (d ∷ ds) c = (c.0, delayed_below L t k ks bs ds c.1)

delayed_waits : (L t k b : ℕ) (ks bs ds : List ℕ) → t ≤ done_at L k b → Complete L ks bs ds → Delayed L t (ks ++ (k ∷ [])) (bs ++ (b ∷ [])) ds
delayed_waits L t k b [] [] [] h c = (refl, refl, h)
delayed_waits L t k b [] [] (d ∷ ds) h c = absurd c
delayed_waits L t k b [] (x ∷ bs) ds h c = absurd c
delayed_waits L t k b (y ∷ ks) [] ds h c = absurd c
delayed_waits L t k b (y ∷ ks) (x ∷ bs) [] h c = absurd c
delayed_waits L t k b (y ∷ ks) (x ∷ bs) (d ∷ ds) h c = (c.0, delayed_waits L t k b ks bs ds h c.1)

-- ---- how a slot's part of the history stands, by what the table holds of it

-- after t steps, for an entry that was taken before step k
pub record Pending (L t : ℕ) (w : Entry) (ks bs ds : List ℕ) : Type 0 where
  before : List ℕ
  done : List ℕ
  ready : List ℕ
  from : ℕ
  complete : Complete L before done ready
  takings : ks ≡ before ++ (from ∷ [])
  past : from ≤ t
  age : w.age ≡ min (t - from) (2 ^ 64 - 1)
  waits : w.done ≡ false → (bs ≡ done) × (ds ≡ ready)
  ended : w.done ≡ true → (b : ℕ) × (b < t) × (bs ≡ done ++ (b ∷ [])) × (ds ≡ ready ++ cond (leb L w.age) (done_at L from b ∷ []) [])

abbrev pub Stands : ℕ → ℕ → Option Entry → List ℕ → List ℕ → List ℕ → Type 0
Stands L t None ks bs ds = Complete L ks bs ds
Stands L t (Some w) ks bs ds = Pending L t w ks bs ds

-- a request that is taken
pub stands_taken : (L t : ℕ) (q : Request) (ks bs ds : List ℕ) → Stands L t None ks bs ds → Stands L t (Some (new_entry q)) (ks ++ (t ∷ [])) bs ds
stands_taken L t q ks bs ds c = record {
  before = ks;
  done = bs;
  ready = ds;
  from = t;
  complete = c;
  takings = refl;
  past = omega arith;
  age = omega arith;
  waits = λ e. (refl, refl);
  ended = λ e. absurd (both_ways false refl e);
}

-- a request that is due, and whose Done is collected
pub stands_collected : (L t : ℕ) (w : Entry) (ks bs ds : List ℕ) → w.done ≡ true → leb L w.age ≡ true → Pending L t w ks bs ds → Complete L ks bs ds
stands_collected L t w ks bs ds d a p =
    let e = p.ended d in
    subst (λ x. Complete L x bs ds) (sym p.takings)
    (subst (λ x. Complete L (p.before ++ (p.from ∷ [])) x ds) (sym e.2)
    (subst (Complete L (p.before ++ (p.from ∷ [])) (p.done ++ (e.0 ∷ []))) (sym (e.3 ∙ ap (λ b. p.ready ++ cond b (done_at L p.from e.0 ∷ []) []) a))
    (complete_more L p.from e.0 p.before p.done p.ready p.complete)))

-- ---- a step

abbrev pub at_step : ℕ → Bool → List ℕ
at_step t b = cond b (t ∷ []) []

step_none : (xs : List ℕ) (t : ℕ) (b : Bool) → b ≡ false → xs ++ at_step t b ≡ xs
step_none xs t b e = ap (λ v. xs ++ at_step t v) e ∙ append-nil xs

pub stands_still : (L t : ℕ) (ks bs ds : List ℕ) (x y : Bool) → x ≡ false → y ≡ false → Complete L ks bs ds → Complete L ks (bs ++ at_step t x) (ds ++ at_step t y)
stands_still L t ks bs ds x y e f c = subst (λ v. Complete L ks v (ds ++ at_step t y)) (sym (step_none bs t x e)) (subst (Complete L ks bs) (sym (step_none ds t y f)) c)

-- the L-th step is the one that makes an entry old enough
reaches : (L t k a b : ℕ) (g h : Bool) → L ≤ 65535 → k ≤ t → a ≡ min (t - k) (2 ^ 64 - 1) → b < t → leb L a ≡ false → leb L (min (a + 1) (2 ^ 64 - 1)) ≡ h → at_step t h ≡ cond h (done_at L k b ∷ []) []
reaches L t k a b g true hl hk ha hb f e =
    let x = leb-false L a f in
    let y = leb-true L (min (a + 1) (2 ^ 64 - 1)) e in
    let z : t ≡ done_at L k b = omega arith in
    ap (λ v. v ∷ []) z
reaches L t k a b g false hl hk ha hb f e = refl

now_done : (L t k a : ℕ) (h : Bool) → L ≤ 65535 → k ≤ t → a ≡ min (t - k) (2 ^ 64 - 1) → leb L (min (a + 1) (2 ^ 64 - 1)) ≡ h → at_step t h ≡ cond h (done_at L k t ∷ []) []
now_done L t k a true hl hk ha e =
    let y = leb-true L (min (a + 1) (2 ^ 64 - 1)) e in
    let z : t ≡ done_at L k t = omega arith in
    ap (λ v. v ∷ []) z
now_done L t k a false hl hk ha e = refl

-- x says whether the Done came from below in step t, and what is due then is ready in it
pub stands_stepped : (L t : ℕ) (es : List Event) (w : Entry) (ks bs ds : List ℕ) (d x : Bool) → L ≤ 65535 → w.done ≡ d → any (ends w.request.slot) es ≡ x → (d ≡ true → x ≡ false) → (d ≡ true → leb L w.age ≡ false)
    → Pending L t w ks bs ds → Pending L (t + 1) (moved es w) ks (bs ++ at_step t x) (ds ++ at_step t (is_due L (moved es w)))
stands_stepped L t es w ks bs ds true x hl hd hx nx due p =
    let e = p.ended hd in
    let old = p.past in
    let years = p.age in
    let due_now : is_due L (moved es w) ≡ leb L (moved es w).age = ap (λ v. (v || any (ends w.request.slot) es) && leb L (moved es w).age) hd in
    record {
      before = p.before;
      done = p.done;
      ready = p.ready;
      from = p.from;
      complete = p.complete;
      takings = p.takings;
      past = omega arith;
      age = omega arith;
      waits = λ f. absurd (both_ways _ f (ap (λ v. v || any (ends w.request.slot) es) hd));
      ended = λ f. (
        e.0,
        let later = e.1 in omega arith,
        step_none bs t x (nx refl) ∙ e.2,
        ap (λ v. ds ++ at_step t v) due_now
            ∙ ap (λ v. v ++ at_step t (leb L (moved es w).age)) (e.3 ∙ ap (λ v. p.ready ++ cond v (done_at L p.from e.0 ∷ []) []) (due refl) ∙ append-nil p.ready)
            ∙ ap (λ v. p.ready ++ v) (reaches L t p.from w.age e.0 true (leb L (moved es w).age) hl p.past p.age e.1 (due refl) refl),
      );
    }
stands_stepped L t es w ks bs ds false true hl hd hx nx due p =
    let e = p.waits hd in
    let old = p.past in
    let years = p.age in
    let is_done : (w.done || any (ends w.request.slot) es) ≡ true = ap (λ v. v || any (ends w.request.slot) es) hd ∙ hx in
    record {
      before = p.before;
      done = p.done;
      ready = p.ready;
      from = p.from;
      complete = p.complete;
      takings = p.takings;
      past = omega arith;
      age = omega arith;
      waits = λ f. absurd (both_ways _ f is_done);
      ended = λ f. (
        t,
        omega arith,
        ap (λ v. v ++ (t ∷ [])) e.0,
        ap (λ v. ds ++ at_step t (v && leb L (moved es w).age)) is_done
            ∙ ap (λ v. v ++ at_step t (leb L (moved es w).age)) e.1
            ∙ ap (λ v. p.ready ++ v) (now_done L t p.from w.age (leb L (moved es w).age) hl p.past p.age refl),
      );
    }
stands_stepped L t es w ks bs ds false false hl hd hx nx due p =
    let e = p.waits hd in
    let old = p.past in
    let years = p.age in
    let not_done : (w.done || any (ends w.request.slot) es) ≡ false = ap (λ v. v || any (ends w.request.slot) es) hd ∙ hx in
    record {
      before = p.before;
      done = p.done;
      ready = p.ready;
      from = p.from;
      complete = p.complete;
      takings = p.takings;
      past = omega arith;
      age = omega arith;
      waits = λ f. (append-nil bs ∙ e.0, ap (λ v. ds ++ at_step t (v && leb L (moved es w).age)) not_done ∙ append-nil ds ∙ e.1);
      ended = λ f. absurd (both_ways _ not_done f);
    }

-- ---- the law of one slot

pending_delayed : (L t : ℕ) (w : Entry) (ks bs ds : List ℕ) (d a : Bool) → w.done ≡ d → leb L w.age ≡ a → L ≤ 65535 → Pending L t w ks bs ds → Delayed L t ks bs ds
pending_delayed L t w ks bs ds false a hd ha hl p =
    let e = p.waits hd in
    subst (λ x. Delayed L t x bs ds) (sym p.takings)
    (subst (λ x. Delayed L t (p.before ++ (p.from ∷ [])) x ds) (sym e.0)
    (subst (Delayed L t (p.before ++ (p.from ∷ [])) p.done) (sym e.1) (delayed_below L t p.from p.before p.done p.ready p.complete)))
pending_delayed L t w ks bs ds true true hd ha hl p = delayed_complete L t ks bs ds (stands_collected L t w ks bs ds hd ha p)
pending_delayed L t w ks bs ds true false hd ha hl p =
    let e = p.ended hd in
    let old = p.past in
    let years = p.age in
    let young = leb-false L w.age ha in
    let later = e.1 in
    let not_yet : t ≤ done_at L p.from e.0 = omega arith in
    subst (λ x. Delayed L t x bs ds) (sym p.takings)
    (subst (λ x. Delayed L t (p.before ++ (p.from ∷ [])) x ds) (sym e.2)
    (subst (Delayed L t (p.before ++ (p.from ∷ [])) (p.done ++ (e.0 ∷ []))) (sym (e.3 ∙ ap (λ b. p.ready ++ cond b (done_at L p.from e.0 ∷ []) []) ha ∙ append-nil p.ready))
    (delayed_waits L t p.from e.0 p.before p.done p.ready not_yet p.complete)))

pub stands_delayed : (L t : ℕ) (o : Option Entry) (ks bs ds : List ℕ) → L ≤ 65535 → Stands L t o ks bs ds → Delayed L t ks bs ds
stands_delayed L t None ks bs ds hl c = delayed_complete L t ks bs ds c
stands_delayed L t (Some w) ks bs ds hl p = pending_delayed L t w ks bs ds w.done (leb L w.age) refl refl hl p
