-- The span. In a class of requests the next is issued within some steps, and each further one within a period more;
-- each is done within the longest delay after its issue.
use Rattle.std.proofs.Common.{◌≡◌, ℕ, zero, suc, ◌+◌, ◌-◌, ◌≤◌, Bool, true, false, cond, ◌&&◌, List, [], ◌∷◌, ◌++◌, map, length, Some, None, Option, sym, refl, ap, ◌∙◌, subst, ⊎_elim, arith}
use borrow.Author.Tests.{both_ways}
use Rattle.interface.specs.Slots.{dropped}
use Rattle.interface.specs.declared.Request.{Request}
use Rattle.held.specs.declared.entries.Entry.{Entry}
use Rattle.held.specs.Entries.{later, sooner, issued_now, longest_delay, key, has, next_of, issue_next, new_entry}
use Rattle.held.proofs.Stepping.{delay_most, at_head, no_next, Enough}

abbrev pub Asked : Bool → Type 0 → Type 0
Asked true A = A
Asked false A = Unit {0}

abbrev pub InTime : Bool → ℕ → Option ℕ → ℕ → Type 0
InTime b w None left = Asked b (w + longest_delay ≤ left)
InTime b w (Some n) left = n ≤ left

abbrev pub times : ℕ → ℕ → ℕ
times period zero = 0
times period (suc n) = period + times period n

pub times_more : (period n m : ℕ) → n ≤ m → times period n ≤ times period m
times_more period zero m h = omega arith
times_more period (suc n) zero h = absurd (omega arith)
times_more period (suc n) (suc m) h = let k : n ≤ m = omega arith in let i = times_more period n m k in omega arith

module _ (period : ℕ) (k : Request → Bool) where
  abbrev pub next : Bool → ℕ → Option ℕ → ℕ
  next b w None = cond b (w + period) w
  next b w (Some n) = w

  -- the next request of the class that waits is issued within w steps, and the steps left suffice for all
  abbrev pub Timely : ℕ → List Entry → Type 0
  Timely w [] = Unit {0}
  Timely w (h ∷ hs) = InTime (k h.request) w h.until_done h.left × Timely (next (k h.request) w h.until_done) hs

  timely_less_at : (b : Bool) (u w : ℕ) (s : Option ℕ) (l : ℕ) (hs : List Entry) → u ≤ w → ((u' w' : ℕ) → u' ≤ w' → Timely w' hs → Timely u' hs)
      → InTime b w s l → Timely (next b w s) hs → InTime b u s l × Timely (next b u s) hs
  timely_less_at true u w None l hs le ih a t = (omega arith, ih (u + period) (w + period) (omega arith) t)
  timely_less_at false u w None l hs le ih a t = (tt, ih u w le t)
  timely_less_at b u w (Some n) l hs le ih a t = (a, ih u w le t)

  pub timely_less : (hs : List Entry) (u w : ℕ) → u ≤ w → Timely w hs → Timely u hs
  timely_less [] u w le t = tt
  timely_less (h ∷ hs) u w le t = timely_less_at (k h.request) u w h.until_done h.left hs le (timely_less hs) t.0 t.1

  timely_later_at : (b : Bool) (w v : ℕ) (s : Option ℕ) (l : ℕ) (hs : List Entry) → w ≡ suc v → ((w' v' : ℕ) → w' ≡ suc v' → Timely w' hs → Timely v' (map later hs))
      → InTime b w s l → Timely (next b w s) hs → InTime b v (sooner s) (l - 1) × Timely (next b v (sooner s)) (map later hs)
  timely_later_at true w v None l hs e ih a t = (omega arith, ih (w + period) (v + period) (omega arith) t)
  timely_later_at false w v None l hs e ih a t = (tt, ih w v e t)
  timely_later_at b w v (Some n) l hs e ih a t = (omega arith, ih w v e t)

  -- a step passes
  pub timely_later : (hs : List Entry) (w v : ℕ) → w ≡ suc v → Timely w hs → Timely v (map later hs)
  timely_later [] w v e t = tt
  timely_later (h ∷ hs) w v e t = timely_later_at (k h.request) w v h.until_done h.left hs e (timely_later hs) t.0 t.1

  new_in_time : (b : Bool) (w n : ℕ) → w + longest_delay ≤ n → InTime b w None n
  new_in_time true w n h = h
  new_in_time false w n h = tt

  timely_append_at : (b : Bool) (w n m : ℕ) (q : Request) (s : Option ℕ) (l : ℕ) (hs : List Entry) → w + (period + m) + longest_delay ≤ n
      → ((w' : ℕ) → w' + m + longest_delay ≤ n → Timely w' hs → Timely w' (hs ++ (new_entry n q ∷ [])))
      → InTime b w s l → Timely (next b w s) hs → InTime b w s l × Timely (next b w s) (hs ++ (new_entry n q ∷ []))
  timely_append_at true w n m q None l hs le ih a t = (a, ih (w + period) (omega arith) t)
  timely_append_at false w n m q None l hs le ih a t = (a, ih w (omega arith) t)
  timely_append_at b w n m q (Some j) l hs le ih a t = (a, ih w (omega arith) t)

  -- The key to a span of n: it has room for w steps, a period for each request that is held, and the longest delay.
  pub timely_append : (hs : List Entry) (q : Request) (w n : ℕ) → w + times period (length hs) + longest_delay ≤ n → Timely w hs → Timely w (hs ++ (new_entry n q ∷ []))
  timely_append [] q w n le t = (new_in_time (k q) w n (omega arith), tt)
  timely_append (h ∷ hs) q w n le t = timely_append_at (k h.request) w n (times period (length hs)) q h.until_done h.left hs le (λ w'. timely_append hs q w' n) t.0 t.1

  next_least : (b : Bool) (w : ℕ) (s : Option ℕ) → w ≤ next b w s
  next_least true w None = omega arith
  next_least false w None = omega arith
  next_least b w (Some n) = omega arith

  timely_dropped_at : (w m : ℕ) (h : Entry) (hs : List Entry) (b : Bool) → ((w' : ℕ) → Timely w' hs → Timely w' (dropped key m hs)) → Timely w (h ∷ hs) → Timely w (cond b hs (h ∷ dropped key m hs))
  timely_dropped_at w m h hs true ih t = timely_less hs w (next (k h.request) w h.until_done) (next_least (k h.request) w h.until_done) t.1
  timely_dropped_at w m h hs false ih t = (t.0, ih (next (k h.request) w h.until_done) t.1)

  pub timely_dropped : (hs : List Entry) (m w : ℕ) → Timely w hs → Timely w (dropped key m hs)
  timely_dropped [] m w t = tt
  timely_dropped (h ∷ hs) m w t = timely_dropped_at w m h hs (has m h) (timely_dropped hs m) t

  none_at : (b : Bool) (u v : ℕ) (q : Request) (s : Option ℕ) (l : ℕ) (hs : List Entry) → k q ≡ b → (next_of k hs ≡ None → Timely v hs → Timely u hs)
      → next_of k (record { request = q; until_done = s; left = l } ∷ hs) ≡ None → InTime b v s l → Timely (next b v s) hs → InTime b u s l × Timely (next b u s) hs
  none_at true u v q None l hs kb ih e a t =
      let e' : ◌≡◌ {A = Option Entry} (Some (record { request = q; until_done = None; left = l })) None = sym (ap (λ b. cond (b && true) (Some (record { request = q; until_done = None; left = l })) (next_of k hs)) kb) ∙ e in
      let z : ◌≡◌ {A = ℕ} 0 1 = cc in absurd (omega arith)
  none_at false u v q None l hs kb ih e a t = (tt, ih (sym (ap (λ b. cond (b && true) (Some (record { request = q; until_done = None; left = l })) (next_of k hs)) kb) ∙ e) t)
  none_at true u v q (Some n) l hs kb ih e a t = (a, ih (sym (ap (λ b. cond (b && false) (Some (record { request = q; until_done = Some n; left = l })) (next_of k hs)) kb) ∙ e) t)
  none_at false u v q (Some n) l hs kb ih e a t = (a, ih (sym (ap (λ b. cond (b && false) (Some (record { request = q; until_done = Some n; left = l })) (next_of k hs)) kb) ∙ e) t)

  -- none of the class waits
  pub timely_none : (hs : List Entry) (u v : ℕ) → next_of k hs ≡ None → Timely v hs → Timely u hs
  timely_none [] u v e t = tt
  timely_none (h ∷ hs) u v e t = none_at (k h.request) u v h.request h.until_done h.left hs refl (timely_none hs u v) e t.0 t.1

  waiting_left : (b : Bool) (v : ℕ) (s : Option ℕ) (l : ℕ) → b ≡ true → s ≡ None → InTime b v s l → v + longest_delay ≤ l
  waiting_left true v None l c e a = a
  waiting_left false v s l c e a = absurd (both_ways false refl c)
  waiting_left true v (Some n) l c e a = let z : ◌≡◌ {A = ℕ} 0 1 = cc in absurd (omega arith)

  waiting_next : (b : Bool) (v : ℕ) (s : Option ℕ) → b ≡ true → s ≡ None → v + period ≡ next b v s
  waiting_next true v None c e = refl
  waiting_next false v s c e = absurd (both_ways false refl c)
  waiting_next true v (Some n) c e = let z : ◌≡◌ {A = ℕ} 0 1 = cc in absurd (omega arith)

  same_next : (b : Bool) (v : ℕ) (s : Option ℕ) → b ≡ false → next b v s ≡ v
  same_next true v s e = absurd (both_ways true e refl)
  same_next false v None e = refl
  same_next false v (Some n) e = refl

  -- the steps left of the next of the class
  pub next_left : (hs : List Entry) (h : Entry) (v : ℕ) → next_of k hs ≡ Some h → Timely v hs → longest_delay ≤ h.left
  next_left [] h v e t = absurd (no_next k h e)
  next_left (x ∷ hs) h v e t =
      ⊎_elim
      (λ f. let a = waiting_left (k x.request) v x.until_done x.left f.0.0 f.0.1 t.0 in let z = ap (λ (y : Entry). y.left) f.0.2 in omega arith)
      (λ f. next_left hs h (next (k x.request) v x.until_done) f.0 t.1)
      (at_head k x hs h e)

  timely_issued_at : (b : Bool) (v : ℕ) (q : Request) (s : Option ℕ) (l : ℕ) (hs : List Entry) → k q ≡ b → (Timely v hs → Timely period (issue_next k hs))
      → InTime b v s l → Timely (next b v s) hs → Timely period (issue_next k (record { request = q; until_done = s; left = l } ∷ hs))
  timely_issued_at true v q None l hs kb ih a t =
      let x : Entry = record { request = q; until_done = None; left = l } in
      let f = delay_most q.kind in
      subst (λ c. Timely period (cond (c && true) (issued_now x ∷ hs) (x ∷ issue_next k hs))) (sym kb) (omega arith, timely_less hs period (v + period) (omega arith) t)
  timely_issued_at false v q None l hs kb ih a t =
      let x : Entry = record { request = q; until_done = None; left = l } in
      subst (λ c. Timely period (cond (c && true) (issued_now x ∷ hs) (x ∷ issue_next k hs))) (sym kb)
      (subst (λ c. InTime c period None l × Timely (next c period None) (issue_next k hs)) (sym kb) (tt, ih t))
  timely_issued_at true v q (Some n) l hs kb ih a t =
      let x : Entry = record { request = q; until_done = Some n; left = l } in
      subst (λ c. Timely period (cond (c && false) (issued_now x ∷ hs) (x ∷ issue_next k hs))) (sym kb) (a, ih t)
  timely_issued_at false v q (Some n) l hs kb ih a t =
      let x : Entry = record { request = q; until_done = Some n; left = l } in
      subst (λ c. Timely period (cond (c && false) (issued_now x ∷ hs) (x ∷ issue_next k hs))) (sym kb) (a, ih t)

  -- the next of the class is issued: the one after it may have to wait a period
  pub timely_issued : (hs : List Entry) (v : ℕ) → Timely v hs → Timely period (issue_next k hs)
  timely_issued [] v t = tt
  timely_issued (h ∷ hs) v t = timely_issued_at (k h.request) v h.request h.until_done h.left hs refl (timely_issued hs v) t.0 t.1

  -- one of another class is issued
  pub timely_other : (j : Request → Bool) → ((q : Request) → j q ≡ true → k q ≡ false) → (hs : List Entry) (h : Entry) (v : ℕ) → next_of j hs ≡ Some h → longest_delay ≤ h.left → Timely v hs → Timely v (issue_next j hs)
  timely_other j o [] h v e g t = tt
  timely_other j o (x ∷ hs) h v e g t =
      ⊎_elim
      (λ f.
      let z = ap (λ (y : Entry). y.left) f.0.2 in
      let m = delay_most x.request.kind in
      subst (Timely v) (sym f.1) (omega arith, subst (λ w. Timely w hs) (same_next (k x.request) v x.until_done (o x.request f.0.0)) t.1))
      (λ f. subst (Timely v) (sym f.1) (t.0, timely_other j o hs h (next (k x.request) v x.until_done) f.0 g t.1))
      (at_head j x hs h e)

-- a request of the class has steps enough
pub enough : (b : Bool) (w : ℕ) (s : Option ℕ) (l : ℕ) → b ≡ true → InTime b w s l → Enough s l
enough true w None l e t = omega arith
enough false w s l e t = absurd (both_ways false refl e)
enough true w (Some n) l e t = t
