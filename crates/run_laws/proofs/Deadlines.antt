-- By when each vertex of a round leaves and is done.
use Rattle.std.proofs.Common.{◌≡◌, ℕ, suc, ◌+◌, ◌*◌, ◌<◌, ◌≤◌, max, Bool, true, false, cond, eqb, leb, ◌⊎◌, List, [], ◌∷◌, Some, None, Option, sym, refl, ap, ◌∙◌, inl, inr, mul-le-mul_right, arith}
use Rattle.std.proofs.ByRecursion.{All-weaker}
use Rattle.std.proofs.lemmas.Bool.{eqb-true, leb-true, leb-false, le-leb, lt-leb, true≢false}
use Rattle.std.specs.List.{AllByRecursion}
use Rattle.interface.specs.declared.Kind.{Kind}
use Rattle.patterns.specs.Due.{all_weights, later}
use Rattle.patterns.specs.declared.edge.Edge.{Edge}
use Rattle.model.specs.Settings.{Vertex}
use Rattle.model.specs.Ticks.{Stage, done, done_tick, finished, flying, is_due, is_still, still}
use Rattle.model.specs.Payloads.{Payload}
use Rattle.run_laws.proofs.Lanes.{plus, greatest_of, Source, due_from, last_done, last_from, sources_into}

abbrev pub weigh : ℕ → List Edge → ℕ
weigh i [] = 0
weigh i (e ∷ es) = cond (leb e.target i) e.weight 0 + weigh i es

part_mono : (t w u i : ℕ) → u ≤ i → cond (leb t u) w 0 ≤ cond (leb t i) w 0
part_mono t w u i h = go (leb t u) refl
  where
    go : (x : Bool) → leb t u ≡ x → cond x w 0 ≤ cond (leb t i) w 0
    go true e = let k : t ≤ u = leb-true t u e in rw (le-leb t i (omega arith)) (omega arith)
    go false e = omega arith

weigh_mono : (u i : ℕ) (es : List Edge) → u ≤ i → weigh u es ≤ weigh i es
weigh_mono u i [] h = omega arith
weigh_mono u i (e ∷ es) h = let a = part_mono e.target e.weight u i h in let b = weigh_mono u i es h in omega arith

weigh_total : (i : ℕ) (es : List Edge) → weigh i es ≤ all_weights es
weigh_total i [] = omega arith
weigh_total i (e ∷ es) = let b = weigh_total i es in go (leb e.target i) b
  where
    go : (x : Bool) → weigh i es ≤ all_weights es → cond x e.weight 0 + weigh i es ≤ e.weight + all_weights es
    go true b = omega arith
    go false b = omega arith

-- an edge from u into i: u comes before, and the edge's weight counts for i and not for u
pub record Into (base i : ℕ) (es : List Edge) (s : Source) : Type 0 where
  pub at : ℕ
  pub slot_is : s.slot ≡ base + at
  pub before : at < i
  pub weighs : weigh at es + s.weight ≤ weigh i es

pub sources_fine : (base i : ℕ) (es : List Edge) → AllByRecursion (λ (e : Edge). e.source < e.target) es → AllByRecursion (Into base i es) (sources_into base i es)
unfolding sources_into
sources_fine base i [] h = tt
sources_fine base i (e ∷ es) h = go (eqb e.target i) refl (All-weaker (Into base i es) (Into base i (e ∷ es)) on (sources_into base i es) (sources_fine base i es h.1))
  where
    on : (s : Source) → Into base i es s → Into base i (e ∷ es) s
    on s m = record { at = m.at; slot_is = m.slot_is; before = m.before; weighs = (let a = part_mono e.target e.weight m.at i (omega arith) in let b = m.weighs in omega arith) }

    go : (x : Bool) → eqb e.target i ≡ x → AllByRecursion (Into base i (e ∷ es)) (sources_into base i es)
        → AllByRecursion (Into base i (e ∷ es)) (cond x (record { slot = base + e.source; weight = e.weight } ∷ sources_into base i es) (sources_into base i es))
    go true z rest =
        let same : e.target ≡ i = eqb-true e.target i z in
        let less : e.source < e.target = h.0 in
        let m = weigh_mono e.source i es (omega arith) in
        (record { at = e.source; slot_is = refl; before = omega arith; weighs = rw (lt-leb e.target e.source (omega arith), le-leb e.target i (omega arith)) (omega arith) }, rest)
    go false z rest = rest

module _ (span start : ℕ) (es : List Edge) where
  abbrev pub leave_by : ℕ → ℕ
  leave_by i = start + i * span + weigh i es

  abbrev pub done_by : ℕ → ℕ
  done_by i = leave_by i + span

  pub done_before : (u i : ℕ) → u < i → done_by u ≤ leave_by i
  done_before u i h =
      let m : suc u * span ≤ i * span = mul-le-mul_right span h in
      let w = weigh_mono u i es (omega arith) in
      omega arith

  pub done_all : (i n : ℕ) → i < n → done_by i ≤ start + n * span + all_weights es
  done_all i n h =
      let m : suc i * span ≤ n * span = mul-le-mul_right span h in
      let w = weigh_total i es in
      omega arith

  -- before tick n
  abbrev pub Fine : ℕ → ℕ → ℕ → Stage → Type 0
  Fine n i left still = n ≤ leave_by i
  Fine n i left (flying b k c) = (n + left ≤ suc (done_by i)) × (1 ≤ left) × (start < n)
  Fine n i left (done m) = (m ≤ done_by i) × (m < n) × (start < n)

  -- within tick n, before departures
  abbrev pub Mid : ℕ → ℕ → ℕ → Stage → Type 0
  Mid n i left still = n ≤ leave_by i
  Mid n i left (flying b k c) = (n + left ≤ done_by i) × (1 ≤ left) × (start ≤ n)
  Mid n i left (done m) = (m ≤ done_by i) × (m ≤ n) × (start ≤ n)

  -- a vertex that is not done in the middle of tick n is still needed after it
  pub mid_late : (n u left : ℕ) (x : Stage) → 1 ≤ span → Mid n u left x → done_tick x ≡ None → n < done_by u
  mid_late n u left still h m e = omega arith
  mid_late n u left (flying b k c) h m e = let a = m.0 in let b' = m.1 in omega arith
  mid_late n u left (done j) h m e = absurd (let z : ◌≡◌ {A = ℕ} 0 1 = cc in omega arith)

  mid_done : (n u left : ℕ) (x : Stage) (m : ℕ) → Mid n u left x → done_tick x ≡ Some m → (m ≤ done_by u) × (start ≤ n)
  mid_done n u left still m h e = absurd (let z : ◌≡◌ {A = ℕ} 0 1 = cc in omega arith)
  mid_done n u left (flying b k c) m h e = absurd (let z : ◌≡◌ {A = ℕ} 0 1 = cc in omega arith)
  mid_done n u left (done j) m h e = let same : j ≡ m = cc in let a = h.0 in let b = h.2 in (omega arith, omega arith)

  abbrev pub By : ℕ → ℕ → Option ℕ → Type 0
  By n k None = n < k
  By n k (Some m) = m ≤ k

  module _ (base n many : ℕ) (stage : ℕ → Stage) (left : ℕ → ℕ) (spans : 1 ≤ span) (mids : (u : ℕ) → u < many → Mid n u (left u) (stage (base + u))) where
    -- either some source is not done, or the greatest comes no later than leave_by
    greatest_by : (i : ℕ) → i < many → (ss : List Source) → AllByRecursion (Into base i es) ss → By n (leave_by i) (greatest_of stage ss)
    unfolding greatest_of
    greatest_by i h [] a = omega arith
    greatest_by i h (s ∷ ss) a = go (done_tick (stage s.slot)) refl (greatest_of stage ss) (greatest_by i h ss a.1)
      where
        m : Into base i es s
        m = a.0

        mid : Mid n m.at (left m.at) (stage (base + m.at))
        mid = mids m.at (let k = m.before in omega arith)

        at_slot : (o : Option ℕ) → done_tick (stage s.slot) ≡ o → done_tick (stage (base + m.at)) ≡ o
        at_slot o e = ap (λ z. done_tick (stage z)) (sym m.slot_is) ∙ e

        go : (o : Option ℕ) → done_tick (stage s.slot) ≡ o → (g : Option ℕ) → By n (leave_by i) g → By n (leave_by i) (later (plus s.weight o) g)
        go None e g k = let a = mid_late n m.at (left m.at) _ spans mid (at_slot None e) in let b = done_before m.at i m.before in omega arith
        go (Some x) e None k = k
        go (Some x) e (Some y) k =
            let a = (mid_done n m.at (left m.at) _ x mid (at_slot (Some x) e)).0 in
            let c : suc m.at * span ≤ i * span = mul-le-mul_right span m.before in
            let d = m.weighs in
            omega arith

    pub due_by : (i : ℕ) → i < many → (ss : List Source) → AllByRecursion (Into base i es) ss → (c : Bool) → is_due n (due_from start stage ss) ≡ false → n < leave_by i
    unfolding due_from
    due_by i h [] a c e = let k : n < start = leb-false start n e in omega arith
    due_by i h (s ∷ ss) a c e = go (greatest_of stage (s ∷ ss)) e (greatest_by i h (s ∷ ss) a)
      where
        go : (o : Option ℕ) → is_due n o ≡ false → By n (leave_by i) o → n < leave_by i
        go None e k = k
        go (Some m) e k = let j : n < m = leb-false m n e in omega arith

    -- nothing leaves before the start
    pub begun_by : (i : ℕ) → i < many → (ss : List Source) → AllByRecursion (Into base i es) ss → is_due n (due_from start stage ss) ≡ true → start ≤ n
    unfolding due_from greatest_of
    begun_by i h [] a e = leb-true start n e
    begun_by i h (s ∷ ss) a e = go (done_tick (stage s.slot)) refl e
      where
        m : Into base i es s
        m = a.0

        go : (o : Option ℕ) → done_tick (stage s.slot) ≡ o → is_due n (later (plus s.weight o) (greatest_of stage ss)) ≡ true → start ≤ n
        go None e f = absurd (true≢false (sym f))
        go (Some x) e f = (mid_done n m.at (left m.at) (stage (base + m.at)) x (mids m.at (let k = m.before in omega arith)) (ap (λ z. done_tick (stage z)) (sym m.slot_is) ∙ e)).1

    pub left_fine : (i : ℕ) → i < many → (ss : List Source) → AllByRecursion (Into base i es) ss → (b : ℕ) (k : Kind) (c : Payload) → n ≤ leave_by i → is_due n (due_from start stage ss) ≡ true → (l : ℕ) → (1 ≤ l) × (l ≤ span) → Fine (suc n) i l (flying b k c)
    left_fine i h ss a b k c m e l u = let g = begun_by i h ss a e in let v = u.0 in let w = u.1 in (omega arith, omega arith, omega arith)

    pub stay_fine : (i : ℕ) → i < many → (ss : List Source) → AllByRecursion (Into base i es) ss → (x : Stage) (l : ℕ) → Mid n i l x → (x ≡ still → is_due n (due_from start stage ss) ≡ false) → Fine (suc n) i l x
    stay_fine i h ss a still l m e = due_by i h ss a true (e refl)
    stay_fine i h ss a (flying b k c) l m e = let p = m.0 in let q = m.1 in let t = m.2 in (omega arith, omega arith, omega arith)
    stay_fine i h ss a (done j) l m e = let p = m.0 in let q = m.1 in let t = m.2 in (omega arith, omega arith, omega arith)

  -- the events of a tick
  pub events_fine : (n i l k : ℕ) (x : Stage) (f : Bool) → Fine n i l x → (is_still x ≡ false → done_tick x ≡ None → f ≡ false → (k < l) × (1 ≤ k)) → Mid n i k (cond f (finished false n x) x)
  events_fine n i l k still true h e = h
  events_fine n i l k still false h e = h
  events_fine n i l k (flying b y c) true h e = let p = h.0 in let q = h.1 in let t = h.2 in (omega arith, omega arith, omega arith)
  events_fine n i l k (flying b y c) false h e = let p = h.0 in let q = h.1 in let t = h.2 in let z = e refl refl refl in (omega arith, omega arith, omega arith)
  events_fine n i l k (done m) true h e = let p = h.0 in let q = h.1 in let t = h.2 in (omega arith, omega arith, omega arith)
  events_fine n i l k (done m) false h e = let p = h.0 in let q = h.1 in let t = h.2 in (omega arith, omega arith, omega arith)

pub none≢some : {X : Type 0} {x : X} → None ≡ Some x → ⊥
none≢some e = let z : ◌≡◌ {A = ℕ} 0 1 = cc in omega arith

pub some_is : (a b : ℕ) → Some a ≡ Some b → a ≡ b
some_is a b e = cc

pub record Later (o d : Option ℕ) (j : ℕ) : Type 0 where
  pub a : ℕ
  pub b : ℕ
  pub left_is : o ≡ Some a
  pub right_is : d ≡ Some b
  pub is : j ≡ max a b

later_parts : (o d : Option ℕ) (j : ℕ) → later o d ≡ Some j → Later o d j
later_parts None d j e = absurd (none≢some e)
later_parts (Some a) None j e = absurd (none≢some e)
later_parts (Some a) (Some b) j e = record { a = a; b = b; left_is = refl; right_is = refl; is = sym (some_is (max a b) j e) }

-- the last Done tick of vertices whose Done ticks come no later than k
from_by : (k : ℕ) (s : ℕ → Stage) (us : List Vertex) (o : Option ℕ) → ((j : ℕ) → o ≡ Some j → j ≤ k) → AllByRecursion (λ v. (j : ℕ) → done_tick (s v.slot) ≡ Some j → j ≤ k) us → (m : ℕ) → last_from o s us ≡ Some m → m ≤ k
unfolding last_from
from_by k s [] o h a m e = h m e
from_by k s (u ∷ us) o h a m e = from_by k s us (later o (done_tick (s u.slot))) both a.1 m e
  where
    both : (j : ℕ) → later o (done_tick (s u.slot)) ≡ Some j → j ≤ k
    both j e = let p = later_parts o (done_tick (s u.slot)) j e in let x = h p.a p.left_is in let y = a.0 p.b p.right_is in let z = p.is in omega arith

pub last_by : (k : ℕ) (s : ℕ → Stage) (vs : List Vertex) → AllByRecursion (λ v. (j : ℕ) → done_tick (s v.slot) ≡ Some j → j ≤ k) vs → (m : ℕ) → last_done s vs ≡ Some m → m ≤ k
unfolding last_done
last_by k s [] h m e = absurd (none≢some e)
last_by k s (v ∷ vs) h m e = from_by k s vs (done_tick (s v.slot)) h.0 h.1 m e

abbrev pub Newer : ℕ → Option ℕ → Option ℕ → Type 0
Newer n o p = (p ≡ o) ⊎ ((j : ℕ) → p ≡ Some j → n ≤ j)

later_newer : (n : ℕ) (o p d e : Option ℕ) → Newer n o p → Newer n d e → Newer n (later o d) (later p e)
later_newer n o p d e (inl x) (inl y) = inl (ap (λ z. later z e) x ∙ ap (later o) y)
later_newer n o p d e (inl x) (inr y) = inr (λ j z. let q = later_parts p e j z in let k = y q.b q.right_is in let i = q.is in omega arith)
later_newer n o p d e (inr x) y = inr (λ j z. let q = later_parts p e j z in let k = x q.a q.left_is in let i = q.is in omega arith)

from_now : (n : ℕ) (s u : ℕ → Stage) (vs : List Vertex) → AllByRecursion (λ v. Newer n (done_tick (s v.slot)) (done_tick (u v.slot))) vs → (o p : Option ℕ) → Newer n o p → last_from o s vs ≡ None → (m : ℕ) → last_from p u vs ≡ Some m → n ≤ m
unfolding last_from
from_now n s u [] h o p (inl x) e m f = absurd (none≢some (sym e ∙ sym x ∙ f))
from_now n s u [] h o p (inr x) e m f = x m f
from_now n s u (v ∷ vs) h o p x e m f = from_now n s u vs h.1 (later o (done_tick (s v.slot))) (later p (done_tick (u v.slot))) (later_newer n o p _ _ x h.0) e m f

-- a lane that was not all done, and is so by the events of this tick, was last done in this tick
pub last_now : (n : ℕ) (s u : ℕ → Stage) (vs : List Vertex) → AllByRecursion (λ v. Newer n (done_tick (s v.slot)) (done_tick (u v.slot))) vs → last_done s vs ≡ None → (m : ℕ) → last_done u vs ≡ Some m → n ≤ m
unfolding last_done
last_now n s u [] h e m f = absurd (none≢some f)
last_now n s u (v ∷ vs) h e m f = from_now n s u vs h.1 (done_tick (s v.slot)) (done_tick (u v.slot)) h.0 e m f

pub newer_finished : (n : ℕ) (f : Bool) (x : Stage) → Newer n (done_tick x) (done_tick (cond f (finished false n x) x))
newer_finished n false x = inl refl
newer_finished n true still = inl refl
newer_finished n true (flying b k c) = inr (λ j e. let z = some_is n j e in omega arith)
newer_finished n true (done m) = inl refl

-- what is not done before tick n has time left
pub fine_late : (span start : ℕ) (es : List Edge) (n u l : ℕ) (x : Stage) → Fine span start es n u l x → done_tick x ≡ None → n ≤ done_by span start es u
fine_late span start es n u l still f e = omega arith
fine_late span start es n u l (flying b k c) f e = let p = f.0 in let q = f.1 in omega arith
fine_late span start es n u l (done j) f e = absurd (none≢some (sym e))
