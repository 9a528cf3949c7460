-- The T and D lines of one slot among those that a tick writes.
use Rattle.std.proofs.Common.{◌≡◌, ℕ, Bool, true, false, cond, ◌&&◌, ◌||◌, eqb, List, [], ◌∷◌, ◌++◌, map, filter, sym, refl, ap, ◌∙◌}
use Rattle.std.proofs.lemmas.List.Elements.{filter-append}
use Rattle.std.proofs.lemmas.List.{map-append}
use Rattle.std.proofs.lemmas.Bool.{eqb-true, eqb-false, eq-eqb, ne_eqb}
use Rattle.interface.specs.declared.Event.TheVariants.{Issue, Done}
use Rattle.interface.specs.declared.Event.{Event}
use Rattle.model.specs.Settings.{Settings, Vertex, is_open, domain_of}
use Rattle.model.specs.Ticks.{Stage, still, flying, done, Tables, put, written, line_of, event_line, take_line, finished, completed, departed, payload_for}
use Rattle.model.specs.declared.Letter.TheVariants as letter
use Rattle.model.specs.declared.Letter.{Letter}
use Rattle.model.specs.declared.Line.{Line}
use Rattle.run_laws.specs.Departures.{is_T, is_D, line_ticks}
use Rattle.run_laws.specs.Runs.{strike}
use Rattle.run_laws.proofs.Departures.{is_flying}
use Rattle.run_laws.proofs.Holding.{finishes, in_slots, Apart}
use Rattle.run_laws.proofs.LaneRounds.{maybe}

pub ticks_append : (p : Letter → Bool) (t : ℕ) (xs ys : List Line) → line_ticks p t (xs ++ ys) ≡ line_ticks p t xs ++ line_ticks p t ys
ticks_append p t xs ys = ap (map (λ (l : Line). l.tick)) (filter-append (λ l. p l.letter && eqb l.slot t) xs ys) ∙ map-append (λ (l : Line). l.tick) (filter (λ l. p l.letter && eqb l.slot t) xs) (filter (λ l. p l.letter && eqb l.slot t) ys)

pub struck_append : (p : Letter → Bool) (t : ℕ) (xs ys : List Line) → line_ticks p t (map strike (xs ++ ys)) ≡ line_ticks p t (map strike xs) ++ line_ticks p t (map strike ys)
struck_append p t xs ys = ap (line_ticks p t) (map-append strike xs ys) ∙ ticks_append p t (map strike xs) (map strike ys)

-- the lines of one flight
of_line : (p : Letter → Bool) (t : ℕ) (l : Letter) (n u : ℕ) (x : Stage) → line_ticks p t (map strike (line_of l n u x)) ≡ maybe (p l && (eqb u t && is_flying x)) n
of_line p t l n u still = none (p l) (eqb u t)
  where
    none : (a b : Bool) → [] ≡ maybe (a && (b && false)) n
    none true true = refl
    none true false = refl
    none false b = refl
of_line p t l n u (done m) = none (p l) (eqb u t)
  where
    none : (a b : Bool) → [] ≡ maybe (a && (b && false)) n
    none true true = refl
    none true false = refl
    none false b = refl
of_line p t l n u (flying b k c) = one (p l) (eqb u t)
  where
    one : (x y : Bool) → map (λ (l : Line). l.tick) (cond (x && y) (record { letter = l; tick = n; domain = domain_of u; slot = u; bank = b; kind = k; row = 0 } ∷ []) []) ≡ maybe (x && (y && true)) n
    one true true = refl
    one true false = refl
    one false y = refl

-- ---- events

pub events_T : (c : Settings) (t n : ℕ) (es : List Event) (b : Tables) → line_ticks is_T t (map strike (written (event_line n) (completed c n) es b)) ≡ []
unfolding written event_line
events_T c t n [] b = refl
events_T c t n (Issue u ∷ es) b = struck_append is_T t (line_of letter.I n u (b.stage u)) _ ∙ ap (λ z. z ++ line_ticks is_T t (map strike (written (event_line n) (completed c n) es (completed c n (Issue u) b)))) (of_line is_T t letter.I n u (b.stage u)) ∙ events_T c t n es (completed c n (Issue u) b)
events_T c t n (Done u ∷ es) b = struck_append is_T t (line_of letter.D n u (b.stage u)) _ ∙ ap (λ z. z ++ line_ticks is_T t (map strike (written (event_line n) (completed c n) es (completed c n (Done u) b)))) (of_line is_T t letter.D n u (b.stage u)) ∙ events_T c t n es (completed c n (Done u) b)

not_flying : (o : Bool) (n : ℕ) (x : Stage) → is_flying (finished o n x) ≡ false
not_flying o n still = refl
not_flying true n (flying b k c) = refl
not_flying false n (flying b k c) = refl
not_flying o n (done m) = refl

-- a slot in flight whose Done comes has its D line, once
pub events_D : (c : Settings) (t n : ℕ) (es : List Event) (b : Tables) → line_ticks is_D t (map strike (written (event_line n) (completed c n) es b)) ≡ maybe (finishes t es && is_flying (b.stage t)) n
unfolding written event_line completed
events_D c t n [] b = refl
events_D c t n (Issue u ∷ es) b = struck_append is_D t (line_of letter.I n u (b.stage u)) _ ∙ ap (λ z. z ++ line_ticks is_D t (map strike (written (event_line n) (completed c n) es b))) (of_line is_D t letter.I n u (b.stage u)) ∙ events_D c t n es b
events_D c t n (Done u ∷ es) b = struck_append is_D t (line_of letter.D n u (b.stage u)) _
    ∙ ap (λ z. z ++ line_ticks is_D t (map strike (written (event_line n) (completed c n) es (completed c n (Done u) b)))) (of_line is_D t letter.D n u (b.stage u))
    ∙ ap (λ z. maybe (eqb u t && is_flying (b.stage u)) n ++ z) (events_D c t n es (completed c n (Done u) b))
    ∙ go (eqb u t) refl
  where
    no_and : (x : Bool) → (x && false) ≡ false
    no_and true = refl
    no_and false = refl

    twice : (x : Bool) → maybe x n ++ [] ≡ maybe x n
    twice true = refl
    twice false = refl

    later : Bool
    later = is_flying (put b.stage u (finished (is_open c (domain_of u)) n (b.stage u)) t)

    go : (x : Bool) → eqb u t ≡ x → maybe (x && is_flying (b.stage u)) n ++ maybe (finishes t es && is_flying (put b.stage u (finished (is_open c (domain_of u)) n (b.stage u)) t)) n ≡ maybe ((x || finishes t es) && is_flying (b.stage t)) n
    go true e =
        let same : u ≡ t = eqb-true u t e in
        ap (λ z. maybe (is_flying (b.stage u)) n ++ maybe (finishes t es && z) n) (ap (λ z. is_flying (cond z (finished (is_open c (domain_of u)) n (b.stage u)) (b.stage t))) (eq-eqb t u (sym same)) ∙ not_flying (is_open c (domain_of u)) n (b.stage u))
        ∙ ap (λ z. maybe (is_flying (b.stage u)) n ++ maybe z n) (no_and (finishes t es))
        ∙ twice (is_flying (b.stage u))
        ∙ ap (λ z. maybe (is_flying (b.stage z)) n) same
    go false e = ap (λ z. maybe (finishes t es && is_flying (cond z (finished (is_open c (domain_of u)) n (b.stage u)) (b.stage t))) n) (ne_eqb t u (λ z. eqb-false u t e (sym z)))

-- ---- departures

pub departs_D : (t n : ℕ) (vs : List Vertex) (b : Tables) → line_ticks is_D t (map strike (written (take_line n) departed vs b)) ≡ []
unfolding written take_line
departs_D t n [] b = refl
departs_D t n (v ∷ vs) b = struck_append is_D t (line_of letter.T n v.slot (flying v.bank v.kind (payload_for v b))) (written (take_line n) departed vs (departed v b))
    ∙ ap (λ z. z ++ line_ticks is_D t (map strike (written (take_line n) departed vs (departed v b)))) (of_line is_D t letter.T n v.slot (flying v.bank v.kind (payload_for v b)))
    ∙ departs_D t n vs (departed v b)

-- a slot whose vertex leaves has its T line, once
pub departs_T : (t n : ℕ) (vs : List Vertex) (b : Tables) → Apart vs → line_ticks is_T t (map strike (written (take_line n) departed vs b)) ≡ maybe (in_slots t vs) n
unfolding written take_line
departs_T t n [] b a = refl
departs_T t n (v ∷ vs) b a = struck_append is_T t (line_of letter.T n v.slot (flying v.bank v.kind (payload_for v b))) (written (take_line n) departed vs (departed v b))
    ∙ ap (λ z. z ++ line_ticks is_T t (map strike (written (take_line n) departed vs (departed v b)))) (of_line is_T t letter.T n v.slot (flying v.bank v.kind (payload_for v b)))
    ∙ ap (λ z. maybe (eqb v.slot t && true) n ++ z) (departs_T t n vs (departed v b) a.1)
    ∙ go (eqb v.slot t) refl
  where
    go : (x : Bool) → eqb v.slot t ≡ x → maybe (x && true) n ++ maybe (in_slots t vs) n ≡ maybe (x || in_slots t vs) n
    go true e = ap (λ z. (n ∷ []) ++ maybe z n) (ap (λ u. in_slots u vs) (sym (eqb-true v.slot t e)) ∙ a.0)
    go false e = refl
