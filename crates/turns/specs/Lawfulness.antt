-- The controller by turns keeps the laws of the interface.
use Rattle.std.specs.Prelude.{◌≡◌, ℕ, ◌+◌, ◌-◌, ◌*◌, ◌/◌, ◌%◌, ◌<◌, ◌≤◌, Bool, true, false, cond, ◌≢◌, List, [], ◌∷◌, ◌++◌, map, length, Some, None, Option, ◌==◌, nat_lt, refl}
use Rattle.std.proofs.Common.{sym, ap, ◌∙◌, subst, inl, inr, arith, lit≤, length-append, eqb-true, ne_eqb, ltb-true, le-leb}
use Rattle.std.proofs.lemmas.List.{length-map}
use Rattle.std.proofs.lemmas.Bool.{eqb-false}
use Rattle.interface.specs.Meaning.{Reached, first, take_refusal}
use Rattle.interface.specs.Lawful.{Lawful}
use Rattle.interface.specs.Slots.{dropped, dropped_by}
use Rattle.interface.specs.declared.Request.{Request}
use Rattle.interface.specs.declared.Event.{Event}
use Rattle.interface.specs.declared.Event.TheVariants.{Issue, Done}
use Rattle.interface.proofs.Codes.{lawful_coded}
use Rattle.interface.proofs.Runs.{reached_keeps}
use Rattle.interface.proofs.Takes.{take_ok}
use Rattle.interface.proofs.Bools.{and_parts, same}
use Rattle.interface.proofs.Slots.{Apart, apart_append, apart_dropped, length_dropped, some_entries, collected_held, map_append}
use Rattle.held.specs.declared.entries.Entry.{Entry}
use Rattle.held.specs.Entries.{later, key, has, dones, candidate, next_of, issue_next, issued_now, reading_of, new_entry, of_domain}
use Rattle.held.specs.Rows.{Rows, passed, issue_of}
use Rattle.held.proofs.Stepping.{Stepped, Ample, apart_later, apart_issued, length_issued, length_dones, stepped_held, stepped_proper, stepped_punctual}
use Rattle.held.proofs.Spans.{times_more, Timely, next, timely_less, timely_later, timely_append, timely_dropped, timely_none, timely_issued, timely_other, next_left, enough}
use Rattle.turns.specs.State.{State, issue_for, turns_span, state_meaning, state_codes, state_of, state_back, turns_meaning}

-- the requests of a domain
abbrev pub of : ℕ → Request → Bool
of d = of_domain d

-- ---- domains are below 8

abbrev Low : List Entry → Type 0
Low [] = Unit {0}
Low (h ∷ hs) = (h.request.domain < 8) × Low hs

low_later : (hs : List Entry) → Low hs → Low (map later hs)
low_later [] l = tt
low_later (h ∷ hs) l = (l.0, low_later hs l.1)

low_issue_at : (k : Request → Bool) (h : Entry) (hs : List Entry) (b : Bool) → Low (h ∷ hs) → Low (issue_next k hs) → Low (cond b (issued_now h ∷ hs) (h ∷ issue_next k hs))
low_issue_at k h hs true l m = l
low_issue_at k h hs false l m = (l.0, m)

low_issue : (k : Request → Bool) (hs : List Entry) → Low hs → Low (issue_next k hs)
low_issue k [] l = tt
low_issue k (h ∷ hs) l = low_issue_at k h hs (candidate k h) l (low_issue k hs l.1)

low_dropped_at : (n : ℕ) (h : Entry) (hs : List Entry) (b : Bool) → Low (h ∷ hs) → Low (dropped key n hs) → Low (cond b hs (h ∷ dropped key n hs))
low_dropped_at n h hs true l m = l.1
low_dropped_at n h hs false l m = (l.0, m)

low_dropped : (n : ℕ) (hs : List Entry) → Low hs → Low (dropped key n hs)
low_dropped n [] l = tt
low_dropped n (h ∷ hs) l = low_dropped_at n h hs (has n h) l (low_dropped n hs l.1)

low_append : (hs : List Entry) (h : Entry) → Low hs → h.request.domain < 8 → Low (hs ++ (h ∷ []))
low_append [] h l d = (d, tt)
low_append (x ∷ hs) h l d = (l.0, low_append hs h l.1 d)

-- ---- there is room for the events of a step

-- the table after a step, whose turn it is or is not
abbrev pub after_turn : Rows → (Request → Bool) → Bool → Rows
after_turn t k b = cond b (issue_of k (passed t) (next_of k (map later t.entries))) (passed t)

pub turn_is : (t : Rows) (d : ℕ) (b : Bool) → t.events ≡ [] → length t.entries ≤ 32 → issue_for (cond b (Some d) None) (passed t) ≡ after_turn t (of d) b
turn_is t d true e f =
    let l = length_dones (map later t.entries) in
    let m = length-map t.entries later in
    let n = ap (λ es. length (es ++ dones (map later t.entries))) e in
    ap (λ b. cond b (issue_of (of d) (passed t) (next_of (of d) (map later t.entries))) (passed t)) (le-leb (length (passed t).events) 32 (omega arith))
turn_is t d false e f = refl

-- ---- the turns

-- the steps until the domain's next turn, that one counted
abbrev due : ℕ → ℕ → ℕ
due d t = (46 * d + 368 - t) % 368 + 1

due_most : (d t : ℕ) → due d t ≤ 368
due_most d t = omega arith

-- a step that is no turn of the domain brings the next one nearer
due_nearer : (d t : ℕ) → d < 8 → t < 368 → t ≢ 46 * d → due d ((t + 1) % 368) + 1 ≤ due d t
due_nearer d t a b c = omega arith

-- each domain's next turn comes in time for its requests
abbrev Prompt : ℕ → List Entry → Type 0
Prompt t hs = (d : ℕ) → d < 8 → Timely 368 (of d) (due d t) hs

pub record Sound (c : State) : Type 0 where
  pub few : length c.rows.entries ≤ 32
  pub apart : Apart key c.rows.entries
  pub low : Low c.rows.entries
  pub round : c.step < 368
  pub timely : Prompt c.step c.rows.entries

pub sound_start : (c : State) → Sound (state_meaning.start c)
sound_start c = record { few = omega arith; apart = tt; low = tt; round = omega arith; timely = λ d l. tt }

pub sound_take : (c : State) (q : Request) → Sound c → take_refusal state_meaning c q ≡ None → Sound (state_meaning.taken c q)
sound_take c q f ok =
    let hs = c.rows.entries in
    let t = take_ok state_meaning c q ok in
    let l = length-map hs reading_of in
    let few : length hs < 32 = omega arith in
    let m = times_more 368 (length hs) 31 (omega arith) in
    let low : q.domain < 8 = ltb-true _ _ (and_parts (nat_lt q.domain 8) _ (and_parts (nat_lt q.slot 512) _ t.0).1).0 in
    record {
      few = simp length-append (omega arith);
      apart = apart_append key hs (new_entry turns_span q) f.apart (sym (some_entries key reading_of (λ h. refl) q.slot hs) ∙ t.1);
      low = low_append hs (new_entry turns_span q) f.low low;
      round = f.round;
      timely = λ d e. let u = due_most d c.step in timely_append 368 (of d) hs q (due d c.step) turns_span (omega (arith, u, m)) (f.timely d e);
    }

sound_dropped : (hs : List Entry) (es fs : List Event) (t : ℕ) (o : Option Event) → Sound (record { rows = record { entries = hs; events = es }; step = t }) → Sound (record { rows = record { entries = dropped_by key o hs; events = fs }; step = t })
sound_dropped hs es fs t None f = record { few = f.few; apart = f.apart; low = f.low; round = f.round; timely = f.timely }
sound_dropped hs es fs t (Some (Issue n)) f = record { few = f.few; apart = f.apart; low = f.low; round = f.round; timely = f.timely }
sound_dropped hs es fs t (Some (Done n)) f =
    let l = length_dropped key n hs in
    let g = f.few in
    record { few = omega arith; apart = apart_dropped key n hs f.apart; low = low_dropped n hs f.low; round = f.round; timely = λ d e. timely_dropped 368 (of d) hs n (due d t) (f.timely d e) }

pub sound_collect : (c : State) → Sound c → Sound (state_meaning.collected c)
sound_collect c f = sound_dropped c.rows.entries c.rows.events _ c.step (first c.rows.events) f

-- when a step has passed and nothing is issued yet
abbrev Elapsed : ℕ → List Entry → Type 0
Elapsed t hs = (d : ℕ) → d < 8 → Timely 368 (of d) (due d t - 1) hs

elapsed : (c : State) → Sound c → Elapsed c.step (map later c.rows.entries)
elapsed c f d l = timely_later 368 (of d) c.rows.entries (due d c.step) (due d c.step - 1) (omega arith) (f.timely d l)

-- another domain than the one whose turn it is
turn_other : (t d : ℕ) → t < 368 → d < 8 → t % 46 ≡ 0 → (d ≢ t / 46) → t ≢ 46 * d
turn_other t d a b c e = λ z. e (omega arith)

pub others : (d e : ℕ) → (d ≢ e) → (q : Request) → of e q ≡ true → of d q ≡ false
others d e o q h = ne_eqb q.domain d (λ z. o (sym z ∙ eqb-true _ _ h))

issued_prompt : (t : ℕ) (hs : List Entry) (h : Entry) → t < 368 → t % 46 ≡ 0 → Elapsed t hs → next_of (of (t / 46)) hs ≡ Some h → (d : ℕ) → d < 8 → (b : Bool) → (d == t / 46) ≡ b → Timely 368 (of d) (due d ((t + 1) % 368)) (issue_next (of (t / 46)) hs)
issued_prompt t hs h r m p e d l true x =
    let z : d ≡ t / 46 = eqb-true _ _ x in
    timely_less 368 (of d) (issue_next (of (t / 46)) hs) (due d ((t + 1) % 368)) 368 (due_most d ((t + 1) % 368))
    (subst (λ j. Timely 368 (of d) 368 (issue_next (of j) hs)) z (timely_issued 368 (of d) hs (due d t - 1) (p d l)))
issued_prompt t hs h r m p e d l false x =
    let lo : t / 46 < 8 = omega arith in
    let n = due_nearer d t l r (turn_other t d r l m (eqb-false _ _ x)) in
    timely_less 368 (of d) (issue_next (of (t / 46)) hs) (due d ((t + 1) % 368)) (due d t - 1) (omega (arith, n))
    (timely_other 368 (of d) (of (t / 46)) (others d (t / 46) (eqb-false _ _ x)) hs h (due d t - 1) e (next_left 368 (of (t / 46)) hs h (due (t / 46) t - 1) e (p (t / 46) lo)) (p d l))

none_prompt : (t : ℕ) (hs : List Entry) → t < 368 → t % 46 ≡ 0 → Elapsed t hs → next_of (of (t / 46)) hs ≡ None → (d : ℕ) → d < 8 → (b : Bool) → (d == t / 46) ≡ b → Timely 368 (of d) (due d ((t + 1) % 368)) hs
none_prompt t hs r m p e d l true x =
    timely_none 368 (of d) hs (due d ((t + 1) % 368)) (due d t - 1) (ap (λ j. next_of (of j) hs) (eqb-true _ _ x) ∙ e) (p d l)
none_prompt t hs r m p e d l false x =
    let n = due_nearer d t l r (turn_other t d r l m (eqb-false _ _ x)) in
    timely_less 368 (of d) hs (due d ((t + 1) % 368)) (due d t - 1) (omega (arith, n)) (p d l)

-- a step later, with another table
abbrev pub later_with : State → Rows → State
later_with c t = record { rows = t; step = (c.step + 1) % 368 }

sound_issue : (c : State) → Sound c → c.step % 46 ≡ 0 → (o : Option Entry) → next_of (of (c.step / 46)) (map later c.rows.entries) ≡ o → Sound (later_with c (issue_of (of (c.step / 46)) (passed c.rows) o))
sound_issue c f m None e =
    let hs = c.rows.entries in
    let l = length-map hs later in
    let few = f.few in
    record {
      few = omega arith;
      apart = apart_later hs f.apart;
      low = low_later hs f.low;
      round = omega arith;
      timely = λ d lo. none_prompt c.step (map later hs) f.round m (elapsed c f) e d lo (d == c.step / 46) refl;
    }
sound_issue c f m (Some h) e =
    let hs = c.rows.entries in
    let k = of (c.step / 46) in
    let l = length-map hs later in
    let n = length_issued k (map later hs) in
    let few = f.few in
    record {
      few = omega arith;
      apart = apart_issued k (map later hs) (apart_later hs f.apart);
      low = low_issue k (map later hs) (low_later hs f.low);
      round = omega arith;
      timely = λ d lo. issued_prompt c.step (map later hs) h f.round m (elapsed c f) e d lo (d == c.step / 46) refl;
    }

sound_step_at : (c : State) → Sound c → (b : Bool) → (c.step % 46 == 0) ≡ b → Sound (later_with c (after_turn c.rows (of (c.step / 46)) b))
sound_step_at c f true e = sound_issue c f (eqb-true _ _ e) (next_of (of (c.step / 46)) (map later c.rows.entries)) refl
sound_step_at c f false e =
    let hs = c.rows.entries in
    let l = length-map hs later in
    let few = f.few in
    let nz : c.step % 46 ≢ 0 = eqb-false _ _ e in
    record {
      few = omega arith;
      apart = apart_later hs f.apart;
      low = low_later hs f.low;
      round = omega arith;
      timely = λ d lo. let n = due_nearer d c.step lo f.round (λ z. nz (omega arith)) in timely_less 368 (of d) (map later hs) (due d ((c.step + 1) % 368)) (due d c.step - 1) (omega (arith, n)) (elapsed c f d lo);
    }

-- the table after a step, by whether it is a turn
pub stepped_is : (c : State) → Sound c → c.rows.events ≡ [] → state_meaning.stepped c ≡ later_with c (after_turn c.rows (of (c.step / 46)) (c.step % 46 == 0))
stepped_is c f e = ap (later_with c) (turn_is c.rows (c.step / 46) (c.step % 46 == 0) e f.few)

pub sound_step : (c : State) → Sound c → state_meaning.ready c ≡ [] → Sound (state_meaning.stepped c)
sound_step c f e = subst Sound (sym (stepped_is c f e)) (sound_step_at c f (c.step % 46 == 0) refl)

sound : (c : State) → Reached state_meaning c → Sound c
sound = reached_keeps state_meaning Sound sound_take sound_step (λ c f e. sound_collect c f) sound_start

-- ---- the readings after a step

abbrev Moves : Rows → Rows → Type 0
Moves t u = Stepped t.entries u.entries u.events

issue_moves : (t : Rows) (k : Request → Bool) (o : Option Entry) → t.events ≡ [] → next_of k (map later t.entries) ≡ o → Moves t (issue_of k (passed t) o)
issue_moves t k None z e = inl (refl, ap (λ es. es ++ dones (map later t.entries)) z)
issue_moves t k (Some h) z e = inr (k, h, e, refl, ap (λ es. (es ++ dones (map later t.entries)) ++ (Issue h.request.slot ∷ [])) z)

turn_moves : (t : Rows) → t.events ≡ [] → (k : Request → Bool) (b : Bool) → Moves t (after_turn t k b)
turn_moves t z k true = issue_moves t k (next_of k (map later t.entries)) z refl
turn_moves t z k false = inl (refl, ap (λ es. es ++ dones (map later t.entries)) z)

stepped_moves : (c : State) → Sound c → c.rows.events ≡ [] → Moves c.rows (state_meaning.stepped c).rows
stepped_moves c f z =
    subst (λ d. Moves c.rows d.rows) (sym (stepped_is c f z)) (turn_moves c.rows z (of (c.step / 46)) (c.step % 46 == 0))

abbrev Somehow : List Entry → Type 0
Somehow hs = (d : ℕ) → d < 8 → (w : ℕ) × Timely 368 (of d) w hs

ample : (hs : List Entry) → Low hs → Somehow hs → Ample hs
ample [] l s = tt
ample (h ∷ hs) l s =
    let a = s h.request.domain l.0 in (
      enough (of h.request.domain h.request) a.0 h.until_done h.left (same h.request.domain) a.1.0,
      ample hs l.1 (λ d lo. (next 368 (of d) (of d h.request) (s d lo).0 h.until_done, (s d lo).1.1)),
    )

state_lawful : Lawful state_meaning
state_lawful = record {
  start_held = λ c. refl;
  start_ready = λ c. refl;
  start_fixed = λ c s. refl;
  span_fixed = λ s. refl;
  places_fixed = λ s. refl;
  span_least = λ s. lit≤ tt;
  places_least = λ s. lit≤ tt;
  places_most = λ s. lit≤ tt;
  taken_held = λ c q r ok. map_append reading_of c.rows.entries (new_entry turns_span q);
  taken_ready = λ c q r ok. refl;
  stepped_held = λ c r e. stepped_held c.rows.entries (state_meaning.stepped c).rows.entries (state_meaning.stepped c).rows.events (sound c r).apart (stepped_moves c (sound c r) e);
  stepped_proper = λ c r e. stepped_proper c.rows.entries (state_meaning.stepped c).rows.entries (state_meaning.stepped c).rows.events (sound c r).apart (stepped_moves c (sound c r) e);
  stepped_punctual = λ c r e. stepped_punctual c.rows.entries (state_meaning.stepped c).rows.entries (state_meaning.stepped c).rows.events
      (ample (map later c.rows.entries) (low_later c.rows.entries (sound c r).low) (λ d lo. (due d c.step - 1, elapsed c (sound c r) d lo))) (stepped_moves c (sound c r) e);
  collected_ready = λ c. refl;
  collected_held = λ c r. collected_held key reading_of (λ h. refl) (first c.rows.events) c.rows.entries (sound c r).apart;
}

pub turns_lawful : Lawful turns_meaning
turns_lawful = lawful_coded state_codes state_of state_back state_meaning state_lawful
