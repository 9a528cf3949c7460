-- The controller by turns keeps its laws over whole histories.
use Rattle.std.proofs.Common.{◌≡◌, ℕ, ◌+◌, ◌-◌, ◌/◌, ◌%◌, Bool, true, false, eqb, List, [], ◌∷◌, ◌++◌, map, Some, None, Option, sym, refl, ap, ◌∙◌, subst, append-nil, arith, eqb-true}
use borrow.Author.Tests.{eqb-false}
use Rattle.interface.specs.Meaning.{Call, first, rest, take_refusal}
use Rattle.interface.specs.History.{History, Taking, Occurrence, Issuance, blank, with_taking, with_step, history, ended_in, Served, issuances}
use Rattle.interface.specs.Slots.{dropped_by, passing}
use Rattle.interface.specs.declared.Request.{Request}
use Rattle.interface.specs.declared.Event.{Event}
use Rattle.interface.specs.declared.Event.TheVariants.{Issue, Done}
use Rattle.interface.proofs.Emptying.{first_some, first_none}
use Rattle.interface.proofs.Takes.{take_ok}
use Rattle.interface.proofs.Slots.{Apart, Traced, some_entries}
use Rattle.interface.proofs.Traces.{history_keeps, history_coded}
use Rattle.held.specs.declared.entries.Entry.{Entry}
use Rattle.held.specs.Entries.{request_of, later, key, expired, done_delay, next_of, issue_next, reading_of}
use Rattle.held.specs.Rows.{passed, issue_of}
use Rattle.held.specs.Delays.{dones_before}
use Rattle.turns.specs.State.{State, turns_span, state_meaning, state_codes, state_of, state_back, turns_meaning}
use Rattle.turns.specs.Laws.{issued, occurrences, taken_by, issued_for, Turn, Before, ByTurns, IssuesByTurns, Isolated, InTurn, DoneInTime}
use Rattle.turns.specs.Lawfulness.{of, Sound, sound_start, sound_take, sound_collect, sound_step, after_turn, later_with, stepped_is, others}
use Rattle.held.proofs.Waiting.{passing_more, waiting, waiting_later, next_waiting, waiting_issued, waiting_others, waiting_taken, waiting_dropped}
use Rattle.turns.proofs.Requests.{Past, past_more, past_append, among_take, among_issue, before_among, before_passing, occurrences_append, Owned, owned_more, owned_later, owned_issued, owned_dropped, owned_take, owned_next, next_class}
use Rattle.turns.proofs.Parts.{Part, part_none, part_take, part_quiet, part_issue, served_once}
use Rattle.held.proofs.Finishing.{Finishing, finishing_none, finishing_take, finishing_collect, finishing_pass, finishing_issue, counted_later, none_issued, one_issued}
use Rattle.turns.proofs.Spacing.{marked_issued, countdowns_alone, Spaced, spaced_append, none_outstanding}

-- a domain's part of a history, with the requests of it that wait
abbrev PartOf : ℕ → State → History → Type 0
PartOf d s h = Part d h.steps (taken_by d h) (issued_for d h) (map request_of (waiting (of d) s.rows.entries))

-- what holds of a state and its history
record Kept (s : State) (h : History) : Type 0 where
  sound : Sound s
  count : s.step ≡ h.steps % 368
  owned : Owned h.steps h.takings s.rows.entries
  past : Past h.steps h.issuings
  requested : occurrences (issued h) ≡ h.issuings
  parts : (d : ℕ) → PartOf d s h
  spaced : Spaced (issued h)
  done : Finishing s.rows h.steps (issued h) h.endings

kept_start : (s : State) → Kept (state_meaning.start s) blank
kept_start s = record {
  sound = sound_start s;
  count = refl;
  owned = tt;
  past = tt;
  requested = refl;
  parts = part_none;
  spaced = tt;
  done = finishing_none;
}

-- ---- a request is taken

part_taken : (s : State) (h : History) (q : Request) → ((d : ℕ) → PartOf d s h) → issued (with_taking h q) ≡ issued h → (d : ℕ) → PartOf d (state_meaning.taken s q) (with_taking h q)
part_taken s h q p same d = go (eqb q.domain d) refl
  where
    go : (b : Bool) → eqb q.domain d ≡ b → PartOf d (state_meaning.taken s q) (with_taking h q)
    go true e =
        subst (Part d h.steps (taken_by d (with_taking h q)) (issued_for d (with_taking h q))) (sym (waiting_taken (of d) s.rows.entries turns_span q true e))
        (subst (λ is. Part d h.steps (taken_by d (with_taking h q)) is (map request_of (waiting (of d) s.rows.entries) ++ (q ∷ []))) (ap (passing (λ i. eqb i.request.domain d)) (sym same))
        (subst (λ ks. Part d h.steps ks (issued_for d h) (map request_of (waiting (of d) s.rows.entries) ++ (q ∷ []))) (sym (passing_more (λ x. eqb x.request.domain d) h.takings (record { request = q; from = h.steps }) true e))
        (part_take d h.steps (taken_by d h) (issued_for d h) (map request_of (waiting (of d) s.rows.entries)) q (p d))))
    go false e =
        subst (Part d h.steps (taken_by d (with_taking h q)) (issued_for d (with_taking h q))) (sym (waiting_taken (of d) s.rows.entries turns_span q false e ∙ append-nil _))
        (subst (λ is. Part d h.steps (taken_by d (with_taking h q)) is (map request_of (waiting (of d) s.rows.entries))) (ap (passing (λ i. eqb i.request.domain d)) (sym same))
        (subst (λ ks. Part d h.steps ks (issued_for d h) (map request_of (waiting (of d) s.rows.entries))) (sym (passing_more (λ x. eqb x.request.domain d) h.takings (record { request = q; from = h.steps }) false e ∙ append-nil _))
        (p d)))

kept_take : (s : State) (h : History) (q : Request) → Kept s h → take_refusal state_meaning s q ≡ None → Kept (state_meaning.taken s q) (with_taking h q)
kept_take s h q t ok =
    let hs = s.rows.entries in
    let n = h.steps in
    let k : Taking = record { request = q; from = n } in
    let same : issued (with_taking h q) ≡ issued h = among_take n h.takings h.issuings k t.past (omega arith) in
    record {
      sound = sound_take s q t.sound ok;
      count = t.count;
      owned = owned_take n turns_span h.takings q hs (sym (some_entries key reading_of (λ e. refl) q.slot hs) ∙ (take_ok state_meaning s q ok).1) t.owned;
      past = t.past;
      requested = ap occurrences same ∙ t.requested;
      parts = part_taken s h q t.parts same;
      spaced = subst Spaced (sym same) t.spaced;
      done = subst (λ is. Finishing (state_meaning.taken s q).rows n is h.endings) (sym same) (finishing_take s.rows n (issued h) h.endings turns_span q t.done);
    }

-- ---- an event is collected

waiting_collected : (d : ℕ) (hs : List Entry) (es : List Event) → Apart key hs → Traced key expired es hs → waiting (of d) (dropped_by key (first es) hs) ≡ waiting (of d) hs
waiting_collected d hs [] a t = refl
waiting_collected d hs (Issue m ∷ es) a t = refl
waiting_collected d hs (Done m ∷ es) a t = waiting_dropped (of d) m hs a (marked_issued m hs t.0)

owned_collected : (n : ℕ) (ks : List Taking) (o : Option Event) (hs : List Entry) → Owned n ks hs → Owned n ks (dropped_by key o hs)
owned_collected n ks None hs w = w
owned_collected n ks (Some (Issue m)) hs w = w
owned_collected n ks (Some (Done m)) hs w = owned_dropped n m ks hs w

kept_collect : (s : State) (h : History) → Kept s h → Kept (state_meaning.collected s) h
kept_collect s h t =
    let hs = s.rows.entries in
    record {
      sound = sound_collect s t.sound;
      count = t.count;
      owned = owned_collected h.steps h.takings (first s.rows.events) hs t.owned;
      past = t.past;
      requested = t.requested;
      parts = λ d. subst (λ es. Part d h.steps (taken_by d h) (issued_for d h) (map request_of es)) (sym (waiting_collected d hs s.rows.events t.sound.apart t.done.traced)) (t.parts d);
      spaced = t.spaced;
      done = finishing_collect s.rows h.steps (issued h) h.endings t.sound.apart t.done;
    }

-- ---- a step

before_issued : (s : State) (h : History) → Kept s h → Before h.steps (issued h)
before_issued s h t = before_among h.steps h.takings h.issuings t.past

count_next : (s : State) (h : History) → s.step ≡ h.steps % 368 → (s.step + 1) % 368 ≡ (h.steps + 1) % 368
count_next s h e = omega arith

-- no domain whose turn it is has a request that waits
abbrev Idle : State → History → Type 0
Idle s h = (d : ℕ) → Turn d h.steps → map request_of (waiting (of d) s.rows.entries) ≡ []

kept_quiet : (s : State) (h : History) → Kept s h → s.rows.events ≡ [] → Idle s h → Sound (later_with s (passed s.rows)) → Kept (later_with s (passed s.rows)) (with_step h (passed s.rows).events)
kept_quiet s h t e idle f =
    let n = h.steps in
    let hs = s.rows.entries in
    let ls = map later hs in
    let no_issue = ap (λ l. h.issuings ++ l) (none_issued s.rows n e) ∙ append-nil h.issuings in
    subst (λ is. Kept (later_with s (passed s.rows)) (record { steps = n + 1; takings = h.takings; issuings = is; endings = h.endings ++ ended_in n (passed s.rows).events })) (sym no_issue)
    (record {
      sound = f;
      count = count_next s h t.count;
      owned = owned_more n h.takings ls (owned_later n h.takings hs t.owned);
      past = past_more n h.issuings t.past;
      requested = t.requested;
      parts = λ d. subst (Part d (n + 1) (taken_by d h) (issued_for d h)) (sym (waiting_later (of d) hs)) (part_quiet d n (taken_by d h) (issued_for d h) (map request_of (waiting (of d) hs)) (idle d) (t.parts d));
      spaced = t.spaced;
      done = finishing_pass s.rows n (issued h) h.endings t.sound.apart e t.done;
    })

-- the history after a step with one issue
abbrev with_issue : History → Request → List Event → History
with_issue h q es = record { steps = h.steps + 1; takings = h.takings; issuings = h.issuings ++ (record { slot = q.slot; at = h.steps } ∷ []); endings = h.endings ++ ended_in h.steps es }

in_turn : (t n : ℕ) → t ≡ n % 368 → t % 46 ≡ 0 → Turn (t / 46) n
in_turn t n e m = omega arith

not_in_turn : (t n d : ℕ) → t ≡ n % 368 → t % 46 ≡ 0 → (d ≡ t / 46 → ⊥) → Turn d n → ⊥
not_in_turn t n d e m ne z = ne (omega arith)

no_turn : (t n d : ℕ) → t ≡ n % 368 → (t % 46 ≡ 0 → ⊥) → Turn d n → ⊥
no_turn t n d e m z = m (omega arith)

count_spaced : (t n : ℕ) → t ≡ n % 368 → t % 46 ≡ 0 → n % 46 ≡ 0
count_spaced t n e m = omega arith

module _ (s : State) (h : History) (t : Kept s h) (m : s.step % 46 ≡ 0) (x : Entry) (next : next_of (of (s.step / 46)) (map later s.rows.entries) ≡ Some x) where
  abbrev whose : ℕ
  whose = s.step / 46

  abbrev ls : List Entry
  ls = map later s.rows.entries

  abbrev new : Issuance
  new = record { request = x.request; at = h.steps }

  one_more : (es : List Event) → issued (with_issue h x.request es) ≡ issued h ++ (new ∷ [])
  one_more es = among_issue h.takings h.issuings x.request h.steps (owned_next h.steps h.takings (of whose) ls x next (owned_later h.steps h.takings s.rows.entries t.owned))

  -- the domain whose turn it is
  part_here : (u : State) (es : List Event) → u.rows.entries ≡ issue_next (of whose) ls → PartOf whose u (with_issue h x.request es)
  part_here u es same =
      let n = h.steps in
      let k = of whose in
      let hs = s.rows.entries in
      let one = first_some (waiting k ls) x (sym next ∙ next_waiting k ls) in
      let old = subst (Part whose n (taken_by whose h) (issued_for whose h)) (sym (waiting_later k hs) ∙ ap (map request_of) one) (t.parts whose) in
      let made = part_issue whose n (taken_by whose h) (issued_for whose h) x.request (map request_of (rest (waiting k ls))) (in_turn s.step n t.count m)
      (before_passing n (λ i. eqb i.request.domain whose) (issued h) (before_issued s h t)) old in
      subst (Part whose (n + 1) (taken_by whose h) (issued_for whose (with_issue h x.request es))) (ap (map request_of) (sym (ap (waiting k) same ∙ waiting_issued k ls)))
      (subst (λ is. Part whose (n + 1) (taken_by whose h) is (map request_of (rest (waiting k ls))))
      (sym (ap (passing (λ i. eqb i.request.domain whose)) (one_more es) ∙ passing_more (λ i. eqb i.request.domain whose) (issued h) new true (next_class k ls x next)))
      made)

  -- another domain
  part_there : (u : State) (es : List Event) → u.rows.entries ≡ issue_next (of whose) ls → (d : ℕ) → (d ≡ whose → ⊥) → PartOf d u (with_issue h x.request es)
  part_there u es same d ne =
      let n = h.steps in
      let hs = s.rows.entries in
      let apart = others d whose ne in
      subst (Part d (n + 1) (taken_by d h) (issued_for d (with_issue h x.request es))) (sym (ap (λ l. map request_of (waiting (of d) l)) same ∙ ap (map request_of) (waiting_others (of d) (of whose) apart ls) ∙ waiting_later (of d) hs))
      (subst (λ is. Part d (n + 1) (taken_by d h) is (map request_of (waiting (of d) hs)))
      (sym (ap (passing (λ i. eqb i.request.domain d)) (one_more es) ∙ passing_more (λ i. eqb i.request.domain d) (issued h) new false (apart x.request (next_class (of whose) ls x next)) ∙ append-nil _))
      (part_quiet d n (taken_by d h) (issued_for d h) (map request_of (waiting (of d) hs)) (λ z. absurd (not_in_turn s.step n d t.count m ne z)) (t.parts d)))

  part_issued : (u : State) (es : List Event) → u.rows.entries ≡ issue_next (of whose) ls → (d : ℕ) → PartOf d u (with_issue h x.request es)
  part_issued u es same d = go (eqb d whose) refl
    where
      go : (b : Bool) → eqb d whose ≡ b → PartOf d u (with_issue h x.request es)
      go true e = subst (λ v. PartOf v u (with_issue h x.request es)) (sym (eqb-true d whose e)) (part_here u es same)
      go false e = part_there u es same d (eqb-false d whose e)

  abbrev after : State
  after = later_with s (issue_of (of whose) (passed s.rows) (Some x))

  kept_issue : s.rows.events ≡ [] → Sound after → Kept after (with_step h after.rows.events)
  kept_issue e f =
      let n = h.steps in
      let os = h.issuings in
      let hs = s.rows.entries in
      let k = of whose in
      let i : Occurrence = record { slot = x.request.slot; at = n } in
      let one_issue = ap (λ l. os ++ l) (one_issued s.rows n k x e) in
      let more = one_more after.rows.events in
      let spaced = count_spaced s.step n t.count m in
      let none = none_outstanding n (issued h) spaced (before_issued s h t) t.spaced in
      let alone = counted_later s.rows n (issued h) h.endings t.sound.apart e t.done ∙ none in
      let last = countdowns_alone k ls x alone next ∙ ap (λ cs. cs ++ ((x.request.slot, done_delay x.request.kind - 1) ∷ [])) (sym alone) in
      subst (λ is. Kept after (record { steps = n + 1; takings = h.takings; issuings = is; endings = h.endings ++ ended_in n after.rows.events })) (sym one_issue)
      (record {
        sound = f;
        count = count_next s h t.count;
        owned = owned_more n h.takings (issue_next k ls) (owned_issued n h.takings k ls (owned_later n h.takings hs t.owned));
        past = past_append (n + 1) os i (past_more n os t.past) (omega arith);
        requested = ap occurrences more ∙ occurrences_append (issued h) new ∙ ap (λ l. l ++ (i ∷ [])) t.requested;
        parts = part_issued after after.rows.events refl;
        spaced = subst Spaced (sym more) (spaced_append (issued h) new t.spaced spaced);
        done = subst (λ is. Finishing after.rows (n + 1) is (h.endings ++ ended_in n after.rows.events)) (sym more)
            (finishing_issue s.rows n (issued h) h.endings t.sound.apart e t.done k x last);
      })

kept_turn : (s : State) (h : History) → Kept s h → s.rows.events ≡ [] → s.step % 46 ≡ 0 → (o : Option Entry) → next_of (of (s.step / 46)) (map later s.rows.entries) ≡ o
    → Sound (later_with s (issue_of (of (s.step / 46)) (passed s.rows) o)) → Kept (later_with s (issue_of (of (s.step / 46)) (passed s.rows) o)) (with_step h (issue_of (of (s.step / 46)) (passed s.rows) o).events)
kept_turn s h t e m None next f = kept_quiet s h t e (λ d z. go d (eqb d (s.step / 46)) refl z) f
  where
    go : (d : ℕ) (b : Bool) → eqb d (s.step / 46) ≡ b → Turn d h.steps → map request_of (waiting (of d) s.rows.entries) ≡ []
    go d true x z =
        sym (waiting_later (of d) s.rows.entries) ∙ ap (map request_of) (first_none (waiting (of d) (map later s.rows.entries)) (sym (ap (λ j. next_of (of j) (map later s.rows.entries)) (eqb-true _ _ x) ∙ next) ∙ next_waiting (of d) (map later s.rows.entries)))
    go d false x z = absurd (not_in_turn s.step h.steps d t.count m (eqb-false _ _ x) z)
kept_turn s h t e m (Some x) next f = kept_issue s h t m x next e f

kept_step : (s : State) (h : History) → Kept s h → s.rows.events ≡ [] → Kept (state_meaning.stepped s) (with_step h (state_meaning.stepped s).rows.events)
kept_step s h t e =
    let moves = stepped_is s t.sound e in
    subst (λ u. Kept u (with_step h u.rows.events)) (sym moves) (go (eqb (s.step % 46) 0) refl (subst Sound moves (sound_step s t.sound e)))
  where
    go : (b : Bool) → eqb (s.step % 46) 0 ≡ b → Sound (later_with s (after_turn s.rows (of (s.step / 46)) b))
        → Kept (later_with s (after_turn s.rows (of (s.step / 46)) b)) (with_step h (after_turn s.rows (of (s.step / 46)) b).events)
    go true x f = kept_turn s h t e (eqb-true _ _ x) (next_of (of (s.step / 46)) (map later s.rows.entries)) refl f
    go false x f = kept_quiet s h t e (λ d z. absurd (no_turn s.step h.steps d t.count (eqb-false _ _ x) z)) f

kept : (b : State) (cs : List Call) → (s : State) × Kept s (history state_meaning b cs)
kept =
    history_keeps state_meaning Kept kept_start kept_take kept_step
    (λ s h t e. kept_collect s h t)

-- ---- the laws

state_by_turns : IssuesByTurns state_meaning
state_by_turns b cs =
    let k = (kept b cs).1 in
    record { requested = k.requested; served = λ d. (k.parts d).served; paired = λ d. (k.parts d).paired }

pub by_turns : IssuesByTurns turns_meaning
by_turns b cs = subst ByTurns (sym (history_coded state_codes state_of state_back state_meaning b cs)) (state_by_turns (state_of b) cs)

-- by turns, the takings and the number of steps decide a domain's issues
decided : (g h : History) (d : ℕ) → ByTurns g → ByTurns h → g.steps ≡ h.steps → taken_by d g ≡ taken_by d h → issued_for d g ≡ issued_for d h
decided g h d p q n ks =
    let served = subst (λ n. Served (InTurn d) [] (taken_by d h) (occurrences (issued_for d g)) n) n (subst (λ ks. Served (InTurn d) [] ks (occurrences (issued_for d g)) g.steps) ks (p.served d)) in
    let same = served_once (InTurn d) (taken_by d h) [] (occurrences (issued_for d g)) (occurrences (issued_for d h)) h.steps served (q.served d) in
    sym (p.paired d) ∙ ap (λ ks. issuances [] ks (occurrences (issued_for d g))) ks ∙ ap (issuances [] (taken_by d h)) same ∙ q.paired d

pub isolated : Isolated turns_meaning
isolated a b cs ds d = decided (history turns_meaning a cs) (history turns_meaning b ds) d (by_turns a cs) (by_turns b ds)

pub done_in_time : DoneInTime turns_meaning
done_in_time b cs = subst (λ h. h.endings ≡ dones_before h.steps (issued h)) (sym (history_coded state_codes state_of state_back state_meaning b cs)) (kept (state_of b) cs).1.done.ended
