-- First-come serves in the order of taking, each request in the first step in which it keeps its gaps.
use Rattle.std.proofs.Common.{◌≡◌, ℕ, ◌+◌, ◌<◌, ◌≤◌, true, ltb, List, [], ◌∷◌, ◌++◌, map, Some, None, sym, refl, ap, ◌∙◌, subst, append-nil, arith, ltb-true}
use borrow.Author.Tests.{both_ways}
use Rattle.interface.specs.Meaning.{rest, take_refusal}
use Rattle.interface.specs.History.{Taking, Occurrence, Issuance, History, blank, issued_in, ended_in, with_taking, with_step, Served, issuances}
use Rattle.interface.specs.declared.Request.{Request}
use Rattle.interface.specs.declared.Event.{Event}
use Rattle.interface.specs.declared.Event.TheVariants.{Issue, Done}
use Rattle.interface.proofs.Bools.{and_parts}
use Rattle.interface.proofs.Emptying.{first_some, first_none}
use Rattle.interface.proofs.Takes.{take_ok}
use Rattle.interface.proofs.Slots.{Traced, traced_dones, traced_append, map_append}
use Rattle.interface.proofs.Traces.{history_keeps, history_coded}
use Rattle.interface.proofs.Served.{pending, served_take, pending_take, issuances_take, Shut, served_wait, served_issue, pending_issue, issuances_issue}
use Rattle.held.specs.declared.entries.Entry.{Entry}
use Rattle.held.specs.Entries.{request_of, later, expired, key, dones, anyone, next_of, issue_next, is_issued, new_entry}
use Rattle.held.proofs.Stepping.{apart_later, apart_issued}
use Rattle.held.proofs.Delaying.{expired_issued, traced_end}
use Rattle.held.proofs.Waiting.{waiting, waiting_later, next_waiting, waiting_issued, waiting_taken, waiting_dropped}
use Rattle.held.proofs.Finishing.{dones_issued, none_issued, one_issued}
use Rattle.first_come.specs.declared.gaps.Gaps.{Gaps}
use Rattle.first_come.specs.Gaps.{gaps_passed, allows}
use Rattle.first_come.specs.State.{State, first_come_span, elapsed, issue, state_meaning, state_codes, state_of, state_back, first_come_meaning}
use Rattle.first_come.specs.Laws.{Kept, IsFirstCome}
use Rattle.first_come.specs.Gapping.{Agrees, agrees_start, agrees_pass, agrees_issue, allowed_kept, kept_allowed, kept_apart}
use Rattle.first_come.specs.Lawfulness.{Sound, sound_start, sound_take, sound_collect, sound_step, Outcome, quiet, shut, sends, outcome, issued_state}

-- ---- the requests that wait

abbrev taken_request : Taking → Request
taken_request k = k.request

-- those that wait among the entries
abbrev waits_in : List Entry → List Request
waits_in es = map request_of (waiting anyone es)

abbrev Split : List Taking → Request → List Request → Type 0
Split ps q qs = (k : Taking) × (ks : List Taking) × (ps ≡ k ∷ ks) × (k.request ≡ q) × (map taken_request ks ≡ qs)

split : (ps : List Taking) (q : Request) (qs : List Request) → map taken_request ps ≡ q ∷ qs → Split ps q qs
split [] q qs e = let z : ◌≡◌ {A = ℕ} 0 1 = cc in absurd (omega arith)
split (k ∷ ks) q qs e = (k, ks, refl, cc, cc)

-- ---- a state follows a history

abbrev pub sent : History → List Issuance
sent h = issuances [] h.takings h.issuings

abbrev pub unissued : History → List Taking
unissued h = pending h.takings h.issuings

-- takings that came before step n, of banks that there are
abbrev Since : ℕ → List Taking → Type 0
Since n [] = Unit {0}
Since n (k ∷ ks) = (k.from ≤ n) × (k.request.bank < 8) × Since n ks

since_more : (n : ℕ) (ks : List Taking) → Since n ks → Since (n + 1) ks
since_more n [] s = tt
since_more n (k ∷ ks) s = (omega (arith, s.0), s.1, since_more n ks s.2)

since_append : (n : ℕ) (ks : List Taking) (k : Taking) → Since n ks → k.from ≤ n → k.request.bank < 8 → Since n (ks ++ (k ∷ []))
since_append n [] k s a b = (a, b, tt)
since_append n (x ∷ ks) k s a b = (s.0, s.1, since_append n ks k s.2 a b)

pub record Follows (s : State) (h : History) : Type 0 where
  pub sound : Sound s
  pub served : Served Kept [] h.takings h.issuings h.steps
  pub waits : waits_in s.rows.entries ≡ map taken_request (unissued h)
  pub since : Since h.steps (unissued h)
  pub agrees : Agrees s.gaps h.steps (sent h)
  pub traced : Traced key is_issued s.rows.events s.rows.entries

pub follows_start : (s : State) → Follows (state_meaning.start s) blank
follows_start s = record { sound = sound_start s; served = tt; waits = refl; since = tt; agrees = agrees_start; traced = tt }

pub follows_take : (s : State) (h : History) (q : Request) → Follows s h → take_refusal state_meaning s q ≡ None → Follows (state_meaning.taken s q) (with_taking h q)
follows_take s h q t ok =
    let ks = h.takings in
    let os = h.issuings in
    let n = h.steps in
    let es = s.rows.entries in
    let k : Taking = record { request = q; from = n } in
    let p = pending_take Kept ks os [] n k t.served in
    let i = issuances_take Kept ks os [] n k t.served in
    let r = (take_ok state_meaning s q ok).0 in
    let low : q.bank < 8 = ltb-true _ _ (and_parts (ltb q.domain 8) _ (and_parts (ltb q.slot 512) _ r).1).1 in
    record {
      sound = sound_take s q t.sound ok;
      served = served_take Kept ks os [] n k (omega arith) t.served;
      waits = waiting_taken anyone es first_come_span q true refl
          ∙ ap (λ l. l ++ (q ∷ [])) t.waits ∙ sym (map_append taken_request (unissued h) k) ∙ ap (map taken_request) (sym p);
      since = subst (Since n) (sym p) (since_append n (unissued h) k t.since (omega arith) low);
      agrees = subst (Agrees s.gaps n) (sym i) t.agrees;
      traced = traced_append key is_issued s.rows.events es (new_entry first_come_span q) t.traced;
    }

abbrev pub state : List Entry → List Event → Gaps → State
state es evs g = record { rows = record { entries = es; events = evs }; gaps = g }

pub follows_collect : (es : List Entry) (evs : List Event) (g : Gaps) (h : History) → Follows (state es evs g) h → Follows (state_meaning.collected (state es evs g)) h
follows_collect es [] g h t = record { sound = sound_collect es [] g t.sound; served = t.served; waits = t.waits; since = t.since; agrees = t.agrees; traced = tt }
follows_collect es (Issue n ∷ evs) g h t = record { sound = sound_collect es (Issue n ∷ evs) g t.sound; served = t.served; waits = t.waits; since = t.since; agrees = t.agrees; traced = t.traced }
follows_collect es (Done n ∷ evs) g h t = record {
  sound = sound_collect es (Done n ∷ evs) g t.sound;
  served = t.served;
  waits = ap (map request_of) (waiting_dropped anyone n es t.sound.apart t.traced.0) ∙ t.waits;
  since = t.since;
  agrees = t.agrees;
  traced = t.traced.1;
}

-- ---- a step

pub events_passed : (s : State) → s.rows.events ≡ [] → (elapsed s).rows.events ≡ dones (map later s.rows.entries)
events_passed s none = ap (λ evs. evs ++ dones (map later s.rows.entries)) none

-- no Issue comes
pub no_issue : (s : State) (h : History) → s.rows.events ≡ [] → h.issuings ++ issued_in h.steps (elapsed s).rows.events ≡ h.issuings
no_issue s h none = ap (λ l. h.issuings ++ l) (none_issued s.rows h.steps none) ∙ append-nil h.issuings

-- one Issue comes
pub one_issue : (s : State) (h : History) (e : Entry) → s.rows.events ≡ []
    → h.issuings ++ issued_in h.steps (issued_state s e).rows.events ≡ h.issuings ++ (record { slot = e.request.slot; at = h.steps } ∷ [])
one_issue s h e none = ap (λ l. h.issuings ++ l) (one_issued s.rows h.steps anyone e none)

follows_quiet : (s : State) (h : History) → Follows s h → s.rows.events ≡ [] → Shut Kept h.steps (sent h) (unissued h) → Sound (elapsed s) → Follows (elapsed s) (with_step h (elapsed s).rows.events)
follows_quiet s h t none z f =
    let n = h.steps in
    let es = s.rows.entries in
    subst (λ os. Follows (elapsed s) (record { steps = n + 1; takings = h.takings; issuings = os; endings = h.endings ++ ended_in n (elapsed s).rows.events })) (sym (no_issue s h none))
    (record {
      sound = f;
      served = served_wait Kept h.takings h.issuings [] n z t.served;
      waits = waiting_later anyone es ∙ t.waits;
      since = since_more n (unissued h) t.since;
      agrees = agrees_pass s.gaps n (sent h) t.agrees;
      traced = subst (λ evs. Traced key is_issued evs (map later es)) (sym (events_passed s none)) (traced_dones key is_issued expired expired_issued (map later es) (apart_later es t.sound.apart));
    })

follows_issue : (s : State) (h : History) (e : Entry) → Follows s h → s.rows.events ≡ [] → (k : Taking) (ks : List Taking) → unissued h ≡ k ∷ ks → k.request ≡ e.request
    → map taken_request ks ≡ map request_of (rest (waiting anyone (map later s.rows.entries)))
    → allows (gaps_passed s.gaps) e.request ≡ true → Sound (issued_state s e) → Follows (issued_state s e) (with_step h (issued_state s e).rows.events)
follows_issue s h e t none k ks ps kq rests o f =
    let n = h.steps in
    let es = map later s.rows.entries in
    let i : Occurrence = record { slot = e.request.slot; at = n } in
    let since = subst (Since n) ps t.since in
    let low : e.request.bank < 8 = subst (λ (q : Request). q.bank < 8) kq since.1 in
    let kept = allowed_kept s.gaps n (sent h) t.agrees e.request low o in
    let grown = issuances_issue Kept h.takings h.issuings [] k ks i ps ∙ ap (λ q. sent h ++ (record { request = q; at = n } ∷ [])) kq in
    let pends = pending_issue Kept h.takings h.issuings k ks i ps in
    subst (λ os. Follows (issued_state s e) (record { steps = n + 1; takings = h.takings; issuings = os; endings = h.endings ++ ended_in n (issued_state s e).rows.events })) (sym (one_issue s h e none))
    (record {
      sound = f;
      served = served_issue Kept kept_apart h.takings h.issuings [] n k ks i ps (ap (λ (q : Request). q.slot) (sym kq)) refl since.0 (subst (λ q. Kept (sent h) q n) (sym kq) kept) t.served;
      waits = ap (map request_of) (waiting_issued anyone es) ∙ sym rests ∙ ap (map taken_request) (sym pends);
      since = subst (Since (n + 1)) (sym pends) (since_more n ks since.2);
      agrees = subst (Agrees _ (n + 1)) (sym grown) (agrees_issue s.gaps n (sent h) t.agrees e.request low kept);
      traced =
          subst (λ evs. Traced key is_issued (evs ++ (Issue e.request.slot ∷ [])) (issue_next anyone es)) (sym (events_passed s none))
          (traced_end is_issued (dones es) (issue_next anyone es) e.request.slot
          (subst (λ ds. Traced key is_issued ds (issue_next anyone es)) (dones_issued anyone es)
          (traced_dones key is_issued expired expired_issued (issue_next anyone es) (apart_issued anyone es (apart_later s.rows.entries t.sound.apart)))));
    })

shut_none : (n : ℕ) (is : List Issuance) (ps : List Taking) → map taken_request ps ≡ [] → Shut Kept n is ps
shut_none n is [] e = tt
shut_none n is (k ∷ ps) e = let z : ◌≡◌ {A = ℕ} 0 1 = cc in absurd (omega arith)

-- the request that is next is the oldest that waits in the history
pub oldest_taking : (s : State) (h : History) → Follows s h → (e : Entry) → next_of anyone (map later s.rows.entries) ≡ Some e
    → Split (unissued h) e.request (map request_of (rest (waiting anyone (map later s.rows.entries))))
oldest_taking s h t e next =
    let es = map later s.rows.entries in
    let one = first_some (waiting anyone es) e (sym (sym (next_waiting anyone es) ∙ next)) in
    split (unissued h) e.request (map request_of (rest (waiting anyone es))) (sym t.waits ∙ sym (waiting_later anyone s.rows.entries) ∙ ap (map request_of) one)

follows_outcome : (s r : State) (h : History) → Follows s h → s.rows.events ≡ [] → Outcome s r → Sound r → Follows r (with_step h r.rows.events)
follows_outcome s r h t none (quiet next) f =
    let es = map later s.rows.entries in
    let nothing = first_none (waiting anyone es) (sym (sym (next_waiting anyone es) ∙ next)) in
    follows_quiet s h t none (shut_none h.steps (sent h) (unissued h) (sym t.waits ∙ sym (waiting_later anyone s.rows.entries) ∙ ap (map request_of) nothing)) f
follows_outcome s r h t none (shut e next a) f =
    let p = oldest_taking s h t e next in
    let since = subst (Since h.steps) p.2 t.since in
    follows_quiet s h t none
    (subst (Shut Kept h.steps (sent h)) (sym p.2)
    (λ m. both_ways _ a (ap (allows (gaps_passed s.gaps)) (sym p.3) ∙ kept_allowed s.gaps h.steps (sent h) t.agrees p.0.request since.1 m))) f
follows_outcome s r h t none (sends e next a) f =
    let p = oldest_taking s h t e next in
    follows_issue s h e t none p.0 p.1 p.2 p.3 p.4 a f

pub follows_step : (s : State) (h : History) → Follows s h → s.rows.events ≡ [] → Follows (issue (elapsed s)) (with_step h (issue (elapsed s)).rows.events)
follows_step s h t none = follows_outcome s (issue (elapsed s)) h t none (outcome s none t.sound.few) (sound_step s t.sound none)

pub first_come : IsFirstCome first_come_meaning
first_come b cs =
    subst (λ h. Served Kept [] h.takings h.issuings h.steps) (sym (history_coded state_codes state_of state_back state_meaning b cs))
    (history_keeps state_meaning Follows follows_start follows_take follows_step
    (λ s h t e. follows_collect s.rows.entries s.rows.events s.gaps h t)
    (state_of b) cs).1.served
