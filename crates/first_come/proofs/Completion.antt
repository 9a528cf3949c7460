-- First-come's Dones come exactly their delay after the issue.
use Rattle.std.proofs.Common.{◌≡◌, ◌+◌, List, [], ◌∷◌, ◌++◌, map, Some, None, Option, sym, ap, ◌∙◌, subst}
use Rattle.interface.specs.Meaning.{first, take_refusal}
use Rattle.interface.specs.History.{Occurrence, History, blank, ended_in, with_taking, with_step, issuances}
use Rattle.interface.specs.Slots.{dropped_by}
use Rattle.interface.specs.declared.Request.{Request}
use Rattle.interface.specs.declared.Event.{Event}
use Rattle.interface.specs.declared.Event.TheVariants.{Issue, Done}
use Rattle.interface.proofs.Traces.{history_keeps, history_coded}
use Rattle.interface.proofs.Served.{issuances_take, issuances_issue}
use Rattle.held.specs.declared.entries.Entry.{Entry}
use Rattle.held.specs.Entries.{later, key, anyone, next_of}
use Rattle.held.specs.Delays.{dones_before}
use Rattle.held.proofs.Delaying.{countdowns_issued, IssuedFirst, ordered_later, ordered_append, ordered_dropped, ordered_issued}
use Rattle.held.proofs.Finishing.{Finishing, finishing_none, finishing_take, finishing_collect, finishing_pass, finishing_issue}
use Rattle.first_come.specs.State.{State, first_come_span, elapsed, issue, state_meaning, state_codes, state_of, state_back, first_come_meaning}
use Rattle.first_come.specs.Laws.{Kept, DoneInTime}
use Rattle.first_come.specs.Lawfulness.{Outcome, quiet, shut, sends, outcome, issued_state}
use Rattle.first_come.proofs.Service.{Follows, follows_start, follows_take, follows_collect, follows_step, sent, no_issue, one_issue, oldest_taking}

-- the state follows the history, and so do the Dones of its table
record Ends (s : State) (h : History) : Type 0 where
  follows : Follows s h
  ordered : IssuedFirst s.rows.entries
  done : Finishing s.rows h.steps (sent h) h.endings

ends_start : (s : State) → Ends (state_meaning.start s) blank
ends_start s = record { follows = follows_start s; ordered = tt; done = finishing_none }

ends_take : (s : State) (h : History) (q : Request) → Ends s h → take_refusal state_meaning s q ≡ None → Ends (state_meaning.taken s q) (with_taking h q)
ends_take s h q t ok =
    let i = issuances_take Kept h.takings h.issuings [] h.steps (record { request = q; from = h.steps }) t.follows.served in
    record {
      follows = follows_take s h q t.follows ok;
      ordered = ordered_append s.rows.entries first_come_span q t.ordered;
      done = subst (λ is. Finishing (state_meaning.taken s q).rows h.steps is h.endings) (sym i) (finishing_take s.rows h.steps (sent h) h.endings first_come_span q t.done);
    }

ordered_collect : (o : Option Event) (es : List Entry) → IssuedFirst es → IssuedFirst (dropped_by key o es)
ordered_collect None es o = o
ordered_collect (Some (Issue n)) es o = o
ordered_collect (Some (Done n)) es o = ordered_dropped n es o

ends_collect : (s : State) (h : History) → Ends s h → Ends (state_meaning.collected s) h
ends_collect s h t = record {
  follows = follows_collect s.rows.entries s.rows.events s.gaps h t.follows;
  ordered = ordered_collect (first s.rows.events) s.rows.entries t.ordered;
  done = finishing_collect s.rows h.steps (sent h) h.endings t.follows.sound.apart t.done;
}

-- ---- a step

ends_quiet : (s : State) (h : History) → Ends s h → s.rows.events ≡ [] → Follows (elapsed s) (with_step h (elapsed s).rows.events) → Ends (elapsed s) (with_step h (elapsed s).rows.events)
ends_quiet s h t none f =
    let i = ap (issuances [] h.takings) (no_issue s h none) in
    record {
      follows = f;
      ordered = ordered_later s.rows.entries t.ordered;
      done = subst (λ is. Finishing (elapsed s).rows (h.steps + 1) is (h.endings ++ ended_in h.steps (elapsed s).rows.events)) (sym i)
          (finishing_pass s.rows h.steps (sent h) h.endings t.follows.sound.apart none t.done);
    }

ends_issue : (s : State) (h : History) (e : Entry) → Ends s h → s.rows.events ≡ [] → next_of anyone (map later s.rows.entries) ≡ Some e
    → Follows (issued_state s e) (with_step h (issued_state s e).rows.events) → Ends (issued_state s e) (with_step h (issued_state s e).rows.events)
ends_issue s h e t none next f =
    let n = h.steps in
    let ordered = ordered_later s.rows.entries t.ordered in
    let o : Occurrence = record { slot = e.request.slot; at = n } in
    let p = oldest_taking s h t.follows e next in
    let i = ap (issuances [] h.takings) (one_issue s h e none) ∙ issuances_issue Kept h.takings h.issuings [] p.0 p.1 o p.2 ∙ ap (λ q. sent h ++ (record { request = q; at = n } ∷ [])) p.3 in
    record {
      follows = f;
      ordered = ordered_issued (map later s.rows.entries) ordered;
      done = subst (λ is. Finishing (issued_state s e).rows (n + 1) is (h.endings ++ ended_in n (issued_state s e).rows.events)) (sym i)
          (finishing_issue s.rows n (sent h) h.endings t.follows.sound.apart none t.done anyone e (countdowns_issued e (map later s.rows.entries) ordered next));
    }

ends_outcome : (s r : State) (h : History) → Ends s h → s.rows.events ≡ [] → Outcome s r → Follows r (with_step h r.rows.events) → Ends r (with_step h r.rows.events)
ends_outcome s r h t none (quiet next) f = ends_quiet s h t none f
ends_outcome s r h t none (shut e next a) f = ends_quiet s h t none f
ends_outcome s r h t none (sends e next a) f = ends_issue s h e t none next f

ends_step : (s : State) (h : History) → Ends s h → s.rows.events ≡ [] → Ends (issue (elapsed s)) (with_step h (issue (elapsed s)).rows.events)
ends_step s h t none = ends_outcome s (issue (elapsed s)) h t none (outcome s none t.follows.sound.few) (follows_step s h t.follows none)

pub done_in_time : DoneInTime first_come_meaning
done_in_time b cs =
    subst (λ h. h.endings ≡ dones_before h.steps (issuances [] h.takings h.issuings)) (sym (history_coded state_codes state_of state_back state_meaning b cs))
    (history_keeps state_meaning Ends ends_start ends_take ends_step
    (λ s h t e. ends_collect s h t)
    (state_of b) cs).1.done.ended
