-- The Dones of a table in step with its issues, whichever class of requests each issue is of.
use Rattle.std.proofs.Common.{◌≡◌, ℕ, ◌+◌, ◌-◌, Bool, true, false, cond, ◌&&◌, eqb, List, [], ◌∷◌, ◌++◌, map, Some, Option, None, sym, refl, ap, ◌∙◌, subst, add-one, arith}
use Rattle.interface.specs.Meaning.{any}
use Rattle.interface.specs.Lawful.{ends}
use Rattle.interface.specs.History.{Occurrence, Issuance, issued_in, ended_in}
use Rattle.interface.specs.declared.Request.{Request}
use Rattle.interface.specs.declared.Event.{Event}
use Rattle.interface.specs.declared.Event.TheVariants.{Issue, Done}
use Rattle.interface.proofs.Slots.{Apart, Traced, traced_dones, traced_append, ends_before}
use Rattle.held.specs.declared.entries.Entry.{Entry}
use Rattle.held.specs.Entries.{later, key, expired, dones, done_delay, issue_next, issued_now, new_entry}
use Rattle.held.specs.Rows.{Rows, no_rows, with_request, passed, first_out, issue_of}
use Rattle.held.specs.Delays.{dones_before}
use Rattle.held.proofs.Stepping.{apart_later, apart_issued}
use Rattle.held.proofs.Delaying.{delay_not, traced_end, issued_dones, issued_append, countdowns, outstanding, finishing, lowered, NoneExpired, none_expired, ended_step, countdowns_later, countdowns_append, countdowns_dropped, finishing_outstanding, lowered_outstanding, AllReady, ready_append, ready_dropped, ready_dones, outstanding_append, outstanding_new, delay_least, dones_before_same, ended_issue}

-- an issue makes no Done ready
pub dones_issued : (k : Request → Bool) (es : List Entry) → dones (issue_next k es) ≡ dones es
dones_issued k [] = refl
dones_issued k (e ∷ es) = at e.request e.until_done e.left (dones_issued k es)
  where
    at : (q : Request) (s : Option ℕ) (l : ℕ) → dones (issue_next k es) ≡ dones es → dones (issue_next k (record { request = q; until_done = s; left = l } ∷ es)) ≡ dones (record { request = q; until_done = s; left = l } ∷ es)
    at q None l i = go (k q)
      where
        go : (b : Bool) → dones (cond (b && true) (issued_now (record { request = q; until_done = None; left = l }) ∷ es) (record { request = q; until_done = None; left = l } ∷ issue_next k es)) ≡ dones es
        go true = ap (λ b. cond b (Done q.slot ∷ dones es) (dones es)) (delay_not q.kind)
        go false = i
    at q (Some n) l i = go (k q)
      where
        go : (b : Bool) → dones (cond (b && false) (issued_now (record { request = q; until_done = Some n; left = l }) ∷ es) (record { request = q; until_done = Some n; left = l } ∷ issue_next k es)) ≡ cond (eqb n 0) (Done q.slot ∷ dones es) (dones es)
        go true = ap (λ d. cond (eqb n 0) (Done q.slot ∷ d) d) i
        go false = ap (λ d. cond (eqb n 0) (Done q.slot ∷ d) d) i

-- ---- the events of a step

passed_events : (t : Rows) → t.events ≡ [] → (passed t).events ≡ dones (map later t.entries)
passed_events t none = ap (λ es. es ++ dones (map later t.entries)) none

-- no Issue comes
pub none_issued : (t : Rows) (n : ℕ) → t.events ≡ [] → issued_in n (passed t).events ≡ []
none_issued t n none = ap (issued_in n) (passed_events t none) ∙ issued_dones n (map later t.entries)

-- one Issue comes
pub one_issued : (t : Rows) (n : ℕ) (k : Request → Bool) (e : Entry) → t.events ≡ [] → issued_in n (issue_of k (passed t) (Some e)).events ≡ record { slot = e.request.slot; at = n } ∷ []
one_issued t n k e none = issued_append n e.request.slot (passed t).events ∙ ap (λ os. os ++ (record { slot = e.request.slot; at = n } ∷ [])) (none_issued t n none)

-- ---- the Dones

-- after n steps with the issues is, the Dones os have come, and the table will bring the others in time
pub record Finishing (t : Rows) (n : ℕ) (is : List Issuance) (os : List Occurrence) : Type 0 where
  pub ready : AllReady t.events t.entries
  pub traced : Traced key expired t.events t.entries
  pub counted : countdowns t.entries ≡ outstanding n is
  pub ended : os ≡ dones_before n is

pub finishing_none : Finishing no_rows 0 [] []
finishing_none = record { ready = tt; traced = tt; counted = refl; ended = refl }

pub finishing_take : (t : Rows) (n : ℕ) (is : List Issuance) (os : List Occurrence) (span : ℕ) (q : Request) → Finishing t n is os → Finishing (with_request span q t) n is os
finishing_take t n is os span q f = record {
  ready = ready_append t.events t.entries span q f.ready;
  traced = traced_append key expired t.events t.entries (new_entry span q) f.traced;
  counted = countdowns_append t.entries span q ∙ f.counted;
  ended = f.ended;
}

abbrev table : List Entry → List Event → Rows
table es evs = record { entries = es; events = evs }

collect_at : (es : List Entry) (evs : List Event) (n : ℕ) (is : List Issuance) (os : List Occurrence) → Apart key es → Finishing (table es evs) n is os → Finishing (first_out (table es evs)) n is os
collect_at es [] n is os a f = record { ready = f.ready; traced = tt; counted = f.counted; ended = f.ended }
collect_at es (Issue m ∷ evs) n is os a f = record { ready = f.ready; traced = f.traced; counted = f.counted; ended = f.ended }
collect_at es (Done m ∷ evs) n is os a f = record {
  ready = ready_dropped m evs es a f.ready;
  traced = f.traced.1;
  counted = countdowns_dropped m es a f.traced.0 ∙ f.counted;
  ended = f.ended;
}

pub finishing_collect : (t : Rows) (n : ℕ) (is : List Issuance) (os : List Occurrence) → Apart key t.entries → Finishing t n is os → Finishing (first_out t) n is os
finishing_collect t = collect_at t.entries t.events

module _ (t : Rows) (n : ℕ) (is : List Issuance) (os : List Occurrence) (apart : Apart key t.entries) (none : t.events ≡ []) (f : Finishing t n is os) where
  running : NoneExpired t.entries
  running = none_expired t.entries (subst (λ evs. AllReady evs t.entries) none f.ready)

  pub counted_later : countdowns (map later t.entries) ≡ outstanding (n + 1) is
  counted_later = countdowns_later t.entries running ∙ ap lowered f.counted ∙ lowered_outstanding n is

  ended_later : os ++ ended_in n (passed t).events ≡ dones_before (n + 1) is
  ended_later =
      ap (λ l. l ++ ended_in n (passed t).events) f.ended
      ∙ ap (λ l. dones_before n is ++ l) (ap (ended_in n) (passed_events t none) ∙ ended_step n t.entries running ∙ ap (finishing n) f.counted ∙ finishing_outstanding n is)
      ∙ ap (λ m. dones_before m is) (sym (add-one n))

  -- a step without an issue
  pub finishing_pass : Finishing (passed t) (n + 1) is (os ++ ended_in n (passed t).events)
  finishing_pass = record {
    ready = ready_dones (map later t.entries) (passed t).events (λ m k. ap (any (ends m)) (passed_events t none) ∙ k);
    traced = subst (λ evs. Traced key expired evs (map later t.entries)) (sym (passed_events t none)) (traced_dones key expired expired (λ x k. k) (map later t.entries) (apart_later t.entries apart));
    counted = counted_later;
    ended = ended_later;
  }

  -- a step with an issue, whose countdown is the last
  pub finishing_issue : (k : Request → Bool) (e : Entry) → countdowns (issue_next k (map later t.entries)) ≡ countdowns (map later t.entries) ++ ((e.request.slot, done_delay e.request.kind - 1) ∷ [])
      → Finishing (issue_of k (passed t) (Some e)) (n + 1) (is ++ (record { request = e.request; at = n } ∷ [])) (os ++ ended_in n (issue_of k (passed t) (Some e)).events)
  finishing_issue k e last =
      let es = map later t.entries in
      let new : Issuance = record { request = e.request; at = n } in
      let least = delay_least e.request.kind in
      record {
        ready = ready_dones (issue_next k es) ((passed t).events ++ (Issue e.request.slot ∷ []))
            (λ m y. ap (λ ds. any (ends m) (ds ++ (Issue e.request.slot ∷ []))) (passed_events t none) ∙ ends_before m (dones es) (Issue e.request.slot ∷ []) (ap (any (ends m)) (sym (dones_issued k es)) ∙ y));
        traced =
            subst (λ ds. Traced key expired (ds ++ (Issue e.request.slot ∷ [])) (issue_next k es)) (sym (passed_events t none))
            (traced_end expired (dones es) (issue_next k es) e.request.slot
            (subst (λ ds. Traced key expired ds (issue_next k es)) (dones_issued k es) (traced_dones key expired expired (λ y z. z) (issue_next k es) (apart_issued k es (apart_later t.entries apart)))));
        counted =
            last ∙ ap (λ cs. cs ++ ((e.request.slot, done_delay e.request.kind - 1) ∷ [])) counted_later
            ∙ ap (λ cs. outstanding (n + 1) is ++ cs) (sym (outstanding_new n e.request)) ∙ sym (outstanding_append (n + 1) is new);
        ended = ap (λ l. os ++ l) (ended_issue n e.request.slot (passed t).events) ∙ ended_later ∙ sym (dones_before_same (n + 1) is new (omega arith));
      }
