-- First-come keeps the laws of the interface.
use Rattle.std.specs.Prelude.{◌≡◌, ℕ, ◌+◌, ◌-◌, ◌<◌, ◌≤◌, Bool, true, false, cond, leb, ◌≢◌, List, [], ◌∷◌, ◌++◌, map, length, Some, None, Option, nat_le, refl}
use Rattle.std.proofs.Common.{sym, ap, ◌∙◌, subst, inl, inr, arith, lit≤, length-append, le-leb}
use Rattle.std.proofs.lemmas.List.{length-map}
use Rattle.std.proofs.lemmas.Bool.{both_ways}
use Rattle.interface.specs.Meaning.{Reached, first, take_refusal}
use Rattle.interface.specs.Lawful.{Lawful}
use Rattle.interface.specs.declared.Request.{Request}
use Rattle.interface.specs.declared.Event.{Event}
use Rattle.interface.specs.declared.Event.TheVariants.{Issue, Done}
use Rattle.interface.proofs.Codes.{lawful_coded}
use Rattle.interface.proofs.Runs.{reached_keeps}
use Rattle.interface.proofs.Takes.{take_ok}
use Rattle.interface.proofs.Slots.{Apart, apart_append, apart_dropped, length_dropped, some_entries, collected_held, map_append}
use Rattle.held.specs.declared.entries.Entry.{Entry}
use Rattle.held.specs.Entries.{later, key, dones, anyone, next_of, reading_of, new_entry}
use Rattle.held.specs.Rows.{Rows, passed, issue_of, issue_oldest, first_out}
use Rattle.held.proofs.Stepping.{Stepped, Ample, apart_later, apart_issued, length_issued, length_dones, stepped_held, stepped_proper, stepped_punctual}
use Rattle.held.proofs.Spans.{times_more, Timely, timely_later, timely_append, timely_dropped, timely_none, timely_issued}
use Rattle.first_come.specs.declared.gaps.Gaps.{Gaps}
use Rattle.first_come.specs.Gaps.{greatest_gap, gaps_passed, allows, with_issue}
use Rattle.first_come.specs.State.{State, first_come_span, elapsed, issue_if, issue, state_meaning, state_codes, state_of, state_back, first_come_meaning}
use Rattle.first_come.specs.Gapping.{Within, within_start, within_more, within_pass, within_issue, within_allowed}

-- ---- what holds of every state that calls lead to

-- The next request is issued within w steps, each further one within the greatest gap more, and the steps left suffice.
pub record Sound (s : State) : Type 0 where
  pub few : length s.rows.entries ≤ 32
  pub apart : Apart key s.rows.entries
  pub w : ℕ
  pub low : 1 ≤ w
  pub high : w ≤ greatest_gap
  pub gaps : Within w s.gaps
  pub timely : Timely greatest_gap anyone w s.rows.entries

pub sound_start : (s : State) → Sound (state_meaning.start s)
sound_start s = record { few = omega arith; apart = tt; w = 1; low = omega arith; high = omega arith; gaps = within_start 1; timely = tt }

pub sound_take : (s : State) (q : Request) → Sound s → take_refusal state_meaning s q ≡ None → Sound (state_meaning.taken s q)
sound_take s q f ok =
    let es = s.rows.entries in
    let t = take_ok state_meaning s q ok in
    let l = length-map es reading_of in
    let few : length es < 32 = omega arith in
    let m = times_more greatest_gap (length es) 31 (omega arith) in
    let high = f.high in
    record {
      few = simp length-append (omega arith);
      apart = apart_append key es (new_entry first_come_span q) f.apart (sym (some_entries key reading_of (λ h. refl) q.slot es) ∙ t.1);
      w = f.w;
      low = f.low;
      high = f.high;
      gaps = f.gaps;
      timely = timely_append greatest_gap anyone es q f.w first_come_span (omega arith) f.timely;
    }

pub sound_collect : (es : List Entry) (evs : List Event) (g : Gaps) → Sound (record { rows = record { entries = es; events = evs }; gaps = g }) → Sound (record { rows = first_out (record { entries = es; events = evs }); gaps = g })
sound_collect es [] g f = record { few = f.few; apart = f.apart; w = f.w; low = f.low; high = f.high; gaps = f.gaps; timely = f.timely }
sound_collect es (Issue n ∷ evs) g f = record { few = f.few; apart = f.apart; w = f.w; low = f.low; high = f.high; gaps = f.gaps; timely = f.timely }
sound_collect es (Done n ∷ evs) g f =
    let l = length_dropped key n es in
    let k = f.few in
    record { few = omega arith; apart = apart_dropped key n es f.apart; w = f.w; low = f.low; high = f.high; gaps = f.gaps; timely = timely_dropped greatest_gap anyone es n f.w f.timely }

-- ---- a step: the table passes, and the oldest that waits may be issued

-- there is room for the Issue after the Dones
room : (es : List Entry) → length es ≤ 32 → nat_le (length (dones (map later es))) 32 ≡ true
room es few = let l = length_dones (map later es) in let m = length-map es later in le-leb _ _ (omega arith)

pub issued_rows : (t : Rows) (e : Entry) → t.events ≡ [] → length t.entries ≤ 32 → next_of anyone (map later t.entries) ≡ Some e → issue_oldest anyone (passed t) ≡ issue_of anyone (passed t) (Some e)
issued_rows t e none few next =
    ap (λ b. cond b (issue_of anyone (passed t) (next_of anyone (passed t).entries)) (passed t)) (ap (λ evs. leb (length (evs ++ dones (map later t.entries))) 32) none ∙ room t.entries few)
    ∙ ap (issue_of anyone (passed t)) next

-- the state after a step with an issue
abbrev pub issued_state : State → Entry → State
issued_state s e = record { rows = issue_of anyone (passed s.rows) (Some e); gaps = with_issue e.request (gaps_passed s.gaps) }

pub data Outcome (s : State) : State → Type 0 where
  quiet : next_of anyone (map later s.rows.entries) ≡ None → Outcome s (elapsed s)
  shut : (e : Entry) → next_of anyone (map later s.rows.entries) ≡ Some e → allows (gaps_passed s.gaps) e.request ≡ false → Outcome s (elapsed s)
  sends : (e : Entry) → next_of anyone (map later s.rows.entries) ≡ Some e → allows (gaps_passed s.gaps) e.request ≡ true → Outcome s (issued_state s e)

pub outcome : (s : State) → s.rows.events ≡ [] → length s.rows.entries ≤ 32 → Outcome s (issue (elapsed s))
outcome s none few = go (next_of anyone (map later s.rows.entries)) refl
  where
    at : (e : Entry) → next_of anyone (map later s.rows.entries) ≡ Some e → (b : Bool) → allows (gaps_passed s.gaps) e.request ≡ b
        → Outcome s (cond b (record { rows = issue_oldest anyone (passed s.rows); gaps = with_issue e.request (gaps_passed s.gaps) }) (elapsed s))
    at e next true a = subst (λ t. Outcome s (record { rows = t; gaps = with_issue e.request (gaps_passed s.gaps) })) (sym (issued_rows s.rows e none few next)) (sends e next a)
    at e next false a = shut e next a

    go : (o : Option Entry) → next_of anyone (map later s.rows.entries) ≡ o → Outcome s (issue_if (elapsed s) o)
    go None next = quiet next
    go (Some e) next = at e next (allows (gaps_passed s.gaps) e.request) refl

timely_passed : (s : State) (f : Sound s) → Timely greatest_gap anyone (f.w - 1) (map later s.rows.entries)
timely_passed s f = let low = f.low in timely_later greatest_gap anyone s.rows.entries f.w (f.w - 1) (omega arith) f.timely

sound_after : (s t : State) → Sound s → Outcome s t → Sound t
sound_after s t f (quiet next) =
    let es = s.rows.entries in
    let l = length-map es later in
    let few = f.few in
    let low = f.low in
    let high = f.high in
    record {
      few = omega arith;
      apart = apart_later es f.apart;
      w = greatest_gap;
      low = omega arith;
      high = omega arith;
      gaps = within_more (f.w - 1) greatest_gap _ (omega arith) (within_pass f.w (f.w - 1) s.gaps (omega arith) f.gaps);
      timely = timely_none greatest_gap anyone (map later es) greatest_gap (f.w - 1) next (timely_passed s f);
    }
sound_after s t f (shut e next a) =
    let es = s.rows.entries in
    let l = length-map es later in
    let few = f.few in
    let low = f.low in
    let high = f.high in
    let gaps = within_pass f.w (f.w - 1) s.gaps (omega arith) f.gaps in
    let some : f.w - 1 ≢ 0 = λ z. both_ways _ a (within_allowed (gaps_passed s.gaps) e.request (subst (λ v. Within v (gaps_passed s.gaps)) z gaps)) in
    record { few = omega arith; apart = apart_later es f.apart; w = f.w - 1; low = omega arith; high = omega arith; gaps = gaps; timely = timely_passed s f }
sound_after s t f (sends e next a) =
    let es = s.rows.entries in
    let l = length-map es later in
    let k = length_issued anyone (map later es) in
    let few = f.few in
    let low = f.low in
    let high = f.high in
    record {
      few = omega arith;
      apart = apart_issued anyone (map later es) (apart_later es f.apart);
      w = greatest_gap;
      low = omega arith;
      high = omega arith;
      gaps = within_issue e.request (gaps_passed s.gaps) (within_more (f.w - 1) greatest_gap _ (omega arith) (within_pass f.w (f.w - 1) s.gaps (omega arith) f.gaps));
      timely = timely_issued greatest_gap anyone (map later es) (f.w - 1) (timely_passed s f);
    }

pub sound_step : (s : State) → Sound s → state_meaning.ready s ≡ [] → Sound (state_meaning.stepped s)
sound_step s f none = sound_after s (issue (elapsed s)) f (outcome s none f.few)

sound : (s : State) → Reached state_meaning s → Sound s
sound = reached_keeps state_meaning Sound sound_take sound_step (λ s f e. sound_collect s.rows.entries s.rows.events s.gaps f) sound_start

-- ---- the readings after a step

stepped_view : (s t : State) → s.rows.events ≡ [] → Outcome s t → Stepped s.rows.entries t.rows.entries t.rows.events
stepped_view s t none (quiet next) = inl (refl, ap (λ evs. evs ++ dones (map later s.rows.entries)) none)
stepped_view s t none (shut e next a) = inl (refl, ap (λ evs. evs ++ dones (map later s.rows.entries)) none)
stepped_view s t none (sends e next a) = inr (anyone, e, next, refl, ap (λ evs. (evs ++ dones (map later s.rows.entries)) ++ (Issue e.request.slot ∷ [])) none)

step_view : (s : State) → Reached state_meaning s → s.rows.events ≡ [] → Stepped s.rows.entries (state_meaning.stepped s).rows.entries (state_meaning.stepped s).rows.events
step_view s r none = stepped_view s (issue (elapsed s)) none (outcome s none (sound s r).few)

ample_at : (w : ℕ) (q : Request) (t : Option ℕ) (l : ℕ) (es : List Entry) → ((v : ℕ) → Timely greatest_gap anyone v es → Ample es) → Timely greatest_gap anyone w (record { request = q; until_done = t; left = l } ∷ es) → Ample (record { request = q; until_done = t; left = l } ∷ es)
ample_at w q None l es ih t = (omega (arith, t.0), ih (w + greatest_gap) t.1)
ample_at w q (Some n) l es ih t = (t.0, ih w t.1)

ample : (es : List Entry) (w : ℕ) → Timely greatest_gap anyone w es → Ample es
ample [] w t = tt
ample (e ∷ es) w t = ample_at w e.request e.until_done e.left es (ample es) t

state_laws : Lawful state_meaning
state_laws = record {
  start_held = λ s. refl;
  start_ready = λ s. refl;
  start_fixed = λ c s. refl;
  span_fixed = λ s. refl;
  span_least = λ s. lit≤ tt;
  places_fixed = λ s. refl;
  places_least = λ s. lit≤ tt;
  places_most = λ s. lit≤ tt;
  taken_held = λ s q r ok. map_append reading_of s.rows.entries (new_entry first_come_span q);
  taken_ready = λ s q r ok. refl;
  stepped_held = λ s r none. stepped_held s.rows.entries _ _ (sound s r).apart (step_view s r none);
  stepped_proper = λ s r none. stepped_proper s.rows.entries (state_meaning.stepped s).rows.entries _ (sound s r).apart (step_view s r none);
  stepped_punctual = λ s r none. stepped_punctual s.rows.entries _ _ (ample (map later s.rows.entries) ((sound s r).w - 1) (timely_passed s (sound s r))) (step_view s r none);
  collected_ready = λ s. refl;
  collected_held = λ s r. collected_held key reading_of (λ e. refl) (first s.rows.events) s.rows.entries (sound s r).apart;
}

pub first_come_laws : Lawful first_come_meaning
first_come_laws = lawful_coded state_codes state_of state_back state_meaning state_laws
