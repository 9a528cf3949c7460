-- Invariants of a state together with its history.
use Rattle.std.proofs.Common.{◌≡◌, ℕ, Bool, true, false, cond, List, [], ◌∷◌, Some, None, Option, refl, ap, ◌∙◌}
use Rattle.interface.specs.declared.Request.{Request}
use Rattle.interface.specs.Meaning.{Meaning, Call, after, accepted, take_refusal, step_refusal, is_empty}
use Rattle.interface.specs.Coded.{coded}
use Rattle.interface.specs.History.{History, blank, with_taking, with_step, noted, traced, history}
use Rattle.interface.proofs.Codes.{after_coded, take_coded, step_coded}
use Rattle.interface.proofs.Runs.{step_ok}

module _ {S : Type 0} (r : Meaning S) (I : S → History → Type 0)
    (at_start : (s : S) → I (r.start s) blank)
    (at_take : (s : S) (h : History) (q : Request) → I s h → take_refusal r s q ≡ None → I (r.taken s q) (with_taking h q))
    (at_step : (s : S) (h : History) → I s h → r.ready s ≡ [] → I (r.stepped s) (with_step h (r.ready (r.stepped s))))
    (at-collect : (s : S) (h : History) → I s h → is_empty (r.ready s) ≡ false → I (r.collected s) h) where
  take_traces : (s : S) (h : History) (q : Request) → I s h → (v : Option ℕ) → take_refusal r s q ≡ v → I (accepted v (r.taken s q) s) (accepted v (with_taking h q) h)
  take_traces s h q i None e = at_take s h q i e
  take_traces s h q i (Some x) e = i

  step_traces : (s : S) (h : History) → I s h → (v : Option ℕ) → step_refusal r s ≡ v → I (accepted v (r.stepped s) s) (accepted v (with_step h (r.ready (accepted v (r.stepped s) s))) h)
  step_traces s h i None e = at_step s h i (step_ok (r.ready s) e)
  step_traces s h i (Some x) e = i

  collect_traces : (s : S) (h : History) → I s h → (b : Bool) → is_empty (r.ready s) ≡ b → I (cond b s (r.collected s)) h
  collect_traces s h i true e = i
  collect_traces s h i false e = at-collect s h i e

  call_traces : (c : Call) (s : S) (h : History) → I s h → I (after r c s) (noted r c s h)
  call_traces Call.reset s h i = at_start s
  call_traces (Call.take q) s h i = take_traces s h q i (take_refusal r s q) refl
  call_traces Call.step s h i = step_traces s h i (step_refusal r s) refl
  call_traces Call.collect s h i = collect_traces s h i (is_empty (r.ready s)) refl

  run_traces : (cs : List Call) (s : S) (h : History) → I s h → (t : S) × I t (traced r cs s h)
  run_traces [] s h i = (s, i)
  run_traces (c ∷ cs) s h i = run_traces cs (after r c s) (noted r c s h) (call_traces c s h i)

  -- an invariant holds of some state and each history
  pub history_keeps : (b : S) (cs : List Call) → (t : S) × I t (history r b cs)
  history_keeps b cs = run_traces cs (r.start b) blank (at_start b)

module _ {S : Type 0} (enc : S → List ℕ) (dec : List ℕ → S) (ret : (x : S) → dec (enc x) ≡ x) (r : Meaning S) where
  noted_coded : (c : Call) (x : S) (h : History) → noted (coded enc dec r) c (enc x) h ≡ noted r c x h
  noted_coded Call.reset x h = refl
  noted_coded (Call.take q) x h = ap (λ v. accepted v (with_taking h q) h) (take_coded enc dec ret r q x)
  noted_coded Call.step x h =
      ap (λ v. accepted v (with_step h ((coded enc dec r).ready (after (coded enc dec r) Call.step (enc x)))) h) (step_coded enc dec ret r x)
      ∙ ap (λ y. accepted (step_refusal r x) (with_step h (r.ready (dec y))) h) (after_coded enc dec ret r Call.step x)
      ∙ ap (λ y. accepted (step_refusal r x) (with_step h (r.ready y)) h) (ret (after r Call.step x))
  noted_coded Call.collect x h = refl

  traced_coded : (cs : List Call) (x : S) (h : History) → traced (coded enc dec r) cs (enc x) h ≡ traced r cs x h
  traced_coded [] x h = refl
  traced_coded (c ∷ cs) x h =
      ap (λ y. traced (coded enc dec r) cs y (noted (coded enc dec r) c (enc x) h)) (after_coded enc dec ret r c x)
      ∙ ap (traced (coded enc dec r) cs (enc (after r c x))) (noted_coded c x h) ∙ traced_coded cs (after r c x) (noted r c x h)

  pub history_coded : (b : List ℕ) (cs : List Call) → history (coded enc dec r) b cs ≡ history r (dec b) cs
  history_coded b cs = traced_coded cs (r.start (dec b)) blank
