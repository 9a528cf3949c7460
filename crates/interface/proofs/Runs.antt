-- What holds of every state that calls lead to.
use Rattle.std.proofs.Common.{◌≡◌, ℕ, Bool, true, false, cond, not, List, [], ◌∷◌, Some, None, Option, sym, refl, subst, arith}
use Rattle.interface.specs.declared.Request.{Request}
use Rattle.interface.specs.declared.Event.{Event}
use Rattle.interface.specs.Meaning.{Meaning, Call, after, run, Reached, accepted, take_refusal, step_refusal, is_empty, check}

pub step_ok : (es : List Event) → check (not (is_empty es)) 20 None ≡ None → es ≡ []
step_ok [] e = refl
step_ok (x ∷ es) e = let k : ◌≡◌ {A = ℕ} 0 1 = cc in absurd (omega arith)

module _ {S : Type 0} (r : Meaning S) (I : S → Type 0)
    (at_take : (s : S) (q : Request) → I s → take_refusal r s q ≡ None → I (r.taken s q))
    (at_step : (s : S) → I s → r.ready s ≡ [] → I (r.stepped s))
    (at-collect : (s : S) → I s → is_empty (r.ready s) ≡ false → I (r.collected s))
    (at_start : (s : S) → I (r.start s)) where
  take_keeps : (s : S) (q : Request) → I s → (v : Option ℕ) → take_refusal r s q ≡ v → I (accepted v (r.taken s q) s)
  take_keeps s q i None e = at_take s q i e
  take_keeps s q i (Some x) e = i

  step_keeps : (s : S) → I s → (v : Option ℕ) → step_refusal r s ≡ v → I (accepted v (r.stepped s) s)
  step_keeps s i None e = at_step s i (step_ok (r.ready s) e)
  step_keeps s i (Some x) e = i

  collect_keeps : (s : S) → I s → (b : Bool) → is_empty (r.ready s) ≡ b → I (cond b s (r.collected s))
  collect_keeps s i true e = i
  collect_keeps s i false e = at-collect s i e

  pub call_keeps : (c : Call) (s : S) → I s → I (after r c s)
  call_keeps Call.reset s i = at_start s
  call_keeps (Call.take q) s i = take_keeps s q i (take_refusal r s q) refl
  call_keeps Call.step s i = step_keeps s i (step_refusal r s) refl
  call_keeps Call.collect s i = collect_keeps s i (is_empty (r.ready s)) refl

  pub run_keeps : (cs : List Call) (s : S) → I s → I (run r cs s)
  run_keeps [] s i = i
  run_keeps (c ∷ cs) s i = run_keeps cs (after r c s) (call_keeps c s i)

  -- an invariant holds of each state that is reached
  pub reached_keeps : (s : S) → Reached r s → I s
  reached_keeps s h = subst I (sym h.2) (run_keeps h.1 (r.start h.0) (at_start h.0))
