-- The laws of a controller over any type of states hold over the lists that stand for them.
use Rattle.std.proofs.Common.{◌≡◌, ℕ, Bool, true, false, cond, List, [], ◌∷◌, Some, None, Option, sym, refl, ap, ◌∙◌}
use Rattle.interface.specs.Meaning.{Meaning, Call, after, run, Reached, accepted, take_refusal, step_refusal, is_empty, first}
use Rattle.interface.specs.Lawful.{Lawful}
use Rattle.interface.specs.Coded.{coded}
use Rattle.interface.specs.declared.Request.{Request}
use Rattle.interface.specs.declared.Event.{Event}

pub accepted_ap : {S U : Type 0} (f : S → U) (v : Option ℕ) (a b : S) → accepted v (f a) (f b) ≡ f (accepted v a b)
accepted_ap f None a b = refl
accepted_ap f (Some x) a b = refl

pub cond_ap : {S U : Type 0} (f : S → U) (v : Bool) (a b : S) → cond v (f a) (f b) ≡ f (cond v a b)
cond_ap f true a b = refl
cond_ap f false a b = refl

module _ {S : Type 0} (enc : S → List ℕ) (dec : List ℕ → S) (ret : (x : S) → dec (enc x) ≡ x) (r : Meaning S) where
  pub after_coded : (c : Call) (x : S) → after (coded enc dec r) c (enc x) ≡ enc (after r c x)
  after_coded Call.reset x = ap (λ y. enc (r.start y)) (ret x)
  after_coded (Call.take q) x =
      ap (λ y. accepted (take_refusal r y q) (enc (r.taken y q)) (enc x)) (ret x) ∙ accepted_ap enc (take_refusal r x q) (r.taken x q) x
  after_coded Call.step x =
      ap (λ y. accepted (step_refusal r y) (enc (r.stepped y)) (enc x)) (ret x) ∙ accepted_ap enc (step_refusal r x) (r.stepped x) x
  after_coded Call.collect x =
      ap (λ y. cond (is_empty (r.ready y)) (enc x) (enc (r.collected y))) (ret x) ∙ cond_ap enc (is_empty (r.ready x)) x (r.collected x)

  pub run_coded : (cs : List Call) (x : S) → run (coded enc dec r) cs (enc x) ≡ enc (run r cs x)
  run_coded [] x = refl
  run_coded (c ∷ cs) x = ap (run (coded enc dec r) cs) (after_coded c x) ∙ run_coded cs (after r c x)

  pub reached_coded : (s : List ℕ) → Reached (coded enc dec r) s → Reached r (dec s)
  reached_coded s h =
      (dec h.0, h.1, ap dec (h.2 ∙ run_coded h.1 (r.start (dec h.0))) ∙ ret (run r h.1 (r.start (dec h.0))))

  fixed_coded : Lawful r → (c : Call) (s : List ℕ) → enc (r.start (dec (after (coded enc dec r) c s))) ≡ enc (r.start (dec s))
  fixed_coded l Call.reset s = ap (λ y. enc (r.start y)) (ret (r.start (dec s))) ∙ ap enc (l.start_fixed Call.reset (dec s))
  fixed_coded l (Call.take q) s = go (take_refusal r (dec s) q) refl
    where
      go : (v : Option ℕ) → take_refusal r (dec s) q ≡ v → enc (r.start (dec (accepted v (enc (r.taken (dec s) q)) s))) ≡ enc (r.start (dec s))
      go None e = ap (λ y. enc (r.start y)) (ret (r.taken (dec s) q)) ∙ ap enc (ap (λ v. r.start (accepted v (r.taken (dec s) q) (dec s))) (sym e) ∙ l.start_fixed (Call.take q) (dec s))
      go (Some x) e = refl
  fixed_coded l Call.step s = go (step_refusal r (dec s)) refl
    where
      go : (v : Option ℕ) → step_refusal r (dec s) ≡ v → enc (r.start (dec (accepted v (enc (r.stepped (dec s))) s))) ≡ enc (r.start (dec s))
      go None e = ap (λ y. enc (r.start y)) (ret (r.stepped (dec s))) ∙ ap enc (ap (λ v. r.start (accepted v (r.stepped (dec s)) (dec s))) (sym e) ∙ l.start_fixed Call.step (dec s))
      go (Some x) e = refl
  fixed_coded l Call.collect s = go (is_empty (r.ready (dec s))) refl
    where
      go : (v : Bool) → is_empty (r.ready (dec s)) ≡ v → enc (r.start (dec (cond v s (enc (r.collected (dec s)))))) ≡ enc (r.start (dec s))
      go true e = refl
      go false e = ap (λ y. enc (r.start y)) (ret (r.collected (dec s))) ∙ ap enc (ap (λ v. r.start (cond v (dec s) (r.collected (dec s)))) (sym e) ∙ l.start_fixed Call.collect (dec s))

  pub lawful_coded : Lawful r → Lawful (coded enc dec r)
  lawful_coded l = record {
    start_held = λ s. simp ret (l.start_held (dec s));
    start_ready = λ s. simp ret (l.start_ready (dec s));
    start_fixed = fixed_coded l;
    span_fixed = λ s. simp ret (l.span_fixed (dec s));
    places_fixed = λ s. simp ret (l.places_fixed (dec s));
    span_least = λ s. l.span_least (dec s);
    places_least = λ s. l.places_least (dec s);
    places_most = λ s. l.places_most (dec s);
    taken_held = λ s q h ok. simp ret (l.taken_held (dec s) q (reached_coded s h) ok);
    taken_ready = λ s q h ok. simp ret (l.taken_ready (dec s) q (reached_coded s h) ok);
    stepped_held = λ s h ok. simp ret (l.stepped_held (dec s) (reached_coded s h) ok);
    stepped_proper = λ s h ok. simp ret (l.stepped_proper (dec s) (reached_coded s h) ok);
    stepped_punctual = λ s h ok. simp ret (l.stepped_punctual (dec s) (reached_coded s h) ok);
    collected_ready = λ s. simp ret (l.collected_ready (dec s));
    collected_held = λ s h. simp ret (l.collected_held (dec s) (reached_coded s h));
  }

  pub take_coded : (q : Request) (x : S) → take_refusal (coded enc dec r) (enc x) q ≡ take_refusal r x q
  take_coded q x = ap (λ y. take_refusal r y q) (ret x)

  pub step_coded : (x : S) → step_refusal (coded enc dec r) (enc x) ≡ step_refusal r x
  step_coded x = ap (step_refusal r) (ret x)

  -- for an implementation whose state is enc of a model
  pub after_is : (c : Call) (x y : S) → y ≡ after r c x → enc y ≡ after (coded enc dec r) c (enc x)
  after_is c x y e = ap enc e ∙ sym (after_coded c x)

  pub take_is : (q : Request) (x : S) (v : Option ℕ) → take_refusal r x q ≡ v → v ≡ take_refusal (coded enc dec r) (enc x) q
  take_is q x v e = sym (take_coded q x ∙ e)

  pub step_is : (x : S) (v : Option ℕ) → step_refusal r x ≡ v → v ≡ step_refusal (coded enc dec r) (enc x)
  step_is x v e = sym (step_coded x ∙ e)

  pub collect_is : (x : S) (v : Option Event) → first (r.ready x) ≡ v → v ≡ first ((coded enc dec r).ready (enc x))
  collect_is x v e = sym (ap (λ y. first (r.ready y)) (ret x) ∙ e)
