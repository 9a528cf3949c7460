-- One call of a run, by cases.
use Rattle.std.proofs.Common.{◌≡◌, ℕ, Bool, true, false, cond, List, [], ◌∷◌, ◌++◌, Some, None, Option, sym, refl, ap, ◌∙◌}
use Rattle.std.proofs.lemmas.Bool.{true≢false}
use Rattle.interface.specs.Meaning.{Meaning}
use Rattle.model.specs.Calls.{Call, Outcome, Running, State, begins, outcome, refused, running, sets, setting, setting_refusal, started, submit, submit_outcome, submit_refusal, submitted, tick_outcome, tick_refusal, ticked, ticks, unless}
use Rattle.model.specs.Settings.{Settings, role_of}
use Rattle.run_laws.specs.Runs.{made_from, not_from, others, set_by, settings, trace}

pub by_refusal : (P : Outcome → Type 0) (o : Option ℕ) (m : State) (t : Outcome) → ((k : ℕ) → P (record { after = m; reply = refused k; bus = [] })) → P t → P (unless o m t)
by_refusal P None m t f g = g
by_refusal P (Some k) m t f g = f k

pub by_refusal_eq : (P : Outcome → Type 0) (o : Option ℕ) (m : State) (t : Outcome) → ((k : ℕ) → P (record { after = m; reply = refused k; bus = [] })) → (o ≡ None → P t) → P (unless o m t)
by_refusal_eq P None m t f g = g refl
by_refusal_eq P (Some k) m t f g = f k

abbrev pub settings_at : State → Settings
settings_at (setting c s) = c
settings_at (running c x) = c

module _ (r : Meaning (List ℕ)) where
  -- the settings that a run from here ends with
  abbrev pub made_by : State → List Call → Settings
  made_by m cs = made_from (settings_at m) (settings (trace r m cs))

  pub made_step : (m : State) (c : Call) (cs : List Call) → made_by m (c ∷ cs) ≡ made_by (outcome r m c).after cs
  unfolding trace outcome made_from
  made_step (setting c s) (sets z) cs = by_refusal (λ u. made_from c (set_by (sets z) u.reply ++ settings (trace r u.after cs)) ≡ made_by u.after cs) (setting_refusal (r.places s) c z) (setting c s) _ (λ k. refl) refl
  made_step (setting c s) begins cs = refl
  made_step (setting c s) (submit d b k row) cs = refl
  made_step (setting c s) (ticks l m) cs = refl
  made_step (running c x) (sets z) cs = refl
  made_step (running c x) begins cs = refl
  made_step (running c x) (submit d b k row) cs = by_refusal (λ u. made_from c (settings (trace r u.after cs)) ≡ made_by u.after cs) (submit_refusal c x d b k row) (running c x) _ (λ k. refl) refl
  made_step (running c x) (ticks l m) cs = by_refusal (λ u. made_from c (settings (trace r u.after cs)) ≡ made_by u.after cs) (tick_refusal x l m) (running c x) _ (λ k. refl) refl

  pub made_running : (c : Settings) (x : Running) (cs : List Call) → made_by (running c x) cs ≡ c
  unfolding trace outcome made_from
  made_running c x [] = refl
  made_running c x (sets s ∷ cs) = made_running c x cs
  made_running c x (begins ∷ cs) = made_running c x cs
  made_running c x (submit d b k row ∷ cs) = made_step (running c x) (submit d b k row) cs ∙ by_refusal (λ u. made_by u.after cs ≡ c) (submit_refusal c x d b k row) (running c x) _ (λ k. made_running c x cs) (made_running c (submitted r x d b k row (role_of c d)) cs)
  made_running c x (ticks l m ∷ cs) = made_step (running c x) (ticks l m) cs ∙ by_refusal (λ u. made_by u.after cs ≡ c) (tick_refusal x l m) (running c x) _ (λ k. made_running c x cs) (made_running c (ticked r c x) cs)

  -- a scheduler with all but its settings forgotten
  abbrev bare : State → State
  bare (setting c s) = setting c s
  bare (running c x) = running c (started c [])

  bare_same : (m : State) (c : Call) → bare (outcome r (bare m) c).after ≡ bare (outcome r m c).after
  unfolding outcome
  bare_same (setting c s) call = refl
  bare_same (running c x) (sets z) = refl
  bare_same (running c x) begins = refl
  bare_same (running c x) (submit d b k row) = by_refusal (λ u. bare u.after ≡ running c (started c [])) (submit_refusal c (started c []) d b k row) _ (submit_outcome r c (started c []) d b k row) (λ k. refl) refl
      ∙ sym (by_refusal (λ u. bare u.after ≡ running c (started c [])) (submit_refusal c x d b k row) (running c x) (submit_outcome r c x d b k row) (λ k. refl) refl)
  bare_same (running c x) (ticks l m) = by_refusal (λ u. bare u.after ≡ running c (started c [])) (tick_refusal (started c []) l m) _ (tick_outcome r c (started c [])) (λ k. refl) refl
      ∙ sym (by_refusal (λ u. bare u.after ≡ running c (started c [])) (tick_refusal x l m) (running c x) (tick_outcome r c x) (λ k. refl) refl)

  bare_hidden : (p : ℕ) (m : State) (c : Call) → not_from p c ≡ false → bare (outcome r m c).after ≡ bare m
  unfolding outcome
  bare_hidden p m (sets a) z = absurd (true≢false z)
  bare_hidden p m begins z = absurd (true≢false z)
  bare_hidden p (setting c s) (submit d b k row) z = refl
  bare_hidden p (running c x) (submit d b k row) z = by_refusal (λ u. bare u.after ≡ running c (started c [])) (submit_refusal c x d b k row) (running c x) (submit_outcome r c x d b k row) (λ k. refl) refl
  bare_hidden p m (ticks l n) z = absurd (true≢false z)

  settings_bare : (m : State) → settings_at (bare m) ≡ settings_at m
  settings_bare (setting c s) = refl
  settings_bare (running c x) = refl

  -- no submit changes the settings
  pub made_others : (p : ℕ) (cs : List Call) (m w : State) → bare m ≡ bare w → made_by m cs ≡ made_by w (others p cs)
  unfolding trace made_from
  made_others p [] m w e = sym (settings_bare m) ∙ ap settings_at e ∙ settings_bare w
  made_others p (c ∷ cs) m w e = go (made_others p cs) (not_from p c) refl
    where
      go : ((m w : State) → bare m ≡ bare w → made_by m cs ≡ made_by w (others p cs)) → (t : Bool) → not_from p c ≡ t → made_by m (c ∷ cs) ≡ made_by w (cond t (c ∷ others p cs) (others p cs))
      go ih true z = made_step m c cs
          ∙ ih (outcome r m c).after (outcome r w c).after (sym (bare_same m c) ∙ ap (λ y. bare (outcome r y c).after) e ∙ bare_same w c)
          ∙ sym (made_step w c (others p cs))
      go ih false z = made_step m c cs ∙ ih (outcome r m c).after w (bare_hidden p m c z ∙ e)
