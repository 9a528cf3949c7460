-- The oldest request with a bank and kind, by its place in the queue.
use Rattle.std.proofs.Common.{◌≡◌, ℕ, zero, suc, ◌+◌, ◌<◌, ◌≤◌, Bool, true, false, cond, not, List, [], ◌∷◌, length, get_or, Some, None, sym, refl, ap, ◌∙◌, arith}
use Rattle.std.specs.Prelude.{nat_lt}
use Rattle.std.specs.List.{remove, position_or_len}
use Rattle.std.proofs.lemmas.Bool.{ltb-true, ltb-false}
use Rattle.std.proofs.lemmas.Option.{cond_some, none-some}
use Rattle.interface.specs.declared.Kind.{Kind}
use Rattle.model.specs.declared.Waiting.{Waiting}
use Rattle.model.specs.Payloads.{fake, real}
use Rattle.model.specs.Ticks.{oldest, without, matches}
use Rattle.store.specs.Stores.{place_of}

module _ (bank : ℕ) (kind : Kind) where
  abbrev before : List Waiting → ℕ
  before rs = position_or_len (matches bank kind) rs

  before_is : (r : Waiting) (rs : List Waiting) (b : Bool) → matches bank kind r ≡ b → before (r ∷ rs) ≡ cond (not b) (1 + before rs) 0
  before_is r rs b e = ap (λ t. cond (not t) (1 + before rs) 0) e

  oldest_is : (r : Waiting) (rs : List Waiting) (b : Bool) → matches bank kind r ≡ b → oldest bank kind (r ∷ rs) ≡ cond b (real r.row r.serial) (oldest bank kind rs)
  unfolding oldest
  oldest_is r rs b e = ap (λ t. cond t (real r.row r.serial) (oldest bank kind rs)) e

  without_is : (r : Waiting) (rs : List Waiting) (b : Bool) → matches bank kind r ≡ b → without bank kind (r ∷ rs) ≡ cond b rs (r ∷ without bank kind rs)
  unfolding without
  without_is r rs b e = ap (λ t. cond t rs (r ∷ without bank kind rs)) e

  abbrev Found : List Waiting → ℕ → Type 0
  Found rs n = (d : Waiting) → (real (get_or rs n d).row (get_or rs n d).serial ≡ oldest bank kind rs) × (remove rs n ≡ without bank kind rs)

  abbrev Missing : List Waiting → Type 0
  Missing rs = (fake ≡ oldest bank kind rs) × (rs ≡ without bank kind rs)

  step : (r : Waiting) (rs : List Waiting) (b : Bool) → matches bank kind r ≡ b → ((m : ℕ) → m ≡ before rs → m < length rs → Found rs m) → (n : ℕ) → n ≡ before (r ∷ rs) → n < length (r ∷ rs) → Found (r ∷ rs) n
  step r rs true e ih zero at lt d = (sym (oldest_is r rs true e), sym (without_is r rs true e))
  step r rs true e ih (suc n) at lt d = absurd (omega (arith, before_is r rs true e))
  step r rs false e ih zero at lt d = absurd (omega (arith, before_is r rs false e))
  step r rs false e ih (suc n) at lt d =
      let h = ih n (omega (arith, before_is r rs false e)) (omega arith) d in
      (h.0 ∙ sym (oldest_is r rs false e), ap (λ l. r ∷ l) h.1 ∙ sym (without_is r rs false e))

  found_before : (rs : List Waiting) (n : ℕ) → n ≡ before rs → n < length rs → Found rs n
  found_before [] n at lt d = absurd (omega arith)
  found_before (r ∷ rs) n at lt d = step r rs (matches bank kind r) refl (found_before rs) n at lt d

  none_step : (r : Waiting) (rs : List Waiting) (b : Bool) → matches bank kind r ≡ b → (length rs ≤ before rs → Missing rs) → length (r ∷ rs) ≤ before (r ∷ rs) → Missing (r ∷ rs)
  none_step r rs true e ih le = absurd (omega (arith, before_is r rs true e))
  none_step r rs false e ih le =
      let h = ih (omega (arith, before_is r rs false e)) in
      (h.0 ∙ sym (oldest_is r rs false e), ap (λ l. r ∷ l) h.1 ∙ sym (without_is r rs false e))

  missing_before : (rs : List Waiting) → length rs ≤ before rs → Missing rs
  unfolding oldest without
  missing_before [] le = (refl, refl)
  missing_before (r ∷ rs) le = none_step r rs (matches bank kind r) refl (missing_before rs) le

  -- at the place where the search ends
  pub found : (rs : List Waiting) (n : ℕ) → place_of bank kind rs ≡ Some n → Found rs n
  found rs n is =
      let at = cond_some (nat_lt (before rs) (length rs)) (before rs) n is in
      found_before rs n (sym at.1) (omega (arith, ltb-true (before rs) (length rs) at.0, at.1))

  none_of : (rs : List Waiting) (b : Bool) → nat_lt (before rs) (length rs) ≡ b → cond b (Some (before rs)) None ≡ None → Missing rs
  none_of rs true e is = absurd (none-some (before rs) (sym is))
  none_of rs false e is = missing_before rs (ltb-false (before rs) (length rs) e)

  pub missing : (rs : List Waiting) → place_of bank kind rs ≡ None → Missing rs
  missing rs = none_of rs (nat_lt (before rs) (length rs)) refl
