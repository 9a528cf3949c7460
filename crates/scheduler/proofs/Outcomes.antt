-- What the setting calls and begin come to, from what the board says of them.
use Rattle.std.proofs.Common.{◌≡◌, ℕ, Bool, true, false, List, [], Some, None, Option, sym, refl, ap, ◌∙◌}
use Rattle.std.proofs.lemmas.Option.{cond_some}
use Rattle.interface.specs.Meaning.{Meaning, accepted, check}
use Rattle.interface.specs.declared.Kind.{Kind}
use Rattle.model.specs.Settings.{Settings}
use Rattle.model.specs.Calls.{Setting, sets, begins, submit, refused, good, setting, Running, settled, setting_refusal, outcome, unless}
use Rattle.patterns.proofs.Checks.{passes}
use Rattle.board.specs.Boards.{BoardView, settings_of, with_setting, set_with}
use Rattle.scheduler.specs.Views.{state_of}
use Rattle.scheduler.specs.Schedulers.{reply_of}

-- before begin
pub unbegun : (g : Bool) → None ≡ check g 1 None → g ≡ false
unbegun g e = (passes g 1 None (sym e)).0

module _ (m : Meaning (List ℕ)) (g : Bool) (c : Settings) (x : Running) where
  -- a setting or a begin after begin
  module _ (j : ℕ) (e : Some j ≡ check g 1 None) where
    late : (g ≡ true) × (1 ≡ j)
    late = cond_some g 1 j (sym e)

    pub late_after : (z : Setting) → state_of g c x ≡ (outcome m (state_of g c x) (sets z)).after
    unfolding outcome
    late_after z = ap (λ t. state_of t c x) late.0 ∙ ap (λ t. (outcome m (state_of t c x) (sets z)).after) (sym late.0)

    pub late_reply : (z : Setting) → refused j ≡ (outcome m (state_of g c x) (sets z)).reply
    unfolding outcome
    late_reply z = ap refused (sym late.1) ∙ ap (λ t. (outcome m (state_of t c x) (sets z)).reply) (sym late.0)

    pub again_after : state_of g c x ≡ (outcome m (state_of g c x) begins).after
    unfolding outcome
    again_after = ap (λ t. state_of t c x) late.0 ∙ ap (λ t. (outcome m (state_of t c x) begins).after) (sym late.0)

    pub again_reply : refused j ≡ (outcome m (state_of g c x) begins).reply
    unfolding outcome
    again_reply = ap refused (sym late.1) ∙ ap (λ t. (outcome m (state_of t c x) begins).reply) (sym late.0)

  -- a submit before begin
  pub early_after : (d b : ℕ) (k : Kind) (row : ℕ) → g ≡ false → state_of g c x ≡ (outcome m (state_of g c x) (submit d b k row)).after
  unfolding outcome
  early_after d b k row e = ap (λ t. state_of t c x) e ∙ ap (λ t. (outcome m (state_of t c x) (submit d b k row)).after) (sym e)

  pub early_reply : (d b : ℕ) (k : Kind) (row : ℕ) → g ≡ false → refused 1 ≡ (outcome m (state_of g c x) (submit d b k row)).reply
  unfolding outcome
  early_reply d b k row e = ap (λ t. (outcome m (state_of t c x) (submit d b k row)).reply) (sym e)

-- a setting before begin, over a controller in state s with so many places
module _ (m : Meaning (List ℕ)) (b v : BoardView) (x y : Running) (z : Setting) (places : ℕ) (o : Option ℕ)
    (p : places ≡ m.places x.controller) (answer : o ≡ setting_refusal places (settings_of b) z) (after : v ≡ set_with places z b)
    (same : y.controller ≡ x.controller) (settles : None ≡ setting_refusal places (settings_of b) z → settings_of (with_setting b z) ≡ settled (settings_of b) z) where
  pub set_reply : (g : Bool) → g ≡ false → reply_of o ≡ (outcome m (state_of g (settings_of b) x) (sets z)).reply
  unfolding outcome
  set_reply g e =
      go o
      ∙ ap (λ k. (unless k (setting (settings_of b) x.controller) (record { after = setting (settled (settings_of b) z) x.controller; reply = good; bus = [] })).reply) (answer ∙ ap (λ n. setting_refusal n (settings_of b) z) p)
      ∙ ap (λ t. (outcome m (state_of t (settings_of b) x) (sets z)).reply) (sym e)
    where
      go : (k : Option ℕ) → reply_of k ≡ (unless k (setting (settings_of b) x.controller) (record { after = setting (settled (settings_of b) z) x.controller; reply = good; bus = [] })).reply
      go None = refl
      go (Some n) = refl

  pub set_after : (g : Bool) → g ≡ false → state_of g (settings_of v) y ≡ (outcome m (state_of g (settings_of b) x) (sets z)).after
  unfolding outcome
  set_after g e =
      ap (λ t. state_of t (settings_of v) y) e
      ∙ ap (λ s. setting (settings_of v) s) same
      ∙ go o answer after
      ∙ ap (λ k. (unless k (setting (settings_of b) x.controller) (record { after = setting (settled (settings_of b) z) x.controller; reply = good; bus = [] })).after) (answer ∙ ap (λ n. setting_refusal n (settings_of b) z) p)
      ∙ ap (λ t. (outcome m (state_of t (settings_of b) x) (sets z)).after) (sym e)
    where
      go : (k : Option ℕ) → k ≡ setting_refusal places (settings_of b) z → v ≡ set_with places z b
          → setting (settings_of v) x.controller ≡ (unless k (setting (settings_of b) x.controller) (record { after = setting (settled (settings_of b) z) x.controller; reply = good; bus = [] })).after
      go None e is =
          ap (λ (w : BoardView). setting (settings_of w) x.controller) (is ∙ ap (λ j. accepted j (with_setting b z) b) (sym e))
          ∙ ap (λ (k : Settings). setting k x.controller) (settles e)
      go (Some n) e is = ap (λ (w : BoardView). setting (settings_of w) x.controller) (is ∙ ap (λ j. accepted j (with_setting b z) b) (sym e))
