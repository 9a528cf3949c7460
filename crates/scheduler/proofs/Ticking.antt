-- What a tick comes to, from what its steps leave.
use Rattle.std.proofs.Common.{◌≡◌, ℕ, min, Bool, true, false, List, length, Some, None, Option, sym, refl, ap, ◌∙◌}
use Rattle.interface.specs.Meaning.{Meaning}
use Rattle.model.specs.declared.Line.{Line}
use Rattle.model.specs.declared.Notice.{Notice}
use Rattle.model.specs.Settings.{Settings}
use Rattle.model.specs.Ticks.{lines, notices}
use Rattle.model.specs.Calls.{Reply, refused, wrote, running, Running, Outcome, ticks, tick_refusal, ticked, tick_outcome, unless, outcome}
use Rattle.run_laws.specs.Runs.{notices_in}
use Rattle.store.specs.Pages.{Page, page, wrote_all, filled}
use Rattle.store.proofs.Filling.{filled_page, filled_none}
use Rattle.scheduler.specs.Admits.{tick_checks}
use Rattle.scheduler.specs.Schedulers.{refusal, counts, told_of, lines_in}
use Rattle.scheduler.specs.Views.{state_of}

-- ---- refused

module _ (l n : ℕ) (y : Reply) (j : ℕ) (is : y ≡ refused j) where
  pub refused_told : refusal j ≡ told_of l n y
  refused_told = ap (told_of l n) (sym is)

  pub refused_lines : (ls : List Line) → ls ≡ filled (lines_in y) ls
  refused_lines ls = sym (filled_none ls) ∙ ap (λ (x : Reply). filled (lines_in x) ls) (sym is)

  pub refused_notices : (ns : List Notice) → ns ≡ filled (notices_in y) ns
  refused_notices ns = sym (filled_none ns) ∙ ap (λ (x : Reply). filled (notices_in x) ns) (sym is)

module _ (m : Meaning (List ℕ)) (g : Bool) (k : Settings) (x : Running) (l n : ℕ) where
  -- a tick as its checks say, before and after begin
  at : (o : Option ℕ) → o ≡ tick_checks g x.tick l n → outcome m (state_of g k x) (ticks l n) ≡ unless o (state_of g k x) (tick_outcome m k x)
  unfolding outcome tick_refusal
  at o f = go g refl ∙ ap (λ (p : Option ℕ). unless p (state_of g k x) (tick_outcome m k x)) (sym f)
    where
      go : (h : Bool) → g ≡ h → outcome m (state_of g k x) (ticks l n) ≡ unless (tick_checks g x.tick l n) (state_of g k x) (tick_outcome m k x)
      go true e = ap (λ h. outcome m (state_of h k x) (ticks l n)) e ∙ ap (λ h. unless (tick_checks h x.tick l n) (state_of h k x) (tick_outcome m k x)) (sym e)
      go false e = ap (λ h. outcome m (state_of h k x) (ticks l n)) e ∙ ap (λ h. unless (tick_checks h x.tick l n) (state_of h k x) (tick_outcome m k x)) (sym e)

  pub refused_reply : (j : ℕ) → Some j ≡ tick_checks g x.tick l n → (outcome m (state_of g k x) (ticks l n)).reply ≡ refused j
  refused_reply j f = ap (λ (z : Outcome). z.reply) (at (Some j) f)

  pub refused_after : (j : ℕ) → Some j ≡ tick_checks g x.tick l n → state_of g k x ≡ (outcome m (state_of g k x) (ticks l n)).after
  refused_after j f = sym (ap (λ (z : Outcome). z.after) (at (Some j) f))

  pub good_reply : None ≡ tick_checks g x.tick l n → (outcome m (state_of g k x) (ticks l n)).reply ≡ wrote (lines m k x.tick x.controller x.tables) (notices m k x.tick x.controller x.tables)
  good_reply f = ap (λ (z : Outcome). z.reply) (at None f)

  pub good_after : None ≡ tick_checks g x.tick l n → (outcome m (state_of g k x) (ticks l n)).after ≡ running k (ticked m k x)
  good_after f = ap (λ (z : Outcome). z.after) (at None f)

-- ---- accepted: the counts and buffers, where the reply is that lines ls and notices ns were written

module _ (y : Reply) (ls : List Line) (ns : List Notice) (is : y ≡ wrote ls ns) (lb lb' : List Line) (nb nb' : List Notice) (i j : ℕ)
    (lines-is : page lb' i ≡ wrote_all ls (page lb 0)) (notices-is : page nb' j ≡ wrote_all ns (page nb 0)) where
  pub counts_are : counts i j ≡ told_of (length lb) (length nb) y
  counts_are =
      ap (λ a. counts a j) (ap (λ (p : Page Line). p.count) (lines-is ∙ filled_page ls lb))
      ∙ ap (counts (min (length ls) (length lb))) (ap (λ (p : Page Notice). p.count) (notices-is ∙ filled_page ns nb))
      ∙ ap (told_of (length lb) (length nb)) (sym is)

  pub lines_are : lb' ≡ filled (lines_in y) lb
  lines_are = ap (λ (p : Page Line). p.items) (lines-is ∙ filled_page ls lb) ∙ ap (λ (x : Reply). filled (lines_in x) lb) (sym is)

  pub notices_are : nb' ≡ filled (notices_in y) nb
  notices_are = ap (λ (p : Page Notice). p.items) (notices-is ∙ filled_page ns nb) ∙ ap (λ (x : Reply). filled (notices_in x) nb) (sym is)
