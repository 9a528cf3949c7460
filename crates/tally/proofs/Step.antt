-- One line more.
use Rattle.std.proofs.Common.{◌≡◌, ℕ, ◌+◌, ◌<◌, ◌≤◌, Bool, true, false, List, length, get_or, take, sym, ap, ◌∙◌}
use Rattle.std.proofs.lemmas.List.Sums.{count_by_more_yes, count_by_more_no}
use Rattle.std.proofs.lemmas.List.{take_all}
use Rattle.model.specs.declared.Letter.{Letter}
use Rattle.model.specs.declared.Line.{Line}
use Rattle.tally.specs.Counts.{lines_with}

module _ (p : Letter → Bool) (ls : List Line) (i : ℕ) (d : Line) (n : ℕ) where
  pub one : i < length ls → n ≡ lines_with p (take i ls) → p (get_or ls i d).letter ≡ true → n + 1 ≡ lines_with p (take (i + 1) ls)
  one lt e t = ap (λ k. k + 1) e ∙ sym (count_by_more_yes (λ (l : Line). p l.letter) ls i d lt t)

  pub same : i < length ls → n ≡ lines_with p (take i ls) → p (get_or ls i d).letter ≡ false → n ≡ lines_with p (take (i + 1) ls)
  same lt e t = e ∙ sym (count_by_more_no (λ (l : Line). p l.letter) ls i d lt t)

pub all : (p : Letter → Bool) (ls : List Line) (i n : ℕ) → length ls ≤ i → n ≡ lines_with p (take i ls) → n ≡ lines_with p ls
all p ls i n le e = e ∙ ap (lines_with p) (take_all i ls le)
