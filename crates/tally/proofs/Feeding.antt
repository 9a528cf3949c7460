-- After any feeds, the counts are those of the accepted lines.
use Rattle.std.proofs.Common.{◌≡◌, ℕ, ◌+◌, Bool, true, false, cond, List, [], ◌∷◌, ◌++◌, refl, ◌∙◌, arith}
use Rattle.std.proofs.lemmas.List.Sums.{sum_by-append}
use Rattle.model.specs.declared.Letter.{Letter}
use Rattle.model.specs.declared.Line.{Line}
use Rattle.tally.specs.declared.Counts.{Counts}
use Rattle.tally.specs.declared.Tally.{Tally}
use Rattle.tally.specs.Counts.{lines_with, is_taken, is_issued, is_done, counted, added, no_lines, none, accepts, fed, after_feeds, accepted_lines, CountsLines}

counts : (a b c x y z : ℕ) → a ≡ x → b ≡ y → c ≡ z → ◌≡◌ {A = Counts} (record { taken = a; issued = b; done = c }) (record { taken = x; issued = y; done = z })
counts a b c x y z p q r = cc

lines_append : (p : Letter → Bool) (xs ys : List Line) → lines_with p (xs ++ ys) ≡ lines_with p xs + lines_with p ys
lines_append p xs ys = sum_by-append (λ (l : Line). cond (p l.letter) 1 0) xs ys

-- one feed, and the lines of those behind it
one_feed : (b : Bool) (t : Tally) (ls rest : List Line) → added (cond b (record { counts = added t.counts (counted ls) }) t).counts (counted rest) ≡ added t.counts (counted (cond b ls [] ++ rest))
one_feed true t ls rest =
    counts (t.counts.taken + lines_with is_taken ls + lines_with is_taken rest) (t.counts.issued + lines_with is_issued ls + lines_with is_issued rest) (t.counts.done + lines_with is_done ls + lines_with is_done rest)
    (t.counts.taken + lines_with is_taken (ls ++ rest)) (t.counts.issued + lines_with is_issued (ls ++ rest)) (t.counts.done + lines_with is_done (ls ++ rest))
    (omega (arith, lines_append is_taken ls rest)) (omega (arith, lines_append is_issued ls rest)) (omega (arith, lines_append is_done ls rest))
one_feed false t ls rest = refl

from : (t : Tally) (feeds : List (List Line)) → (after_feeds t feeds).counts ≡ added t.counts (counted (accepted_lines t feeds))
from t [] = counts t.counts.taken t.counts.issued t.counts.done (t.counts.taken + 0) (t.counts.issued + 0) (t.counts.done + 0) (omega arith) (omega arith) (omega arith)
from t (ls ∷ feeds) = from (fed t ls) feeds ∙ one_feed (accepts t ls) t ls (accepted_lines (fed t ls) feeds)

from_none : (c : Counts) → added no_lines c ≡ c
from_none c = counts (0 + c.taken) (0 + c.issued) (0 + c.done) c.taken c.issued c.done (omega arith) (omega arith) (omega arith)

pub counts_lines : CountsLines
counts_lines feeds = from none feeds ∙ from_none (counted (accepted_lines none feeds))
