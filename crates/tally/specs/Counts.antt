-- What a tally counts, and what its report says.
use Rattle.std.specs.Prelude.{◌≡◌, ℕ, ◌+◌, Bool, true, false, cond, ◌&&◌, List, [], ◌∷◌, ◌++◌, Some, None, Ok, Err, codes, decimal, count_by, Option, Result, nat_le}
use Rattle.model.specs.declared.Letter.{Letter}
use Rattle.model.specs.declared.Letter.TheVariants.{T, I, D}
use Rattle.model.specs.declared.Line.{Line}
use Rattle.tally.specs.declared.Refusal.{Refusal}
use Rattle.tally.specs.declared.Refusal.TheVariants.{CountLimit}
use Rattle.tally.specs.declared.Counts.{Counts}
use Rattle.tally.specs.declared.Tally.{Tally}
use Rattle.tally.specs.declared.Report.{Report}

abbrev pub is_taken : Letter → Bool
is_taken T = true
is_taken I = false
is_taken D = false

abbrev pub is_issued : Letter → Bool
is_issued T = false
is_issued I = true
is_issued D = false

abbrev pub is_done : Letter → Bool
is_done T = false
is_done I = false
is_done D = true

-- how many lines have a letter that passes
abbrev pub lines_with : (Letter → Bool) → List Line → ℕ
lines_with p ls = count_by (λ (l : Line). p l.letter) ls

abbrev pub counted : List Line → Counts
counted ls = record { taken = lines_with is_taken ls; issued = lines_with is_issued ls; done = lines_with is_done ls }

-- 10^18
abbrev pub limit : ℕ
limit = 1000000000000000000

abbrev pub number : Refusal → ℕ
number CountLimit = 21

abbrev pub sum_of : ℕ → ℕ → Result ℕ Refusal
sum_of a b = cond (nat_le (a + b) limit) (Ok (a + b)) (Err CountLimit)

abbrev pub added : Counts → Counts → Counts
added a b = record { taken = a.taken + b.taken; issued = a.issued + b.issued; done = a.done + b.done }

abbrev pub within_limit : Counts → Bool
within_limit c = nat_le c.taken limit && (nat_le c.issued limit && nat_le c.done limit)

abbrev pub no_lines : Counts
no_lines = record { taken = 0; issued = 0; done = 0 }

abbrev pub none : Tally
none = record { counts = no_lines }

-- whether a feed is accepted
abbrev pub accepts : Tally → List Line → Bool
accepts t ls = within_limit (added t.counts (counted ls))

abbrev pub refused : Result Unit Refusal → Option ℕ
refused (Ok u) = None
refused (Err e) = Some (number e)

abbrev pub feed_refusal : Tally → List Line → Option ℕ
feed_refusal t ls = cond (accepts t ls) None (Some 21)

-- a refused feed counts nothing
abbrev pub fed : Tally → List Line → Tally
fed t ls = cond (accepts t ls) (record { counts = added t.counts (counted ls) }) t

abbrev pub closed : Tally → Report
closed t = record { counts = t.counts }

abbrev pub report_text : Report → List ℕ
report_text r =
    codes "(report (T " ++ (decimal r.counts.taken ++ (codes ") (I " ++ (decimal r.counts.issued ++
    (codes ") (D " ++ (decimal r.counts.done ++ codes "))")))))

-- a tally after feeds, one after another
abbrev pub after_feeds : Tally → List (List Line) → Tally
after_feeds t [] = t
after_feeds t (ls ∷ feeds) = after_feeds (fed t ls) feeds

-- the lines of those feeds that are accepted
abbrev pub accepted_lines : Tally → List (List Line) → List Line
accepted_lines t [] = []
accepted_lines t (ls ∷ feeds) = cond (accepts t ls) ls [] ++ accepted_lines (fed t ls) feeds

-- after any feeds, each count is the number of its lines in the accepted feeds
abbrev pub CountsLines : Type 0
CountsLines = (feeds : List (List Line)) → (after_feeds none feeds).counts ≡ counted (accepted_lines none feeds)
