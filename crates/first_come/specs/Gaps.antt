-- The least steps between issues, and the countdowns by which they are kept.
use Rattle.std.specs.Prelude.{ℕ, ◌-◌, ◌%◌, max, Bool, ◌&&◌, [], ◌∷◌, map, ◌==◌, slice_index, slice_set}
use Rattle.interface.specs.declared.Kind.{Kind}
use Rattle.interface.specs.declared.Kind.TheVariants.{Read, Write}
use Rattle.interface.specs.declared.Request.{Request}
use Rattle.first_come.specs.declared.gaps.Gaps.{Gaps}

-- From an issue to a later one, by their kinds. The write delay is 8.
-- Same kind: the greater of tRRD 5 and tCCD 4. Read to write: tCAS 11 + tBURST 4 + tRTRS 2 - 8. Write to read: 8 + tBURST 4 + tWTR 6.
abbrev pub gap : Kind → Kind → ℕ
gap Read Read = 5
gap Read Write = 9
gap Write Read = 18
gap Write Write = 5

-- From an issue to a later one on the same bank.
-- After a read: the greater of tRC 39 and tRCD 11 + tRTP 6 + tRP 11. After a write: tRCD 11 + 8 + tBURST 4 + tWR 12 + tRP 11.
abbrev pub bank_gap : Kind → ℕ
bank_gap Read = 39
bank_gap Write = 46

-- the greatest of all gaps
abbrev pub greatest_gap : ℕ
greatest_gap = 46

-- ---- countdowns: the steps until a read, a write, and each bank may be issued to

abbrev pub no_gaps : Gaps
no_gaps = record { reads = 0; writes = 0; banks = 0 ∷ (0 ∷ (0 ∷ (0 ∷ (0 ∷ (0 ∷ (0 ∷ (0 ∷ []))))))) }

-- a step passes
abbrev pub gaps_passed : Gaps → Gaps
gaps_passed g = record { reads = g.reads - 1; writes = g.writes - 1; banks = map (λ n. n - 1) g.banks }

abbrev pub wait_of : Gaps → Kind → ℕ
wait_of g Read = g.reads
wait_of g Write = g.writes

abbrev pub bank_wait : Gaps → ℕ → ℕ
bank_wait g b = slice_index g.banks (b % 8)

-- the request may be issued
abbrev pub allows : Gaps → Request → Bool
allows g q = wait_of g q.kind == 0 && bank_wait g q.bank == 0

-- the request is issued
abbrev pub with_issue : Request → Gaps → Gaps
with_issue q g = record {
  reads = max g.reads (gap q.kind Read);
  writes = max g.writes (gap q.kind Write);
  banks = slice_set g.banks (q.bank % 8) (max (bank_wait g q.bank) (bank_gap q.kind));
}
