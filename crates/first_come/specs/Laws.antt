-- The laws of first-come over whole histories.
use Rattle.std.specs.Prelude.{◌≡◌, ℕ, ◌+◌, ◌≤◌, max, cond, List, [], ◌∷◌, ◌==◌}
use Rattle.interface.specs.Meaning.{Meaning, Call}
use Rattle.interface.specs.History.{Issuance, Serves, history, issuances}
use Rattle.interface.specs.declared.Request.{Request}
use Rattle.held.specs.Delays.{dones_before}
use Rattle.first_come.specs.Gaps.{gap, bank_gap}

-- the least steps from the issue of one request to that of a later one
abbrev pub gap_between : Request → Request → ℕ
gap_between a b = max (gap a.kind b.kind) (cond (a.bank == b.bank) (bank_gap a.kind) 0)

-- in step t the request keeps its gap to every earlier issue
abbrev pub Kept : List Issuance → Request → ℕ → Type 0
Kept [] q t = Unit {0}
Kept (i ∷ is) q t = (i.at + gap_between i.request q ≤ t) × Kept is q t

-- After a reset and any list of calls: requests are issued in the order of taking, each in the first step after its taking
-- in which it keeps its gap to every earlier issue.
abbrev pub IsFirstCome : {S : Type 0} → Meaning S → Type 0
IsFirstCome m = Serves m Kept

-- After a reset and any list of calls: each Done comes its delay after the issue, and those of one step in the order of issue.
abbrev pub DoneInTime : {S : Type 0} → Meaning S → Type 0
DoneInTime {S} m = (b : S) (cs : List Call) → (history m b cs).endings ≡ dones_before (history m b cs).steps (issuances [] (history m b cs).takings (history m b cs).issuings)
