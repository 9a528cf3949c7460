-- Worked cases of whole runs: for each run, all lines and notices that it writes, in order.
use Rattle.std.specs.Prelude.{◌≡◌, ℕ, List, [], ◌∷◌, ◌++◌, map, replicate}
use Rattle.std.specs.List.{flat_map, AllByRecursion}
use Rattle.interface.specs.Meaning.{Meaning}
use Rattle.interface.specs.declared.Kind.TheVariants.{Read, Write}
use Rattle.interface.specs.declared.Kind.{Kind}
use Rattle.patterns.specs.declared.setting.EdgeSetting.{EdgeSetting}
use Rattle.patterns.specs.declared.setting.VertexSetting.{VertexSetting}
use Rattle.model.specs.Calls.{Setting, opens, lane, Call, sets, begins, submit, ticks}
use Rattle.model.specs.declared.Letter.TheVariants.{T, I, D}
use Rattle.model.specs.declared.Letter.{Letter}
use Rattle.model.specs.declared.Line.{Line}
use Rattle.model.specs.declared.Notice.{Notice}
use Rattle.run_laws.specs.Runs.{Entry, run, notices_in}
use Rattle.first_come.specs.State.{first_come_meaning}
use Rattle.turns.specs.State.{turns_meaning}
use Rattle.level.specs.Level.{beginning, level_codes, level_meaning}

-- ---- what a run writes

-- a line by its letter, tick and slot, or a notice by its tick, domain and serial
pub data Mark : Type 0 where
  line : Letter → ℕ → ℕ → Mark
  notice : ℕ → ℕ → ℕ → Mark

abbrev pub line_mark : Line → Mark
line_mark l = line l.letter l.tick l.slot

abbrev pub notice_mark : Notice → Mark
notice_mark n = notice n.tick n.domain n.serial

-- what one call writes: its lines on the bus, then its notices
abbrev pub entry_marks : Entry → List Mark
entry_marks e = map line_mark e.bus ++ map notice_mark (notices_in e.reply)

-- the kind of controller, the state that it was in, the calls to a new scheduler over it, and all that these must write
pub record Run : Type 0 where
  pub kind : Meaning (List ℕ)
  pub state : List ℕ
  pub calls : List Call
  pub expected : List Mark

-- all that the calls write, as the definitions give it
abbrev pub given : Run → List Mark
given r = flat_map entry_marks (run r.kind r.state r.calls)

-- ---- the parts of the runs

-- over first-come, and over turns: a new scheduler resets its controller, so the state that these were in does not count
abbrev first_come : List Call → List Mark → Run
first_come calls expected = record { kind = first_come_meaning; state = []; calls = calls; expected = expected }

abbrev turns : List Call → List Mark → Run
turns calls expected = record { kind = turns_meaning; state = []; calls = calls; expected = expected }

-- over a level with this L over first-come
abbrev level : ℕ → List Call → List Mark → Run
level delay calls expected = record { kind = level_meaning first_come_meaning; state = level_codes (beginning delay []); calls = calls; expected = expected }

-- n ticks, with buffers for 96 lines and 32 notices
abbrev pub ticks_for : ℕ → List Call
ticks_for n = replicate n (ticks 96 32)

-- one setting, the requests that are submitted before the first tick, and n ticks
abbrev pub begun : Setting → List Call → ℕ → List Call
begun s requests n = (sets s ∷ begins ∷ requests) ++ ticks_for n

-- an open domain with a share, its requests, and 200 ticks
abbrev open_run : ℕ → ℕ → List Call → List Call
open_run d share requests = begun (opens d share) requests 200

-- a request of a domain, for a bank, with row 1
abbrev request : ℕ → ℕ → Kind → Call
request d bank k = submit d bank k 1

abbrev read_at : ℕ → VertexSetting
read_at bank = record { bank = bank; kind = Read }

abbrev edge : ℕ → ℕ → ℕ → EdgeSetting
edge s t w = record { source = s; target = t; weight = w }

-- one read of bank 0, with rest 100
abbrev single : Setting
single = lane 0 (read_at 0 ∷ []) [] 100

-- five reads on banks 0 to 4, with rest 50
abbrev pub five : Setting
five =
    lane 0
    (read_at 0 ∷ read_at 1 ∷ read_at 2 ∷ read_at 3 ∷ read_at 4 ∷ [])
    (edge 0 1 10 ∷ edge 0 2 20 ∷ edge 1 3 5 ∷ edge 2 3 0 ∷ edge 3 4 7 ∷ [])
    50

-- ---- the cases, each of one run or two

-- a lane of one vertex, and no request: a fake leaves at 0, is issued at 1 and done at 27, and the next leaves at 127
abbrev pub fakes_alone : List Run
fakes_alone = first_come (begun single [] 128) (line T 0 0 ∷ line I 1 0 ∷ line D 27 0 ∷ line T 127 0 ∷ []) ∷ []

-- the same lane with one request: one that comes before tick 0 is answered at 27, one that comes after tick 0 at 154
abbrev pub one_request : List Run
one_request =
    first_come (begun single (request 0 0 Read ∷ []) 128)
    (line T 0 0 ∷ line I 1 0 ∷ line D 27 0 ∷ notice 27 0 0 ∷ line T 127 0 ∷ [])
    ∷ first_come (begun single [] 1 ++ request 0 0 Read ∷ ticks_for 154)
    (line T 0 0 ∷ line I 1 0 ∷ line D 27 0 ∷ line T 127 0 ∷ line I 128 0 ∷ line D 154 0 ∷ notice 154 0 0 ∷ [])
    ∷ []

-- a lane of five vertices with edges: they leave at 0, 37, 47, 74 and 108, and the next round begins at 185
abbrev pub five_vertices : List Run
five_vertices =
    first_come (begun five [] 186)
    (
    line T 0 0
    ∷ line I 1 0
    ∷ line D 27 0
    ∷ line T 37 1
    ∷ line I 38 1
    ∷ line T 47 2
    ∷ line I 48 2
    ∷ line D 64 1
    ∷ line D 74 2
    ∷ line T 74 3
    ∷ line I 75 3
    ∷ line D 101 3
    ∷ line T 108 4
    ∷ line I 109 4
    ∷ line D 135 4
    ∷ line T 185 0
    ∷ []
    )
    ∷ []

-- a write, then a read on another bank, which is issued 18 ticks later
abbrev pub read_after_write : List Run
read_after_write =
    first_come (open_run 0 2 (request 0 0 Write ∷ request 0 1 Read ∷ []))
    (line T 0 0 ∷ line T 0 1 ∷ line I 0 0 ∷ line I 18 1 ∷ line D 23 0 ∷ notice 23 0 0 ∷ line D 44 1 ∷ notice 44 0 1 ∷ [])
    ∷ []

-- a read, then a write on another bank, which is issued 9 ticks later
abbrev pub write_after_read : List Run
write_after_read =
    first_come (open_run 0 2 (request 0 0 Read ∷ request 0 1 Write ∷ []))
    (line T 0 0 ∷ line T 0 1 ∷ line I 0 0 ∷ line I 9 1 ∷ line D 26 0 ∷ notice 26 0 0 ∷ line D 32 1 ∷ notice 32 0 1 ∷ [])
    ∷ []

-- two reads on one bank are issued 39 ticks apart, and two writes 46 ticks apart
abbrev pub same_bank : List Run
same_bank =
    first_come (open_run 0 2 (request 0 0 Read ∷ request 0 0 Read ∷ []))
    (line T 0 0 ∷ line T 0 1 ∷ line I 0 0 ∷ line D 26 0 ∷ notice 26 0 0 ∷ line I 39 1 ∷ line D 65 1 ∷ notice 65 0 1 ∷ [])
    ∷ first_come (open_run 0 2 (request 0 0 Write ∷ request 0 0 Write ∷ []))
    (line T 0 0 ∷ line T 0 1 ∷ line I 0 0 ∷ line D 23 0 ∷ notice 23 0 0 ∷ line I 46 1 ∷ line D 69 1 ∷ notice 69 0 1 ∷ [])
    ∷ []

-- five reads on five banks are issued 5 ticks apart
abbrev pub five_banks : List Run
five_banks =
    first_come (open_run 0 5 (request 0 0 Read ∷ request 0 1 Read ∷ request 0 2 Read ∷ request 0 3 Read ∷ request 0 4 Read ∷ []))
    (
    line T 0 0
    ∷ line T 0 1
    ∷ line T 0 2
    ∷ line T 0 3
    ∷ line T 0 4
    ∷ line I 0 0
    ∷ line I 5 1
    ∷ line I 10 2
    ∷ line I 15 3
    ∷ line I 20 4
    ∷ line D 26 0
    ∷ notice 26 0 0
    ∷ line D 31 1
    ∷ notice 31 0 1
    ∷ line D 36 2
    ∷ notice 36 0 2
    ∷ line D 41 3
    ∷ notice 41 0 3
    ∷ line D 46 4
    ∷ notice 46 0 4
    ∷ []
    )
    ∷ []

-- by turns, a read of domain 1 is issued in the domain's turn at 46
abbrev pub own_turn : List Run
own_turn = turns (open_run 1 1 (request 1 0 Read ∷ [])) (line T 0 64 ∷ line I 46 64 ∷ line D 72 64 ∷ notice 72 1 0 ∷ []) ∷ []

-- under a level with L = 100, a read is issued at 0 and done at 99, in the 100th step
abbrev pub level_100 : List Run
level_100 = level 100 (open_run 0 1 (request 0 0 Read ∷ [])) (line T 0 0 ∷ line I 0 0 ∷ line D 99 0 ∷ notice 99 0 0 ∷ []) ∷ []

abbrev pub cases : List (List Run)
cases = fakes_alone ∷ one_request ∷ five_vertices ∷ read_after_write ∷ write_after_read ∷ same_bank ∷ five_banks ∷ own_turn ∷ level_100 ∷ []

-- Every run of a case writes what is expected, and nothing else.
abbrev pub Holds : List Run → Type 0
Holds runs = AllByRecursion (λ r. given r ≡ r.expected) runs

-- Every case holds.
abbrev pub CasesHold : Type 0
CasesHold = AllByRecursion Holds cases
