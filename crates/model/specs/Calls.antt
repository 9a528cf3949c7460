-- The calls: what each is refused for, what it answers and writes, and the state after it.
use Rattle.std.specs.Prelude.{ℕ, suc, ◌+◌, ◌*◌, ◌%◌, ◌^◌, Bool, false, not, ◌&&◌, ◌||◌, List, [], ◌∷◌, ◌++◌, map, length, Some, None, Option, ◌==◌, nat_le, nat_lt, slice_set}
use Rattle.interface.specs.Meaning as controller
use Rattle.interface.specs.Meaning.{Meaning, after, check}
use Rattle.interface.specs.declared.Kind.{Kind}
use Rattle.patterns.specs.Shape.{shape_checks, edge_of}
use Rattle.patterns.specs.declared.setting.EdgeSetting.{EdgeSetting}
use Rattle.patterns.specs.declared.setting.VertexSetting.{VertexSetting}
use Rattle.model.specs.Settings.{Role, unset, opened, protected, Settings, blank, Vertex, role_of, patterns_of, is_opened, is_unset, domain_of, vertices, all_slots}
use Rattle.model.specs.Ticks.{still, flying, Tables, put, is_still, alike, after_tick, controller_after, lines, notices}
use Rattle.model.specs.declared.Letter.TheVariants as letter
use Rattle.model.specs.declared.Line.{Line}
use Rattle.model.specs.declared.Notice.{Notice}
use Rattle.model.specs.Payloads.{real}
use Rattle.model.specs.Payloads.{Payload}

-- a setting: open with domain and share, lane with domain, vertices, edges and rest, first with a number
pub data Setting : Type 0 where
  opens : ℕ → ℕ → Setting
  lane : ℕ → List VertexSetting → List EdgeSetting → ℕ → Setting
  first : ℕ → Setting

-- submit with domain, bank, kind and row; tick with the lengths of the buffers for lines and for notices
pub data Call : Type 0 where
  sets : Setting → Call
  begins : Call
  submit : ℕ → ℕ → Kind → ℕ → Call
  ticks : ℕ → ℕ → Call

-- what a call answers: a refusal's number, or what was asked for; of a tick, what it wrote into the buffers
pub data Reply : Type 0 where
  refused : ℕ → Reply
  good : Reply
  serial : ℕ → Reply
  wrote : List Line → List Notice → Reply

-- ---- states

-- a scheduler that runs: the next tick's number, the controller's state, the tables, and the next serial by domain
pub record Running : Type 0 where
  pub tick : ℕ
  pub controller : List ℕ
  pub tables : Tables
  pub serial : ℕ → ℕ

-- A scheduler is being set, over a controller in some state, or runs.
pub data State : Type 0 where
  setting : Settings → List ℕ → State
  running : Settings → Running → State

-- a new scheduler resets its controller
abbrev pub new : Meaning (List ℕ) → List ℕ → State
new m b = setting blank (m.start b)

-- the number that the next tick has
abbrev pub next_tick : State → ℕ
next_tick (setting c s) = c.first
next_tick (running c x) = x.tick

-- tick numbers and serials go up to this
abbrev pub limit : ℕ
limit = 10 ^ 18

-- ---- settings

-- the settings after an accepted setting call
unfoldable pub settled : Settings → Setting → Settings
settled c (opens d n) = record { first = c.first; roles = slice_set c.roles d (opened n) }
settled c (lane d vs es rest) = record { first = c.first; roles = slice_set c.roles d (protected (patterns_of (role_of c d) ++ (record { spots = vs; edges = map edge_of es; rest = rest } ∷ []))) }
settled c (first n) = record { first = n; roles = c.roles }

-- shares and vertices together would be more than the places
unfoldable pub too_many : ℕ → Settings → Bool
too_many places c = nat_lt places (length (all_slots c))

-- why a setting call is refused, in the order of the checks, over a controller with so many places
unfoldable pub setting_refusal : ℕ → Settings → Setting → Option ℕ
setting_refusal places c (opens d n) =
    check (nat_lt 7 d || not (is_unset (role_of c d))) 2
    (check (nat_lt n 1 || nat_lt 16 n) 3
    (check (too_many places (settled c (opens d n))) 7 None))
setting_refusal places c (lane d vs es rest) =
    check (nat_lt 7 d || is_opened (role_of c d)) 2
    (check (nat_lt 7 (length (patterns_of (role_of c d)))) 4
    (shape_checks vs es rest
    (check (too_many places (settled c (lane d vs es rest))) 7 None)))
setting_refusal places c (first n) = check (nat_lt limit n) 16 None

-- ---- begin

-- every slot is still, every lane starts at the first tick, nothing waits, and serials start at 0
unfoldable pub started : Settings → List ℕ → Running
started c s = record { tick = c.first; controller = s; tables = record { stage = λ slot. still; start = λ ℓ. c.first; queue = λ d. [] }; serial = λ d. 0 }

-- ---- submit

-- whether a vertex of domain d has this bank and kind
abbrev pub serves : ℕ → ℕ → Kind → List Vertex → Bool
serves d b k [] = false
serves d b k (v ∷ vs) = (domain_of v.slot == d && alike v.bank v.kind b k) || serves d b k vs

-- the slots of an open domain are used in turn: the slot of the request with serial i
abbrev pub slot_in_turn : ℕ → ℕ → ℕ → ℕ
slot_in_turn d share i = d * 64 + i % share

-- why an open domain, or a protected one, refuses a request
unfoldable pub role_refusal : Settings → Running → ℕ → ℕ → Kind → Role → Option ℕ
role_refusal c x d b k unset = None
role_refusal c x d b k (opened share) = check (not (is_still (x.tables.stage (slot_in_turn d share (x.serial d))))) 14 None
role_refusal c x d b k (protected ps) =
    check (not (serves d b k (vertices c))) 12
    (check (nat_lt 15 (length (x.tables.queue d))) 13 None)

-- why a submit is refused, in the order of the checks
unfoldable pub submit_refusal : Settings → Running → ℕ → ℕ → Kind → ℕ → Option ℕ
submit_refusal c x d b k row =
    check (is_unset (role_of c d)) 8
    (check (nat_lt 7 b) 9
    (check (nat_lt row 1 || nat_lt 65535 row) 10
    (check (nat_le limit (x.serial d)) 11
    (role_refusal c x d b k (role_of c d)))))

-- a protected request joins its domain's queue
unfoldable pub enqueued : Running → ℕ → ℕ → Kind → ℕ → Running
enqueued x d b k row = record {
  tick = x.tick;
  controller = x.controller;
  tables = record { stage = x.tables.stage; start = x.tables.start; queue = put x.tables.queue d (x.tables.queue d ++ (record { bank = b; kind = k; row = row; serial = x.serial d } ∷ [])) };
  serial = put x.serial d (suc (x.serial d));
}

-- an open request is taken by the controller in the call
unfoldable pub taken_open : Meaning (List ℕ) → Running → ℕ → ℕ → Kind → Payload → ℕ → Running
taken_open m x d b k p slot = record {
  tick = x.tick;
  controller = after m (controller.Call.take (record { slot = slot; domain = d; bank = b; kind = k })) x.controller;
  tables = record { stage = put x.tables.stage slot (flying b k p); start = x.tables.start; queue = x.tables.queue };
  serial = put x.serial d (suc (x.serial d));
}

-- the state after an accepted submit, by the domain's role
unfoldable pub submitted : Meaning (List ℕ) → Running → ℕ → ℕ → Kind → ℕ → Role → Running
submitted m x d b k row unset = x
submitted m x d b k row (opened share) = taken_open m x d b k (real row (x.serial d)) (slot_in_turn d share (x.serial d))
submitted m x d b k row (protected ps) = enqueued x d b k row

-- the T line of an open request stands in the bus record at its place, with the next tick's number
unfoldable pub submit_lines : Running → ℕ → ℕ → Kind → ℕ → Role → List Line
submit_lines x d b k row unset = []
submit_lines x d b k row (opened share) = record { letter = letter.T; tick = x.tick; domain = d; slot = slot_in_turn d share (x.serial d); bank = b; kind = k; row = row } ∷ []
submit_lines x d b k row (protected ps) = []

-- ---- tick

-- why a tick is refused, with buffers for l lines and n notices
unfoldable pub tick_refusal : Running → ℕ → ℕ → Option ℕ
tick_refusal x l n = check (nat_lt l 96 || nat_lt n 32) 15 (check (nat_le limit x.tick) 16 None)

-- the state after an accepted tick
unfoldable pub ticked : Meaning (List ℕ) → Settings → Running → Running
ticked m c x = record {
  tick = suc x.tick;
  controller = controller_after m c x.tick x.controller x.tables;
  tables = after_tick m c x.tick x.controller x.tables;
  serial = x.serial;
}

-- ---- every call

-- what one call does: the state after it, its reply, and its lines on the bus
pub record Outcome : Type 0 where
  pub after : State
  pub reply : Reply
  pub bus : List Line

-- a refused call changes nothing
abbrev pub unless : Option ℕ → State → Outcome → Outcome
unless None w t = t
unless (Some k) w t = record { after = w; reply = refused k; bus = [] }

abbrev pub submit_outcome : Meaning (List ℕ) → Settings → Running → ℕ → ℕ → Kind → ℕ → Outcome
submit_outcome m c x d b k row = record { after = running c (submitted m x d b k row (role_of c d)); reply = serial (x.serial d); bus = submit_lines x d b k row (role_of c d) }

abbrev pub tick_outcome : Meaning (List ℕ) → Settings → Running → Outcome
tick_outcome m c x = record { after = running c (ticked m c x); reply = wrote (lines m c x.tick x.controller x.tables) (notices m c x.tick x.controller x.tables); bus = lines m c x.tick x.controller x.tables }

-- A call to a scheduler in either phase, over a controller of this kind. In the wrong phase it is refused with 1.
unfoldable pub outcome : Meaning (List ℕ) → State → Call → Outcome
outcome m (setting c s) (sets z) = unless (setting_refusal (m.places s) c z) (setting c s) (record { after = setting (settled c z) s; reply = good; bus = [] })
outcome m (setting c s) begins = record { after = running c (started c s); reply = good; bus = [] }
outcome m (setting c s) (submit d b k row) = unless (Some 1) (setting c s) (record { after = setting c s; reply = good; bus = [] })
outcome m (setting c s) (ticks l n) = unless (Some 1) (setting c s) (record { after = setting c s; reply = good; bus = [] })
outcome m (running c x) (sets z) = unless (Some 1) (running c x) (record { after = running c x; reply = good; bus = [] })
outcome m (running c x) begins = unless (Some 1) (running c x) (record { after = running c x; reply = good; bus = [] })
outcome m (running c x) (submit d b k row) = unless (submit_refusal c x d b k row) (running c x) (submit_outcome m c x d b k row)
outcome m (running c x) (ticks l n) = unless (tick_refusal x l n) (running c x) (tick_outcome m c x)
