-- What a holder holds, and what its calls do.
use Rattle.std.specs.Prelude.{ℕ, Bool, min, cond, not, List, [], ◌∷◌, ◌++◌, map, length, set, None, Option, nat_le, nat_lt}
use Rattle.interface.specs.Meaning.{any, first, rest, check, in_range}
use Rattle.interface.specs.Slots.{has_in, dropped, dropped_by, dones_of}
use Rattle.interface.specs.declared.Request.{Request}
use Rattle.interface.specs.declared.Event.{Event}

-- entries of type X in the order of taking, and the events that are ready in the order in which they are collected
pub record Holding (X : Type 0) : Type 0 where
  pub entries : List X
  pub events : List Event

abbrev pub nothing : {X : Type 0} → Holding X
nothing = record { entries = []; events = [] }

abbrev pub slot_by : {X : Type 0} → (X → Request) → X → ℕ
slot_by request x = (request x).slot

-- the refusal of an entry, where there are so many places: a holder has at most 32
abbrev pub admission : {X : Type 0} → (X → Request) → ℕ → Holding X → X → Option ℕ
admission request places h x =
    check (not (in_range (request x))) 17
    (check (any (has_in (slot_by request) (slot_by request x)) h.entries) 18
    (check (nat_le (min places 32) (length h.entries)) 19 None))

-- the entry is held last
abbrev pub admitted : {X : Type 0} → Holding X → X → Holding X
admitted h x = record { entries = h.entries ++ (x ∷ []); events = h.events }

-- an event is added while there is room for so many
abbrev pub added : ℕ → Event → List Event → List Event
added room e out = cond (nat_lt (length out) room) (out ++ (e ∷ [])) out

abbrev pub all_added : ℕ → List Event → List Event → List Event
all_added room [] out = out
all_added room (e ∷ es) out = all_added room es (added room e out)

abbrev pub with_event : {X : Type 0} → ℕ → Event → Holding X → Holding X
with_event room e h = record { entries = h.entries; events = added room e h.events }

-- the request of the slot is held no more
abbrev pub without_slot : {X : Type 0} → (X → Request) → ℕ → Holding X → Holding X
without_slot request n h = record { entries = dropped (slot_by request) n h.entries; events = h.events }

-- the first event is collected, and a Done ends the holding
abbrev pub collected : {X : Type 0} → (X → Request) → Holding X → Holding X
collected request h = record { entries = dropped_by (slot_by request) (first h.events) h.entries; events = rest h.events }

abbrev pub updated : {X : Type 0} → (X → X) → Holding X → Holding X
updated f h = record { entries = map f h.entries; events = h.events }

abbrev pub replaced : {X : Type 0} → ℕ → X → Holding X → Holding X
replaced i x h = record { entries = set h.entries i x; events = h.events }

-- a Done for each entry that passes a test, in the order of taking, while there is room
abbrev pub with_dones : {X : Type 0} → ℕ → (X → Request) → (X → Bool) → Holding X → Holding X
with_dones room request p h = record { entries = h.entries; events = all_added room (dones_of (slot_by request) p h.entries) h.events }
