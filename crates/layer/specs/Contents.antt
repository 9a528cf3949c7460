-- What a table holds, and what its calls do.
use Rattle.std.specs.Prelude.{ℕ, Bool, min, not, List, [], ◌∷◌, ◌++◌, map, length, None, Option, nat_le, refl}
use Rattle.interface.specs.Meaning.{any, first, rest, check, in_range}
use Rattle.interface.specs.Slots.{has_in, dropped, dropped_by, dones_of}
use Rattle.interface.specs.Codec.{Codec, event_codec, both, many, via}
use Rattle.interface.specs.declared.Request.{Request}
use Rattle.interface.specs.declared.Event.{Event}
use Rattle.holder.specs.Holding.{Holding, all_added}
use Rattle.layer.specs.declared.entry.Entry.{Entry}
use Rattle.layer.specs.Entries.{new_entry, slot_of_entry, updated, advanced, is_due, entry_codec}
use Rattle.layer.specs.Forwards.{forwarded}

pub record Contents : Type 0 where
  -- in the order of taking
  pub held : List Entry
  -- in the order in which they are collected
  pub events : List Event

abbrev pub contents_of : Holding Entry → Contents
contents_of h = record { held = h.entries; events = h.events }

abbrev pub empty : Contents
empty = record { held = []; events = [] }

-- the refusal of a request, where the layer has so many places: a table has at most 32
abbrev pub admission : ℕ → Contents → Request → Option ℕ
admission places t q =
    check (not (in_range q)) 17
    (check (any (has_in slot_of_entry q.slot) t.held) 18
    (check (nat_le (min places 32) (length t.held)) 19 None))

abbrev pub admitted : Contents → Request → Contents
admitted t q = record { held = t.held ++ (new_entry q ∷ []); events = t.events }

-- the table after the events es came from below; it has room for 64 events, an Issue and a Done of each held request
abbrev pub gathered : (Event → Bool) → List Event → Contents → Contents
gathered f es t = record { held = map (updated es) t.held; events = all_added 64 (forwarded f es) t.events }

-- the table after a step has passed for each held request
abbrev pub all_advanced : Contents → Contents
all_advanced t = record { held = map advanced t.held; events = t.events }

-- a Done for each request that is due, in the order of taking
abbrev pub dones_due : ℕ → List Entry → List Event
dones_due delay = dones_of slot_of_entry (is_due delay)

-- the table after the Dones that are due were made ready
abbrev pub released : ℕ → Contents → Contents
released delay t = record { held = t.held; events = all_added 64 (dones_due delay t.held) t.events }

abbrev pub without_slot : ℕ → Contents → Contents
without_slot n t = record { held = dropped slot_of_entry n t.held; events = t.events }

-- the table after its first event was collected
abbrev pub collected : Contents → Contents
collected t = record { held = dropped_by slot_of_entry (first t.events) t.held; events = rest t.events }

unfoldable pub contents_codec : Codec Contents
contents_codec =
    via {Y = Contents} (λ p. record { held = p.0; events = p.1 }) (λ t. (t.held, t.events)) (λ t. refl) (both (many entry_codec) (many event_codec))
