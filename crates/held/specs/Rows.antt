-- What a table holds, and what its calls do to that.
use Rattle.std.specs.Prelude.{ℕ, Bool, cond, not, List, [], ◌∷◌, ◌++◌, map, length, Some, None, Option, nat_le, refl}
use Rattle.interface.specs.Meaning.{Meaning, first, rest, is_empty, check}
use Rattle.interface.specs.Slots.{dropped, dropped_by}
use Rattle.interface.specs.Codec.{Codec, event_codec, many, both, via}
use Rattle.interface.specs.declared.Request.{Request}
use Rattle.interface.specs.declared.Event.{Event}
use Rattle.interface.specs.declared.Event.TheVariants.{Issue}
use Rattle.holder.specs.Holding.{Holding}
use Rattle.held.specs.declared.entries.Entry.{Entry}
use Rattle.held.specs.Entries.{key, later, dones, reading_of, new_entry, next_of, issue_next, entry_codec}

-- the entries in the order of taking, and the events that are ready
pub record Rows : Type 0 where
  pub entries : List Entry
  pub events : List Event

abbrev pub rows_of : Holding Entry → Rows
rows_of h = record { entries = h.entries; events = h.events }

abbrev pub no_rows : Rows
no_rows = record { entries = []; events = [] }

-- a request is held last
abbrev pub with_request : ℕ → Request → Rows → Rows
with_request span q t = record { entries = t.entries ++ (new_entry span q ∷ []); events = t.events }

-- a step passes, and each entry whose delay has run out has its Done ready
abbrev pub passed : Rows → Rows
passed t = record { entries = map later t.entries; events = t.events ++ dones (map later t.entries) }

-- a step is refused while events are ready
abbrev pub busy : Rows → Option ℕ
busy t = check (not (is_empty t.events)) 20 None

-- the request of the slot is held no more
abbrev pub without_slot : ℕ → Rows → Rows
without_slot n t = record { entries = dropped key n t.entries; events = t.events }

-- the first event is handed out, and a Done ends the holding
abbrev pub first_out : Rows → Rows
first_out t = record { entries = dropped_by key (first t.events) t.entries; events = rest t.events }

-- A table as a controller that issues nothing of itself.
abbrev pub table_meaning : ℕ → Meaning Rows
table_meaning span = record {
  start = λ t. no_rows;
  places = λ t. 32;
  span = λ t. span;
  held = λ t. map reading_of t.entries;
  ready = λ t. t.events;
  taken = λ t q. with_request span q t;
  stepped = passed;
  collected = first_out;
}

-- the oldest entry of a class that waits is issued, and its Issue is the last event
abbrev pub issue_of : (Request → Bool) → Rows → Option Entry → Rows
issue_of k t None = t
issue_of k t (Some e) = record { entries = issue_next k t.entries; events = t.events ++ (Issue e.request.slot ∷ []) }

-- the same, if there is room for its event, as there is after a step: one event for each of 32 entries, and one more
abbrev pub issue_oldest : (Request → Bool) → Rows → Rows
issue_oldest k t = cond (nat_le (length t.events) 32) (issue_of k t (next_of k t.entries)) t

unfoldable pub rows_codec : Codec Rows
rows_codec =
    via {Y = Rows} (λ p. record { entries = p.0; events = p.1 }) (λ t. (t.entries, t.events)) (λ t. refl)
    (both (many entry_codec) (many event_codec))
