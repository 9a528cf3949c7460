-- The requests that a layer holds.
use Rattle.std.specs.Prelude.{ℕ, ◌+◌, ◌-◌, ◌^◌, min, Bool, false, ◌&&◌, ◌||◌, List, nat_le, refl}
use Rattle.interface.specs.Meaning.{Held, any}
use Rattle.interface.specs.Lawful.{issues, ends}
use Rattle.interface.specs.Codec.{Codec, number_codec, request_codec, bool_codec, both, via}
use Rattle.interface.specs.declared.Request.{Request}
use Rattle.interface.specs.declared.Event.{Event}
use Rattle.layer.specs.declared.entry.Entry.{Entry}

abbrev pub new_entry : Request → Entry
new_entry q = record { request = q; issued = false; done = false; age = 0 }

abbrev pub request_of : Entry → Request
request_of e = e.request

abbrev pub slot_of_entry : Entry → ℕ
slot_of_entry e = e.request.slot

abbrev pub done_below : Entry → Bool
done_below e = e.done

-- an entry after the events es came from below
abbrev pub updated : List Event → Entry → Entry
updated es e = record { request = e.request; issued = e.issued || any (issues e.request.slot) es; done = e.done || any (ends e.request.slot) es; age = e.age }

-- an entry after a step: the count of steps is kept in 64 bits, and stays at the greatest number
abbrev pub advanced : Entry → Entry
advanced e = record { request = e.request; issued = e.issued; done = e.done; age = min (e.age + 1) (2 ^ 64 - 1) }

-- done below, and taken at least so many steps ago
abbrev pub is_due : ℕ → Entry → Bool
is_due delay e = e.done && nat_le delay e.age

-- an entry as the request that a layer with a span holds: the steps left are the span less the steps since the taking
abbrev pub reading : ℕ → Entry → Held
reading span e = record { request = e.request; issued = e.issued; left = span - e.age }

unfoldable pub entry_codec : Codec Entry
entry_codec =
    via {Y = Entry} (λ p. record { request = p.0; issued = p.1.0; done = p.1.1.0; age = p.1.1.1 }) (λ e. (e.request, (e.issued, (e.done, e.age)))) (λ e. refl)
    (both request_codec (both bool_codec (both bool_codec number_codec)))
