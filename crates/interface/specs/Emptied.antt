-- What it is to empty a controller of its events.
use Rattle.std.specs.Prelude.{List, [], ◌∷◌}
use Rattle.interface.specs.Meaning.{Meaning, Call, after}
use Rattle.interface.specs.declared.Event.{Event}

-- the state after a collect for each of the events
abbrev pub emptied : {S : Type 0} → Meaning S → List Event → S → S
emptied m [] s = s
emptied m (e ∷ es) s = emptied m es (after m Call.collect s)
