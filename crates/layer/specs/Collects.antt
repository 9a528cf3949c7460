-- The collects by which a layer empties a controller below.
use Rattle.std.specs.Prelude.{List, [], ◌∷◌}
use Rattle.interface.specs.Meaning.{Call}
use Rattle.interface.specs.declared.Event.{Event}

-- one for each event that is ready, and one that finds nothing
abbrev pub collects : List Event → List Call
collects [] = Call.collect ∷ []
collects (e ∷ es) = Call.collect ∷ collects es
