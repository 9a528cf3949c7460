-- Which events from below a layer hands on in the step in which they come.
use Rattle.std.specs.Prelude.{Bool, true, false, List, filter}
use Rattle.interface.specs.declared.Event.{Event}
use Rattle.interface.specs.declared.Event.TheVariants.{Issue, Done}
use Rattle.layer.specs.declared.forward.Forward.{Forward}
use Rattle.layer.specs.declared.forward.Forward.TheVariants.{Issues, All}

abbrev pub is_issue : Event → Bool
is_issue (Issue n) = true
is_issue (Done n) = false

abbrev pub everything : Event → Bool
everything e = true

abbrev pub forwards : Forward → Event → Bool
forwards Issues = is_issue
forwards All = everything

-- those of the events that are handed on
abbrev pub forwarded : (Event → Bool) → List Event → List Event
forwarded = filter
