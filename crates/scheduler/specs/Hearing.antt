-- What the events of a step do to the tables, and what they write.
use Rattle.std.specs.Prelude.{ℕ, List, [], ◌∷◌, ◌++◌}
use Rattle.interface.specs.Meaning.{Meaning, Call, after}
use Rattle.interface.specs.declared.Event.{Event}
use Rattle.interface.specs.declared.Event.TheVariants.{Issue, Done}
use Rattle.interface.specs.declared.Request.{Request}
use Rattle.patterns.specs.declared.tick.Tick.{Tick}
use Rattle.model.specs.declared.Letter.TheVariants as letter
use Rattle.model.specs.declared.Line.{Line}
use Rattle.model.specs.declared.Notice.{Notice}
use Rattle.board.specs.Boards.{BoardView}
use Rattle.board.specs.Flights.{flight_at, heard_board}
use Rattle.store.specs.Lines.{flight_line, flight_notice}
use Rattle.store.specs.Stores.{StoreView}

abbrev pub heard_line : Tick → Event → BoardView → StoreView → List Line
heard_line n (Issue t) b s = flight_line letter.I n.number s (flight_at b t)
heard_line n (Done t) b s = flight_line letter.D n.number s (flight_at b t)

abbrev pub heard_notice : Tick → Event → BoardView → StoreView → List Notice
heard_notice n (Issue t) b s = []
heard_notice n (Done t) b s = flight_notice n.number s (flight_at b t)

-- one event after the other

unfoldable pub all_heard : Tick → List Event → BoardView → BoardView
all_heard n [] b = b
all_heard n (e ∷ es) b = all_heard n es (heard_board n e b)

unfoldable pub heard_lines : Tick → List Event → BoardView → StoreView → List Line
heard_lines n [] b s = []
heard_lines n (e ∷ es) b s = heard_line n e b s ++ heard_lines n es (heard_board n e b) s

unfoldable pub heard_notices : Tick → List Event → BoardView → StoreView → List Notice
heard_notices n [] b s = []
heard_notices n (e ∷ es) b s = heard_notice n e b s ++ heard_notices n es (heard_board n e b) s

-- ---- departures

-- the controller's state after it took these requests, one after the other
unfoldable pub taken_by : Meaning (List ℕ) → List Request → List ℕ → List ℕ
taken_by m [] s = s
taken_by m (q ∷ qs) s = taken_by m qs (after m (Call.take q) s)
