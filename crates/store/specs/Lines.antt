-- The lines and notices of requests, with what the store knows of them: rows, serials, and which of them are fakes.
use Rattle.std.specs.Prelude.{ℕ, List, [], ◌∷◌, Some, None, Option, slice_index_or}
use Rattle.interface.specs.declared.Request.{Request}
use Rattle.model.specs.declared.Letter.{Letter}
use Rattle.model.specs.declared.Letter.TheVariants as letter
use Rattle.model.specs.declared.Line.{Line}
use Rattle.model.specs.declared.Notice.{Notice}
use Rattle.model.specs.Payloads.{Payload, fake}
use Rattle.model.specs.Ticks.{row_of, payload_notice, oldest}
use Rattle.store.specs.Stores.{StoreView, backlog_at, with_backlog, with_payload, unqueued}

abbrev pub line_with : Letter → ℕ → Request → Payload → Line
line_with l n q p = record { letter = l; tick = n; domain = q.domain; slot = q.slot; bank = q.bank; kind = q.kind; row = row_of p }

abbrev pub payload_at : StoreView → ℕ → Payload
payload_at s t = slice_index_or s.payloads t fake

-- the line of a request in flight, if there is one
abbrev pub flight_line : Letter → ℕ → StoreView → Option Request → List Line
flight_line l n s None = []
flight_line l n s (Some q) = line_with l n q (payload_at s q.slot) ∷ []

-- its notice; a fake has none
abbrev pub flight_notice : ℕ → StoreView → Option Request → List Notice
flight_notice n s None = []
flight_notice n s (Some q) = payload_notice n q.domain (payload_at s q.slot)

-- ---- departures

-- what goes with a request that leaves: the oldest of its domain with its bank and kind, else a fake
abbrev pub load_for : Request → StoreView → Payload
load_for q s = oldest q.bank q.kind (backlog_at s q.domain).queue

abbrev pub loaded : Request → StoreView → StoreView
loaded q s = with_payload q.slot (load_for q s) (with_backlog (unqueued q.bank q.kind) q.domain s)

-- one after the other
unfoldable pub all_loaded : List Request → StoreView → StoreView
all_loaded [] s = s
all_loaded (q ∷ qs) s = all_loaded qs (loaded q s)

-- and their T lines
unfoldable pub load_lines : ℕ → List Request → StoreView → List Line
load_lines n [] s = []
load_lines n (q ∷ qs) s = line_with letter.T n q (load_for q s) ∷ load_lines n qs (loaded q s)
