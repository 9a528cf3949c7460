-- The hidden side of the tables as plain values.
use Rattle.std.specs.Prelude.{◌≡◌, ℕ, ◌+◌, ◌^◌, cond, ◌&&◌, List, [], ◌∷◌, ◌++◌, length, replicate, Option, nat_lt, slice_index_or, slice_set}
use Rattle.interface.specs.declared.Kind.{Kind}
use Rattle.patterns.specs.Lanes.{changed}
use Rattle.std.specs.List.{position}
use Rattle.model.specs.Ticks.{without, matches}
use Rattle.model.specs.declared.Waiting.{Waiting}
use Rattle.model.specs.Payloads.{Payload, fake}

-- the requests of one domain: its queue, and the serial of its next request
pub record BacklogView : Type 0 where
  pub queue : List Waiting
  pub serial : ℕ

abbrev pub no_backlog : BacklogView
no_backlog = record { queue = []; serial = 0 }

-- one more request in the queue
abbrev pub queued : ℕ → Kind → ℕ → BacklogView → BacklogView
queued b k row x = record { queue = x.queue ++ (record { bank = b; kind = k; row = row; serial = x.serial } ∷ []); serial = x.serial + 1 }

-- if there is room for it, and a serial
abbrev pub joined : ℕ → Kind → ℕ → BacklogView → BacklogView
joined b k row x = cond (nat_lt (length x.queue) 16 && nat_lt x.serial (10 ^ 18)) (queued b k row x) x

-- one more request, which waits in no queue
abbrev pub counted : BacklogView → BacklogView
counted x = record { queue = x.queue; serial = x.serial + 1 }

-- if there is a serial for it
abbrev pub numbered : BacklogView → BacklogView
numbered x = cond (nat_lt x.serial (10 ^ 18)) (counted x) x

-- the oldest request with this bank and kind leaves the queue
abbrev pub unqueued : ℕ → Kind → BacklogView → BacklogView
unqueued b k x = record { queue = without b k x.queue; serial = x.serial }

-- the place of the oldest request with this bank and kind
abbrev pub place_of : ℕ → Kind → List Waiting → Option ℕ
place_of b k ws = position (matches b k) ws

pub record StoreView : Type 0 where
  pub backlogs : List BacklogView
  pub payloads : List Payload

-- of 8 domains and 512 slots
abbrev pub Sized : StoreView → Type 0
Sized s = (length s.backlogs ≡ 8) × (length s.payloads ≡ 512)

unfoldable pub no_payloads : List Payload
no_payloads = replicate 512 fake

abbrev pub new_store : StoreView
new_store = record { backlogs = replicate 8 no_backlog; payloads = no_payloads }

-- the requests of a domain
abbrev pub backlog_at : StoreView → ℕ → BacklogView
backlog_at s d = slice_index_or s.backlogs d no_backlog

abbrev pub with_backlog : (BacklogView → BacklogView) → ℕ → StoreView → StoreView
with_backlog f d s = record { backlogs = changed f s.backlogs d; payloads = s.payloads }

abbrev pub with_payload : ℕ → Payload → StoreView → StoreView
with_payload t p s = record { backlogs = s.backlogs; payloads = slice_set s.payloads t p }
