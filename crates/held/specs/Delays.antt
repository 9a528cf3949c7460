-- The Dones that a history of issues gives.
use Rattle.std.specs.Prelude.{ℕ, zero, suc, ◌+◌, cond, List, [], ◌∷◌, ◌++◌, ◌==◌}
use Rattle.interface.specs.History.{Issuance, Occurrence}
use Rattle.held.specs.Entries.{done_delay}

-- the Dones of step t: of the requests that were issued their delay before, in the order of issue
abbrev pub dones_at : ℕ → List Issuance → List Occurrence
dones_at t [] = []
dones_at t (i ∷ is) = cond (i.at + done_delay i.request.kind == t) (record { slot = i.request.slot; at = t } ∷ dones_at t is) (dones_at t is)

-- the Dones of the first n steps
abbrev pub dones_before : ℕ → List Issuance → List Occurrence
dones_before zero is = []
dones_before (suc t) is = dones_before t is ++ dones_at t is
