-- The numbers of the scheduler's refusals.
use Rattle.std.specs.Prelude.{ℕ, Some, None, Ok, Err, Option, Result}
use Rattle.model.specs.declared.Refusal.TheVariants as refusal
use Rattle.model.specs.declared.Refusal.{Refusal}
use Rattle.patterns.specs.declared.setting.LaneRefusal.{LaneRefusal}
use Rattle.patterns.specs.declared.setting.LaneRefusal.TheVariants as lane

-- the number by which each refusal is known
abbrev pub number : Refusal → ℕ
number refusal.WrongPhase = 1
number refusal.DomainTaken = 2
number refusal.BadShare = 3
number refusal.BadCount = 4
number refusal.VertexBank = 5
number refusal.BadEdge = 6
number refusal.NoPlaces = 7
number refusal.DomainUnset = 8
number refusal.RequestBank = 9
number refusal.BadRow = 10
number refusal.LastSerial = 11
number refusal.NoVertex = 12
number refusal.QueueFull = 13
number refusal.SlotHeld = 14
number refusal.SmallBuffer = 15
number refusal.LastTick = 16

-- the number of the refusal, where an answer is one
abbrev pub refused : {T : Type 0} → Result T Refusal → Option ℕ
refused (Ok x) = None
refused (Err e) = Some (number e)

-- the refusal of a call whose lane is refused, which has the same number
abbrev pub refusal_of : LaneRefusal → Refusal
refusal_of lane.Domain = refusal.DomainTaken
refusal_of lane.Count = refusal.BadCount
refusal_of lane.Bank = refusal.VertexBank
refusal_of lane.Edge = refusal.BadEdge
refusal_of lane.Places = refusal.NoPlaces
