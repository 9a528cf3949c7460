-- The laws of the interface: what every controller owes, and all that is used above it.
use Rattle.std.specs.Prelude.{◌≡◌, ℕ, ◌-◌, ◌≤◌, Bool, true, false, cond, ◌||◌, List, [], ◌∷◌, ◌++◌, map, Some, None, Option, ◌==◌}
use Rattle.interface.specs.declared.Request.{Request}
use Rattle.interface.specs.declared.Event.{Event}
use Rattle.interface.specs.declared.Event.TheVariants.{Issue, Done}
use Rattle.interface.specs.Meaning.{Meaning, Held, Call, first, rest, any, has_slot, take_refusal, after, Reached}

-- ---- what calls do to the held requests

-- a request that has just been taken, with n steps left
abbrev pub fresh : Request → ℕ → Held
fresh q n = record { request = q; issued = false; left = n }

abbrev pub issues : ℕ → Event → Bool
issues n (Issue m) = m == n
issues n (Done m) = false

abbrev pub ends : ℕ → Event → Bool
ends n (Issue m) = false
ends n (Done m) = m == n

-- a held request after a step that made the events es ready
abbrev pub aged : List Event → Held → Held
aged es h = record { request = h.request; issued = h.issued || any (issues h.request.slot) es; left = h.left - 1 }

-- the held requests without the slot n
abbrev pub without : ℕ → List Held → List Held
without n [] = []
without n (h ∷ hs) = cond (has_slot n h) (without n hs) (h ∷ without n hs)

-- the held requests after an event is collected: a Done ends the holding
abbrev pub ended : Option Event → List Held → List Held
ended None hs = hs
ended (Some (Issue n)) hs = hs
ended (Some (Done n)) hs = without n hs

-- ---- which events a step may make ready

-- how a slot stands: not held, held and not issued, or held and issued
pub data Standing : Type 0 where
  absent : Standing
  waiting : Standing
  in_flight : Standing

abbrev pub standing : ℕ → List Held → Standing
standing n [] = Standing.absent
standing n (h ∷ hs) = cond (has_slot n h) (cond h.issued Standing.in_flight Standing.waiting) (standing n hs)

abbrev pub slot_of : Event → ℕ
slot_of (Issue n) = n
slot_of (Done n) = n

-- the events of one slot, in order
abbrev pub events_of : ℕ → List Event → List Event
events_of n [] = []
events_of n (e ∷ es) = cond (slot_of e == n) (e ∷ events_of n es) (events_of n es)

-- A slot's events are proper: an Issue names a slot that is held and not issued, a Done one that is held and issued,
-- and after its Done a slot has no more. So each taking gets one Issue and one Done.
abbrev pub Proper : Standing → List Event → Type 0
Proper s [] = Unit {0}
Proper Standing.absent (e ∷ es) = ⊥
Proper Standing.waiting (Issue n ∷ es) = Proper Standing.in_flight es
Proper Standing.waiting (Done n ∷ es) = ⊥
Proper Standing.in_flight (Issue n ∷ es) = ⊥
Proper Standing.in_flight (Done n ∷ es) = Proper Standing.absent es

-- each held request with no step left has its Done among the events
abbrev pub Punctual : List Held → List Event → Type 0
Punctual [] es = Unit {0}
Punctual (h ∷ hs) es = (h.left ≡ 0 → any (ends h.request.slot) es ≡ true) × Punctual hs es

-- ---- the laws

-- What is said of held requests and events holds of every state that calls lead to.
pub record Lawful {S : Type 0} (m : Meaning S) : Type 0 where
  -- The beginning state holds nothing.
  pub start_held : (s : S) → m.held (m.start s) ≡ []
  -- The beginning state has nothing ready.
  pub start_ready : (s : S) → m.ready (m.start s) ≡ []
  -- The beginning state is one state, whatever calls came.
  pub start_fixed : (c : Call) (s : S) → m.start (after m c s) ≡ m.start s
  -- The span is a fixed number.
  pub span_fixed : (s : S) → m.span s ≡ m.span (m.start s)
  -- The span is at least 1.
  pub span_least : (s : S) → 1 ≤ m.span s
  -- The places are a fixed number.
  pub places_fixed : (s : S) → m.places s ≡ m.places (m.start s)
  -- There is a place.
  pub places_least : (s : S) → 1 ≤ m.places s
  -- There are at most 32 places.
  pub places_most : (s : S) → m.places s ≤ 32
  -- A request that is taken is held last, unissued, with steps left equal to the span; the others are as they were.
  pub taken_held : (s : S) (q : Request) → Reached m s → take_refusal m s q ≡ None → m.held (m.taken s q) ≡ m.held s ++ (fresh q (m.span s) ∷ [])
  -- A take leaves the ready events as they are.
  pub taken_ready : (s : S) (q : Request) → Reached m s → take_refusal m s q ≡ None → m.ready (m.taken s q) ≡ m.ready s
  -- In a step the steps left of each held request fall by one, those whose Issue comes are issued, and nothing else changes.
  pub stepped_held : (s : S) → Reached m s → m.ready s ≡ [] → m.held (m.stepped s) ≡ map (aged (m.ready (m.stepped s))) (m.held s)
  -- The events of a step are proper for each slot as it stood before.
  pub stepped_proper : (s : S) → Reached m s → m.ready s ≡ [] → (n : ℕ) → Proper (standing n (m.held s)) (events_of n (m.ready (m.stepped s)))
  -- A request whose steps left reach 0 has its Done ready. (Had it been ready earlier, it would be collected and not held.)
  pub stepped_punctual : (s : S) → Reached m s → m.ready s ≡ [] → Punctual (m.held (m.stepped s)) (m.ready (m.stepped s))
  -- A collect takes the first event from those that are ready.
  pub collected_ready : (s : S) → m.ready (m.collected s) ≡ rest (m.ready s)
  -- A collected Done ends the holding of its slot, and a collect changes no other held request.
  pub collected_held : (s : S) → Reached m s → m.held (m.collected s) ≡ ended (first (m.ready s)) (m.held s)
