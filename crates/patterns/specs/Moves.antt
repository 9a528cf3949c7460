-- How an event moves a vertex on.
use Rattle.std.specs.Prelude.{ℕ, Some, None, Option}
use Rattle.patterns.specs.declared.vertex.VertexState.{VertexState}
use Rattle.patterns.specs.declared.vertex.VertexState.TheVariants.{Still, Flying, Done}
use Rattle.patterns.specs.declared.vertex.VertexEvent.{VertexEvent}
use Rattle.patterns.specs.declared.vertex.VertexEvent.TheVariants as event
use Rattle.patterns.specs.declared.vertex.Vertex.{Vertex}

-- a still vertex that is due flies, a flying one is done by its Done, a done one is still in a new round; nothing else moves a vertex
abbrev pub next : VertexEvent → VertexState → VertexState
next event.Due Still = Flying
next event.Due Flying = Flying
next event.Due (Done c) = Done c
next (event.Done t) Still = Still
next (event.Done t) Flying = Done t
next (event.Done t) (Done c) = Done c
next event.NewRound Still = Still
next event.NewRound Flying = Flying
next event.NewRound (Done c) = Still

abbrev pub moved : VertexEvent → Vertex → Vertex
moved e v = record { bank = v.bank; kind = v.kind; state = next e v.state }

-- the tick of the Done in this round, once it has come
abbrev pub done_tick : VertexState → Option ℕ
done_tick Still = None
done_tick Flying = None
done_tick (Done c) = Some c.number
