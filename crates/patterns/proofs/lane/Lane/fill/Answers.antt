use Rattle.std.proofs.Common.{length, arith}
use Rattle.patterns.proofs.Checks.{accepted_from, few_edges}
use Rattle.patterns.proofs.lane.Lane.fill.Goals as goal

pub set_vertices-requires : goal.set_vertices-requires
set_vertices-requires c =
    let ok = accepted_from c.args.lane.vertices.now c.args.lane.edges.now c.args.lane.rest c.requires in
    record { room = omega (arith, ok.few, c.self.invariant.0); banks = ok.banks }

pub set_edges-requires : goal.set_edges-requires
set_edges-requires c =
    let ok = accepted_from c.args.lane.vertices.now c.args.lane.edges.now c.args.lane.rest c.requires in
    let few = few_edges (length c.args.lane.vertices.now) c.args.lane.edges.now ok.edges in
    record { room = omega (arith, few, c.self.invariant.1); good = ok.edges; few = ok.few }

pub overflow_cast-self : goal.overflow_cast-self
overflow_cast-self c =
    let ok = accepted_from c.args.lane.vertices.now c.args.lane.edges.now c.args.lane.rest c.requires in
    omega (arith, ok.short)

pub invariant_of-self : goal.invariant_of-self
invariant_of-self c = (omega (arith, c.self.invariant.0, c.set_vertices.ensures.capacity), omega (arith, c.self.invariant.1, c.set_edges.ensures.capacity))

pub returns : goal.returns
returns c = let vs = c.set_vertices.ensures.items in let es = c.set_edges.ensures.items in cc (vs, es)
