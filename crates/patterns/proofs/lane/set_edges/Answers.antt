use Rattle.std.proofs.Common.{[], vec_items, arith, rules}
use Rattle.patterns.specs.Shape.{edge_of}
use Rattle.patterns.proofs.Checks.{good_edges}
use Rattle.patterns.proofs.Looks.{pushed_more, pushed_all}
use Rattle.patterns.proofs.lane.set_edges.Goals as goal

pub edge-requires : goal.edge-requires
edge-requires c =
    let good = good_edges c.args.vertices [] c.args.edges.now c.loop-edge.edge-index (record { source = 0; target = 0; weight = 0 }) c.requires.good c.loop-edge-test.true in
    let few = c.requires.few in
    record { source = omega (arith, good.order, good.inside, few); target = omega (arith, good.inside, few); weight = good.light }

pub loop-edge-preserved : goal.loop-edge-preserved
loop-edge-preserved c = (
  pushed_more edge_of c.args.edges.now (vec_items c.loop-edge.list) (vec_items c.push_reserved.new.self) c.loop-edge.edge-index _ c.edge.result c.loop-edge-test.true c.loop-edge.invariant.0 c.edge.ensures c.push_reserved.ensures.items,
  search rules,
  search rules,
)

pub returns : goal.returns
returns c = record {
  items = pushed_all edge_of c.args.edges.now (vec_items c.loop-edge.list) c.loop-edge.edge-index c.loop-edge-test.false c.loop-edge.invariant.0;
  capacity = search rules;
}
