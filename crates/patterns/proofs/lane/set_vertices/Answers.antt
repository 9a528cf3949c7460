use Rattle.std.proofs.Common.{vec_items, rules, ltb-false}
use Rattle.patterns.specs.Shape.{high_bank, vertex_of}
use Rattle.patterns.proofs.Checks.{any_fails}
use Rattle.patterns.proofs.Looks.{pushed_more, pushed_all}
use Rattle.patterns.proofs.lane.set_vertices.Goals as goal

pub still-requires : goal.still-requires
still-requires c = ltb-false 7 _ (any_fails high_bank c.args.vertices.now c.loop-vertex.vertex-index _ c.requires.banks c.loop-vertex-test.true)

pub loop-vertex-preserved : goal.loop-vertex-preserved
loop-vertex-preserved c = (
  pushed_more vertex_of c.args.vertices.now (vec_items c.loop-vertex.list) (vec_items c.push_reserved.new.self) c.loop-vertex.vertex-index _ c.still.result c.loop-vertex-test.true c.loop-vertex.invariant.0 c.still.ensures c.push_reserved.ensures.items,
  search rules,
  search rules,
)

pub returns : goal.returns
returns c = record {
  items = pushed_all vertex_of c.args.vertices.now (vec_items c.loop-vertex.list) c.loop-vertex.vertex-index c.loop-vertex-test.false c.loop-vertex.invariant.0;
  capacity = search rules;
}
