use Rattle.road_types.specs.Columns.{bounds_of}
use Rattle.road_types.specs.declared.column.Column.TheVariants.{A}
use Rattle.milp_builder.proofs.PointLemmas.{map_step}
use Rattle.milp_builder.proofs.bounds.column_bounds.Goals as goal

pub loop-kind-preserved : goal.loop-kind-preserved
loop-kind-preserved c =
    let range = c.args.range.now in
    map_step (bounds_of c.args.road.now range.heights range.opens) c.args.kinds.now c.loop-kind.kind-index (A 0) c.bounds_of.result c.loop-kind.bounds.items c.push.new.self.items
    c.loop-kind-test.true c.loop-kind.invariant c.in_ok-push.ensures.items c.bounds_of.ensures
