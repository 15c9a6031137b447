use Rattle.std.proofs.Common.{rules}
use Rattle.std.specs.Prelude.{FitsSigned}
use Rattle.std.specs.Int.{w64}
use Rattle.std.proofs.lemmas.Int.{to_z-of_z}
use Rattle.road_types.specs.Columns.{unit_cost}
use Rattle.road_types.specs.declared.column.Column.TheVariants.{A}
use Rattle.milp_builder.proofs.PointLemmas.{map_step}
use Rattle.milp_builder.proofs.bounds.column_costs.Goals as goal

pub loop-kind-preserved : goal.loop-kind-preserved
loop-kind-preserved c =
    let cost : FitsSigned w64 c.unit_cost.result = search rules in
    let items = simp to_z-of_z at c.in_ok-push.ensures.items in
    map_step (unit_cost c.args.road.now) c.args.kinds.now c.loop-kind.kind-index (A 0) c.unit_cost.result c.loop-kind.costs.items c.push.new.self.items
    c.loop-kind-test.true c.loop-kind.invariant items c.unit_cost.ensures
