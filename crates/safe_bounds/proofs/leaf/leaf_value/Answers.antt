use Rattle.std.proofs.Common.{rules, sym, refl}
use Rattle.std.specs.Prelude.{FitsSigned, pos}
use Rattle.std.specs.Int.{w128}
use Rattle.std.proofs.lemmas.Int.{to_z-of_z}
use Rattle.safe_bounds.specs.Values.{value_of}
use Rattle.safe_bounds.proofs.Duality.{bounds_costs, dead_value}
use Rattle.safe_bounds.proofs.leaf.leaf_value.Goals as goal

pub returns-clause-bound : goal.returns-clause-bound
returns-clause-bound c = λ signs.
    let scale : FitsSigned w128 c.args.scale = c.ranges.scale in
    let whole : FitsSigned w128 c.value_over.result = search rules in
    let value = simp to_z-of_z at c.value_over.ensures.value in
    simp to_z-of_z (rw value (bounds_costs c.args.milp.now c.args.scale c.args.mults.now signs))

pub returns-clause-dead : goal.returns-clause-dead
returns-clause-dead c = λ signs dead above.
    let scale : FitsSigned w128 c.args.scale = c.ranges.scale in
    let whole : FitsSigned w128 c.value_over.result = search rules in
    let value = simp to_z-of_z at c.value_over.ensures.value in
    let bound = rw (sym value) at (bounds_costs c.args.milp.now c.args.scale c.args.mults.now signs) in
    dead_value c.args.milp.now c.args.scale c.value_over.result bound dead (simp to_z-of_z at above)

pub returns-clause-any_bound : goal.returns-clause-any_bound
returns-clause-any_bound c = λ s ys signs. bounds_costs c.args.milp.now s ys signs

pub returns-clause-any_dead : goal.returns-clause-any_dead
returns-clause-any_dead c = λ ys signs above.
    dead_value c.args.milp.now (pos 0) (value_of c.args.milp.now (pos 0) ys) (bounds_costs c.args.milp.now (pos 0) ys signs) refl above
