use Rattle.std.specs.Prelude.{FitsSigned}
use Rattle.std.specs.Int.{w64, w128}
use Rattle.std.proofs.lemmas.Int.{to_z-of_z}
use Rattle.safe_bounds.proofs.StepWidths.{reduced_fits, reduced_width}
use Rattle.safe_bounds.proofs.leaf.reduced_cost.Goals as goal

pub minus-requires : goal.minus-requires
minus-requires c =
    let word : FitsSigned w64 c.cost.result = record { sfits = c.cost.type_inv } in
    let scale : FitsSigned w128 c.args.scale = c.ranges.scale in
    let drawn : FitsSigned w128 c.args.drawn = c.ranges.drawn in
    let product : FitsSigned w128 c.times_word.result = record { sfits = c.times_word.type_inv } in
    let times = simp to_z-of_z at c.times_word.ensures.value in
    simp to_z-of_z (rw times (reduced_fits c.args.scale c.cost.result c.args.drawn c.requires.scale word c.requires.drawn))

pub returns-clause-value : goal.returns-clause-value
returns-clause-value c =
    let word : FitsSigned w64 c.cost.result = record { sfits = c.cost.type_inv } in
    let scale : FitsSigned w128 c.args.scale = c.ranges.scale in
    let drawn : FitsSigned w128 c.args.drawn = c.ranges.drawn in
    let product : FitsSigned w128 c.times_word.result = record { sfits = c.times_word.type_inv } in
    let difference : FitsSigned w128 c.minus.result = record { sfits = c.minus.type_inv } in
    let times = rw c.cost.ensures at (simp to_z-of_z at c.times_word.ensures.value) in
    simp to_z-of_z (rw times at (simp to_z-of_z at c.minus.ensures))

pub returns-clause-width : goal.returns-clause-width
returns-clause-width c =
    let word : FitsSigned w64 c.cost.result = record { sfits = c.cost.type_inv } in
    let scale : FitsSigned w128 c.args.scale = c.ranges.scale in
    let drawn : FitsSigned w128 c.args.drawn = c.ranges.drawn in
    let product : FitsSigned w128 c.times_word.result = record { sfits = c.times_word.type_inv } in
    let difference : FitsSigned w128 c.minus.result = record { sfits = c.minus.type_inv } in
    let times = simp to_z-of_z at c.times_word.ensures.value in
    let minus = rw times at (simp to_z-of_z at c.minus.ensures) in
    simp to_z-of_z (reduced_width c.args.scale c.cost.result c.args.drawn c.minus.result c.requires.scale word c.requires.drawn minus)
