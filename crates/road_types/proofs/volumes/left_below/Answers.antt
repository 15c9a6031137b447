use Rattle.std.proofs.Common.{◌^◌, FitsSigned, rules, arith}
use Rattle.std.specs.Prelude.{ℤ, pos, ◌≤ℤ◌, ◌-ℤ◌, ◌*ℤ◌}
use Rattle.std.specs.Int.{w64, w128}
use Rattle.std.proofs.lemmas.Int.{ints, to_z-of_z}
use Rattle.road_types.proofs.SlabWidths.{slab_from, slab_to}
use Rattle.road_types.proofs.volumes.left_below.Goals as goal

fits_below : (depth whole : ℤ) → FitsSigned w128 depth → pos 0 ≤ℤ depth → pos 0 ≤ℤ whole → whole ≤ℤ pos (2 ^ 64) → FitsSigned w128 (depth -ℤ whole)
fits_below depth whole d p q r = omega (arith, ints)

pub minus-requires : goal.minus-requires
minus-requires c =
    let den = c.ranges.den in
    let depth : FitsSigned w128 c.args.depth = c.ranges.depth in
    let thick : FitsSigned w64 c.args.slab.thick = search rules in
    let whole : FitsSigned w128 c.scaled.result = search rules in
    let is = simp to_z-of_z at c.scaled.ensures in
    simp to_z-of_z (rw is (fits_below c.args.depth (c.args.slab.thick *ℤ c.args.den) depth c.requires.depth
    (slab_from c.args.slab c.args.den c.requires.solid c.requires.den) (slab_to c.args.slab c.args.den c.requires.solid c.requires.den)))

pub returns-clause-value : goal.returns-clause-value
returns-clause-value c =
    let den = c.ranges.den in
    let depth : FitsSigned w128 c.args.depth = c.ranges.depth in
    let thick : FitsSigned w64 c.args.slab.thick = search rules in
    let whole : FitsSigned w128 c.scaled.result = search rules in
    let left : FitsSigned w128 c.minus.result = search rules in
    let most : FitsSigned w128 c.max.result = search rules in
    let is = simp to_z-of_z at c.scaled.ensures in
    let left_is = rw is at (simp to_z-of_z at c.minus.ensures) in
    simp to_z-of_z (rw left_is at (simp to_z-of_z at c.max.ensures.value))
