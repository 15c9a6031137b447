use Rattle.std.proofs.Common.{◌≡◌, ◌^◌, FitsSigned, rules, arith}
use Rattle.std.specs.Prelude.{pos, ◌≤ℤ◌, ◌*ℤ◌}
use Rattle.std.specs.Int.{w64, w128}
use Rattle.std.proofs.lemmas.Int.{ints, to_z-of_z}
use Rattle.algebra.proofs.Order.{int_le_min}
use Rattle.road_types.proofs.SlabWidths.{slab_from, slab_to}
use Rattle.road_types.proofs.volumes.thickness_within.Goals as goal

pub returns-clause-value : goal.returns-clause-value
returns-clause-value c =
    let den = c.ranges.den in
    let depth : FitsSigned w128 c.args.depth = c.ranges.depth in
    let thick : FitsSigned w64 c.args.slab.thick = search rules in
    let least : FitsSigned w128 c.min.result = search rules in
    let whole : FitsSigned w128 c.scaled.result = search rules in
    let is = simp to_z-of_z at c.scaled.ensures in
    simp to_z-of_z (rw is at (simp to_z-of_z at c.min.ensures.value))

pub returns-clause-from : goal.returns-clause-from
returns-clause-from c =
    let den = c.ranges.den in
    let depth : FitsSigned w128 c.args.depth = c.ranges.depth in
    let thick : FitsSigned w64 c.args.slab.thick = search rules in
    let least : FitsSigned w128 c.min.result = search rules in
    let whole : FitsSigned w128 c.scaled.result = search rules in
    let is = simp to_z-of_z at c.scaled.ensures in
    let value = rw is at (simp to_z-of_z at c.min.ensures.value) in
    simp to_z-of_z (rw value (int_le_min c.args.depth (c.args.slab.thick *ℤ c.args.den) (pos 0) c.requires.depth (slab_from c.args.slab c.args.den c.requires.solid c.requires.den)))

pub returns-clause-to : goal.returns-clause-to
returns-clause-to c =
    let den = c.ranges.den in
    let thick : FitsSigned w64 c.args.slab.thick = search rules in
    let least : FitsSigned w128 c.min.result = search rules in
    let whole : FitsSigned w128 c.scaled.result = search rules in
    let width = slab_to c.args.slab c.args.den c.requires.solid c.requires.den in
    let value : c.scaled.result ≡ c.args.slab.thick *ℤ c.args.den = simp to_z-of_z at c.scaled.ensures in
    let most : c.scaled.result ≤ℤ pos (2 ^ 64) = rw value width in
    omega (arith, ints, c.min.ensures.other_bound)
