use Rattle.std.proofs.Common.{rules, FitsSigned, arith}
use Rattle.std.specs.Prelude.{◌*ℤ◌}
use Rattle.std.specs.Int.{w64, w128}
use Rattle.std.proofs.lemmas.Int.{to_z-of_z}
use Rattle.algebra.proofs.Magnitudes.{fits_w128}
use Rattle.road_types.specs.Road.{block}
use Rattle.plan_rules.proofs.CostWidths.{removal_width}
use Rattle.plan_rules.proofs.costs.removal_cost.Goals as goal

pub times-requires : goal.times-requires
times-requires c =
    let road = c.args.road.now in
    let plan = c.args.plan.now in
    let k = c.args.number in
    let width = removal_width plan.den (block road k).cost (c.requires.fits.den) ((c.requires.well_formed.blocks k c.requires.number).cost) in
    let fits = fits_w128 (plan.den *ℤ (block road k).cost) (omega (arith, width)) in
    let den : FitsSigned w128 plan.den = search rules in
    let cost : FitsSigned w64 c.block.result.cost = search rules in
    let wide : FitsSigned w128 c.from.result = search rules in
    let from = simp to_z-of_z at c.from.ensures in
    simp to_z-of_z (rw (from, c.block.ensures) fits)
