use Rattle.std.proofs.Common.{FitsSigned, ap, arith, subst, sym, ◌≡◌, ◌∙◌}
use Rattle.std.specs.Prelude.{ℤ, pos, ◌^◌, ◌≤ℤ◌, ◌*ℤ◌}
use Rattle.std.specs.Int.{w64, w128}
use Rattle.std.proofs.lemmas.Int.{ints, to_z-of_z, fits_signed_from_abs}
use Rattle.road_types.specs.declared.road.Slab.{Slab}
use Rattle.road_types.specs.WellFormed.{IsSolidSlab}
use Rattle.milp_builder.specs.Comparing.{IsComparable}
use Rattle.milp_builder.proofs.ComparingLemmas.{thickness_width, thickness_from}
use Rattle.milp_builder.proofs.volumes.thickness_over.Goals as goal

thick_fits : (slab : Slab) → IsSolidSlab slab → FitsSigned w64 slab.thick
thick_fits slab s = fits_signed_from_abs w64 slab.thick (omega (arith, ints, s.thick.at_least, s.thick.at_most))

product_fits : (slab : Slab) (den : ℤ) → IsSolidSlab slab → IsComparable den → FitsSigned w128 (slab.thick *ℤ den)
product_fits slab den s d =
    let low = thickness_from slab den s d in
    let high = thickness_width slab den s d in
    fits_signed_from_abs w128 (slab.thick *ℤ den) (omega (arith, ints, low, high))

pub times-requires : goal.times-requires
times-requires c =
    let thick = thick_fits c.args.slab c.requires.solid in
    let den : FitsSigned w128 c.args.den = c.ranges.den in
    let from : FitsSigned w128 c.from.result = record { sfits = c.from.type_inv } in
    let same : c.from.result ≡ c.args.slab.thick = simp to_z-of_z at c.from.ensures in
    let fits = product_fits c.args.slab c.args.den c.requires.solid c.requires.den in
    simp to_z-of_z (subst (λ (z : ℤ). FitsSigned w128 (z *ℤ c.args.den)) (sym same) fits)

pub returns-clause-value : goal.returns-clause-value
returns-clause-value c =
    let thick = thick_fits c.args.slab c.requires.solid in
    let den : FitsSigned w128 c.args.den = c.ranges.den in
    let from : FitsSigned w128 c.from.result = record { sfits = c.from.type_inv } in
    let times : FitsSigned w128 c.times.result = record { sfits = c.times.type_inv } in
    let same : c.from.result ≡ c.args.slab.thick = simp to_z-of_z at c.from.ensures in
    let product : c.times.result ≡ c.from.result *ℤ c.args.den = simp to_z-of_z at c.times.ensures in
    simp to_z-of_z (product ∙ ap (λ (z : ℤ). z *ℤ c.args.den) same)

pub returns-clause-from : goal.returns-clause-from
returns-clause-from c =
    let thick = thick_fits c.args.slab c.requires.solid in
    let den : FitsSigned w128 c.args.den = c.ranges.den in
    let from : FitsSigned w128 c.from.result = record { sfits = c.from.type_inv } in
    let times : FitsSigned w128 c.times.result = record { sfits = c.times.type_inv } in
    let same : c.from.result ≡ c.args.slab.thick = simp to_z-of_z at c.from.ensures in
    let product : c.times.result ≡ c.from.result *ℤ c.args.den = simp to_z-of_z at c.times.ensures in
    let low = thickness_from c.args.slab c.args.den c.requires.solid c.requires.den in
    simp to_z-of_z (subst (λ (z : ℤ). pos 0 ≤ℤ z) (sym (product ∙ ap (λ (z : ℤ). z *ℤ c.args.den) same)) low)

pub returns-clause-to : goal.returns-clause-to
returns-clause-to c =
    let thick = thick_fits c.args.slab c.requires.solid in
    let den : FitsSigned w128 c.args.den = c.ranges.den in
    let from : FitsSigned w128 c.from.result = record { sfits = c.from.type_inv } in
    let times : FitsSigned w128 c.times.result = record { sfits = c.times.type_inv } in
    let same : c.from.result ≡ c.args.slab.thick = simp to_z-of_z at c.from.ensures in
    let product : c.times.result ≡ c.from.result *ℤ c.args.den = simp to_z-of_z at c.times.ensures in
    let high = thickness_width c.args.slab c.args.den c.requires.solid c.requires.den in
    simp to_z-of_z (subst (λ (z : ℤ). z ≤ℤ pos (2 ^ 96)) (sym (product ∙ ap (λ (z : ℤ). z *ℤ c.args.den) same)) high)
