use Rattle.std.proofs.Common.{FitsSigned, ap, arith, subst, sym, ◌≡◌, ◌∙◌}
use Rattle.std.specs.Prelude.{ℤ, pos, ◌^◌, ◌≤ℤ◌, ◌*ℤ◌}
use Rattle.std.specs.Int.{w64, w128}
use Rattle.std.proofs.lemmas.Int.{ints, to_z-of_z, fits_signed_from_abs}
use Rattle.algebra.proofs.Order.{int_mul_le_mul, int_mul_le_right}
use Rattle.milp_builder.proofs.volumes.volume_of.Goals as goal

volume_from : (area thickness : ℤ) → pos 0 ≤ℤ area → pos 0 ≤ℤ thickness → pos 0 ≤ℤ (area *ℤ thickness)
volume_from area thickness a t =
    let product = int_mul_le_right (pos 0) area thickness t a in
    omega (arith, ints, product)

volume_to : (area thickness : ℤ) → pos 0 ≤ℤ area → area ≤ℤ pos (2 ^ 24) → pos 0 ≤ℤ thickness → thickness ≤ℤ pos (2 ^ 96) → (area *ℤ thickness) ≤ℤ pos (2 ^ 120)
volume_to area thickness a b t u = int_mul_le_mul area (pos (2 ^ 24)) thickness (pos (2 ^ 96)) a b t u

volume_fits : (volume : ℤ) → pos 0 ≤ℤ volume → volume ≤ℤ pos (2 ^ 120) → FitsSigned w128 volume
volume_fits volume low high = fits_signed_from_abs w128 volume (omega (arith, ints))

pub times-requires : goal.times-requires
times-requires c =
    let area : FitsSigned w64 c.args.area = c.ranges.area in
    let thickness : FitsSigned w128 c.args.thickness = c.ranges.thickness in
    let from : FitsSigned w128 c.from.result = record { sfits = c.from.type_inv } in
    let same : c.from.result ≡ c.args.area = simp to_z-of_z at c.from.ensures in
    let fits = volume_fits (c.args.area *ℤ c.args.thickness) (volume_from c.args.area c.args.thickness c.requires.area_from c.requires.thickness_from)
    (volume_to c.args.area c.args.thickness c.requires.area_from c.requires.area_to c.requires.thickness_from c.requires.thickness_to) in
    simp to_z-of_z (subst (λ (z : ℤ). FitsSigned w128 (z *ℤ c.args.thickness)) (sym same) fits)

pub returns-clause-value : goal.returns-clause-value
returns-clause-value c =
    let area : FitsSigned w64 c.args.area = c.ranges.area in
    let thickness : FitsSigned w128 c.args.thickness = c.ranges.thickness in
    let from : FitsSigned w128 c.from.result = record { sfits = c.from.type_inv } in
    let times : FitsSigned w128 c.times.result = record { sfits = c.times.type_inv } in
    let same : c.from.result ≡ c.args.area = simp to_z-of_z at c.from.ensures in
    let product : c.times.result ≡ c.from.result *ℤ c.args.thickness = simp to_z-of_z at c.times.ensures in
    simp to_z-of_z (product ∙ ap (λ (z : ℤ). z *ℤ c.args.thickness) same)

pub returns-clause-from : goal.returns-clause-from
returns-clause-from c =
    let area : FitsSigned w64 c.args.area = c.ranges.area in
    let thickness : FitsSigned w128 c.args.thickness = c.ranges.thickness in
    let from : FitsSigned w128 c.from.result = record { sfits = c.from.type_inv } in
    let times : FitsSigned w128 c.times.result = record { sfits = c.times.type_inv } in
    let same : c.from.result ≡ c.args.area = simp to_z-of_z at c.from.ensures in
    let product : c.times.result ≡ c.from.result *ℤ c.args.thickness = simp to_z-of_z at c.times.ensures in
    let low = volume_from c.args.area c.args.thickness c.requires.area_from c.requires.thickness_from in
    simp to_z-of_z (subst (λ (z : ℤ). pos 0 ≤ℤ z) (sym (product ∙ ap (λ (z : ℤ). z *ℤ c.args.thickness) same)) low)

pub returns-clause-to : goal.returns-clause-to
returns-clause-to c =
    let area : FitsSigned w64 c.args.area = c.ranges.area in
    let thickness : FitsSigned w128 c.args.thickness = c.ranges.thickness in
    let from : FitsSigned w128 c.from.result = record { sfits = c.from.type_inv } in
    let times : FitsSigned w128 c.times.result = record { sfits = c.times.type_inv } in
    let same : c.from.result ≡ c.args.area = simp to_z-of_z at c.from.ensures in
    let product : c.times.result ≡ c.from.result *ℤ c.args.thickness = simp to_z-of_z at c.times.ensures in
    let high = volume_to c.args.area c.args.thickness c.requires.area_from c.requires.area_to c.requires.thickness_from c.requires.thickness_to in
    simp to_z-of_z (subst (λ (z : ℤ). z ≤ℤ pos (2 ^ 120)) (sym (product ∙ ap (λ (z : ℤ). z *ℤ c.args.thickness) same)) high)
