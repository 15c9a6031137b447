use Rattle.std.proofs.Common.{◌*◌, ◌^◌, ◌≤◌, FitsSigned, rules, arith}
use Rattle.std.specs.Prelude.{unsigned_abs, ◌+ℤ◌}
use Rattle.std.specs.Int.{w128}
use Rattle.std.proofs.lemmas.Int.{to_z-of_z}
use Rattle.algebra.proofs.Magnitudes.{fits_w128, fits_w128_add, unsigned_abs_add_le}
use Rattle.plan_rules.specs.Costs.{cost_of}
use Rattle.plan_rules.proofs.CostWidths.{four_totals, five_totals}
use Rattle.plan_rules.proofs.costs.cost_of.Goals as goal

pub plus-requires : goal.plus-requires
plus-requires c =
    let cut : FitsSigned w128 c.movement_cost-cut.result = search rules in
    let fill : FitsSigned w128 c.movement_cost-fill.result = search rules in
    simp to_z-of_z (fits_w128_add c.movement_cost-cut.result c.movement_cost-fill.result (48 * 10 ^ 21 * 2 ^ 40) (48 * 10 ^ 21 * 2 ^ 40) c.movement_cost-cut.ensures.width c.movement_cost-fill.ensures.width (omega arith))

pub plus-requires-2 : goal.plus-requires-2
plus-requires-2 c =
    let cut : FitsSigned w128 c.movement_cost-cut.result = search rules in
    let fill : FitsSigned w128 c.movement_cost-fill.result = search rules in
    let haul : FitsSigned w128 c.haul_total-haul.result = search rules in
    let first : FitsSigned w128 c.plus.result = search rules in
    let two = unsigned_abs_add_le c.movement_cost-cut.result c.movement_cost-fill.result (48 * 10 ^ 21 * 2 ^ 40) (48 * 10 ^ 21 * 2 ^ 40) c.movement_cost-cut.ensures.width c.movement_cost-fill.ensures.width in
    let so_far : unsigned_abs c.plus.result ≤ 96 * 10 ^ 21 * 2 ^ 40 = rw (simp to_z-of_z at c.plus.ensures) (omega (arith, two)) in
    simp to_z-of_z (fits_w128_add c.plus.result c.haul_total-haul.result (96 * 10 ^ 21 * 2 ^ 40) (96 * 10 ^ 21 * 2 ^ 40) so_far c.haul_total-haul.ensures.width (omega arith))

pub plus-requires-3 : goal.plus-requires-3
plus-requires-3 c =
    let cut : FitsSigned w128 c.movement_cost-cut.result = search rules in
    let fill : FitsSigned w128 c.movement_cost-fill.result = search rules in
    let haul : FitsSigned w128 c.haul_total-haul.result = search rules in
    let access : FitsSigned w128 c.movement_cost-access.result = search rules in
    let first : FitsSigned w128 c.plus.result = search rules in
    let second : FitsSigned w128 c.plus-2.result = search rules in
    let width = four_totals c.movement_cost-cut.result c.movement_cost-fill.result c.haul_total-haul.result c.movement_cost-access.result c.plus.result c.plus-2.result
    (simp to_z-of_z at c.plus.ensures) (simp to_z-of_z at c.plus-2.ensures) c.movement_cost-cut.ensures.width c.movement_cost-fill.ensures.width c.haul_total-haul.ensures.width c.movement_cost-access.ensures.width in
    simp to_z-of_z (fits_w128 (c.plus-2.result +ℤ c.movement_cost-access.result) (omega (arith, width)))

pub plus-requires-4 : goal.plus-requires-4
plus-requires-4 c =
    let cut : FitsSigned w128 c.movement_cost-cut.result = search rules in
    let fill : FitsSigned w128 c.movement_cost-fill.result = search rules in
    let haul : FitsSigned w128 c.haul_total-haul.result = search rules in
    let access : FitsSigned w128 c.movement_cost-access.result = search rules in
    let removal : FitsSigned w128 c.removal_total.result = search rules in
    let first : FitsSigned w128 c.plus.result = search rules in
    let second : FitsSigned w128 c.plus-2.result = search rules in
    let third : FitsSigned w128 c.plus-3.result = search rules in
    let four = four_totals c.movement_cost-cut.result c.movement_cost-fill.result c.haul_total-haul.result c.movement_cost-access.result c.plus.result c.plus-2.result
    (simp to_z-of_z at c.plus.ensures) (simp to_z-of_z at c.plus-2.ensures) c.movement_cost-cut.ensures.width c.movement_cost-fill.ensures.width c.haul_total-haul.ensures.width c.movement_cost-access.ensures.width in
    let so_far : unsigned_abs c.plus-3.result ≤ 240 * 10 ^ 21 * 2 ^ 40 = rw (simp to_z-of_z at c.plus-3.ensures) four in
    let width = five_totals c.plus-3.result c.removal_total.result so_far c.removal_total.ensures.width in
    simp to_z-of_z (fits_w128 (c.plus-3.result +ℤ c.removal_total.result) (omega (arith, width)))

pub returns-clause-width : goal.returns-clause-width
returns-clause-width c =
    let cut : FitsSigned w128 c.movement_cost-cut.result = search rules in
    let fill : FitsSigned w128 c.movement_cost-fill.result = search rules in
    let haul : FitsSigned w128 c.haul_total-haul.result = search rules in
    let access : FitsSigned w128 c.movement_cost-access.result = search rules in
    let removal : FitsSigned w128 c.removal_total.result = search rules in
    let first : FitsSigned w128 c.plus.result = search rules in
    let second : FitsSigned w128 c.plus-2.result = search rules in
    let third : FitsSigned w128 c.plus-3.result = search rules in
    let fourth : FitsSigned w128 c.plus-4.result = search rules in
    let four = four_totals c.movement_cost-cut.result c.movement_cost-fill.result c.haul_total-haul.result c.movement_cost-access.result c.plus.result c.plus-2.result
    (simp to_z-of_z at c.plus.ensures) (simp to_z-of_z at c.plus-2.ensures) c.movement_cost-cut.ensures.width c.movement_cost-fill.ensures.width c.haul_total-haul.ensures.width c.movement_cost-access.ensures.width in
    let so_far : unsigned_abs c.plus-3.result ≤ 240 * 10 ^ 21 * 2 ^ 40 = rw (simp to_z-of_z at c.plus-3.ensures) four in
    let width = five_totals c.plus-3.result c.removal_total.result so_far c.removal_total.ensures.width in
    simp to_z-of_z (rw (simp to_z-of_z at c.plus-4.ensures) width)

pub returns-clause-value : goal.returns-clause-value
unfolding cost_of
returns-clause-value c =
    let cut : FitsSigned w128 c.movement_cost-cut.result = search rules in
    let fill : FitsSigned w128 c.movement_cost-fill.result = search rules in
    let haul : FitsSigned w128 c.haul_total-haul.result = search rules in
    let access : FitsSigned w128 c.movement_cost-access.result = search rules in
    let removal : FitsSigned w128 c.removal_total.result = search rules in
    let first : FitsSigned w128 c.plus.result = search rules in
    let second : FitsSigned w128 c.plus-2.result = search rules in
    let third : FitsSigned w128 c.plus-3.result = search rules in
    let fourth : FitsSigned w128 c.plus-4.result = search rules in
    let all = rw (
      simp to_z-of_z at c.plus-3.ensures,
      simp to_z-of_z at c.plus-2.ensures,
      simp to_z-of_z at c.plus.ensures,
      c.movement_cost-cut.ensures.value,
      c.movement_cost-fill.ensures.value,
      c.haul_total-haul.ensures.value,
      c.movement_cost-access.ensures.value,
      c.removal_total.ensures.value,
    ) at (simp to_z-of_z at c.plus-4.ensures) in
    simp to_z-of_z all
