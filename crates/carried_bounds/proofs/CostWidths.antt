-- The cost of a point, and of an admissible plan over a denominator within the limit, is at most 2^86.
use Rattle.std.proofs.Common.{ℕ, ◌+◌, ◌*◌, ◌≤◌, ◌^◌, max, List, subst, arith}
use Rattle.std.specs.Prelude.{ℤ, pos, ◌*ℤ◌, ◌≤ℤ◌, unsigned_abs}
use Rattle.std.proofs.lemmas.Int.{ints}
use Rattle.std.proofs.lemmas.Nat.{mul-le}
use Rattle.std.proofs.Math.Nat.{mul_assoc}
use Rattle.algebra.specs.Scale.{IsScale}
use Rattle.algebra.specs.Totals.{total_to}
use Rattle.algebra.proofs.Magnitudes.{unsigned_abs_le, unsigned_abs_mul_le, le_unsigned_abs, neg_unsigned_abs_le}
use Rattle.algebra.proofs.TotalsLemmas.{total_to_le, total_to_mul_right, unsigned_abs_sum_to_total}
use Rattle.programs.specs.Programs.{Program, column_count, bounds_at, cost_at}
use Rattle.programs.specs.Points.{IsPoint, IsInBoundsAt, cost_share, cost_of_point, numerator_at}
use Rattle.programs.specs.Weights.{reach, column_weight, load_of_rows}
use Rattle.programs.specs.Limits.{IsWithinLimits}
use Rattle.road_types.specs.Accepted.{IsAccepted}
use Rattle.road_types.specs.declared.road.Road.{Road}
use Rattle.plan_rules.specs.declared.plan.Plan.{Plan}
use Rattle.plan_rules.specs.Rules.{IsAdmissible}
use Rattle.plan_rules.specs.Costs.{cost_of}
use Rattle.road_points.specs.PlanPoints.{point_of}
use Rattle.milp_builder.specs.Boxes.{root_box}
use Rattle.milp_builder.specs.BoxPrograms.{box_program}
use Rattle.milp_builder.proofs.BoxLaws.{plans_are_points}
use Rattle.milp_builder.proofs.BoxLimits.{box_within_limits}
use Rattle.milp_builder.proofs.RootBox.{root_box_fits, root_box_covers}

max_left : (m n : ℕ) → m ≤ max m n
max_left m n = grind arith

max_right : (m n : ℕ) → n ≤ max m n
max_right m n = grind arith

-- a number within bounds over a denominator reaches as far as the bounds, times the denominator
reach_of : (b : ℤ × ℤ) (den x : ℤ) → pos 0 ≤ℤ den → (b.0 *ℤ den) ≤ℤ x → x ≤ℤ (b.1 *ℤ den) → unsigned_abs x ≤ reach b * unsigned_abs den
reach_of b den x positive l h =
    let low = unsigned_abs_mul_le b.0 den (reach b) (unsigned_abs den) (max_left (unsigned_abs b.0) (unsigned_abs b.1)) (omega arith) in
    let high = unsigned_abs_mul_le b.1 den (reach b) (unsigned_abs den) (max_right (unsigned_abs b.0) (unsigned_abs b.1)) (omega arith) in
    let below = neg_unsigned_abs_le (b.0 *ℤ den) in
    let above = le_unsigned_abs (b.1 *ℤ den) in
    unsigned_abs_le x (reach b * unsigned_abs den) (omega (arith, ints)) (omega (arith, ints))

-- a column's share of the cost
share_width : (program : Program) (den : ℤ) (point : List ℤ) (j : ℕ) → pos 0 ≤ℤ den → IsInBoundsAt program den point j
    → unsigned_abs (cost_share program point j) ≤ column_weight program j * unsigned_abs den
share_width program den point j positive w =
    let d = unsigned_abs den in
    let c = unsigned_abs (cost_at program j) in
    let r = reach (bounds_at program j) in
    let load = load_of_rows j program.rows in
    let x = reach_of (bounds_at program j) den (numerator_at point j) positive w.at_least w.at_most in
    let share = unsigned_abs_mul_le (cost_at program j) (numerator_at point j) c (r * d) (omega arith) x in
    let more = mul-le c (r * d) (load + c) (r * d) (omega arith) (omega arith) in
    let apart = mul_assoc (load + c) r d in
    omega (arith, share, more, apart)

point_width : (program : Program) (den : ℤ) (point : List ℤ) → IsWithinLimits program → IsScale den → IsPoint program den point → unsigned_abs (cost_of_point program point) ≤ 2 ^ 86
point_width program den point limits d h =
    let positive : pos 0 ≤ℤ den = let one = d.from_one in omega (arith, ints) in
    let n = column_count program in
    let all = unsigned_abs_sum_to_total (cost_share program point) n in
    let each = total_to_le (λ j. unsigned_abs (cost_share program point j)) (λ j. column_weight program j * unsigned_abs den) n
    (λ j low high. share_width program den point j positive (h.in_bounds.each j (record { from_one = low; at_most = high }))) in
    let apart = total_to_mul_right (unsigned_abs den) (column_weight program) n in
    let light : total_to (column_weight program) n ≤ 2 ^ 46 = let l = limits.light in omega arith in
    let small : unsigned_abs den ≤ 2 ^ 40 = let one = d.from_one in let top = d.at_most in omega (arith, ints) in
    let product : total_to (column_weight program) n * unsigned_abs den ≤ 2 ^ 46 * 2 ^ 40 = mul-le (total_to (column_weight program) n) (unsigned_abs den) (2 ^ 46) (2 ^ 40) light small in
    omega (arith, all, each, apart, product)

pub cost_width : (road : Road) (plan : Plan) → IsAccepted road → IsScale plan.den → IsAdmissible road plan → unsigned_abs (cost_of road plan) ≤ 2 ^ 86
cost_width road plan a d admissible =
    let box = root_box road in
    let fits = root_box_fits road a.well_formed in
    let inside = root_box_covers road plan admissible in
    let points = plans_are_points road a in
    let point = points.points plan box admissible fits inside in
    let same = points.costs plan box admissible fits inside in
    subst (λ z. unsigned_abs z ≤ 2 ^ 86) same (point_width (box_program road box) plan.den (point_of road plan) (box_within_limits road a box fits) d point)
