-- A sound tree bounds all admissible plans inside its box: by weak duality at the leaves, since plans are points of the box's program
-- at their costs, and by the cover of a box by its parts at the splits.
use Rattle.std.proofs.Common.{ℕ, ℤ, pos, ◌*ℤ◌, ◌≤ℤ◌, ◌<ℤ◌, Option, Some, None, List, refl, subst, arith, ⊎_elim}
use Rattle.std.proofs.lemmas.Int.{ints}
use Rattle.algebra.proofs.Products.{mults}
use Rattle.algebra.proofs.Order.{int_mul_le_left, int_mul_le_right, int_mul_lt_left}
use Rattle.numbers.specs.Fractions.{Fraction}
use Rattle.road_types.specs.Accepted.{IsAccepted}
use Rattle.road_types.specs.declared.road.Road.{Road}
use Rattle.plan_rules.specs.declared.plan.Plan.{Plan}
use Rattle.plan_rules.specs.Rules.{IsAdmissible}
use Rattle.plan_rules.specs.Costs.{cost_of}
use Rattle.safe_bounds.proofs.Duality.{bounds_costs, dead_value}
use Rattle.road_points.specs.PlanPoints.{point_of}
use Rattle.milp_builder.specs.Boxes.{IsBoxOf, IsInside}
use Rattle.milp_builder.specs.BoxPrograms.{box_program}
use Rattle.milp_builder.specs.Parts.{first_part, second_part, Covers}
use Rattle.milp_builder.specs.declared.boxes.BoxRange.{BoxRange}
use Rattle.milp_builder.proofs.BoxLaws.{plans_are_points}
use Rattle.milp_builder.proofs.Cover.{found_parts_cover}
use Rattle.cert_tree.specs.Trees.{BoxTree, low, dead, fork}
use Rattle.cert_tree.specs.Soundness.{box_mults, box_value, IsSoundLow, IsSoundDead, IsSound, Bounds, HasPositiveDen, SoundTreesBound}

-- from D*V <= S*C, n*S <= V*d and d >= 0: C*d < n*D doesn't hold where S and D are at least 1
no_room : (den value scale cost num d : ℤ) → pos 1 ≤ℤ den → pos 1 ≤ℤ scale → pos 0 ≤ℤ d → (den *ℤ value) ≤ℤ (scale *ℤ cost) → (num *ℤ scale) ≤ℤ (value *ℤ d) → (cost *ℤ d) <ℤ (num *ℤ den) → ⊥
no_room den value scale cost num d one s some dual bound less =
    let by_d = int_mul_le_right (den *ℤ value) (scale *ℤ cost) d some dual in
    let by_den = int_mul_le_left (num *ℤ scale) (value *ℤ d) den (omega (arith, ints, one)) bound in
    let by_scale = int_mul_lt_left (cost *ℤ d) (num *ℤ den) scale (omega (arith, ints, s)) less in
    let one_way = simp mults at by_d in
    let other_way = simp mults at by_den in
    let less_way = simp mults at by_scale in
    omega (arith, ints, one_way, other_way, less_way)

-- a low leaf
low_bounds : (road : Road) → IsAccepted road → (bound : Option Fraction) (box : BoxRange) (scale : ℤ) (mults : List (ℕ × ℤ)) → IsBoxOf road box → HasPositiveDen bound → IsSoundLow road bound box scale mults → Bounds road bound box
low_bounds road a None box scale mults fits den h = absurd h.bounded
low_bounds road a (Some bound) box scale mults fits den h = λ plan admissible inside under.
    let points = plans_are_points road a in
    let program = box_program road box in
    let dual = bounds_costs program scale (box_mults road box mults) h.mults_sound.right_signs in
    let point = points.points plan box admissible fits inside in
    let at = dual.each plan.den (point_of road plan) under.is_plan.den point in
    let same = points.costs plan box admissible fits inside in
    let priced = subst (λ c. (plan.den *ℤ box_value road box scale mults) ≤ℤ (scale *ℤ c)) same at in
    no_room plan.den (box_value road box scale mults) scale (cost_of road plan) bound.num bound.den under.is_plan.den h.scale_within.from_one (let one = den in omega (arith, ints)) priced h.bounded under.less

-- a dead leaf
dead_empty : (road : Road) → IsAccepted road → (box : BoxRange) (mults : List (ℕ × ℤ)) → IsBoxOf road box → IsSoundDead road box mults → (plan : Plan) → IsAdmissible road plan → IsInside road plan box → ⊥
dead_empty road a box mults fits h plan admissible inside =
    let points = plans_are_points road a in
    let program = box_program road box in
    let dual = bounds_costs program (pos 0) (box_mults road box mults) h.mults_sound.right_signs in
    let none = dead_value program (pos 0) (box_value road box (pos 0) mults) dual refl h.above_zero in
    none.none plan.den (point_of road plan) admissible.is_plan.den (points.points plan box admissible fits inside)

dead_bounds : (road : Road) → IsAccepted road → (bound : Option Fraction) (box : BoxRange) (mults : List (ℕ × ℤ)) → IsBoxOf road box → IsSoundDead road box mults → Bounds road bound box
dead_bounds road a None box mults fits h = λ plan admissible inside. dead_empty road a box mults fits h plan admissible inside
dead_bounds road a (Some bound) box mults fits h = λ plan admissible inside under. dead_empty road a box mults fits h plan admissible inside

-- the parts of a box
both_bound : (road : Road) (bound : Option Fraction) (box first second : BoxRange) → Covers road box first second → Bounds road bound first → Bounds road bound second → Bounds road bound box
both_bound road None box first second c f s = λ plan admissible inside.
    ⊎_elim (λ h. f plan admissible h) (λ h. s plan admissible h) (c.each plan inside)
both_bound road (Some bound) box first second c f s = λ plan admissible inside under.
    ⊎_elim (λ h. f plan admissible h under) (λ h. s plan admissible h under) (c.each plan inside)

-- no admissible plan inside the box undercuts what a sound tree proves on it
pub sound_bounds : (road : Road) → IsAccepted road → (bound : Option Fraction) → HasPositiveDen bound → (tree : BoxTree) (box : BoxRange) → IsBoxOf road box → IsSound road bound tree box → Bounds road bound box
sound_bounds road a bound den (low scale mults cause) box fits h = low_bounds road a bound box scale mults fits den h
sound_bounds road a bound den (dead mults) box fits h = dead_bounds road a bound box mults fits h
sound_bounds road a bound den (fork split first second) box fits h =
    let cover = found_parts_cover road box fits split (Some (first_part box split, second_part box split)) (h.0, refl) in
    both_bound road bound box (first_part box split) (second_part box split) cover
    (sound_bounds road a bound den first (first_part box split) cover.first_fits h.1)
    (sound_bounds road a bound den second (second_part box split) cover.second_fits h.2)

pub sound_trees_bound : (road : Road) → IsAccepted road → SoundTreesBound road
sound_trees_bound road a = record { each = λ bound tree box den fits h. sound_bounds road a bound den tree box fits h }
