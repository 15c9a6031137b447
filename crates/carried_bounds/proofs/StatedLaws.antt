-- The cost of a carried certificate and its bound can be stated.
use Rattle.std.proofs.Common.{◌≢◌, ℕ, ◌≤◌, ◌^◌, Option, Some, None, List, refl, arith, ⊎_elim}
use Rattle.std.specs.Prelude.{ℤ, pos, unsigned_abs}
use Rattle.std.proofs.Math.Nat.{mul-le-mul_left}
use Rattle.std.proofs.lemmas.Int.{ints}
use Rattle.algebra.specs.Scale.{IsScale, greatest_scale}
use Rattle.algebra.proofs.Magnitudes.{unsigned_abs_le}
use Rattle.numbers.specs.Fractions.{Fraction, IsLowest, HasValue}
use Rattle.road_types.specs.Accepted.{IsAccepted}
use Rattle.road_types.specs.declared.road.Road.{Road}
use Rattle.road_types.specs.RoadPrograms.{row_count}
use Rattle.plan_rules.specs.declared.plan.Plan.{Plan}
use Rattle.plan_rules.specs.declared.verdict.Rule.{Rule}
use Rattle.plan_rules.specs.Rules.{IsAdmissible, IsFirstBroken}
use Rattle.plan_rules.specs.Costs.{cost_of}
use Rattle.plan_text.specs.PlanText.{HasText}
use Rattle.safe_bounds.proofs.ValueWidths.{value_width}
use Rattle.milp_builder.specs.Boxes.{IsBoxOf}
use Rattle.milp_builder.specs.BoxPrograms.{box_program}
use Rattle.milp_builder.specs.Parts.{first_part, second_part}
use Rattle.milp_builder.specs.declared.boxes.BoxRange.{BoxRange}
use Rattle.milp_builder.proofs.BoxLimits.{box_within_limits}
use Rattle.milp_builder.proofs.Cover.{found_parts_cover}
use Rattle.cert_tree.specs.Trees.{BoxTree, low, dead, fork, IsWithinWidths, AreMultipliersBehind}
use Rattle.cert_tree.specs.Soundness.{SplitsFit, box_mults, box_value}
use Rattle.cert_tree.specs.LeastBounds.{IsOfSomeLeaf, IsLeastOfLeaves}
use Rattle.cert_tree.proofs.LeafLemmas.{on_rows, are_multipliers}
use Rattle.cert_text.specs.CertText.{IsStated, IsStatedOrNone}
use Rattle.carried_bounds.proofs.LowestLemmas.{stated_of_value}
use Rattle.carried_bounds.proofs.CostWidths.{cost_width}

-- an admissible plan breaks no rule
pub not_broken : (road : Road) (plan : Plan) (rule : Rule) (stage place : ℕ) → IsAdmissible road plan → IsFirstBroken road plan rule stage place → ⊥
not_broken road plan rule stage place h b = b.broken.not_kept (h.keeps rule stage place b.broken.is_place)

-- the cost of an admissible plan that has a text
pub cost_stated : (road : Road) (plan : Plan) (cost : Fraction) → IsAccepted road → HasText road plan → IsAdmissible road plan → IsLowest cost → HasValue cost (cost_of road plan) plan.den → IsStated cost
cost_stated road plan cost a text admissible lowest value =
    stated_of_value cost (cost_of road plan) plan.den lowest value (cost_width road plan a text.fits.den admissible) text.fits.den

-- the value of a leaf
leaf_width : (road : Road) (box : BoxRange) (scale : ℤ) (mults : List (ℕ × ℤ)) → IsAccepted road → IsBoxOf road box → IsScale scale → AreMultipliersBehind (row_count road) 0 mults
    → unsigned_abs (box_value road box scale mults) ≤ 2 ^ 86
leaf_width road box scale mults a fits s on =
    let program = box_program road box in
    let limits = box_within_limits road a box fits in
    let within = are_multipliers program mults (on_rows road box program mults refl on) in
    let from = s.from_one in
    let small = unsigned_abs_le scale greatest_scale (omega (arith, ints)) s.at_most in
    let width = value_width (2 ^ 40) program scale (box_mults road box mults) small within.within in
    omega (arith, width, mul-le-mul_left (2 ^ 40) limits.light)

some_scale : (scale : ℤ) → IsScale scale → scale ≢ pos 0
some_scale scale s e = let from = s.from_one in omega (arith, ints, e)

-- the bound of a leaf
leaf_stated : (road : Road) → IsAccepted road → (bound : Fraction) (tree : BoxTree) (box : BoxRange) → IsBoxOf road box → SplitsFit road tree box → IsWithinWidths (row_count road) tree → IsLowest bound
    → IsOfSomeLeaf road bound tree box → IsStated bound
leaf_stated road a bound (low scale mults cause) box fits s w lowest h =
    stated_of_value bound (box_value road box scale mults) scale lowest (record { defined = some_scale scale w.0; same = h }) (leaf_width road box scale mults a fits w.0 w.1) w.0
leaf_stated road a bound (dead mults) box fits s w lowest h = absurd h
leaf_stated road a bound (fork split first second) box fits s w lowest h =
    let cover = found_parts_cover road box fits split (Some (first_part box split, second_part box split)) (s.0, refl) in
    ⊎_elim
    (λ i. leaf_stated road a bound first (first_part box split) cover.first_fits s.1 w.0 lowest i)
    (λ i. leaf_stated road a bound second (second_part box split) cover.second_fits s.2 w.1 lowest i)
    h

pub bound_stated : (road : Road) → IsAccepted road → (bound : Option Fraction) (tree : BoxTree) (box : BoxRange) → IsBoxOf road box → SplitsFit road tree box → IsWithinWidths (row_count road) tree
    → IsLeastOfLeaves road tree box bound → IsStatedOrNone bound
bound_stated road a None tree box fits s w h = tt
bound_stated road a (Some bound) tree box fits s w h = leaf_stated road a bound tree box fits s w h.0 h.2
