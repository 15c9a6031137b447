-- A tree of boxes proves a bound where each leaf does on its own box: the value of a low leaf over its scale is at least the bound,
-- the value of a dead leaf at scale 0 is above 0, and no multiplier of a row that asks for at least its right side is below 0.
-- Here stand the values of leaves, trees whose splits fit, sound trees, and what a sound tree says of plans.
use Rattle.std.specs.Prelude.{ℕ, List, Option, Some, None, ℤ, pos, ◌*ℤ◌, ◌≤ℤ◌, ◌<ℤ◌, Bool, true, false, ◌||◌}
use Rattle.algebra.specs.Scale.{IsScale}
use Rattle.numbers.specs.Fractions.{Fraction}
use Rattle.programs.specs.Programs.{Program, row_count}
use Rattle.road_types.specs.declared.road.Road.{Road}
use Rattle.plan_rules.specs.declared.plan.Plan.{Plan}
use Rattle.plan_rules.specs.Rules.{IsAdmissible}
use Rattle.plan_rules.specs.Costs.{Undercuts}
use Rattle.safe_bounds.specs.Values.{value_of, HasRightSigns}
use Rattle.safe_bounds.specs.Sparse.{dense}
use Rattle.milp_builder.specs.Boxes.{IsBoxOf, IsInside}
use Rattle.milp_builder.specs.BoxPrograms.{box_program}
use Rattle.milp_builder.specs.Parts.{IsSplitOf, first_part, second_part}
use Rattle.milp_builder.specs.declared.boxes.BoxRange.{BoxRange}
use Rattle.cert_tree.specs.Trees.{BoxTree, low, dead, fork, AreMultipliersBehind}

-- the value on a program of a scale and multipliers as they are written down
abbrev pub told_value : Program → ℤ → List (ℕ × ℤ) → ℤ
told_value program scale mults = value_of program scale (dense (row_count program) mults)

-- one multiplier for each row of the box; the program of every box has as many rows as the road
abbrev pub box_mults : Road → BoxRange → List (ℕ × ℤ) → List ℤ
box_mults road box mults = dense (row_count (box_program road box)) mults

-- the value of a scale and multipliers on the rows of a box
abbrev pub box_value : Road → BoxRange → ℤ → List (ℕ × ℤ) → ℤ
box_value road box scale mults = told_value (box_program road box) scale mults

-- each split can be made of the box on its path, which begins at this one
abbrev pub SplitsFit : Road → BoxTree → BoxRange → Type 0
SplitsFit road (low scale mults cause) box = Unit {0}
SplitsFit road (dead mults) box = Unit {0}
SplitsFit road (fork split first second) box =
    IsSplitOf road box split × SplitsFit road first (first_part box split) × SplitsFit road second (second_part box split)

-- the multipliers stand on rows of the box, are within their width, and have the right signs
pub record AreSound (road : Road) (box : BoxRange) (mults : List (ℕ × ℤ)) : Type 0 where
  pub on_rows : AreMultipliersBehind (row_count (box_program road box)) 0 mults
  pub right_signs : HasRightSigns (box_program road box) (box_mults road box mults)

-- the value over the scale is at least the bound, whose denominator is asked to be at least 1; without a bound nothing is
abbrev pub IsAtLeastBound : ℤ → ℤ → Option Fraction → Type 0
IsAtLeastBound value scale None = ⊥
IsAtLeastBound value scale (Some bound) = (bound.num *ℤ scale) ≤ℤ (value *ℤ bound.den)

-- a low leaf proves the bound on its box
pub record IsSoundLow (road : Road) (bound : Option Fraction) (box : BoxRange) (scale : ℤ) (mults : List (ℕ × ℤ)) : Type 0 where
  pub scale_within : IsScale scale
  pub mults_sound : AreSound road box mults
  pub bounded : IsAtLeastBound (box_value road box scale mults) scale bound

-- a dead leaf proves its box empty
pub record IsSoundDead (road : Road) (box : BoxRange) (mults : List (ℕ × ℤ)) : Type 0 where
  pub mults_sound : AreSound road box mults
  pub above_zero : pos 0 <ℤ box_value road box (pos 0) mults

-- the tree proves the bound on the box; at a split each part's tree proves it on that part. It is asked only where the box fits the
-- road and the bound's denominator is at least 1: the laws over it say both
abbrev pub IsSound : Road → Option Fraction → BoxTree → BoxRange → Type 0
IsSound road bound (low scale mults cause) box = IsSoundLow road bound box scale mults
IsSound road bound (dead mults) box = IsSoundDead road box mults
IsSound road bound (fork split first second) box =
    IsSplitOf road box split × IsSound road bound first (first_part box split) × IsSound road bound second (second_part box split)

-- a bound's denominator is at least 1
abbrev pub HasPositiveDen : Option Fraction → Type 0
HasPositiveDen None = Unit {0}
HasPositiveDen (Some bound) = pos 1 ≤ℤ bound.den

-- no admissible plan inside the box, over any denominator, costs less than the bound; without a bound none is there
abbrev pub Bounds : Road → Option Fraction → BoxRange → Type 0
Bounds road None box = (plan : Plan) → IsAdmissible road plan → IsInside road plan box → ⊥
Bounds road (Some bound) box =
    (plan : Plan) → IsAdmissible road plan → IsInside road plan box → Undercuts road plan bound.num bound.den → ⊥

-- every sound tree, over whichever box that fits the road, bounds the costs of the admissible plans inside
pub record SoundTreesBound (road : Road) : Type 0 where
  pub each : (bound : Option Fraction) (tree : BoxTree) (box : BoxRange) → HasPositiveDen bound → IsBoxOf road box → IsSound road bound tree box → Bounds road bound box

-- some leaf of the tree is low
abbrev pub has_low : BoxTree → Bool
has_low (low scale mults cause) = true
has_low (dead mults) = false
has_low (fork split first second) = has_low first || has_low second
