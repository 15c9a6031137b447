-- How wide the numbers are that the leaves of a certificate are judged by.
use Rattle.std.specs.Prelude.{ℕ, ◌≤◌, ◌^◌, List, ℤ, ◌*ℤ◌, unsigned_abs}
use Rattle.algebra.specs.Scale.{IsScale, greatest_scale}
use Rattle.numbers.specs.Fractions.{Fraction}
use Rattle.road_types.specs.declared.road.Road.{Road}
use Rattle.road_types.specs.RoadPrograms.{row_count}
use Rattle.milp_builder.specs.Boxes.{IsBoxOf}
use Rattle.milp_builder.specs.declared.boxes.BoxRange.{BoxRange}
use Rattle.cert_tree.specs.Trees.{AreMultipliersBehind}
use Rattle.cert_tree.specs.Soundness.{box_value}
use Rattle.cert_text.specs.CertText.{IsStated}

-- both sides of the comparison of a value over its scale with a bound, value times denominator and numerator times scale, have a
-- magnitude of at most 2^126
pub record IsNarrowComparison (value scale : ℤ) (bound : Fraction) : Type 0 where
  pub value_side : unsigned_abs (value *ℤ bound.den) ≤ 2 ^ 126
  pub bound_side : unsigned_abs (bound.num *ℤ scale) ≤ 2 ^ 126

-- on every box of the road a leaf's value has a magnitude of at most 2^86, and its comparison with a stated bound is narrow
pub record HasNarrowValues (road : Road) : Type 0 where
  pub value : (box : BoxRange) (scale : ℤ) (mults : List (ℕ × ℤ)) → IsBoxOf road box → unsigned_abs scale ≤ greatest_scale
      → AreMultipliersBehind (row_count road) 0 mults → unsigned_abs (box_value road box scale mults) ≤ 2 ^ 86
  pub comparison : (box : BoxRange) (scale : ℤ) (mults : List (ℕ × ℤ)) (bound : Fraction) → IsBoxOf road box → IsScale scale
      → AreMultipliersBehind (row_count road) 0 mults → IsStated bound → IsNarrowComparison (box_value road box scale mults) scale bound
