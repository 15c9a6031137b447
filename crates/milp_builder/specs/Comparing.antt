-- Denominators over which a point's volumes are compared with those of its offsets: past those of plans, and so small that volumes
-- stay within 128 bits.
use Rattle.std.specs.Prelude.{ℕ, ◌^◌, ◌≤◌, List, ℤ, pos, ◌≤ℤ◌, unsigned_abs}
use Rattle.road_types.specs.declared.road.Road.{Road}
use Rattle.road_types.specs.declared.column.Column.TheVariants.{Offset, Cut, Fill}
use Rattle.road_points.specs.Shown.{shown}

-- the greatest denominator over which volumes are compared
abbrev pub greatest_comparable : ℕ
greatest_comparable = 2 ^ 72

pub record IsComparable (den : ℤ) : Type 0 where
  pub from_one : pos 1 ≤ℤ den
  pub at_most : den ≤ℤ pos greatest_comparable

-- amounts and offsets are within their caps and ranges, over such a denominator
pub record HasComparableVolumes (road : Road) (point : List ℤ) : Type 0 where
  pub cut : (i t : ℕ) → unsigned_abs (shown road point (Cut i t)) ≤ 2 ^ 119
  pub fill : (i t : ℕ) → unsigned_abs (shown road point (Fill i t)) ≤ 2 ^ 119
  pub offset : (i : ℕ) → unsigned_abs (shown road point (Offset i)) ≤ 2 ^ 98
