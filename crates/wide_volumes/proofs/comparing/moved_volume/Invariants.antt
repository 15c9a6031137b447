use Rattle.std.proofs.Common.{◌≡◌, ◌*◌, ◌^◌, ◌≤◌}
use Rattle.std.specs.Prelude.{◌-ℤ◌, unsigned_abs}
use Rattle.algebra.specs.Sums.{sum_to}
use Rattle.road_types.specs.declared.column.Column.TheVariants.{Cut, Fill}
use Rattle.road_points.specs.Shown.{shown}
use Rattle.wide_products.specs.Naturals.{whole_of}
use Rattle.wide_volumes.proofs.comparing.moved_volume.Given as goal

abbrev pub invariant-loop-before : goal.invariant-loop-before
invariant-loop-before l = record {
  total_is : whole_of l.total ≡ sum_to (λ t. shown l.road l.point (Fill l.section t) -ℤ shown l.road l.point (Cut l.section t)) l.before;
  within : unsigned_abs (whole_of l.total) ≤ l.before * 2 ^ 128;
}
