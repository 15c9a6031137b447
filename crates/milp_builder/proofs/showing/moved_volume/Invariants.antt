use Rattle.std.proofs.Common.{◌≡◌}
use Rattle.std.specs.Prelude.{◌-ℤ◌}
use Rattle.algebra.specs.Sums.{sum_to}
use Rattle.road_types.specs.declared.column.Column.TheVariants.{Cut, Fill}
use Rattle.road_points.specs.Shown.{shown}
use Rattle.milp_builder.proofs.showing.moved_volume.Given as goal

abbrev pub invariant-loop-before : goal.invariant-loop-before
invariant-loop-before l = l.total ≡ sum_to (λ t. shown l.road l.point (Fill l.section t) -ℤ shown l.road l.point (Cut l.section t)) l.before
