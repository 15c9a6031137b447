-- The values of leaves on the boxes of a road, and what they are compared with, are narrow.
use Rattle.std.proofs.Common.{ℕ, ℤ, ◌≤◌, ◌^◌, ◌*ℤ◌, unsigned_abs, List, refl, arith}
use Rattle.std.proofs.lemmas.Int.{ints}
use Rattle.algebra.specs.Scale.{IsScale, greatest_scale}
use Rattle.algebra.proofs.Magnitudes.{unsigned_abs_le, unsigned_abs_mul_le}
use Rattle.programs.specs.Programs.{row_count, column_count}
use Rattle.safe_bounds.specs.Sparse.{dense}
use Rattle.safe_bounds.proofs.ColumnsLemmas.{part_small}
use Rattle.road_types.specs.declared.road.Road.{Road}
use Rattle.road_types.specs.Accepted.{IsAccepted}
use Rattle.road_types.specs.RoadPrograms.{row_count as road_row_count}
use Rattle.milp_builder.specs.Boxes.{IsBoxOf}
use Rattle.milp_builder.specs.BoxPrograms.{box_program}
use Rattle.milp_builder.specs.declared.boxes.BoxRange.{BoxRange}
use Rattle.milp_builder.proofs.BoxLimits.{box_within_limits}
use Rattle.cert_tree.specs.Trees.{AreMultipliersBehind}
use Rattle.cert_tree.specs.Soundness.{box_value}
use Rattle.cert_tree.proofs.LeafLemmas.{are_multipliers, on_rows}
use Rattle.cert_checker.specs.Widths.{HasNarrowValues}

scale_small : (x : ℤ) → IsScale x → unsigned_abs x ≤ greatest_scale
scale_small x h =
    let from = h.from_one in
    let to = h.at_most in
    unsigned_abs_le x greatest_scale (omega (arith, ints, from)) to

narrow_value : (road : Road) → IsAccepted road → (box : BoxRange) (scale : ℤ) (mults : List (ℕ × ℤ)) → IsBoxOf road box → unsigned_abs scale ≤ greatest_scale → AreMultipliersBehind (road_row_count road) 0 mults → unsigned_abs (box_value road box scale mults) ≤ 2 ^ 86
narrow_value road a box scale mults fits s m =
    let program = box_program road box in
    let rows = are_multipliers program mults (on_rows road box program mults refl m) in
    part_small program scale (dense (row_count program) mults) (column_count program) (box_value road box scale mults) s rows.within (box_within_limits road a box fits).light (omega arith) refl

narrow_product : (a b : ℤ) → unsigned_abs a ≤ 2 ^ 86 → IsScale b → unsigned_abs (a *ℤ b) ≤ 2 ^ 126
narrow_product a b h s = let m = unsigned_abs_mul_le a b (2 ^ 86) (2 ^ 40) h (scale_small b s) in omega (arith, m)

pub narrow_values : (road : Road) → IsAccepted road → HasNarrowValues road
narrow_values road a = record {
  value = λ box scale mults fits s m. narrow_value road a box scale mults fits s m;
  comparison = λ box scale mults bound fits s m stated. record {
    value_side = narrow_product (box_value road box scale mults) bound.den (narrow_value road a box scale mults fits (scale_small scale s) m) stated.den_within;
    bound_side = narrow_product bound.num scale stated.num_within s;
  };
}
