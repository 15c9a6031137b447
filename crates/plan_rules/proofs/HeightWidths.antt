-- How large heights and grades are where a plan's segments are within the road's limits.
use Rattle.std.proofs.Common.{ℕ, ◌*◌, ◌^◌, ◌≤◌, arith}
use Rattle.std.specs.Prelude.{ℤ, ◌*ℤ◌, neg_ℤ, unsigned_abs}
use Rattle.std.proofs.lemmas.Int.{ints}
use Rattle.algebra.proofs.Magnitudes.{unsigned_abs_mul_le}
use Rattle.road_types.specs.Numbered.{IsNumber}
use Rattle.road_types.specs.Road.{segment_count}
use Rattle.road_types.specs.WellFormed.{IsWellFormed, IsHeight}
use Rattle.road_types.specs.declared.road.Road.{Road}
use Rattle.plan_rules.specs.declared.plan.Plan.{Plan}
use Rattle.plan_rules.specs.Plans.{piece_of}
use Rattle.plan_rules.specs.Fits.{Fits}
use Rattle.plan_rules.specs.Rules.{IsWithin, IsLimited}
use Rattle.plan_rules.specs.inside.Widths.{IsSmallPiece}
use Rattle.algebra.specs.Scale.{IsScale}

-- a number between multiples of the denominator by numbers of magnitude at most n
pub within_width : (low high den x : ℤ) (n : ℕ) → IsScale den → unsigned_abs low ≤ n → unsigned_abs high ≤ n → IsWithin low high den x → unsigned_abs x ≤ n * 2 ^ 40
within_width low high den x n d p q h =
    let wide : unsigned_abs den ≤ 2 ^ 40 = omega (arith, ints, d.from_one, d.at_most) in
    let least = unsigned_abs_mul_le low den n (2 ^ 40) p wide in
    let most = unsigned_abs_mul_le high den n (2 ^ 40) q wide in
    omega (arith, ints, h.at_least, h.at_most)

pub small_piece : (road : Road) (plan : Plan) → IsWellFormed road → Fits road plan → IsLimited road plan → (g : ℕ) → IsNumber g (segment_count road) → IsSmallPiece (piece_of plan g)
small_piece road plan ok f limited g number =
    let den = f.den in
    let inside = limited.each g number in
    let low : unsigned_abs road.low ≤ 10000000 = omega (arith, ints, ok.low.at_least, ok.low.at_most) in
    let high : unsigned_abs road.high ≤ 10000000 = omega (arith, ints, ok.high.at_least, ok.high.at_most) in
    let grade_low : unsigned_abs road.grade.0 ≤ 1000000 = omega (arith, ints, ok.grade_low.at_least, ok.grade_low.at_most) in
    let grade_high : unsigned_abs road.grade.1 ≤ 1000000 = omega (arith, ints, ok.grade_high.at_least, ok.grade_high.at_most) in
    let curve : unsigned_abs road.curve ≤ 1000000 = omega (arith, ints, ok.curve.at_least, ok.curve.at_most) in
    let least : unsigned_abs (neg_ℤ road.curve) ≤ 1000000 = omega (arith, ints) in
    record {
      a = omega (arith, within_width road.low road.high plan.den (piece_of plan g).a 10000000 den low high inside.height);
      b = omega (arith, within_width road.grade.0 road.grade.1 plan.den (piece_of plan g).b 1000000 den grade_low grade_high inside.grade);
      c = omega (arith, within_width (neg_ℤ road.curve) road.curve plan.den (piece_of plan g).c 1000000 den least curve inside.curve);
    }

-- the height of the ground, over a denominator
pub ground_width : (den ground : ℤ) → IsScale den → IsHeight ground → unsigned_abs (den *ℤ ground) ≤ 2 ^ 64
ground_width den ground d h =
    let wide : unsigned_abs den ≤ 2 ^ 40 = omega (arith, ints, d.from_one, d.at_most) in
    let high : unsigned_abs ground ≤ 10000000 = omega (arith, ints, h.at_least, h.at_most) in
    omega (arith, unsigned_abs_mul_le den ground (2 ^ 40) 10000000 wide high)
