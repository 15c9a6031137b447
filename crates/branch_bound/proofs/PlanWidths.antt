-- How large an admissible plan over a denominator within the limit is: it fits, and its cost is at most 2^86.
use Rattle.std.proofs.Common.{◌≡◌, ℕ, ◌+◌, ◌-◌, ◌*◌, ◌≤◌, ◌^◌, max, List, sym, subst, arith, ⊎_elim}
use Rattle.std.specs.Prelude.{ℤ, pos, neg_ℤ, ◌*ℤ◌, ◌≤ℤ◌, unsigned_abs}
use Rattle.std.proofs.lemmas.Int.{ints}
use Rattle.std.proofs.lemmas.Nat.{mul-le}
use Rattle.std.proofs.Math.Nat.{mul_assoc}
use Rattle.algebra.specs.Scale.{IsScale}
use Rattle.algebra.specs.Totals.{total_to}
use Rattle.algebra.specs.Numbered.{IsNumber}
use Rattle.algebra.proofs.Order.{int_mul_le_right}
use Rattle.algebra.proofs.Magnitudes.{unsigned_abs_le, unsigned_abs_mul_le, le_unsigned_abs, neg_unsigned_abs_le}
use Rattle.algebra.proofs.TotalsLemmas.{total_to_le, total_to_mul_right, unsigned_abs_sum_to_total}
use Rattle.programs.specs.Programs.{Program, column_count, bounds_at, cost_at}
use Rattle.programs.specs.Points.{IsPoint, IsInBoundsAt, cost_share, cost_of_point, numerator_at}
use Rattle.programs.specs.Weights.{reach, column_weight, load_of_rows}
use Rattle.programs.specs.Limits.{IsWithinLimits}
use Rattle.road_types.specs.WellFormed.{IsWellFormed, IsCap}
use Rattle.road_types.specs.Road.{section, hop, access, section_count, segment_count, access_count}
use Rattle.road_types.specs.declared.road.Road.{Road}
use Rattle.plan_rules.specs.declared.plan.Plan.{Plan}
use Rattle.plan_rules.specs.Plans.{IsTableOf, amount, piece_of, no_piece}
use Rattle.plan_rules.specs.Fits.{Fits, IsModerate, IsModeratePiece}
use Rattle.plan_rules.specs.Rules.{IsWithin, IsAdmissible}
use Rattle.road_points.proofs.PlanFacts.{facts_of_admissible}
use Rattle.road_points.proofs.PointShows.{is_number_or_not, both_or_not, amount_none, numbered_none}

-- ---- an admissible plan fits

-- a number between two limits over a denominator within the greatest scale
scaled_small : (low high den x : ℤ) (m : ℕ) → neg_ℤ (pos m) ≤ℤ low → high ≤ℤ pos m → m ≤ 10 ^ 14 → IsScale den → IsWithin low high den x → IsModerate x
scaled_small low high den x m l h few d w =
    let from_one = d.from_one in
    let positive : pos 0 ≤ℤ den = omega (arith, ints) in
    let lower = int_mul_le_right (neg_ℤ (pos (10 ^ 14))) low den positive (omega (arith, ints)) in
    let upper = int_mul_le_right high (pos (10 ^ 14)) den positive (omega (arith, ints)) in
    omega (arith, ints, lower, upper, w.at_least, w.at_most, d.at_most)

zero_moderate : (x : ℤ) → x ≡ pos 0 → IsModerate x
zero_moderate x e = omega (arith, ints)

capped_moderate : (cap den x : ℤ) → IsCap cap → IsScale den → IsWithin (pos 0) cap den x → IsModerate x
capped_moderate cap den x c d w = scaled_small (pos 0) cap den x (10 ^ 14) (omega (arith, ints)) (omega (arith, ints, c.at_most)) (omega arith) d w

-- every amount of a table is moderate where those of its stages and entries are
table_moderate : (stages entries : ℕ) (rows : List (List ℤ)) → IsTableOf stages entries rows
    → ((t i : ℕ) → IsNumber t stages → IsNumber i entries → IsModerate (amount rows t i)) → (t i : ℕ) → IsModerate (amount rows t i)
table_moderate stages entries rows table h t i =
    ⊎_elim
    (λ (n : IsNumber i entries × IsNumber t stages). h t i n.1 n.0)
    (λ (n : (IsNumber i entries × IsNumber t stages) → ⊥). zero_moderate (amount rows t i) (amount_none stages entries t i rows table n))
    (both_or_not i entries t stages)

no_piece_moderate : IsModeratePiece no_piece
no_piece_moderate = record { a = omega arith; b = omega arith; c = omega arith }

pub admissible_fits : (road : Road) (plan : Plan) → IsWellFormed road → IsScale plan.den → IsAdmissible road plan → Fits road plan
admissible_fits road plan well d admissible =
    let f = facts_of_admissible road plan admissible in
    let p = admissible.is_plan in
    record {
      is_plan = p;
      den = d;
      pieces = λ g. ⊎_elim
          (λ (n : IsNumber g (segment_count road)).
          let limits = f.limits g n in
          record {
            a = scaled_small road.low road.high plan.den (piece_of plan g).a 10000000 well.low.at_least well.high.at_most (omega arith) d limits.height;
            b = scaled_small road.grade.0 road.grade.1 plan.den (piece_of plan g).b 1000000 well.grade_low.at_least well.grade_high.at_most (omega arith) d limits.grade;
            c = scaled_small (neg_ℤ road.curve) road.curve plan.den (piece_of plan g).c 1000000 (omega (arith, ints, well.curve.at_most)) well.curve.at_most (omega arith) d limits.curve;
          })
          (λ (n : IsNumber g (segment_count road) → ⊥).
          subst IsModeratePiece (sym (numbered_none no_piece plan.pieces g (λ m. n (subst (IsNumber g) p.pieces m)))) no_piece_moderate)
          (is_number_or_not g (segment_count road));
      cut = table_moderate road.stages (section_count road) plan.cut p.cut
          (λ t i m n. capped_moderate (section road i).cut_max plan.den (amount plan.cut t i) (well.sections i n).cut_max d (f.cut t i m n));
      fill = table_moderate road.stages (section_count road) plan.fill p.fill
          (λ t i m n. capped_moderate (section road i).fill_max plan.den (amount plan.fill t i) (well.sections i n).fill_max d (f.fill t i m n));
      right = table_moderate road.stages (section_count road - 1) plan.right p.right
          (λ t i m n. capped_moderate (hop road i).right_max plan.den (amount plan.right t i) (well.hops i (subst (IsNumber i) (sym well.counted.hops_count) n)).right_max d (f.right t i m n));
      left = table_moderate road.stages (section_count road - 1) plan.left p.left
          (λ t i m n. capped_moderate (hop road i).left_max plan.den (amount plan.left t i) (well.hops i (subst (IsNumber i) (sym well.counted.hops_count) n)).left_max d (f.left t i m n));
      roads = table_moderate road.stages (access_count road) plan.roads p.roads
          (λ t i m n. capped_moderate (access road i).max plan.den (amount plan.roads t i) (well.roads i n).max d (f.roads t i m n));
    }

-- ---- the cost of a point

max_left : (m n : ℕ) → m ≤ max m n
max_left m n = grind arith

max_right : (m n : ℕ) → n ≤ max m n
max_right m n = grind arith

-- a number within bounds over a denominator reaches as far as the bounds, times the denominator
reach_of : (b : ℤ × ℤ) (den x : ℤ) → pos 0 ≤ℤ den → (b.0 *ℤ den) ≤ℤ x → x ≤ℤ (b.1 *ℤ den) → unsigned_abs x ≤ reach b * unsigned_abs den
reach_of b den x positive l h =
    let low = unsigned_abs_mul_le b.0 den (reach b) (unsigned_abs den) (max_left (unsigned_abs b.0) (unsigned_abs b.1)) (omega arith) in
    let high = unsigned_abs_mul_le b.1 den (reach b) (unsigned_abs den) (max_right (unsigned_abs b.0) (unsigned_abs b.1)) (omega arith) in
    let below = neg_unsigned_abs_le (b.0 *ℤ den) in
    let above = le_unsigned_abs (b.1 *ℤ den) in
    unsigned_abs_le x (reach b * unsigned_abs den) (omega (arith, ints)) (omega (arith, ints))

-- a column's share of the cost
share_width : (program : Program) (den : ℤ) (point : List ℤ) (j : ℕ) → pos 0 ≤ℤ den → IsInBoundsAt program den point j
    → unsigned_abs (cost_share program point j) ≤ column_weight program j * unsigned_abs den
share_width program den point j positive w =
    let d = unsigned_abs den in
    let c = unsigned_abs (cost_at program j) in
    let r = reach (bounds_at program j) in
    let load = load_of_rows j program.rows in
    let x = reach_of (bounds_at program j) den (numerator_at point j) positive w.at_least w.at_most in
    let share = unsigned_abs_mul_le (cost_at program j) (numerator_at point j) c (r * d) (omega arith) x in
    let more = mul-le c (r * d) (load + c) (r * d) (omega arith) (omega arith) in
    let apart = mul_assoc (load + c) r d in
    omega (arith, share, more, apart)

pub cost_width : (program : Program) (den : ℤ) (point : List ℤ) → IsWithinLimits program → IsScale den → IsPoint program den point → unsigned_abs (cost_of_point program point) ≤ 2 ^ 86
cost_width program den point limits d h =
    let positive : pos 0 ≤ℤ den = let one = d.from_one in omega (arith, ints) in
    let n = column_count program in
    let all = unsigned_abs_sum_to_total (cost_share program point) n in
    let each = total_to_le (λ j. unsigned_abs (cost_share program point j)) (λ j. column_weight program j * unsigned_abs den) n
    (λ j low high. share_width program den point j positive (h.in_bounds.each j (record { from_one = low; at_most = high }))) in
    let apart = total_to_mul_right (unsigned_abs den) (column_weight program) n in
    let light : total_to (column_weight program) n ≤ 2 ^ 46 = let l = limits.light in omega arith in
    let small : unsigned_abs den ≤ 2 ^ 40 = let one = d.from_one in let top = d.at_most in omega (arith, ints) in
    let product : total_to (column_weight program) n * unsigned_abs den ≤ 2 ^ 46 * 2 ^ 40 = mul-le (total_to (column_weight program) n) (unsigned_abs den) (2 ^ 46) (2 ^ 40) light small in
    omega (arith, all, each, apart, product)
