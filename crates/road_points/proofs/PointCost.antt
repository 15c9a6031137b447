-- What the point of a plan costs is what the plan costs.
use Rattle.std.proofs.Common.{◌≡◌, ℕ, zero, suc, ◌+◌, ◌-◌, ◌≤◌, ◌<◌, Bool, true, false, List, [], ◌∷◌, ◌++◌, map, length, arith, ap, sym, ◌∙◌, refl, ⊎_elim}
use Rattle.std.specs.Prelude.{ℤ, pos, ◌+ℤ◌, ◌*ℤ◌, ◌==◌, nat_le, if◌then◌else◌}
use Rattle.std.proofs.lemmas.Int.{ints}
use Rattle.std.proofs.lemmas.Bool.{cases_lt}
use Rattle.std.proofs.lemmas.Bool.Decides.{nat_tests}
use Rattle.algebra.specs.Lists.{list_to, flat_to}
use Rattle.algebra.specs.Sums.{sum_to}
use Rattle.algebra.proofs.Products.{int_zero_mul, int_mul_zero, int_mul_comm}
use Rattle.algebra.proofs.SumsLemmas.{sum_to_ext, sum_to_zero, sum_to_add, sum_to_only}
use Rattle.road_types.specs.Numbered.{numbered, IsNumber}
use Rattle.road_types.specs.Road.{block, section_count, segment_count, hop_count, access_count, block_count}
use Rattle.road_types.specs.Columns.{columns_of, segment_columns, stage_columns, block_columns, unit_cost}
use Rattle.road_types.specs.declared.road.Road.{Road}
use Rattle.road_types.specs.declared.column.Column.{Column}
use Rattle.road_types.specs.declared.column.Column.TheVariants.{A, B, C, Offset, Cut, Fill, Right, Left, Access, Opened}
use Rattle.plan_rules.specs.declared.plan.Plan.{Plan}
use Rattle.plan_rules.specs.Plans.{opening}
use Rattle.plan_rules.specs.Rules.{IsOpening}
use Rattle.plan_rules.specs.Costs.{stage_cost, movement_cost, removal_cost, removal_total, cost_of}
use Rattle.road_points.specs.PlanPoints.{value_in}
use Rattle.road_points.proofs.Shows.{opened_by}
use Rattle.road_points.proofs.PointShows.{opened_before}

-- ---- sums over kinds

pub kind_sum : (Column → ℤ) → List Column → ℤ
kind_sum g [] = pos 0
kind_sum g (x ∷ xs) = g x +ℤ kind_sum g xs

sum_first : (f : ℕ → ℤ) (n : ℕ) → sum_to f (suc n) ≡ f 1 +ℤ sum_to (λ k. f (suc k)) n
sum_first f zero = omega (arith, ints)
sum_first f (suc n) = let before = sum_first f n in omega (arith, ints)

pub sum_of_maps : (c v : Column → ℤ) (xs : List Column) → sum_to (λ j. numbered (pos 0) (map c xs) j *ℤ numbered (pos 0) (map v xs) j) (length xs) ≡ kind_sum (λ x. c x *ℤ v x) xs
unfolding kind_sum
sum_of_maps c v [] = refl
sum_of_maps c v (x ∷ xs) =
    sum_first (λ j. numbered (pos 0) (map c (x ∷ xs)) j *ℤ numbered (pos 0) (map v (x ∷ xs)) j) (length xs)
    ∙ ap (λ y. c x *ℤ v x +ℤ y)
    (sum_to_ext (λ k. numbered (pos 0) (map c (x ∷ xs)) (suc k) *ℤ numbered (pos 0) (map v (x ∷ xs)) (suc k)) (λ j. numbered (pos 0) (map c xs) j *ℤ numbered (pos 0) (map v xs) j) (length xs) next
    ∙ sum_of_maps c v xs)
  where
    next : (k : ℕ) → 1 ≤ k → k ≤ length xs → numbered (pos 0) (map c (x ∷ xs)) (suc k) *ℤ numbered (pos 0) (map v (x ∷ xs)) (suc k) ≡ numbered (pos 0) (map c xs) k *ℤ numbered (pos 0) (map v xs) k
    next zero low high = absurd (omega arith)
    next (suc k) low high = refl

module _ (g : Column → ℤ) where
  kind_sum-append : (xs ys : List Column) → kind_sum g (xs ++ ys) ≡ kind_sum g xs +ℤ kind_sum g ys
  unfolding kind_sum
  kind_sum-append [] ys = omega (arith, ints)
  kind_sum-append (x ∷ xs) ys = let rest = kind_sum-append xs ys in omega (arith, ints)

  kind_sum-list_to : (f : ℕ → Column) (n : ℕ) → kind_sum g (list_to f n) ≡ sum_to (λ k. g (f k)) n
  unfolding kind_sum
  kind_sum-list_to f zero = refl
  kind_sum-list_to f (suc n) = let before = kind_sum-list_to f n in omega (arith, ints, kind_sum-append (list_to f n) (f (suc n) ∷ []))

  kind_sum-flat_to : (f : ℕ → List Column) (n : ℕ) → kind_sum g (flat_to f n) ≡ sum_to (λ k. kind_sum g (f k)) n
  unfolding kind_sum
  kind_sum-flat_to f zero = refl
  kind_sum-flat_to f (suc n) = let before = kind_sum-flat_to f n in omega (arith, ints, kind_sum-append (flat_to f n) (f (suc n)))

-- ---- the costs of a plan by kinds

module _ (road : Road) (plan : Plan) where
  -- the unit cost of a kind times the plan's number in it
  abbrev cost_in : Column → ℤ
  cost_in kind = unit_cost road kind *ℤ value_in road plan kind

  segment_costs : kind_sum cost_in (flat_to segment_columns (segment_count road)) ≡ pos 0
  unfolding kind_sum
  segment_costs =
      kind_sum-flat_to cost_in segment_columns (segment_count road)
      ∙ sum_to_zero (λ g. kind_sum cost_in (segment_columns g)) (segment_count road) (λ g low high. omega (arith, ints, int_zero_mul (value_in road plan (A g)), int_zero_mul (value_in road plan (B g)), int_zero_mul (value_in road plan (C g))))

  offset_costs : kind_sum cost_in (list_to (λ i. Offset i) (section_count road)) ≡ pos 0
  offset_costs =
      kind_sum-list_to cost_in (λ i. Offset i) (section_count road)
      ∙ sum_to_zero (λ i. cost_in (Offset i)) (section_count road) (λ i low high. int_zero_mul (value_in road plan (Offset i)))

  abbrev cuts : ℕ → ℤ
  cuts t = sum_to (λ i. cost_in (Cut i t)) (section_count road)

  abbrev fills : ℕ → ℤ
  fills t = sum_to (λ i. cost_in (Fill i t)) (section_count road)

  abbrev rights : ℕ → ℤ
  rights t = sum_to (λ h. cost_in (Right h t)) (hop_count road)

  abbrev lefts : ℕ → ℤ
  lefts t = sum_to (λ h. cost_in (Left h t)) (hop_count road)

  abbrev accesses : ℕ → ℤ
  accesses t = sum_to (λ q. cost_in (Access q t)) (access_count road)

  stage_costs : (t : ℕ) → kind_sum cost_in (stage_columns road t) ≡ cuts t +ℤ (fills t +ℤ (rights t +ℤ (lefts t +ℤ accesses t)))
  stage_costs t =
      let c = list_to (λ i. Cut i t) (section_count road) in
      let f = list_to (λ i. Fill i t) (section_count road) in
      let r = list_to (λ h. Right h t) (hop_count road) in
      let l = list_to (λ h. Left h t) (hop_count road) in
      let a = list_to (λ q. Access q t) (access_count road) in
      omega (
        arith,
        ints,
        kind_sum-append cost_in c (f ++ (r ++ (l ++ a))),
        kind_sum-append cost_in f (r ++ (l ++ a)),
        kind_sum-append cost_in r (l ++ a),
        kind_sum-append cost_in l a,
        kind_sum-list_to cost_in (λ i. Cut i t) (section_count road),
        kind_sum-list_to cost_in (λ i. Fill i t) (section_count road),
        kind_sum-list_to cost_in (λ h. Right h t) (hop_count road),
        kind_sum-list_to cost_in (λ h. Left h t) (hop_count road),
        kind_sum-list_to cost_in (λ q. Access q t) (access_count road),
      )

  all_stage_costs : kind_sum cost_in (flat_to (stage_columns road) road.stages)
      ≡ sum_to cuts road.stages +ℤ (sum_to fills road.stages +ℤ (sum_to rights road.stages +ℤ (sum_to lefts road.stages +ℤ sum_to accesses road.stages)))
  all_stage_costs =
      kind_sum-flat_to cost_in (stage_columns road) road.stages
      ∙ sum_to_ext (λ t. kind_sum cost_in (stage_columns road t)) (λ t. cuts t +ℤ (fills t +ℤ (rights t +ℤ (lefts t +ℤ accesses t)))) road.stages (λ t low high. stage_costs t)
      ∙ sum_to_add cuts (λ t. fills t +ℤ (rights t +ℤ (lefts t +ℤ accesses t))) road.stages
      ∙ ap (λ x. sum_to cuts road.stages +ℤ x)
      (sum_to_add fills (λ t. rights t +ℤ (lefts t +ℤ accesses t)) road.stages
      ∙ ap (λ x. sum_to fills road.stages +ℤ x)
      (sum_to_add rights (λ t. lefts t +ℤ accesses t) road.stages
      ∙ ap (λ x. sum_to rights road.stages +ℤ x) (sum_to_add lefts accesses road.stages)))

  -- ---- removals

  module _ (openings : (k : ℕ) → IsNumber k (block_count road) → IsOpening road (opening plan k)) (stages : 1 ≤ road.stages) where
    at_last : (k before : ℕ) → before + 1 ≡ road.stages → cost_in (Opened k (before + 1)) ≡ (block road k).cost *ℤ opened_by plan k road.stages
    at_last k before e =
        let test : ((before + 1) == road.stages) ≡ true = grind (arith, nat_tests) in
        ap (λ b. (if b then (block road k).cost else pos 0) *ℤ opened_by plan k (before + 1)) test ∙ ap (λ t. (block road k).cost *ℤ opened_by plan k t) e

    before_last : (k before : ℕ) → (before + 1 ≡ road.stages → ⊥) → cost_in (Opened k (before + 1)) ≡ pos 0
    before_last k before h =
        let test : ((before + 1) == road.stages) ≡ false = grind (arith, nat_tests) in
        ap (λ b. (if b then (block road k).cost else pos 0) *ℤ opened_by plan k (before + 1)) test ∙ int_zero_mul (opened_by plan k (before + 1))

    removal_is : (k : ℕ) → (block road k).cost *ℤ opened_by plan k road.stages ≡ removal_cost road plan k
    removal_is k = by_test (nat_le (opening plan k) road.stages)
      where
        by_test : (b : Bool) → (block road k).cost *ℤ (if b then plan.den else pos 0) ≡ (if b then plan.den *ℤ (block road k).cost else pos 0)
        by_test true = int_mul_comm (block road k).cost plan.den
        by_test false = int_mul_zero (block road k).cost

    block_costs : (k : ℕ) → IsNumber k (block_count road) → kind_sum cost_in (block_columns road k) ≡ removal_cost road plan k
    block_costs k n =
        kind_sum-list_to cost_in (λ before. Opened k (before + 1)) (road.stages - 1)
        ∙ ⊎_elim
        (λ (l : 1 < road.stages).
        sum_to_only (λ before. cost_in (Opened k (before + 1))) (road.stages - 1) (road.stages - 1) (omega arith) (omega arith) (λ b low high other. before_last k b (λ e. other (omega arith)))
        ∙ at_last k (road.stages - 1) (omega arith)
        ∙ removal_is k)
        (λ (l : road.stages ≤ 1).
        let none : road.stages - 1 ≡ 0 = omega arith in
        let closed = opened_before plan k road.stages (omega (arith, (openings k n).from_two)) in
        ap (sum_to (λ before. cost_in (Opened k (before + 1)))) none
        ∙ sym (ap (λ x. (block road k).cost *ℤ x) closed ∙ int_mul_zero (block road k).cost)
        ∙ removal_is k)
        (cases_lt 1 road.stages)

    all_block_costs : kind_sum cost_in (flat_to (block_columns road) (block_count road)) ≡ sum_to (removal_cost road plan) (block_count road)
    all_block_costs =
        kind_sum-flat_to cost_in (block_columns road) (block_count road)
        ∙ sum_to_ext (λ k. kind_sum cost_in (block_columns road k)) (removal_cost road plan) (block_count road) (λ k low high. block_costs k (record { from_one = low; at_most = high }))

    -- ---- all together

    pub cost_by_kinds : kind_sum cost_in (columns_of road) ≡ cost_of road plan
    unfolding columns_of cost_of movement_cost stage_cost removal_total
    cost_by_kinds =
        let s = flat_to segment_columns (segment_count road) in
        let o = list_to (λ i. Offset i) (section_count road) in
        let t = flat_to (stage_columns road) road.stages in
        let b = flat_to (block_columns road) (block_count road) in
        omega (
          arith,
          ints,
          kind_sum-append cost_in s (o ++ (t ++ b)),
          kind_sum-append cost_in o (t ++ b),
          kind_sum-append cost_in t b,
          segment_costs,
          offset_costs,
          all_stage_costs,
          all_block_costs,
        )
