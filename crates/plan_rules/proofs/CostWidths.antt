-- How large the costs of a plan are whose amounts are within their caps.
use Rattle.std.proofs.Common.{◌≡◌, ℕ, ◌*◌, ◌^◌, ◌≤◌, arith, Bool, true, false, cond}
use Rattle.std.specs.Prelude.{ℤ, pos, ◌+ℤ◌, ◌*ℤ◌, unsigned_abs}
use Rattle.std.proofs.lemmas.Int.{ints}
use Rattle.algebra.proofs.Magnitudes.{unsigned_abs_mul_le}
use Rattle.algebra.proofs.SumsLemmas.{unsigned_abs_sum_to}
use Rattle.algebra.specs.Scale.{IsScale}
use Rattle.road_types.specs.Numbered.{IsNumber}
use Rattle.road_types.specs.Road.{section, hop, pit, access, block, block_count}
use Rattle.road_types.specs.WellFormed.{IsWellFormed, IsCost}
use Rattle.road_types.specs.declared.road.Road.{Road}
use Rattle.plan_rules.specs.declared.costs.Movement.{Movement}
use Rattle.plan_rules.specs.declared.costs.Movement.TheVariants.{Cut, Fill, Right, Left, Access}
use Rattle.plan_rules.specs.declared.plan.Plan.{Plan}
use Rattle.plan_rules.specs.Plans.{amount}
use Rattle.plan_rules.specs.Costs.{amounts_of, entry_count, entry_unit_cost, entry_cost, stage_cost, removal_cost}
use Rattle.plan_rules.specs.inside.Widths.{IsPayable}

pub cost_width : (x : ℤ) → IsCost x → unsigned_abs x ≤ 10 ^ 6
cost_width x h = omega (arith, ints, h.at_least, h.at_most)

some_cost : (x : ℤ) → IsCost x → unsigned_abs x ≤ 2 * 10 ^ 6
some_cost x h = omega (arith, ints, h.at_least, h.at_most)

access_cost : (x y : ℤ) → IsCost x → IsCost y → unsigned_abs (x +ℤ y) ≤ 2 * 10 ^ 6
access_cost x y p q = omega (arith, ints, p.at_least, p.at_most, q.at_least, q.at_most)

unit_cost_width : (road : Road) → IsWellFormed road → (m : Movement) (i : ℕ) → IsNumber i (entry_count road m) → unsigned_abs (entry_unit_cost road m i) ≤ 2 * 10 ^ 6
unit_cost_width road ok Cut i n = some_cost (section road i).cut_cost (ok.sections i n).cut_cost
unit_cost_width road ok Fill i n = some_cost (section road i).fill_cost (ok.sections i n).fill_cost
unit_cost_width road ok Right h n = some_cost (hop road h).right_cost (ok.hops h n).right_cost
unit_cost_width road ok Left h n = some_cost (hop road h).left_cost (ok.hops h n).left_cost
unit_cost_width road ok Access q n =
    let a = ok.roads q n in
    access_cost (access road q).cost (pit road (access road q).pit).cost a.cost (ok.pits (access road q).pit a.pit).cost

pub entry_cost_width : (road : Road) (plan : Plan) → IsWellFormed road → IsPayable road plan → (m : Movement) (t i : ℕ) → IsNumber t road.stages → IsNumber i (entry_count road m)
    → unsigned_abs (entry_cost road plan m t i) ≤ 2 * 10 ^ 20 * 2 ^ 40
entry_cost_width road plan ok paid m t i stage number =
    omega (arith, unsigned_abs_mul_le (entry_unit_cost road m i) (amount (amounts_of plan m) t i) (2 * 10 ^ 6) (10 ^ 14 * 2 ^ 40) (unit_cost_width road ok m i number) (paid.each m t i stage number))

-- a stage has at most 60 entries of a kind
pub few_entries : (road : Road) → IsWellFormed road → (m : Movement) → entry_count road m ≤ 60
few_entries road ok Cut = ok.counted.sections_to
few_entries road ok Fill = ok.counted.sections_to
few_entries road ok Right = omega (arith, ok.counted.sections_to, ok.counted.hops_count)
few_entries road ok Left = omega (arith, ok.counted.sections_to, ok.counted.hops_count)
few_entries road ok Access = omega (arith, ok.counted.roads_to)

pub stage_cost_width : (road : Road) (plan : Plan) → IsWellFormed road → IsPayable road plan → (m : Movement) (t : ℕ) → IsNumber t road.stages
    → unsigned_abs (stage_cost road plan m t) ≤ 12 * 10 ^ 21 * 2 ^ 40
unfolding stage_cost
stage_cost_width road plan ok paid m t stage =
    let entries = unsigned_abs_sum_to (entry_cost road plan m t) (2 * 10 ^ 20 * 2 ^ 40) (entry_count road m)
    (λ i low high. entry_cost_width road plan ok paid m t i stage (record { from_one = low; at_most = high })) in
    omega (arith, entries, few_entries road ok m)

pub removal_width : (den cost : ℤ) → IsScale den → IsCost cost → unsigned_abs (den *ℤ cost) ≤ 2 ^ 60
removal_width den cost d h =
    let wide : unsigned_abs den ≤ 2 ^ 40 = omega (arith, ints, d.from_one, d.at_most) in
    omega (arith, unsigned_abs_mul_le den cost (2 ^ 40) (10 ^ 6) wide (cost_width cost h))

choice_width : (b : Bool) (x : ℤ) (n : ℕ) → unsigned_abs x ≤ n → unsigned_abs (cond b x (pos 0)) ≤ n
choice_width true x n h = h
choice_width false x n h = omega arith

pub removal_cost_width : (road : Road) (plan : Plan) → IsWellFormed road → IsScale plan.den → (k : ℕ) → IsNumber k (block_count road) → unsigned_abs (removal_cost road plan k) ≤ 2 ^ 60
removal_cost_width road plan ok den k number =
    choice_width _ (plan.den *ℤ (block road k).cost) (2 ^ 60) (removal_width plan.den (block road k).cost den (ok.blocks k number).cost)

-- the five totals, added one after the other

pub four_totals : (a b c d x y : ℤ) → x ≡ a +ℤ b → y ≡ x +ℤ c → unsigned_abs a ≤ 48 * 10 ^ 21 * 2 ^ 40 → unsigned_abs b ≤ 48 * 10 ^ 21 * 2 ^ 40
    → unsigned_abs c ≤ 96 * 10 ^ 21 * 2 ^ 40 → unsigned_abs d ≤ 48 * 10 ^ 21 * 2 ^ 40 → unsigned_abs (y +ℤ d) ≤ 240 * 10 ^ 21 * 2 ^ 40
four_totals a b c d x y e f p q r s = omega (arith, ints, e, f, p, q, r, s)

pub five_totals : (y e : ℤ) → unsigned_abs y ≤ 240 * 10 ^ 21 * 2 ^ 40 → unsigned_abs e ≤ 2 ^ 62 → unsigned_abs (y +ℤ e) ≤ 2 ^ 118
five_totals y e p q = omega (arith, ints, p, q)
