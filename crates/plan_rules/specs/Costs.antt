-- What a plan costs, over its denominator: the sum of five totals, for cut, fill, hauls, access roads and removals. Also which
-- plans undercut a fraction.
use Rattle.std.specs.Prelude.{ℕ, nat_le, if◌then◌else◌, List, ℤ, pos, ◌+ℤ◌, ◌*ℤ◌, ◌<ℤ◌}
use Rattle.algebra.specs.Sums.{sum_to}
use Rattle.road_types.specs.Road.{section, hop, block, section_count, hop_count, access_count, block_count, access_unit_cost}
use Rattle.road_types.specs.declared.road.Road.{Road}
use Rattle.plan_rules.specs.declared.costs.Movement.{Movement}
use Rattle.plan_rules.specs.declared.costs.Movement.TheVariants.{Cut, Fill, Right, Left, Access}
use Rattle.plan_rules.specs.declared.plan.Plan.{Plan}
use Rattle.plan_rules.specs.Plans.{IsPlanOf, amount, opening}

-- ---- what is moved: for each kind its amounts, how many there are in a stage, and the unit cost of each

abbrev pub amounts_of : Plan → Movement → List (List ℤ)
amounts_of plan Cut = plan.cut
amounts_of plan Fill = plan.fill
amounts_of plan Right = plan.right
amounts_of plan Left = plan.left
amounts_of plan Access = plan.roads

abbrev pub entry_count : Road → Movement → ℕ
entry_count road Cut = section_count road
entry_count road Fill = section_count road
entry_count road Right = hop_count road
entry_count road Left = hop_count road
entry_count road Access = access_count road

abbrev pub entry_unit_cost : Road → Movement → ℕ → ℤ
entry_unit_cost road Cut i = (section road i).cut_cost
entry_unit_cost road Fill i = (section road i).fill_cost
entry_unit_cost road Right h = (hop road h).right_cost
entry_unit_cost road Left h = (hop road h).left_cost
entry_unit_cost road Access q = access_unit_cost road q

-- unit cost times amount
abbrev pub entry_cost : Road → Plan → Movement → ℕ → ℕ → ℤ
entry_cost road plan m t i = entry_unit_cost road m i *ℤ amount (amounts_of plan m) t i

-- all entries of stage t
unfoldable pub stage_cost : Road → Plan → Movement → ℕ → ℤ
stage_cost road plan m t = sum_to (entry_cost road plan m t) (entry_count road m)

-- all stages
unfoldable pub movement_cost : Road → Plan → Movement → ℤ
movement_cost road plan m = sum_to (stage_cost road plan m) road.stages

-- the removal of block k, which is paid where it opens in one of the road's stages
abbrev pub removal_cost : Road → Plan → ℕ → ℤ
removal_cost road plan k = if nat_le (opening plan k) road.stages then plan.den *ℤ (block road k).cost else pos 0

-- ---- the five totals and their sum

abbrev pub cut_total : Road → Plan → ℤ
cut_total road plan = movement_cost road plan Cut

abbrev pub fill_total : Road → Plan → ℤ
fill_total road plan = movement_cost road plan Fill

-- hauls to the right and to the left
abbrev pub haul_total : Road → Plan → ℤ
haul_total road plan = movement_cost road plan Right +ℤ movement_cost road plan Left

-- access roads with their pits
abbrev pub access_total : Road → Plan → ℤ
access_total road plan = movement_cost road plan Access

unfoldable pub removal_total : Road → Plan → ℤ
removal_total road plan = sum_to (removal_cost road plan) (block_count road)

unfoldable pub cost_of : Road → Plan → ℤ
cost_of road plan =
    (((cut_total road plan +ℤ fill_total road plan) +ℤ haul_total road plan) +ℤ access_total road plan)
    +ℤ removal_total road plan

-- a plan of the road that costs less than num/den, where den is at least 1
pub record Undercuts (road : Road) (plan : Plan) (num den : ℤ) : Type 0 where
  pub is_plan : IsPlanOf road plan
  pub less : (cost_of road plan *ℤ den) <ℤ (num *ℤ plan.den)
