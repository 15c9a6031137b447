-- How wide the hauls of a plan over hops are.
use Rattle.std.specs.Prelude.{ℕ, ◌≤◌, ◌*◌, ◌^◌, unsigned_abs}
use Rattle.road_types.specs.Numbered.{IsNumber}
use Rattle.road_types.specs.Road.{hop_count}
use Rattle.road_types.specs.declared.road.Road.{Road}
use Rattle.plan_rules.specs.Fits.{IsModerate}
use Rattle.plan_rules.specs.Plans.{amount}
use Rattle.plan_rules.specs.declared.plan.Plan.{Plan}

-- hauls over hops have at most 30 digits
pub record HasModerateHauls (plan : Plan) : Type 0 where
  pub right : (t h : ℕ) → IsModerate (amount plan.right t h)
  pub left : (t h : ℕ) → IsModerate (amount plan.left t h)

-- hauls over hops are within their caps
pub record HasPayableHauls (road : Road) (plan : Plan) : Type 0 where
  pub right : (t h : ℕ) → IsNumber t road.stages → IsNumber h (hop_count road) → unsigned_abs (amount plan.right t h) ≤ 10 ^ 14 * 2 ^ 40
  pub left : (t h : ℕ) → IsNumber t road.stages → IsNumber h (hop_count road) → unsigned_abs (amount plan.left t h) ≤ 10 ^ 14 * 2 ^ 40
