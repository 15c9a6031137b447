-- How large the numbers of a plan may be where sums and products of them are made: pieces within the limits of a road, amounts
-- within their caps.
use Rattle.std.specs.Prelude.{ℕ, ◌^◌, ◌*◌, ◌≤◌, ℤ, unsigned_abs}
use Rattle.road_types.specs.Numbered.{IsNumber}
use Rattle.road_types.specs.declared.road.Road.{Road}
use Rattle.plan_rules.specs.declared.plan.Piece.{Piece}
use Rattle.plan_rules.specs.declared.plan.Plan.{Plan}
use Rattle.plan_rules.specs.declared.costs.Movement.{Movement}
use Rattle.plan_rules.specs.Plans.{amount}
use Rattle.plan_rules.specs.Costs.{amounts_of, entry_count}

-- a piece within the limits of a road, over a denominator
pub record IsSmallPiece (p : Piece) : Type 0 where
  pub a : unsigned_abs p.a ≤ 2 ^ 64
  pub b : unsigned_abs p.b ≤ 2 ^ 60
  pub c : unsigned_abs p.c ≤ 2 ^ 60

-- a litre amount within its cap, over a denominator
abbrev pub IsPayableAmount : ℤ → Type 0
IsPayableAmount x = unsigned_abs x ≤ 10 ^ 14 * 2 ^ 40

-- all amounts are within their caps
pub record IsPayable (road : Road) (plan : Plan) : Type 0 where
  pub each : (m : Movement) (t i : ℕ) → IsNumber t road.stages → IsNumber i (entry_count road m) → IsPayableAmount (amount (amounts_of plan m) t i)
