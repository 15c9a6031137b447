-- What a verdict says of a plan: that it is admissible, with its cost, or which rule it breaks first, with stage and place.
use Rattle.std.specs.Prelude.{◌≡◌, ◌^◌, ◌≤◌, ⊤, ℤ, unsigned_abs}
use Rattle.road_types.specs.declared.road.Road.{Road}
use Rattle.plan_rules.specs.declared.plan.Plan.{Plan}
use Rattle.plan_rules.specs.declared.verdict.Verdict.{Verdict}
use Rattle.plan_rules.specs.declared.verdict.Verdict.TheVariants.{Admissible, Broken}
use Rattle.plan_rules.specs.Rules.{IsAdmissible, IsFirstBroken}
use Rattle.plan_rules.specs.Costs.{cost_of}

-- admissible, at the plan's cost
pub record IsPriced (road : Road) (plan : Plan) (cost : ℤ) : Type 0 where
  pub admissible : IsAdmissible road plan
  pub cost_is : cost ≡ cost_of road plan

-- admissible with the cost, or the first broken rule with its stage and place
abbrev pub IsVerdict : Road → Plan → Verdict → Type 0
IsVerdict road plan (Admissible cost) = IsPriced road plan cost
IsVerdict road plan (Broken rule stage place) = IsFirstBroken road plan rule stage place

-- a cost of a magnitude of at most 2^118, so that it has lowest terms over the plan's denominator
abbrev pub HasNarrowCost : Verdict → Type 0
HasNarrowCost (Admissible cost) = unsigned_abs cost ≤ 2 ^ 118
HasNarrowCost (Broken rule stage place) = ⊤
