-- How far a scan over the rules has come: which places of a stage, of a rule and of lesser rules are kept, and the first broken
-- place of a stage and of a rule.
use Rattle.std.specs.Prelude.{ℕ, ◌<◌}
use Rattle.road_types.specs.declared.road.Road.{Road}
use Rattle.plan_rules.specs.declared.plan.Plan.{Plan}
use Rattle.plan_rules.specs.declared.verdict.Rule.{Rule}
use Rattle.plan_rules.specs.Rules.{IsBroken, IsPlace, Keeps, rule_number}

-- all rules before one are kept
pub record KeepsLesser (road : Road) (plan : Plan) (rule : Rule) : Type 0 where
  pub each : (r : Rule) (s p : ℕ) → rule_number r < rule_number rule → IsPlace road r s p → Keeps road plan r s p

-- every place of a rule's stage is kept
pub record KeepsStage (road : Road) (plan : Plan) (rule : Rule) (stage : ℕ) : Type 0 where
  pub each : (p : ℕ) → IsPlace road rule stage p → Keeps road plan rule stage p

-- every place of a rule is kept
pub record KeepsRule (road : Road) (plan : Plan) (rule : Rule) : Type 0 where
  pub each : (s p : ℕ) → IsPlace road rule s p → Keeps road plan rule s p

-- the first broken place of a rule's stage
pub record IsFirstPlace (road : Road) (plan : Plan) (rule : Rule) (stage place : ℕ) : Type 0 where
  pub broken : IsBroken road plan rule stage place
  pub lesser_places : (p : ℕ) → p < place → IsPlace road rule stage p → Keeps road plan rule stage p

-- the first stage of a rule with a broken place, and its first such place
pub record IsFirstStage (road : Road) (plan : Plan) (rule : Rule) (stage place : ℕ) : Type 0 where
  pub first_place : IsFirstPlace road plan rule stage place
  pub lesser_stages : (s p : ℕ) → s < stage → IsPlace road rule s p → Keeps road plan rule s p
