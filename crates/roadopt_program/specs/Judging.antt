-- What `judge ROAD PLAN` answers for an accepted road: the status and the line that is due.
--     PrintsCost, PrintsFirstBroken, PrintsRefusedLine      what the line says of a plan, and of bytes that are none
--     Judges road given end      the end for what the plan's file gives
use Rattle.std.specs.Prelude.{◌≡◌, ℕ, Option, Some, None, List, ℤ}
use Rattle.road_types.specs.declared.road.Road.{Road}
use Rattle.plan_rules.specs.declared.plan.Plan.{Plan}
use Rattle.plan_rules.specs.declared.verdict.Rule.{Rule}
use Rattle.plan_rules.specs.Rules.{IsAdmissible, IsFirstBroken}
use Rattle.plan_rules.specs.Costs.{cost_of}
use Rattle.plan_text.specs.Misfits.{refused_line}
use Rattle.plan_text.specs.PlanText.{IsPlanText}
use Rattle.numbers.specs.Fractions.{Fraction, IsReduced, HasValue}
use Rattle.roadopt_program.specs.declared.status.Status.{Status}
use Rattle.roadopt_program.specs.declared.status.Status.TheVariants.{Done, PlanBroken, PlanRefused}
use Rattle.roadopt_program.specs.Ends.{End, missing_end}
use Rattle.roadopt_program.specs.Printed.{plan_refused_line, broken_line, admissible_line}

-- the line has this fraction, in lowest terms
pub record PrintsFraction (num den : ℤ) (line : List ℕ) : Type 0 where
  pub cost : Fraction
  pub reduced : IsReduced cost
  pub value : HasValue cost num den
  pub line_is : line ≡ admissible_line cost

-- the plan is admissible, and its cost over its denominator is printed
pub record PrintsCost (road : Road) (plan : Plan) (line : List ℕ) : Type 0 where
  pub admissible : IsAdmissible road plan
  pub prints : PrintsFraction (cost_of road plan) plan.den line

-- the plan breaks a rule, and the first broken one is printed
pub record PrintsFirstBroken (road : Road) (plan : Plan) (line : List ℕ) : Type 0 where
  pub rule : Rule
  pub stage : ℕ
  pub place : ℕ
  pub first : IsFirstBroken road plan rule stage place
  pub line_is : line ≡ broken_line rule stage place

-- the status and the line for a plan
abbrev pub OfPlan : Road → Plan → Status → List ℕ → Type 0
OfPlan road plan Done line = PrintsCost road plan line
OfPlan road plan PlanBroken line = PrintsFirstBroken road plan line
OfPlan road plan _ line = ⊥

-- the bytes are the text of no plan of the road, and the refused line is printed
pub record PrintsRefusedLine (road : Road) (bytes line : List ℕ) : Type 0 where
  pub none : (plan : Plan) → ¬ (IsPlanText road bytes plan)
  pub number : ℕ
  pub refused : refused_line road bytes ≡ Some number
  pub line_is : line ≡ plan_refused_line number

-- the bytes are the text of a plan of the road, to their last one, and this is its status and line
pub record JudgesText (road : Road) (bytes : List ℕ) (status : Status) (line : List ℕ) : Type 0 where
  pub plan : Plan
  pub text : IsPlanText road bytes plan
  pub judged : OfPlan road plan status line

-- the status and the line for the bytes of a plan file
abbrev pub OfPlanBytes : Road → List ℕ → Status → List ℕ → Type 0
OfPlanBytes road bytes PlanRefused line = PrintsRefusedLine road bytes line
OfPlanBytes road bytes status line = JudgesText road bytes status line

-- the end for what the plan's file gives; no file is written
abbrev pub Judges : Road → Option (List ℕ) → End → Type 0
Judges road None end = end ≡ missing_end
Judges road (Some bytes) end = OfPlanBytes road bytes end.status end.output × (end.file ≡ None)
