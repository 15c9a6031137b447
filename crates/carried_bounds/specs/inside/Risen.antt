-- What is made of a plan, of a leaf's multipliers and of a tree while a certificate is carried.
use Rattle.std.specs.Prelude.{◌≡◌, ◌⊎◌, ℕ, List, Option, Some, None, ℤ, ◌<ℤ◌}
use Rattle.numbers.specs.Fractions.{Fraction}
use Rattle.programs.specs.Programs.{Program, row_count}
use Rattle.safe_bounds.specs.Values.{HasRightSigns}
use Rattle.safe_bounds.specs.Sparse.{dense}
use Rattle.road_types.specs.declared.road.Road.{Road}
use Rattle.plan_rules.specs.declared.plan.Plan.{Plan}
use Rattle.plan_rules.specs.Rules.{IsAdmissible}
use Rattle.plan_text.specs.PlanText.{HasText}
use Rattle.milp_builder.specs.Boxes.{root_box}
use Rattle.cert_tree.specs.Trees.{BoxTree, AreMultipliersBehind}
use Rattle.cert_tree.specs.Soundness.{told_value}
use Rattle.cert_tree.specs.LeastBounds.{IsLeastOfLeaves}
use Rattle.cert_text.specs.CertText.{IsStated}
use Rattle.cert_text.specs.Validity.{IsCostOf}
use Rattle.bound_tools.specs.Ascents.{IsBestByOnes}
use Rattle.carried_bounds.specs.Carried.{IsCarriedTree}

-- multipliers on a program, as they are written down, that rose or are best by ones
pub record AreRisen (program : Program) (scale : ℤ) (given risen : List (ℕ × ℤ)) : Type 0 where
  pub on_rows : AreMultipliersBehind (row_count program) 0 risen
  pub right_signs : HasRightSigns program (dense (row_count program) risen)
  pub above : (told_value program scale given <ℤ told_value program scale risen)
      ⊎ ((risen ≡ given) × IsBestByOnes program scale (dense (row_count program) given))

-- no plan, or an admissible one that has a text
abbrev pub CanBePriced : Road → Option Plan → Type 0
CanBePriced road None = Unit {0}
CanBePriced road (Some plan) = HasText road plan × IsAdmissible road plan

-- the plan with its cost on this road, which can be stated; or neither
abbrev pub ArePriced : Road → Option Plan → Option Plan → Option Fraction → Type 0
ArePriced road None None None = Unit {0}
ArePriced road (Some plan) (Some copy) (Some cost) = (copy ≡ plan) × IsCostOf road (record { plan = copy; cost = cost }) × IsStated cost
ArePriced road _ _ _ = ⊥

-- a carried tree on the box of all plans, with the least of its leaves' bounds
pub record AreBounded (road : Road) (given carried : BoxTree) (least : Option Fraction) : Type 0 where
  pub tree : IsCarriedTree road given (root_box road) carried
  pub bound : IsLeastOfLeaves road carried (root_box road) least
