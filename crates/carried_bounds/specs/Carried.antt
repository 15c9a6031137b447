-- A certificate whose bound is carried to a road's costs: the plan stays, with its cost on this road, as do the splits, the causes and the
-- leaves that prove their boxes empty, and the multipliers of each low leaf rise or can't by single changes of 1. The bound is the least
-- of the leaves'.
use Rattle.std.specs.Prelude.{◌≡◌, ◌⊎◌, ℕ, List, Option, Some, None, ℤ, ◌<ℤ◌}
use Rattle.road_types.specs.declared.road.Road.{Road}
use Rattle.plan_rules.specs.declared.plan.Plan.{Plan}
use Rattle.milp_builder.specs.Boxes.{root_box}
use Rattle.milp_builder.specs.BoxPrograms.{box_program}
use Rattle.milp_builder.specs.Parts.{first_part, second_part}
use Rattle.milp_builder.specs.declared.boxes.BoxRange.{BoxRange}
use Rattle.cert_tree.specs.Trees.{BoxTree, low, dead, fork}
use Rattle.cert_tree.specs.Soundness.{AreSound, box_mults, box_value}
use Rattle.cert_tree.specs.LeastBounds.{IsLeastOfLeaves}
use Rattle.cert_text.specs.declared.heading.PricedPlan.{PricedPlan}
use Rattle.cert_text.specs.CertText.{Certificate}
use Rattle.cert_text.specs.Validity.{IsValid}
use Rattle.bound_tools.specs.Ascents.{IsBestByOnes}

-- the plan that is stated, whatever its cost
abbrev pub stated_plan : Option PricedPlan → Option Plan
stated_plan None = None
stated_plan (Some priced) = Some priced.plan

-- the multipliers of a low leaf prove their value on its box, which is above that of the given ones; or they are the given ones, and no
-- change of a single one by 1, within right signs and the limit, raises their value
pub record AreCarried (road : Road) (box : BoxRange) (scale : ℤ) (given carried : List (ℕ × ℤ)) : Type 0 where
  pub sound : AreSound road box carried
  pub risen : (box_value road box scale given <ℤ box_value road box scale carried)
      ⊎ ((carried ≡ given) × IsBestByOnes (box_program road box) scale (box_mults road box given))

-- the splits, scales, causes and dead leaves are the given ones, and the multipliers of each low leaf are carried on its own box
abbrev pub IsCarriedTree : Road → BoxTree → BoxRange → BoxTree → Type 0
IsCarriedTree road (low scale mults cause) box (low new_scale new_mults new_cause) =
    (new_scale ≡ scale) × (new_cause ≡ cause) × AreCarried road box scale mults new_mults
IsCarriedTree road (dead mults) box (dead new_mults) = new_mults ≡ mults
IsCarriedTree road (fork split first second) box (fork new_split new_first new_second) =
    (new_split ≡ split) × IsCarriedTree road first (first_part box split) new_first × IsCarriedTree road second (second_part box split) new_second
IsCarriedTree road _ box _ = ⊥

-- the given certificate carried to the road's costs
pub record IsCarried (road : Road) (given carried : Certificate) : Type 0 where
  pub plan : stated_plan carried.planned ≡ stated_plan given.planned
  pub tree : IsCarriedTree road given.tree (root_box road) carried.tree
  pub bound : IsLeastOfLeaves road carried.tree (root_box road) carried.bound
  pub valid : IsValid road carried
