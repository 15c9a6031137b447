-- A certificate is valid where its plan is admissible and costs what is stated, a bound stands exactly where some leaf is low, and
-- the tree is sound on the box of all plans. Here stand valid certificates and their texts, what they prove, and which certificates can be
-- carried to other costs.
use Rattle.std.specs.Prelude.{ℕ, ◌≡◌, ◌^◌, ◌≤◌, List, length, Bool, true, false, Option, Some, None}
use Rattle.numbers.specs.Fractions.{Fraction, IsLowest, HasValue}
use Rattle.road_types.specs.declared.road.Road.{Road}
use Rattle.plan_rules.specs.Rules.{IsAdmissible}
use Rattle.plan_rules.specs.Costs.{cost_of, Undercuts}
use Rattle.plan_rules.specs.declared.plan.Plan.{Plan}
use Rattle.milp_builder.specs.Boxes.{root_box}
use Rattle.cert_tree.specs.Soundness.{IsSound, SplitsFit, has_low}
use Rattle.cert_tree.specs.Proving.{HasProvingLeaves}
use Rattle.cert_text.specs.declared.heading.PricedPlan.{PricedPlan}
use Rattle.cert_text.specs.CertText.{Certificate, IsCertText}

-- the stated cost is the plan's cost over its denominator, in lowest terms
pub record IsCostOf (road : Road) (priced : PricedPlan) : Type 0 where
  pub lowest : IsLowest priced.cost
  pub value : HasValue priced.cost (cost_of road priced.plan) priced.plan.den

-- no plan, or an admissible one at its cost
abbrev pub IsPlannedRight : Road → Option PricedPlan → Type 0
IsPlannedRight road None = Unit {0}
IsPlannedRight road (Some priced) = IsAdmissible road priced.plan × IsCostOf road priced

-- a bound stands exactly where some leaf is low
abbrev pub IsBoundRight : Option Fraction → Bool → Type 0
IsBoundRight None low = low ≡ false
IsBoundRight (Some bound) low = low ≡ true

-- a valid certificate
pub record IsValid (road : Road) (cert : Certificate) : Type 0 where
  pub planned : IsPlannedRight road cert.planned
  pub bound : IsBoundRight cert.bound (has_low cert.tree)
  pub sound : IsSound road cert.bound cert.tree (root_box road)

-- no plan, or an admissible one, whatever cost is stated
abbrev pub IsPlanAdmissible : Road → Option PricedPlan → Type 0
IsPlanAdmissible road None = Unit {0}
IsPlanAdmissible road (Some priced) = IsAdmissible road priced.plan

-- a certificate that can be carried to the road's costs, whatever cost and bound it states: its plan is admissible, a bound stands exactly
-- where some leaf is low, each split fits, and every leaf proves what it can of its own box
pub record IsCarriable (road : Road) (cert : Certificate) : Type 0 where
  pub planned : IsPlanAdmissible road cert.planned
  pub bound : IsBoundRight cert.bound (has_low cert.tree)
  pub splits : SplitsFit road cert.tree (root_box road)
  pub proving : HasProvingLeaves road cert.tree (root_box road)

-- the greatest length of a certificate's text
unfoldable pub longest_text : ℕ
longest_text = 2 ^ 26

-- the bytes are the text of this valid certificate
pub record IsValidText (road : Road) (bytes : List ℕ) (cert : Certificate) : Type 0 where
  pub short : length bytes ≤ longest_text
  pub text : IsCertText road bytes cert
  pub valid : IsValid road cert

-- a certificate whose text the bytes are has this plan at this cost
pub record StatesPlan (road : Road) (bytes : List ℕ) (priced : PricedPlan) : Type 0 where
  pub cert : Certificate
  pub text : IsCertText road bytes cert
  pub planned : cert.planned ≡ Some priced

-- an admissible plan of this cost stands in the bytes
pub record IsAttained (road : Road) (bytes : List ℕ) (cost : Fraction) : Type 0 where
  pub priced : PricedPlan
  pub states : StatesPlan road bytes priced
  pub admissible : IsAdmissible road priced.plan
  pub cost_is : priced.cost ≡ cost
  pub value : IsCostOf road priced

-- no admissible plan, over any denominator, costs less than the bound; without a bound no plan is admissible
abbrev pub IsUnbeaten : Road → Option Fraction → Type 0
IsUnbeaten road None = (plan : Plan) → IsAdmissible road plan → ⊥
IsUnbeaten road (Some bound) = (plan : Plan) → IsAdmissible road plan → Undercuts road plan bound.num bound.den → ⊥

-- the cost that is stated with a plan
abbrev pub stated_cost : Option PricedPlan → Option Fraction
stated_cost None = None
stated_cost (Some priced) = Some priced.cost
