-- How a search ends: with a plan at its cost or without one, and with a leaf that was left open below the cost, or none.
use Rattle.std.specs.Prelude.{◌⊎◌, ◌*◌, Option, Some, None, ℤ, pos, ◌+ℤ◌, ◌*ℤ◌, ◌≤ℤ◌, ◌<ℤ◌}
use Rattle.numbers.specs.Fractions.{Fraction}
use Rattle.road_types.specs.declared.road.Road.{Road}
use Rattle.plan_rules.specs.declared.plan.Plan.{Plan}
use Rattle.plan_rules.specs.Rules.{IsAdmissible}
use Rattle.milp_builder.specs.Parts.{first_part, second_part}
use Rattle.milp_builder.specs.declared.boxes.BoxRange.{BoxRange}
use Rattle.cert_tree.specs.Soundness.{box_value}
use Rattle.cert_text.specs.Validity.{IsCostOf}
use Rattle.branch_bound.specs.declared.notes.NodeNote.{NodeNote}
use Rattle.branch_bound.specs.declared.notes.NodeNote.TheVariants.{Pivots, Wide, Limit}
use Rattle.branch_bound.specs.Leaves.{most_leaves}
use Rattle.branch_bound.specs.Noted.{Noted, low_with, dead_with, fork_with}

-- an admissible plan at its cost over its denominator, in lowest terms
pub record IsPlanAt (road : Road) (plan : Plan) (cost : Fraction) : Type 0 where
  pub admissible : IsAdmissible road plan
  pub cost_is : IsCostOf road (record { plan = plan; cost = cost })

-- a plan at the cost, or none where there is no cost
abbrev pub HasPlanAt : Road → Option Plan → Option Fraction → Type 0
HasPlanAt road None None = Unit {0}
HasPlanAt road (Some plan) (Some cost) = IsPlanAt road plan cost
HasPlanAt road _ _ = ⊥

-- value over scale is below the cost; it is where there is no plan
abbrev pub IsBelowCost : Option Fraction → ℤ → ℤ → Type 0
IsBelowCost None value scale = Unit {0}
IsBelowCost (Some cost) value scale = (value *ℤ cost.den) <ℤ (cost.num *ℤ scale)

-- some leaf was left open below the cost
abbrev pub HasOpenBelow : Road → Option Fraction → Noted → BoxRange → Type 0
HasOpenBelow road cost (low_with scale mults (Some why) note) box = IsBelowCost cost (box_value road box scale mults) scale
HasOpenBelow road cost (low_with scale mults None note) box = ⊥
HasOpenBelow road cost (dead_with mults note) box = ⊥
HasOpenBelow road cost (fork_with split note first second) box =
    HasOpenBelow road cost first (first_part box split) ⊎ HasOpenBelow road cost second (second_part box split)

-- no node's simplex stopped without an optimum of use
abbrev pub IsNoStop : NodeNote → Type 0
IsNoStop (Pivots trail) = ⊥
IsNoStop (Wide trail op) = ⊥
IsNoStop (Limit trail number) = ⊥
IsNoStop note = Unit {0}

abbrev pub HasNoStops : Noted → Type 0
HasNoStops (low_with scale mults cause note) = IsNoStop note
HasNoStops (dead_with mults note) = IsNoStop note
HasNoStops (fork_with split note first second) = IsNoStop note × HasNoStops first × HasNoStops second

-- the nodes suffice for a tree with as many leaves as the road can have
abbrev pub HasNodesForAll : Road → Type 0
HasNodesForAll road = pos (2 * most_leaves road) ≤ℤ (road.nodes +ℤ pos 1)
