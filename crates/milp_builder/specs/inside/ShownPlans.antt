-- What is known of a point where the plan that it shows is looked for: removals that are whole, and that plan.
use Rattle.std.specs.Prelude.{◌≡◌, ℕ, ◌≤◌, ◌⊎◌, Option, Some, None, List, ℤ}
use Rattle.road_types.specs.declared.road.Road.{Road}
use Rattle.plan_rules.specs.declared.plan.Plan.{Plan}
use Rattle.road_points.specs.Shown.{shown, IsWholeAt, HasWholeRemovals, HasExactVolumes}
use Rattle.road_points.specs.ShownPlan.{plan_at}
use Rattle.milp_builder.specs.FoundPlans.{HasPartRemoval, IsOtherVolume}

-- the removal of block k is whole at every stage
pub record IsOpenedWhole (road : Road) (den : ℤ) (point : List ℤ) (k : ℕ) : Type 0 where
  pub each : (t : ℕ) → 2 ≤ t → t ≤ road.stages → IsWholeAt road den point k t

-- the plan that the point shows, where removals are whole and volumes exact
abbrev pub IsShownPlan : Road → ℤ → List ℤ → Option Plan → Type 0
IsShownPlan road den point None = HasPartRemoval road den point ⊎ ((i : ℕ) × IsOtherVolume road den point i)
IsShownPlan road den point (Some plan) =
    HasWholeRemovals road den point × (HasExactVolumes road den point × (plan ≡ plan_at road den (shown road point)))
