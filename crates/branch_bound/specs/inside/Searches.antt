-- A search under way: the tree that it has grown, and the best plan that it has found.
use Rattle.std.specs.Prelude.{◌≡◌, ℕ, ◌<◌, Option, Some, None, List, length, ℤ, pos, ◌≤ℤ◌}
use Rattle.algebra.specs.Scale.{IsScale}
use Rattle.numbers.specs.Fractions.{Fraction}
use Rattle.road_types.specs.declared.road.Road.{Road}
use Rattle.plan_rules.specs.declared.plan.Plan.{Plan}
use Rattle.milp_builder.specs.Boxes.{root_box, IsBoxOf}
use Rattle.milp_builder.specs.Parts.{first_part, second_part}
use Rattle.milp_builder.specs.declared.boxes.BoxRange.{BoxRange}
use Rattle.cert_tree.specs.Soundness.{IsAtLeastBound}
use Rattle.best_first.specs.Keys.{IsKey, IsFirstLeast, key_at}
use Rattle.best_first.specs.inside.Covers.{IsOrderedTree, open_keys}
use Rattle.branch_bound.specs.Endings.{IsPlanAt}
use Rattle.branch_bound.specs.inside.Better.{IsBetter}
use Rattle.branch_bound.specs.inside.Grown.{Grown, grown_of, node_total, IsGoodNode, IsGrownLeaf, IsFinished, keys_of, waiting_count, waiting_at, AllReach}
use Rattle.branch_bound.specs.declared.work.Waiting.{Waiting}
use Rattle.branch_bound.specs.declared.best.Best.{Best}
use Rattle.branch_bound.specs.declared.growing.Search.{Search}
use Rattle.branch_bound.specs.declared.growing.Finished.{Finished}
use Rattle.branch_bound.specs.inside.Solved.{Solved, SolvedParts}

-- the cost of the best plan, where there is one
abbrev pub best_cost : Option Best → Option Fraction
best_cost None = None
best_cost (Some best) = Some best.cost

-- the best plan, where there is one
abbrev pub best_plan : Option Best → Option Plan
best_plan None = None
best_plan (Some best) = Some best.plan

-- the best plan is admissible and has its cost; its denominator and the cost's numbers are within their widths
pub record IsBestPlan (road : Road) (best : Best) : Type 0 where
  pub plan_at : IsPlanAt road best.plan best.cost
  pub cost_key : IsKey (best.cost.num, best.cost.den)
  pub den_within : IsScale best.plan.den

abbrev pub IsBest : Road → Option Best → Type 0
IsBest road None = Unit {0}
IsBest road (Some best) = IsBestPlan road best

-- a box was solved: its leaf is good with the best plan now, which is no dearer than before
pub record IsSolvedBox (road : Road) (old : Option Best) (range : BoxRange) (solved : Solved) : Type 0 where
  pub best_is : IsBest road solved.best
  pub better : IsBetter (best_cost solved.best) (best_cost old)
  pub is_leaf : IsGrownLeaf (grown_of solved.leaf)
  pub good : IsGoodNode road (best_cost solved.best) (grown_of solved.leaf) range

-- both parts of a box were solved
pub record AreSolved (road : Road) (old : Option Best) (first_range second_range : BoxRange) (solved : SolvedParts) : Type 0 where
  pub best_is : IsBest road solved.best
  pub better : IsBetter (best_cost solved.best) (best_cost old)
  pub first_leaf : IsGrownLeaf (grown_of solved.first)
  pub second_leaf : IsGrownLeaf (grown_of solved.second)
  pub first_good : IsGoodNode road (best_cost solved.best) (grown_of solved.first) first_range
  pub second_good : IsGoodNode road (best_cost solved.best) (grown_of solved.second) second_range

-- every node is good, and the tree was grown best first
pub record IsSearch (road : Road) (search : Search) : Type 0 where
  pub best_is : IsBest road search.best
  pub good : IsGoodNode road (best_cost search.best) (grown_of search.work) (root_box road)
  pub ordered : IsOrderedTree (keys_of (grown_of search.work))

-- a search that is finished with so many nodes, within the budget
pub record IsFinishedSearch (road : Road) (finished : Finished) : Type 0 where
  pub search : IsSearch road finished.search
  pub counted : node_total (grown_of finished.search.work) ≡ finished.count
  pub within : pos finished.count ≤ℤ road.nodes
  pub ended : IsFinished road (best_cost finished.search.best) finished.count (grown_of finished.search.work)

-- each key's value over its scale is at least the cost
abbrev pub DoReach : Option Fraction → List (ℤ × ℤ) → Type 0
DoReach cost keys = (k : ℕ) → k < length keys → IsAtLeastBound (key_at keys k).0 (key_at keys k).1 cost

-- the waiting leaf that is split next: the first of least key
pub record IsNext (grown : Grown) (at : ℕ) : Type 0 where
  pub within : at < waiting_count grown
  pub least : IsFirstLeast (open_keys (keys_of grown)) at

-- a leaf is next, or none where every waiting one is closed
abbrev pub IsNextOrNone : Option Fraction → Grown → Option ℕ → Type 0
IsNextOrNone cost grown None = AllReach cost grown
IsNextOrNone cost grown (Some at) = IsNext grown at

-- the ranges are the parts of that waiting leaf's box, and fit the road
pub record IsPartsOf (road : Road) (grown : Grown) (at : ℕ) (first second : BoxRange) : Type 0 where
  pub leaf : Waiting
  pub found : waiting_at grown at ≡ Some leaf
  pub first_is : first ≡ first_part leaf.range leaf.split
  pub second_is : second ≡ second_part leaf.range leaf.split
  pub first_fits : IsBoxOf road first
  pub second_fits : IsBoxOf road second
