-- What a search answers: a plan with its cost or none, a bound or none, a tree that proves it, and a note for each node.
use Rattle.std.specs.Prelude.{◌≡◌, ◌⊎◌, ℕ, Option, List, pos, ◌≤ℤ◌}
use Rattle.numbers.specs.Fractions.{Fraction}
use Rattle.road_types.specs.declared.road.Road.{Road}
use Rattle.plan_rules.specs.declared.plan.Plan.{Plan}
use Rattle.milp_builder.specs.Boxes.{root_box}
use Rattle.cert_tree.specs.Trees.{BoxTree, node_count}
use Rattle.cert_tree.specs.Soundness.{IsSound}
use Rattle.best_first.specs.KeyTrees.{KeyTree, IsBestFirst}
use Rattle.branch_bound.specs.Noted.{Noted, tree_of, notes_of, AreShown, HaveKeys}
use Rattle.cert_tree.specs.LeastBounds.{IsLeastOfLeaves}
use Rattle.branch_bound.specs.Endings.{HasPlanAt, HasOpenBelow, HasNoStops, HasNodesForAll}
use Rattle.branch_bound.specs.declared.notes.NodeNote.{NodeNote}

-- the tree has a note for each node, each shown, within the budget of nodes, and was grown best first; it is sound for the bound, the
-- least of its leaves'; the plan is admissible at its cost. Cost and bound are one, or neither stands, or a leaf was left open below the
-- cost; cost and bound are one, or neither stands, where no simplex stopped and the nodes suffice for as many leaves as the road can have
pub record IsSearched (road : Road) (plan : Option Plan) (cost bound : Option Fraction) (tree : BoxTree) (count : ℕ) (notes : List NodeNote) : Type 0 where
  pub noted : Noted
  pub own_tree : tree ≡ tree_of noted
  pub own_notes : notes ≡ notes_of noted
  pub counted : count ≡ node_count tree
  pub within_budget : pos count ≤ℤ road.nodes
  pub shown : AreShown road cost count noted (root_box road)
  pub keys : KeyTree
  pub have_keys : HaveKeys road noted (root_box road) keys
  pub best_first : IsBestFirst keys
  pub has_plan : HasPlanAt road plan cost
  pub sound : IsSound road bound (tree_of noted) (root_box road)
  pub least : IsLeastOfLeaves road (tree_of noted) (root_box road) bound
  pub ends : (cost ≡ bound) ⊎ HasOpenBelow road cost noted (root_box road)
  pub enough : HasNoStops noted → HasNodesForAll road → cost ≡ bound
