-- A search that is finished answers what it is to answer.
use Rattle.std.proofs.Common.{◌≡◌, ℕ, Option, List, sym, ap, ⊎_elim, ◌∙◌}
use Rattle.std.specs.Prelude.{pos, ◌≤ℤ◌}
use Rattle.numbers.specs.Fractions.{Fraction}
use Rattle.road_types.specs.Accepted.{IsAccepted}
use Rattle.road_types.specs.declared.road.Road.{Road}
use Rattle.plan_rules.specs.declared.plan.Plan.{Plan}
use Rattle.milp_builder.specs.Boxes.{root_box}
use Rattle.cert_tree.specs.Trees.{BoxTree, node_count}
use Rattle.best_first.specs.inside.Covers.{IsOrderedTree}
use Rattle.best_first.proofs.OrderLemmas.{ordered_ended}
use Rattle.best_first.proofs.PathLemmas.{best_first_of}
use Rattle.branch_bound.specs.Noted.{Noted, tree_of, notes_of, AreShown}
use Rattle.cert_tree.specs.LeastBounds.{IsLeastOfLeaves}
use Rattle.branch_bound.specs.Endings.{HasPlanAt}
use Rattle.branch_bound.specs.Searched.{IsSearched}
use Rattle.branch_bound.specs.inside.Grown.{Grown, IsGoodNode, keys_of, node_total, noted_of, IsFinished}
use Rattle.branch_bound.specs.declared.notes.NodeNote.{NodeNote}
use Rattle.branch_bound.proofs.SettlingLemmas.{shown_at_end, count_at_end, end_keys, keys_ended, keys_at_end}
use Rattle.branch_bound.proofs.EndingLemmas.{least_within, sound_at_end, ends_so}
use Rattle.branch_bound.proofs.EnoughNodes.{splits_of_sound, none_open}

module _ (road : Road) (a : IsAccepted road) (plan : Option Plan) (cost bound : Option Fraction) (grown : Grown) (count : ℕ)
    (has_plan : HasPlanAt road plan cost) (good : IsGoodNode road cost grown (root_box road)) (ordered : IsOrderedTree (keys_of grown))
    (counted : node_total grown ≡ count) (within : pos count ≤ℤ road.nodes) (finished : IsFinished road cost count grown)
    (least : IsLeastOfLeaves road (tree_of (noted_of cost grown)) (root_box road) bound) where
  abbrev noted : Noted
  noted = noted_of cost grown

  shown : AreShown road cost count noted (root_box road)
  shown = shown_at_end road cost count grown (root_box road) good finished

  pub searched : (tree : BoxTree) (notes : List NodeNote) → tree ≡ tree_of noted → notes ≡ notes_of noted → IsSearched road plan cost bound tree count notes
  searched tree notes t n =
      let sound = sound_at_end road cost bound grown (root_box road) good (least_within road (tree_of noted) (root_box road) bound least) in
      let nodes : count ≡ node_count (tree_of noted) = sym counted ∙ sym (count_at_end cost grown) in
      let ends = ends_so road a plan cost bound count noted has_plan shown least sound in
      record {
        noted = noted;
        own_tree = t;
        own_notes = n;
        counted = nodes ∙ ap node_count (sym t);
        within_budget = within;
        shown = shown;
        keys = end_keys cost grown;
        have_keys = keys_at_end road cost grown (root_box road) good;
        best_first = best_first_of (end_keys cost grown) (ordered_ended (keys_of grown) (end_keys cost grown) (keys_ended cost grown) ordered);
        has_plan = has_plan;
        sound = sound;
        least = least;
        ends = ends;
        enough = λ none enough. ⊎_elim (λ e. e)
            (λ o. absurd (none_open road a cost count noted (splits_of_sound road bound (tree_of noted) (root_box road) sound) shown nodes none enough o)) ends;
      }
