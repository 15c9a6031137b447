-- The certificate of a search is valid.
use Rattle.std.proofs.Common.{◌≡◌, inl, inr, ℕ, Bool, true, false, Option, Some, None, List, refl, sym, ap, subst}
use Rattle.std.specs.Prelude.{◌||◌}
use Rattle.numbers.specs.Fractions.{Fraction}
use Rattle.road_types.specs.declared.road.Road.{Road}
use Rattle.plan_rules.specs.declared.plan.Plan.{Plan}
use Rattle.milp_builder.specs.Boxes.{root_box}
use Rattle.milp_builder.specs.Parts.{first_part, second_part}
use Rattle.milp_builder.specs.declared.boxes.BoxRange.{BoxRange}
use Rattle.cert_tree.specs.Trees.{BoxTree, low, dead, fork, box_tree_of}
use Rattle.cert_tree.specs.Soundness.{IsSound, has_low}
use Rattle.cert_tree.specs.LeastBounds.{IsOfSomeLeaf, IsLeastOfLeaves}
use Rattle.cert_text.specs.Certs.{priced_of, certificate_of}
use Rattle.cert_text.specs.Validity.{IsPlannedRight, IsBoundRight, IsValid}
use Rattle.cert_text.specs.declared.cert.Cert.{Cert}
use Rattle.branch_bound.specs.Endings.{HasPlanAt}
use Rattle.branch_bound.specs.Noted.{tree_of}
use Rattle.branch_bound.specs.Searched.{IsSearched}
use Rattle.branch_bound.specs.declared.notes.NodeNote.{NodeNote}

planned_right : (road : Road) (plan : Option Plan) (cost : Option Fraction) → HasPlanAt road plan cost → IsPlannedRight road (priced_of plan cost)
planned_right road None None h = tt
planned_right road None (Some cost) h = tt
planned_right road (Some plan) None h = absurd h
planned_right road (Some plan) (Some cost) h = (h.admissible, h.cost_is)

or_true : (a b : Bool) → b ≡ true → (a || b) ≡ true
or_true true b e = refl
or_true false b e = e

low_leaf : (road : Road) (bound : Fraction) (tree : BoxTree) (box : BoxRange) → IsOfSomeLeaf road bound tree box → has_low tree ≡ true
low_leaf road bound (low scale mults cause) box h = refl
low_leaf road bound (dead mults) box h = absurd h
low_leaf road bound (fork split first second) box (inl h) = ap (λ b. b || has_low second) (low_leaf road bound first (first_part box split) h)
low_leaf road bound (fork split first second) box (inr h) = or_true (has_low first) (has_low second) (low_leaf road bound second (second_part box split) h)

bound_right : (road : Road) (bound : Option Fraction) (tree : BoxTree) (box : BoxRange) → IsLeastOfLeaves road tree box bound → IsBoundRight bound (has_low tree)
bound_right road None tree box h = h
bound_right road (Some bound) tree box h = low_leaf road bound tree box h.2

pub valid_search : (road : Road) (cert : Cert) (count : ℕ) (notes : List NodeNote) → IsSearched road cert.plan cert.cost cert.bound (box_tree_of cert.tree) count notes → IsValid road (certificate_of cert)
valid_search road cert count notes h = record {
  planned = planned_right road cert.plan cert.cost h.has_plan;
  bound = subst (λ (t : BoxTree). IsBoundRight cert.bound (has_low t)) (sym h.own_tree) (bound_right road cert.bound (tree_of h.noted) (root_box road) h.least);
  sound = subst (λ (t : BoxTree). IsSound road cert.bound t (root_box road)) (sym h.own_tree) h.sound;
}
