-- What a carried plan and a carried tree make together.
use Rattle.std.proofs.Common.{◌≡◌, Option, Some, None, refl, sym, ap, subst}
use Rattle.std.specs.Prelude.{Result, Ok, Err, IfOk}
use Rattle.numbers.specs.Fractions.{Fraction}
use Rattle.road_types.specs.Faults.{road_fault}
use Rattle.road_types.proofs.AcceptedRoad.{IsAccepted-from_fault}
use Rattle.road_types.specs.declared.road.Road.{Road}
use Rattle.road_types.specs.RoadPrograms.{row_count}
use Rattle.plan_rules.specs.declared.plan.Plan.{Plan}
use Rattle.plan_rules.specs.Rules.{IsAdmissible}
use Rattle.plan_text.specs.PlanText.{HasText}
use Rattle.milp_builder.specs.Boxes.{root_box}
use Rattle.milp_builder.specs.declared.boxes.BoxRange.{BoxRange}
use Rattle.milp_builder.proofs.RootBox.{root_box_fits}
use Rattle.cert_tree.specs.Trees.{BoxTree, box_tree_of, IsWithinWidths}
use Rattle.cert_tree.specs.Soundness.{SplitsFit, IsSound}
use Rattle.cert_tree.specs.LeastBounds.{IsLeastOfLeaves}
use Rattle.cert_tree.specs.Proving.{HasProvingLeaves}
use Rattle.cert_tree.specs.declared.tree.Tree.{Tree}
use Rattle.cert_text.specs.declared.cert.Cert.{Cert}
use Rattle.cert_text.specs.NodeText.{most_levels}
use Rattle.cert_text.specs.CertText.{IsPricedOrNone}
use Rattle.cert_text.specs.Certs.{priced_of, ArePaired, certificate_of, IsSpelledCert}
use Rattle.cert_text.specs.Validity.{IsPlannedRight, IsPlanAdmissible, IsCarriable}
use Rattle.search_trees.proofs.ProvingLaws.{sound_within, sound_without}
use Rattle.carried_bounds.specs.Carried.{IsCarried, IsCarriedTree, stated_plan}
use Rattle.carried_bounds.specs.declared.trees.Bounded.{Bounded}
use Rattle.carried_bounds.specs.inside.Risen.{AreBounded, ArePriced, CanBePriced}
use Rattle.carried_bounds.proofs.TreeLaws.{splits_stay, widths_stay, leaves_prove, text_stays, widths_of_text, least_is_right}
use Rattle.carried_bounds.proofs.StatedLaws.{bound_stated}

-- the least bound of proving leaves is proved
sound_least : (road : Road) (tree : BoxTree) (box : BoxRange) (bound : Option Fraction) → SplitsFit road tree box → IsWithinWidths (row_count road) tree → HasProvingLeaves road tree box
    → IsLeastOfLeaves road tree box bound → IsSound road bound tree box
sound_least road tree box None s w p h = sound_without road tree box s w p h
sound_least road tree box (Some bound) s w p h = sound_within road bound tree box s w p h.1

-- a carried tree with its least bound, where memory was had
pub bounded_found : {E : Type 0} (road : Road) (given : BoxTree) (carried : Tree) (root : BoxRange) (result : Result Bounded E) → root ≡ root_box road → IsCarriedTree road given root (box_tree_of carried)
    → IfOk result (λ (b : Bounded). b.tree ≡ carried) → IfOk result (λ (b : Bounded). IsLeastOfLeaves road (box_tree_of carried) root b.bound)
    → IfOk result (λ (b : Bounded). AreBounded road given (box_tree_of b.tree) b.bound)
bounded_found road given carried root (Ok b) e c t l = record {
  tree = subst (λ (x : Tree). IsCarriedTree road given (root_box road) (box_tree_of x)) (sym t) (subst (λ (x : BoxRange). IsCarriedTree road given x (box_tree_of carried)) e c);
  bound = subst (λ (x : Tree). IsLeastOfLeaves road (box_tree_of x) (root_box road) b.bound) (sym t) (subst (λ (x : BoxRange). IsLeastOfLeaves road (box_tree_of carried) x b.bound) e l);
}
bounded_found road given carried root (Err error) e c t l = t

-- ---- the plan

pub can_be_priced : (road : Road) (plan : Option Plan) (cost : Option Fraction) → ArePaired plan cost → IsPricedOrNone road (priced_of plan cost) → IsPlanAdmissible road (priced_of plan cost) → CanBePriced road plan
can_be_priced road None cost p h a = tt
can_be_priced road (Some plan) None p h a = absurd p
can_be_priced road (Some plan) (Some cost) p h a = (h.0, a)

paired_again : (road : Road) (plan copy : Option Plan) (cost : Option Fraction) → ArePriced road plan copy cost → ArePaired copy cost
paired_again road None None None h = tt
paired_again road None None (Some c) h = absurd h
paired_again road None (Some q) None h = absurd h
paired_again road None (Some q) (Some c) h = absurd h
paired_again road (Some p) None None h = absurd h
paired_again road (Some p) None (Some c) h = absurd h
paired_again road (Some p) (Some q) None h = absurd h
paired_again road (Some p) (Some q) (Some c) h = tt

planned_right : (road : Road) (plan copy : Option Plan) (cost : Option Fraction) → CanBePriced road plan → ArePriced road plan copy cost → IsPlannedRight road (priced_of copy cost)
planned_right road None None None can h = tt
planned_right road None None (Some c) can h = absurd h
planned_right road None (Some q) None can h = absurd h
planned_right road None (Some q) (Some c) can h = absurd h
planned_right road (Some p) None None can h = absurd h
planned_right road (Some p) None (Some c) can h = absurd h
planned_right road (Some p) (Some q) None can h = absurd h
planned_right road (Some p) (Some q) (Some c) can h = (subst (IsAdmissible road) (sym h.0) can.1, h.1)

planned_text : (road : Road) (plan copy : Option Plan) (cost : Option Fraction) → CanBePriced road plan → ArePriced road plan copy cost → IsPricedOrNone road (priced_of copy cost)
planned_text road None None None can h = tt
planned_text road None None (Some c) can h = absurd h
planned_text road None (Some q) None can h = absurd h
planned_text road None (Some q) (Some c) can h = absurd h
planned_text road (Some p) None None can h = absurd h
planned_text road (Some p) None (Some c) can h = absurd h
planned_text road (Some p) (Some q) None can h = absurd h
planned_text road (Some p) (Some q) (Some c) can h = (subst (HasText road) (sym h.0) can.0, h.2)

plan_stays : (road : Road) (plan copy : Option Plan) (cost given : Option Fraction) → ArePaired plan given → ArePriced road plan copy cost → stated_plan (priced_of copy cost) ≡ stated_plan (priced_of plan given)
plan_stays road None None None given p h = refl
plan_stays road None None (Some c) given p h = absurd h
plan_stays road None (Some q) None given p h = absurd h
plan_stays road None (Some q) (Some c) given p h = absurd h
plan_stays road (Some p) None None given e h = absurd h
plan_stays road (Some p) None (Some c) given e h = absurd h
plan_stays road (Some p) (Some q) None given e h = absurd h
plan_stays road (Some p) (Some q) (Some c) None e h = absurd e
plan_stays road (Some p) (Some q) (Some c) (Some g) e h = ap (λ x. Some x) h.0

-- ---- the certificate

pub carried_is : (road : Road) (cert new : Cert) → road_fault road ≡ None → IsSpelledCert road cert → IsCarriable road (certificate_of cert) → AreBounded road (box_tree_of cert.tree) (box_tree_of new.tree) new.bound
    → ArePriced road cert.plan new.plan new.cost → IsCarried road (certificate_of cert) (certificate_of new)
carried_is road cert new accepted spelled can bounded priced =
    let box = root_box road in
    let given = box_tree_of cert.tree in
    let tree = box_tree_of new.tree in
    let widths = widths_of_text (row_count road) most_levels given spelled.has_text.tree in
    let plan = can_be_priced road cert.plan cert.cost spelled.paired spelled.has_text.planned can.planned in
    let splits = splits_stay road given tree box can.splits bounded.tree in
    let within = widths_stay road given tree box widths bounded.tree in
    let proving = leaves_prove road given tree box can.proving bounded.tree in
    record {
      plan = plan_stays road cert.plan new.plan new.cost cert.cost spelled.paired priced;
      tree = bounded.tree;
      bound = bounded.bound;
      valid = record {
        planned = planned_right road cert.plan new.plan new.cost plan priced;
        bound = least_is_right road tree box new.bound bounded.bound;
        sound = sound_least road tree box new.bound splits within proving bounded.bound;
      };
    }

pub spelled_again : (road : Road) (cert new : Cert) → road_fault road ≡ None → IsSpelledCert road cert → IsCarriable road (certificate_of cert) → AreBounded road (box_tree_of cert.tree) (box_tree_of new.tree) new.bound
    → ArePriced road cert.plan new.plan new.cost → IsSpelledCert road new
spelled_again road cert new accepted spelled can bounded priced =
    let a = IsAccepted-from_fault road accepted in
    let box = root_box road in
    let given = box_tree_of cert.tree in
    let tree = box_tree_of new.tree in
    let widths = widths_of_text (row_count road) most_levels given spelled.has_text.tree in
    let plan = can_be_priced road cert.plan cert.cost spelled.paired spelled.has_text.planned can.planned in
    let splits = splits_stay road given tree box can.splits bounded.tree in
    let within = widths_stay road given tree box widths bounded.tree in
    record {
      paired = paired_again road cert.plan new.plan new.cost priced;
      has_text = record {
        planned = planned_text road cert.plan new.plan new.cost plan priced;
        bound = bound_stated road a new.bound tree box (root_box_fits road a.well_formed) splits within bounded.bound;
        tree = text_stays road most_levels given tree box spelled.has_text.tree bounded.tree;
      };
    }
