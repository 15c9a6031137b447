-- The certificate and the notes of a search that is finished are what a search is to answer.
use Rattle.std.proofs.Common.{◌≡◌, ℕ, ◌^◌, ◌≤◌, length, Option, Some, None, sym, subst}
use Rattle.numbers.specs.Fractions.{Fraction}
use Rattle.road_types.specs.Faults.{road_fault}
use Rattle.road_types.proofs.AcceptedRoad.{IsAccepted-from_fault}
use Rattle.road_types.specs.declared.road.Road.{Road}
use Rattle.plan_rules.specs.declared.plan.Plan.{Plan}
use Rattle.milp_builder.specs.Boxes.{root_box}
use Rattle.std.proofs.Common.{arith}
use Rattle.std.proofs.lemmas.Int.{ints}
use Rattle.cert_tree.specs.Trees.{BoxTree, box_tree_of}
use Rattle.cert_tree.specs.Soundness.{IsSound}
use Rattle.cert_text.specs.CertText.{cert_text}
use Rattle.cert_text.specs.Certs.{certificate_of}
use Rattle.cert_text.specs.Validity.{longest_text}
use Rattle.cert_text.proofs.ValidLaws.{valid_unbeaten}
use Rattle.branch_bound.specs.Noted.{tree_of, notes_of}
use Rattle.branch_bound.specs.Endings.{HasPlanAt}
use Rattle.branch_bound.specs.Searched.{IsSearched}
use Rattle.branch_bound.specs.Found.{IsFound}
use Rattle.branch_bound.specs.inside.Grown.{grown_of, noted_of, AreKeys, IsCostKey}
use Rattle.branch_bound.specs.inside.Least.{IsLeastKey}
use Rattle.branch_bound.specs.inside.Searches.{best_cost, best_plan, IsBest, IsFinishedSearch}
use Rattle.branch_bound.specs.declared.best.Best.{Best}
use Rattle.branch_bound.specs.declared.growing.Finished.{Finished}
use Rattle.branch_bound.specs.declared.finding.Found.{Found}
use Rattle.branch_bound.proofs.SearchLemmas.{search_keys, cost_key}
use Rattle.branch_bound.proofs.SearchedLaw.{searched}
use Rattle.branch_bound.proofs.LeastLemmas.{least_of_leaves}
use Rattle.branch_bound.proofs.LeavesLaw.{has_few_leaves}
use Rattle.branch_bound.proofs.SpelledLaw.{spelled_found}
use Rattle.branch_bound.proofs.ValidLaw.{valid_search}
use Rattle.branch_bound.proofs.TextLengths.{cert_length}

pub plan_of_best : (road : Road) (best : Option Best) → IsBest road best → HasPlanAt road (best_plan best) (best_cost best)
plan_of_best road None h = tt
plan_of_best road (Some best) h = h.plan_at

short_text : (n : ℕ) → n ≤ 2 ^ 26 → n ≤ longest_text
unfolding longest_text
short_text n h = h

pub found_is : (road : Road) (finished : Finished) (found : Found) → road_fault road ≡ None → IsFinishedSearch road finished
    → found.cert.plan ≡ best_plan finished.search.best → found.cert.cost ≡ best_cost finished.search.best
    → IsLeastKey (grown_of finished.search.work) found.cert.bound
    → box_tree_of found.cert.tree ≡ tree_of (noted_of (best_cost finished.search.best) (grown_of finished.search.work))
    → found.notes ≡ notes_of (noted_of (best_cost finished.search.best) (grown_of finished.search.work))
    → found.count ≡ finished.count → IsFound road found
found_is road finished found accepted h p c bound tree notes count =
    let cost = best_cost finished.search.best in
    let grown = grown_of finished.search.work in
    let plan = best_plan finished.search.best in
    let a = IsAccepted-from_fault road accepted in
    let least = least_of_leaves road cost grown (root_box road) found.cert.bound h.search.good bound in
    let all : IsSearched road plan cost found.cert.bound (box_tree_of found.cert.tree) finished.count found.notes =
    searched road a plan cost found.cert.bound grown finished.count
    (plan_of_best road finished.search.best h.search.best_is) h.search.good h.search.ordered h.counted h.within h.ended least
    (box_tree_of found.cert.tree) found.notes tree notes in
    let with_plan = subst (λ (q : Option Plan). IsSearched road q cost found.cert.bound (box_tree_of found.cert.tree) finished.count found.notes) (sym p) all in
    let with_cost = subst (λ (f : Option Fraction). IsSearched road found.cert.plan f found.cert.bound (box_tree_of found.cert.tree) finished.count found.notes) (sym c) with_plan in
    let searched_is = subst (λ (n : ℕ). IsSearched road found.cert.plan found.cert.cost found.cert.bound (box_tree_of found.cert.tree) n found.notes) (sym count) with_cost in
    let sound = subst (λ (t : BoxTree). IsSound road found.cert.bound t (root_box road)) (sym searched_is.own_tree) searched_is.sound in
    let spelled = spelled_found road a.well_formed finished.search.best grown found.cert h.search.best_is p c bound sound in
    let valid = valid_search road found.cert found.count found.notes searched_is in
    let counted = searched_is.counted in
    let within = searched_is.within_budget in
    let most = a.well_formed.nodes.at_most in
    record {
      searched = searched_is;
      valid = valid;
      unbeaten = valid_unbeaten road a (certificate_of found.cert) spelled.has_text.bound valid;
      spelled = spelled;
      short = short_text (length (cert_text road (certificate_of found.cert))) (cert_length road a (certificate_of found.cert) spelled.has_text (omega (arith, ints, counted, within, most)));
      few_leaves = has_few_leaves road a;
    }

pub finished_keys : (road : Road) (finished : Finished) → IsFinishedSearch road finished → AreKeys (grown_of finished.search.work)
finished_keys road finished h = search_keys road finished.search h.search

pub finished_cost : (road : Road) (finished : Finished) (cost : Option Fraction) → IsFinishedSearch road finished → cost ≡ best_cost finished.search.best → IsCostKey cost
finished_cost road finished cost h e = subst IsCostKey (sym e) (cost_key road finished.search.best h.search.best_is)
