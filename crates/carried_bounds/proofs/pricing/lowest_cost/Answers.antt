use Rattle.std.proofs.Common.{rules, subst}
use Rattle.std.specs.Prelude.{FitsSigned}
use Rattle.std.specs.Int.{w128}
use Rattle.std.proofs.lemmas.Int.{to_z-of_z}
use Rattle.numbers.specs.Fractions.{HasValue}
use Rattle.road_types.proofs.AcceptedRoad.{IsAccepted-from_fault}
use Rattle.carried_bounds.proofs.StatedLaws.{cost_stated}
use Rattle.carried_bounds.proofs.pricing.lowest_cost.Goals as goal

pub returns-clause-stated : goal.returns-clause-stated
returns-clause-stated c =
    let road = c.args.road.now in
    let plan = c.args.plan.now in
    let cost : FitsSigned w128 c.cost_over-cost.result = record { sfits = c.cost_over-cost.type_inv } in
    let den : FitsSigned w128 c.args.plan.now.den = search rules in
    let value = subst (λ z. HasValue c.in-Some.cost z c.args.plan.now.den) c.cost_over-cost.ensures.value (simp to_z-of_z at c.in-Some.ensures.value) in
    cost_stated road plan c.in-Some.cost (IsAccepted-from_fault road c.requires.accepted) c.requires.text c.requires.admissible c.in-Some.ensures.reduced.lowest value
