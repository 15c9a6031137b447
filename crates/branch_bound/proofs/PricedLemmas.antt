-- The plan of an optimum, with its cost in lowest terms.
use Rattle.std.proofs.Common.{◌≡◌, ℕ, ◌≤◌, ◌^◌, None, List, sym, ap, subst, arith, ⊎_elim, ◌∙◌}
use Rattle.std.specs.Prelude.{ℤ, ◌*ℤ◌, ◌≤ℤ◌, unsigned_abs}
use Rattle.std.proofs.lemmas.Int.{ints}
use Rattle.algebra.specs.Scale.{IsScale}
use Rattle.numbers.specs.Fractions.{IsLowest, HasValue}
use Rattle.programs.specs.Points.{IsPoint, cost_of_point}
use Rattle.road_types.specs.Faults.{road_fault}
use Rattle.road_types.proofs.AcceptedRoad.{IsAccepted-from_fault}
use Rattle.road_types.specs.declared.road.Road.{Road}
use Rattle.plan_rules.specs.declared.plan.Plan.{Plan}
use Rattle.plan_rules.specs.declared.verdict.Rule.{Rule}
use Rattle.plan_rules.specs.Rules.{IsAdmissible, IsFirstBroken}
use Rattle.plan_rules.specs.Costs.{cost_of}
use Rattle.milp_builder.specs.Boxes.{IsBoxOf}
use Rattle.milp_builder.specs.BoxPrograms.{box_program}
use Rattle.milp_builder.specs.FoundPlans.{IsPlanOfPoint, IsFoundPlan}
use Rattle.milp_builder.specs.declared.boxes.BoxRange.{BoxRange}
use Rattle.milp_builder.proofs.BoxLaws.{plans_are_points}
use Rattle.milp_builder.proofs.BoxLimits.{box_within_limits}
use Rattle.branch_bound.specs.Endings.{IsPlanAt}
use Rattle.branch_bound.specs.inside.Asking.{AsksForNothing}
use Rattle.branch_bound.specs.inside.Solving.{IsPricedBest}
use Rattle.branch_bound.specs.declared.best.Best.{Best}
use Rattle.branch_bound.proofs.LowestKeys.{key_of_value}
use Rattle.branch_bound.proofs.PlanWidths.{cost_width}

-- an admissible plan breaks no rule
pub not_broken : (road : Road) (plan : Plan) (rule : Rule) (stage place : ℕ) → IsAdmissible road plan → IsFirstBroken road plan rule stage place → ⊥
not_broken road plan rule stage place h b = b.broken.not_kept (h.keeps rule stage place b.broken.is_place)

-- a point that asks for no split has a plan
pub some_plan : (road : Road) (box : BoxRange) (den : ℤ) (point : List ℤ) → IsScale den → AsksForNothing road den point
    → IsFoundPlan road box den point None → ⊥
some_plan road box den point d asked h =
    let exact = asked.exact in
    ⊎_elim
    (λ p. let r = p.1.1 in r.not_whole (asked.whole.each p.0 p.1.0 r.block r.from_two r.at_most))
    (λ o. let v = o.1.0 in v.not_exact (exact.each o.0 v.number))
    h

pub priced_plan : (road : Road) (box : BoxRange) (den : ℤ) (point : List ℤ) (plan : Plan) (found : Best) → road_fault road ≡ None → IsBoxOf road box → IsScale den
    → IsPoint (box_program road box) den point → IsPlanOfPoint road box den point plan → found.plan ≡ plan
    → HasValue found.cost (cost_of road plan) plan.den → IsLowest found.cost → IsPricedBest road (box_program road box) den point found
priced_plan road box den point plan found accepted fits d is_point p e v lowest =
    let a = IsAccepted-from_fault road accepted in
    let cost_is : cost_of_point (box_program road box) point ≡ cost_of road plan =
    ap (cost_of_point (box_program road box)) (sym p.point_is) ∙ (plans_are_points road a).costs plan box p.admissible fits p.inside in
    let v' : HasValue found.cost (cost_of road plan) den = subst (HasValue found.cost (cost_of road plan)) p.den_is v in
    let width : unsigned_abs (cost_of road plan) ≤ 2 ^ 86 =
    subst (λ (z : ℤ). unsigned_abs z ≤ 2 ^ 86) cost_is (cost_width (box_program road box) den point (box_within_limits road a box fits) d is_point) in
    let key = key_of_value found.cost (cost_of road plan) den lowest v' (record { value = width; scale = d }) in
    let at : IsPlanAt road found.plan found.cost = record {
      admissible = subst (IsAdmissible road) (sym e) p.admissible;
      cost_is = record { lowest = lowest; value = subst (λ (q : Plan). HasValue found.cost (cost_of road q) q.den) (sym e) v };
    } in
    record {
      is_best = record { plan_at = at; cost_key = key; den_within = subst (λ (q : Plan). IsScale q.den) (sym e) (subst IsScale (sym p.den_is) d) };
      within = let same = v'.same in subst (λ (c : ℤ). (found.cost.num *ℤ den) ≤ℤ (c *ℤ found.cost.den)) (sym cost_is) (omega (arith, ints, same));
    }
