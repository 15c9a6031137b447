-- What looking for plans in boxes of single pieces leaves as it was.
use Rattle.std.proofs.Common.{◌≡◌, Option, Some, None, refl, sym, subst, arith, ⊎_elim}
use Rattle.std.specs.Prelude.{Result, Ok, Err, IfOk, OnOk}
use Rattle.std.proofs.lemmas.Int.{ints}
use Rattle.algebra.specs.Scale.{IsScale}
use Rattle.numbers.specs.Fractions.{Fraction, IsLowest, HasValue}
use Rattle.road_types.specs.declared.road.Road.{Road}
use Rattle.plan_rules.specs.declared.plan.Plan.{Plan}
use Rattle.plan_rules.specs.Rules.{IsAdmissible}
use Rattle.plan_rules.specs.Costs.{cost_of}
use Rattle.best_first.specs.Keys.{IsKey}
use Rattle.milp_builder.specs.Boxes.{root_box}
use Rattle.milp_builder.specs.declared.boxes.BoxRange.{BoxRange}
use Rattle.cert_tree.specs.Soundness.{HasPositiveDen}
use Rattle.branch_bound.specs.inside.Better.{IsNoDearer}
use Rattle.branch_bound.specs.inside.Grown.{Grown, grown_of, IsGoodNode, keys_of}
use Rattle.branch_bound.specs.inside.Pieces.{IsImproved}
use Rattle.branch_bound.specs.inside.Searches.{best_cost, IsBest, IsBestPlan, IsSearch, IsSolvedBox}
use Rattle.branch_bound.specs.inside.Solving.{IsCheaper}
use Rattle.branch_bound.specs.declared.best.Best.{Best}
use Rattle.branch_bound.specs.declared.growing.Search.{Search}
use Rattle.branch_bound.specs.declared.work.Work.{Work}
use Rattle.branch_bound.proofs.BetterLemmas.{better_along, good_along}
use Rattle.best_first.specs.inside.Covers.{IsOrderedTree}

best_den : (road : Road) (best : Option Best) → IsBest road best → HasPositiveDen (best_cost best)
best_den road None h = tt
best_den road (Some best) h = h.cost_key.scale.from_one

no_dearer_same : (cost : Option Fraction) → IsNoDearer cost cost
no_dearer_same None = tt
no_dearer_same (Some cost) = omega (arith, ints)

pub improved_same : (road : Road) (best : Option Best) → IsBest road best → IsImproved road best best
improved_same road best h = record {
  best_is = h;
  better = record { no_dearer = no_dearer_same (best_cost best); new_den = best_den road best h; old_den = best_den road best h };
}

pub improved_along : (road : Road) (old mid new : Option Best) → IsImproved road old mid → IsImproved road mid new → IsImproved road old new
improved_along road old mid new h k = record {
  best_is = k.best_is;
  better = better_along (best_cost new) (best_cost mid) (best_cost old) k.better h.better;
}

-- an admissible plan at its cost, where it is cheaper than the best one
pub offered : (road : Road) (plan : Plan) (found : Best) (old : Option Best) (best : Best) → IsBest road old → IsAdmissible road plan → IsScale plan.den → found.plan ≡ plan
    → HasValue found.cost (cost_of road plan) plan.den → IsLowest found.cost → IsKey (found.cost.num, found.cost.den) → IsCheaper found old best → IsImproved road old (Some best)
offered road plan found old best h a d e v l k c =
    let held : IsBestPlan road found = record {
      plan_at = record {
        admissible = subst (IsAdmissible road) (sym e) a;
        cost_is = record { lowest = l; value = subst (λ (q : Plan). HasValue found.cost (cost_of road q) q.den) (sym e) v };
      };
      cost_key = k;
      den_within = subst (λ (q : Plan). IsScale q.den) (sym e) d;
    } in
    let now : IsBestPlan road best =
    ⊎_elim (λ (f : best ≡ found). subst (IsBestPlan road) (sym f) held) (λ (f : Some best ≡ old). subst (IsBest road) (sym f) h) c.one_of in
    record { best_is = now; better = record { no_dearer = c.not_above_old; new_den = now.cost_key.scale.from_one; old_den = best_den road old h } }

-- a search with a better plan is a search
pub search_improved : (road : Road) (before after : Search) → IsSearch road before → IsImproved road before.best after.best → grown_of after.work ≡ grown_of before.work → IsSearch road after
search_improved road before after h k e = record {
  best_is = k.best_is;
  good = subst (λ (g : Grown). IsGoodNode road (best_cost after.best) g (root_box road)) (sym e) (good_along road (best_cost after.best) (best_cost before.best) (grown_of before.work) (root_box road) k.better h.good);
  ordered = subst (λ (g : Grown). IsOrderedTree (keys_of g)) (sym e) h.ordered;
}

pub searched_on : {A E : Type 0} (road : Road) (before : Search) (best : Option Best) (result : Result A E) → IsSearch road before → OnOk result (IsImproved road before.best best)
    → OnOk result (IsSearch road (record { work = before.work; best = best }))
searched_on road before best (Ok done) h k = search_improved road before (record { work = before.work; best = best }) h k refl
searched_on road before best (Err error) h k = k

-- a box is solved all the same where a cheaper plan was found beside it
pub solved_improved : (road : Road) (old new : Option Best) (range : BoxRange) (leaf : Work) → IsSolvedBox road old range (record { leaf = leaf; best = old }) → IsImproved road old new
    → IsSolvedBox road old range (record { leaf = leaf; best = new })
solved_improved road old new range leaf h k = record {
  best_is = k.best_is;
  better = k.better;
  is_leaf = h.is_leaf;
  good = good_along road (best_cost new) (best_cost old) (grown_of leaf) range k.better h.good;
}

pub beyond_solved : {E : Type 0} (road : Road) (old new : Option Best) (range : BoxRange) (grown : Grown) (result : Result Work E)
    → ((leaf : Work) → grown_of leaf ≡ grown → IsSolvedBox road old range (record { leaf = leaf; best = old })) → IfOk result (λ (leaf : Work). grown_of leaf ≡ grown)
    → OnOk result (IsImproved road old new) → IfOk result (λ (leaf : Work). IsSolvedBox road old range (record { leaf = leaf; best = new }))
beyond_solved road old new range grown (Ok leaf) f e k = solved_improved road old new range leaf (f leaf e) k
beyond_solved road old new range grown (Err error) f e k = e
