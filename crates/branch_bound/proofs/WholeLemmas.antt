-- An optimum that is a plan: the cheaper plan stands, and the leaf's bound is at least its cost unless a number had to be narrowed.
use Rattle.std.proofs.Common.{◌≡◌, true, Option, Some, None, List, length, refl, sym, ap, subst, arith, inl, inr, ⊎_elim, ◌∙◌}
use Rattle.std.specs.Prelude.{ℤ, pos, ◌*ℤ◌, ◌≤ℤ◌, ◌<ℤ◌, int_le}
use Rattle.std.specs.List.{Contains}
use Rattle.std.proofs.lemmas.Int.{ints}
use Rattle.std.proofs.lemmas.List.Elements.{All-from_get_or}
use Rattle.algebra.specs.Scale.{greatest_scale}
use Rattle.algebra.proofs.Order.{int_le_refl, int_lt_or_le}
use Rattle.algebra.proofs.Magnitudes.{unsigned_abs_le}
use Rattle.programs.specs.Programs.{Program}
use Rattle.programs.specs.Points.{cost_of_point}
use Rattle.safe_bounds.specs.Values.{value_of, IsMultiplier}
use Rattle.safe_bounds.specs.Narrowing.{AreNarrow}
use Rattle.safe_bounds.proofs.NarrowingLemmas.{narrow_stays}
use Rattle.road_types.specs.declared.road.Road.{Road}
use Rattle.road_points.specs.Shown.{HasWholeRemovals, HasExactVolumes}
use Rattle.milp_builder.specs.BoxPrograms.{box_program}
use Rattle.milp_builder.specs.declared.boxes.BoxRange.{BoxRange}
use Rattle.cert_tree.specs.Soundness.{IsAtLeastBound}
use Rattle.best_first.proofs.KeyLemmas.{at_most_along}
use Rattle.branch_bound.specs.Stops.{IsMultiplierPastLimit}
use Rattle.branch_bound.specs.inside.Better.{IsBetter}
use Rattle.branch_bound.specs.inside.Grown.{whole_leaf, stopped_leaf, grown_of, IsGoodNode}
use Rattle.branch_bound.specs.inside.Proving.{IsNumberPastLimit, IsGreatestOf}
use Rattle.branch_bound.specs.inside.Searches.{best_cost, IsBest, IsSolvedBox}
use Rattle.branch_bound.specs.inside.Solving.{IsLeafOfBox, IsStopWith, IsOptimumOf, IsCheaper, IsPricedBest, IsWholeLeaf}
use Rattle.branch_bound.specs.declared.notes.NodeNote.TheVariants.{Limit}
use Rattle.branch_bound.specs.declared.best.Best.{Best}
use Rattle.branch_bound.specs.inside.Solved.{Solved}
use Rattle.branch_bound.specs.declared.work.Proved.{Proved}
use Rattle.branch_bound.specs.declared.work.Optimum.{Optimum}
use Rattle.branch_bound.proofs.SolvingLemmas.{proved_is, stop_good, leaf_from, positive_den}

-- ---- numbers past the limit

pub none_past : (scale : ℤ) (mults : List ℤ) (greatest : ℤ) → pos 1 ≤ℤ scale → scale ≤ℤ pos greatest_scale → IsGreatestOf mults (length mults) greatest
    → greatest ≤ℤ pos greatest_scale → AreNarrow scale mults
none_past scale mults greatest one small g all = record {
  scale_within = unsigned_abs_le scale greatest_scale (omega (arith, ints)) small;
  mults_within = All-from_get_or IsMultiplier mults (pos 0) (λ i l. let e = g.each i (pos 0) l in omega (arith, ints));
}

pub scale_past : (scale : ℤ) (mults : List ℤ) → pos greatest_scale <ℤ scale → IsNumberPastLimit scale mults scale
scale_past scale mults h = record { past = h; own = inl refl }

pub mult_past : (scale : ℤ) (mults : List ℤ) (greatest : ℤ) → IsGreatestOf mults (length mults) greatest → pos greatest_scale <ℤ greatest → IsNumberPastLimit scale mults greatest
mult_past scale mults greatest g h =
    let o = g.one (omega (arith, ints)) in
    record { past = h; own = inr (o.0, (o.1.0, sym o.1.1)) }

-- ---- the cheaper of two plans

le_of_test : (a b : ℤ) → int_le a b ≡ true → a ≤ℤ b
le_of_test a b e = grind (arith, ints)

pub takes_first : (found : Best) → IsCheaper found None found
takes_first found = record { one_of = inl refl; not_above_found = int_le_refl (found.cost.num *ℤ found.cost.den); not_above_old = tt }

pub keeps_old : (found old : Best) → (old.cost.num *ℤ found.cost.den) ≤ℤ (found.cost.num *ℤ old.cost.den) → IsCheaper found (Some old) old
keeps_old found old h = record { one_of = inr refl; not_above_found = h; not_above_old = int_le_refl (old.cost.num *ℤ old.cost.den) }

pub takes_found : (found old : Best) → ((old.cost.num *ℤ found.cost.den) ≤ℤ (found.cost.num *ℤ old.cost.den) → ⊥) → IsCheaper found (Some old) found
takes_found found old h = record {
  one_of = inl refl;
  not_above_found = int_le_refl (found.cost.num *ℤ found.cost.den);
  not_above_old = ⊎_elim
      (λ (l : (found.cost.num *ℤ old.cost.den) <ℤ (old.cost.num *ℤ found.cost.den)). omega (arith, ints))
      (λ (l : (old.cost.num *ℤ found.cost.den) ≤ℤ (found.cost.num *ℤ old.cost.den)). absurd (h l))
      (int_lt_or_le (found.cost.num *ℤ old.cost.den) (old.cost.num *ℤ found.cost.den));
}

-- ---- the leaf

pub whole_is : (optimum : Optimum) (proved : Proved) (found : Best) (old : Option Best) (best : Best) (solved : Solved) → IsCheaper found old best
    → AreNarrow optimum.scale optimum.mults → solved.best ≡ Some best → grown_of solved.leaf ≡ whole_leaf proved → IsWholeLeaf optimum proved found old solved
whole_is optimum proved found old best solved c n b l = record { best = best; best_is = b; cheaper = c; leaf_is = inl (n, l) }

pub past_is : (optimum : Optimum) (proved : Proved) (found : Best) (old : Option Best) (best : Best) (solved : Solved) (number : ℤ) → IsCheaper found old best
    → IsNumberPastLimit optimum.scale optimum.mults number → solved.best ≡ Some best → grown_of solved.leaf ≡ stopped_leaf proved (Limit optimum.trail number)
    → IsWholeLeaf optimum proved found old solved
past_is optimum proved found old best solved number c p b l = record { best = best; best_is = b; cheaper = c; leaf_is = inr (number, (p, l)) }

cost_den : (road : Road) (best : Best) → IsBest road (Some best) → pos 1 ≤ℤ best.cost.den
cost_den road best h = h.cost_key.scale.from_one

module _ (road : Road) (box : BoxRange) (optimum : Optimum) (proved : Proved) (found : Best) (old : Option Best) (solved : Solved)
    (o : IsOptimumOf road box optimum proved) (whole : HasWholeRemovals road optimum.den optimum.point) (exact : HasExactVolumes road optimum.den optimum.point)
    (priced : IsPricedBest road (box_program road box) optimum.den optimum.point found) (old_best : IsBest road old) (h : IsWholeLeaf optimum proved found old solved) where
  abbrev program : Program
  program = box_program road box

  new_best : IsBest road (Some h.best)
  new_best =
      ⊎_elim
      (λ (e : h.best ≡ found). subst (λ (b : Best). IsBest road (Some b)) (sym e) priced.is_best)
      (λ (e : Some h.best ≡ old). subst (IsBest road) (sym e) old_best)
      h.cheaper.one_of

  better : IsBetter (Some h.best.cost) (best_cost old)
  better = record { no_dearer = h.cheaper.not_above_old; new_den = cost_den road h.best new_best; old_den = positive_den road old old_best }

  -- the best plan costs at most what the point costs
  within_point : (h.best.cost.num *ℤ optimum.den) ≤ℤ (cost_of_point program optimum.point *ℤ h.best.cost.den)
  within_point =
      at_most_along (h.best.cost.num, h.best.cost.den) (found.cost.num, found.cost.den) (cost_of_point program optimum.point, optimum.den)
      (cost_den road h.best new_best) (cost_den road found priced.is_best) o.own_optimum.den_from_one h.cheaper.not_above_found priced.within

  -- where nothing was narrowed, the leaf's bound is the point's cost
  bound_meets : AreNarrow optimum.scale optimum.mults → IsAtLeastBound proved.value proved.scale (Some h.best.cost)
  bound_meets narrow =
      let key = o.proved_on.narrow_key in
      let kept = narrow_stays optimum.scale proved.scale optimum.mults key.narrow_mults o.proving.scale_from_one key.narrowed narrow in
      let value_is : proved.value ≡ value_of program optimum.scale optimum.mults =
      key.value ∙ ap (λ (s : ℤ). value_of program s key.narrow_mults) kept.0 ∙ ap (value_of program optimum.scale) kept.1 in
      let costs = o.own_optimum.costs_value in
      let same : (cost_of_point program optimum.point *ℤ proved.scale) ≤ℤ (proved.value *ℤ optimum.den) =
      subst (λ (v : ℤ). (cost_of_point program optimum.point *ℤ proved.scale) ≤ℤ (v *ℤ optimum.den)) (sym value_is)
      (subst (λ (s : ℤ). (cost_of_point program optimum.point *ℤ s) ≤ℤ (value_of program optimum.scale optimum.mults *ℤ optimum.den)) (sym kept.0) (omega (arith, ints, costs))) in
      at_most_along (h.best.cost.num, h.best.cost.den) (cost_of_point program optimum.point, optimum.den) (proved.value, proved.scale)
      (cost_den road h.best new_best) o.own_optimum.den_from_one o.proved_on.scale_within.from_one within_point same

  stop : (number : ℤ) → IsNumberPastLimit optimum.scale optimum.mults number → IsStopWith road (Some h.best.cost) program (Limit optimum.trail number) optimum.scale optimum.mults
  stop number p =
      let t = o.own_optimum.tableau in
      let own = o.own_optimum.own in
      let mult : IsMultiplierPastLimit road (Some h.best.cost) program t number = record {
        optimal = o.own_optimum.optimal;
        den = optimum.den;
        point = optimum.point;
        own_point = o.own_optimum.own_point;
        whole = whole;
        exact = exact;
        own = ⊎_elim
            (λ (e : number ≡ optimum.scale). inl (e ∙ own.own_scale))
            (λ m. inr (m.0, (subst (λ (ys : List ℤ). Contains ys m.0) own.own_mults m.1.0, m.1.1)))
            p.own;
        plan = λ small. within_point;
      } in
      (t, ((o.own_optimum.reached, record { past = p.past; which = inr (inr mult) }), (own.own_scale, own.own_mults)))

  leaf_good : IsLeafOfBox road (Some h.best.cost) box solved.leaf
  leaf_good =
      ⊎_elim
      (λ w. leaf_from road (Some h.best.cost) box solved.leaf (whole_leaf proved) w.1 tt
      (proved_is road box optimum.scale optimum.mults proved o.proved_on, bound_meets w.0))
      (λ s. stop_good road (Some h.best.cost) box optimum.scale optimum.mults (Limit optimum.trail s.0) proved solved.leaf o.proved_on (inl s.1.1) (stop s.0 s.1.0))
      h.leaf_is

  pub whole_solved : IsSolvedBox road old box solved
  whole_solved = record {
    best_is = subst (IsBest road) (sym h.best_is) new_best;
    better = subst (λ (b : Option Best). IsBetter (best_cost b) (best_cost old)) (sym h.best_is) better;
    is_leaf = leaf_good.is_leaf;
    good = subst (λ (b : Option Best). IsGoodNode road (best_cost b) (grown_of solved.leaf) box) (sym h.best_is) leaf_good.good;
  }
