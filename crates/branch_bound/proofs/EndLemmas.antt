-- What the functions that solve a box need, said of a road without a fault: one lemma for each step.
use Rattle.std.proofs.Common.{◌≡◌, ℕ, ◌-◌, ◌^◌, Option, Some, None, List, length, refl, ap, subst, inl, inr, ⊎_elim, ◌∙◌}
use Rattle.std.specs.Prelude.{ℤ, pos, ◌≤ℤ◌, ◌<ℤ◌}
use Rattle.std.specs.Int.{int_max}
use Rattle.std.specs.List.{All}
use Rattle.algebra.specs.Scale.{IsScale, greatest_scale}
use Rattle.algebra.proofs.Order.{int_lt_or_le}
use Rattle.programs.specs.Programs.{Program, row_count}
use Rattle.safe_bounds.specs.Values.{IsMultiplier, AreMultipliers, HasRightSigns}
use Rattle.safe_bounds.specs.Narrowing.{AreNarrow, IsNarrowed}
use Rattle.road_types.specs.declared.road.Road.{Road}
use Rattle.road_points.specs.Shown.{HasWholeRemovals, HasExactVolumes}
use Rattle.milp_builder.specs.BoxPrograms.{box_program}
use Rattle.milp_builder.specs.declared.boxes.BoxRange.{BoxRange}
use Rattle.milp_builder.specs.declared.boxes.Split.{Split}
use Rattle.tableau.specs.declared.exchange.Exchange.{Exchange}
use Rattle.tableau.specs.declared.op.Op.{Op}
use Rattle.simplex.specs.Ends.{IsDead, IsSpent, IsWide, IsOptimum, AreWithin}
use Rattle.branch_bound.specs.Optima.{exchange_budget}
use Rattle.branch_bound.specs.inside.Asking.{IsAsked}
use Rattle.branch_bound.specs.inside.Grown.{dead_leaf, waiting_leaf, grown_of, IsGoodNode}
use Rattle.branch_bound.specs.inside.Proving.{IsProvedOn, IsGreatestOf}
use Rattle.branch_bound.specs.inside.Searches.{best_cost, IsBest, IsSolvedBox}
use Rattle.branch_bound.specs.inside.Solving.{AreProving, IsStopOf, IsStoppedLeaf, IsStopWith, AreDeadMults, IsEmptyLeaf, IsOptimumOf}
use Rattle.branch_bound.specs.declared.notes.NodeNote.{NodeNote}
use Rattle.branch_bound.specs.declared.notes.NodeNote.TheVariants.{Pivots, Wide, Limit}
use Rattle.branch_bound.specs.declared.best.Best.{Best}
use Rattle.branch_bound.specs.inside.Solved.{Solved}
use Rattle.branch_bound.specs.declared.work.Proved.{Proved}
use Rattle.branch_bound.specs.declared.work.Optimum.{Optimum}
use Rattle.branch_bound.specs.declared.work.Waiting.{Waiting}
use Rattle.branch_bound.specs.declared.work.Reason.TheVariants.{Asked}
use Rattle.branch_bound.specs.declared.work.Work.{Work}
use Rattle.branch_bound.proofs.EmptyLemmas.{dead_leaf_is, limit_stop}
use Rattle.branch_bound.proofs.SolvingLemmas.{own_proving, ray_proving, proved_is, leaf_from, stop_good, empty_good, solved_same, spent_stop, wide_stop}

pub den_scale : (den : ℤ) → pos 1 ≤ℤ den → (pos greatest_scale <ℤ den → ⊥) → IsScale den
den_scale den one h = record {
  from_one = one;
  at_most = ⊎_elim (λ l. absurd (h l)) (λ (l : den ≤ℤ pos greatest_scale). l) (int_lt_or_le (pos greatest_scale) den);
}

-- ---- an empty box

module _ (program : Program) (budget : ℕ) (trail : List Exchange) (numbers : List ℤ) (scale : ℤ) (mults : List ℤ) where
  pub dead_rows : IsDead program budget trail numbers scale mults → length numbers ≡ row_count program
  dead_rows h = ray_proving program budget trail h.tableau h.row h.broken numbers h.reached h.own_ray

  pub dead_multipliers : (narrow : List ℤ) → IsDead program budget trail numbers scale mults → length narrow ≡ length numbers → All IsMultiplier narrow
      → AreMultipliers program narrow
  dead_multipliers narrow h c all = record { each_row = c ∙ dead_rows h; within = all }

  pub dead_proving : IsDead program budget trail numbers scale mults → AreWithin (2 ^ 127 - 1) mults → AreProving program scale mults
  dead_proving h within = own_proving program budget trail h.tableau scale mults h.reached h.own within

module _ (road : Road) (box : BoxRange) (program : Program) (trail : List Exchange) (numbers : List ℤ) (scale : ℤ) (mults : List ℤ)
    (dead : IsDead program (exchange_budget road) trail numbers scale mults) where
  pub empty_dead : (narrow : List ℤ) (pairs : List (ℕ × ℤ)) (leaf : Work) → length narrow ≡ length numbers
      → ((p : Program) → HasRightSigns p numbers → HasRightSigns p narrow) → AreDeadMults program narrow (Some pairs) → grown_of leaf ≡ dead_leaf pairs
      → IsEmptyLeaf road box program trail scale mults leaf
  empty_dead narrow pairs leaf c signs d e =
      inl (dead_leaf_is program narrow pairs leaf (c ∙ dead_rows program (exchange_budget road) trail numbers scale mults dead) (signs program dead.ray_signs) d e)

  pub empty_limit : (greatest top narrow_scale : ℤ) (narrow : List ℤ) (leaf : Work) → IsGreatestOf numbers (length numbers) greatest → top ≡ int_max greatest (pos 1)
      → IsNarrowed top numbers narrow_scale narrow → (AreNarrow top numbers → (narrow_scale ≡ top) × (narrow ≡ numbers))
      → AreDeadMults program narrow None → IsStoppedLeaf road box program scale mults (Limit trail greatest) leaf → IsEmptyLeaf road box program trail scale mults leaf
  empty_limit greatest top narrow_scale narrow leaf g e n unchanged nothing s =
      inr (record {
        number = greatest;
        leaf_is = s;
        stop = limit_stop road program trail numbers scale mults greatest narrow_scale narrow dead g
            (subst (λ (z : ℤ). IsNarrowed z numbers narrow_scale narrow) e n)
            (subst (λ (z : ℤ). AreNarrow z numbers → (narrow_scale ≡ z) × (narrow ≡ numbers)) e unchanged) nothing;
      })

-- ---- a box whose simplex stopped

module _ (program : Program) (budget : ℕ) (trail : List Exchange) (scale : ℤ) (mults : List ℤ) (within : AreWithin (2 ^ 127 - 1) mults) where
  pub spent_proving : IsSpent program budget trail scale mults → AreProving program scale mults
  spent_proving h = own_proving program budget trail h.tableau scale mults h.reached h.own within

  pub wide_proving : (op : Op) → IsWide (2 ^ 127 - 1) program budget trail op scale mults → AreProving program scale mults
  wide_proving op h = own_proving program budget trail h.past.tableau scale mults h.past.reached h.own within

  pub optimum_proving : (den : ℤ) (point : List ℤ) → IsOptimum program budget trail den point scale mults → AreProving program scale mults
  optimum_proving den point h = own_proving program budget trail h.tableau scale mults h.reached h.own within

module _ (road : Road) (best : Option Best) (box : BoxRange) (program : Program) (solved : Solved) (b : IsBest road best) (p : program ≡ box_program road box)
    (same : solved.best ≡ best) where
  stopped_solved : (note : NodeNote) (scale : ℤ) (mults : List ℤ) → IsStoppedLeaf road box program scale mults note solved.leaf
      → IsStopWith road (best_cost best) program note scale mults → IsSolvedBox road best box solved
  stopped_solved note scale mults s stop =
      let proved_on = subst (λ (q : Program). IsProvedOn q scale mults s.proved) p s.proved_on in
      let here = subst (λ (q : Program). IsStopWith road (best_cost best) q note scale mults) p stop in
      solved_same road best box solved b same (stop_good road (best_cost best) box scale mults note s.proved solved.leaf proved_on s.is_stopped here)

  pub spent_solved : (trail : List Exchange) (scale : ℤ) (mults : List ℤ) → IsStoppedLeaf road box program scale mults (Pivots trail) solved.leaf
      → IsSpent program (exchange_budget road) trail scale mults → IsSolvedBox road best box solved
  spent_solved trail scale mults s h = stopped_solved (Pivots trail) scale mults s (spent_stop road (best_cost best) program trail scale mults h)

  pub wide_solved : (trail : List Exchange) (op : Op) (scale : ℤ) (mults : List ℤ) → IsStoppedLeaf road box program scale mults (Wide trail op) solved.leaf
      → IsWide (2 ^ 127 - 1) program (exchange_budget road) trail op scale mults → IsSolvedBox road best box solved
  wide_solved trail op scale mults s h = stopped_solved (Wide trail op) scale mults s (wide_stop road (best_cost best) program trail op scale mults h)

  pub empty_solved : (trail : List Exchange) (scale : ℤ) (mults : List ℤ) → IsEmptyLeaf road box program trail scale mults solved.leaf → IsSolvedBox road best box solved
  empty_solved trail scale mults h =
      solved_same road best box solved b same
      (empty_good road (best_cost best) box trail scale mults solved.leaf (subst (λ (q : Program). IsEmptyLeaf road box q trail scale mults solved.leaf) p h))

-- ---- a box with an optimum

module _ (road : Road) (best : Option Best) (box : BoxRange) (optimum : Optimum) (proved : Proved) (solved : Solved) (b : IsBest road best)
    (o : IsOptimumOf road box optimum proved) (same : solved.best ≡ best) where
  pub waiting_solved : (split : Split) (leaf : Waiting) → IsAsked road box optimum.den optimum.point split
      → leaf ≡ record { range = box; split = split; reason = Asked optimum; proved = proved } → grown_of solved.leaf ≡ waiting_leaf leaf → IsSolvedBox road best box solved
  waiting_solved split leaf asked l e =
      let waiting : Waiting = record { range = box; split = split; reason = Asked optimum; proved = proved } in
      let good : IsGoodNode road (best_cost best) (waiting_leaf waiting) box = record {
        range = refl;
        splits = asked.splits;
        reason = record { optimum = o.own_optimum; asks = asked.asks; narrow_key = o.proved_on.narrow_key };
        own_bound = proved_is road box optimum.scale optimum.mults proved o.proved_on;
      } in
      solved_same road best box solved b same
      (leaf_from road (best_cost best) box solved.leaf (waiting_leaf waiting) (e ∙ ap (λ (w : Waiting). waiting_leaf w) l) tt good)

  pub denominator_solved : HasWholeRemovals road optimum.den optimum.point → HasExactVolumes road optimum.den optimum.point → pos greatest_scale <ℤ optimum.den
      → IsStopOf road box proved (Limit optimum.trail optimum.den) (grown_of solved.leaf) → IsSolvedBox road best box solved
  denominator_solved whole exact past e =
      let t = o.own_optimum.tableau in
      let own = o.own_optimum.own in
      solved_same road best box solved b same
      (stop_good road (best_cost best) box optimum.scale optimum.mults (Limit optimum.trail optimum.den) proved solved.leaf o.proved_on e (
        t,
        (
          (
            o.own_optimum.reached,
            record {
              past = past;
              which = inr (inl (record { optimal = o.own_optimum.optimal; point = optimum.point; own_point = o.own_optimum.own_point; whole = whole; exact = exact }));
            },
          ),
          (own.own_scale, own.own_mults),
        ),
      ))
