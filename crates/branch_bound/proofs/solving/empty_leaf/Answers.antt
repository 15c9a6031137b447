use Rattle.std.proofs.Common.{FitsSigned, subst, sym, ◌≡◌, List, Some, None, length}
use Rattle.std.specs.Prelude.{ℤ, pos}
use Rattle.std.specs.Int.{w128}
use Rattle.std.proofs.lemmas.Int.{to_z-of_z}
use Rattle.std.specs.Int.{int_max}
use Rattle.std.specs.Result.{IfOk}
use Rattle.std.proofs.lemmas.Result.{IfOk-weaker}
use Rattle.safe_bounds.specs.Narrowing.{AreNarrow, IsNarrowed}
use Rattle.tableau.specs.declared.exchange.Exchange.{Exchange}
use Rattle.branch_bound.specs.declared.notes.NodeNote.TheVariants.{Limit}
use Rattle.branch_bound.specs.inside.Proving.{IsGreatestOf}
use Rattle.safe_bounds.specs.Values.{AreMultipliers}
use Rattle.branch_bound.specs.Optima.{exchange_budget}
use Rattle.branch_bound.specs.inside.Solving.{AreDeadMults, IsStoppedLeaf}
use Rattle.branch_bound.proofs.EndLemmas.{dead_multipliers, dead_proving, empty_dead, empty_limit}
use Rattle.branch_bound.proofs.solving.empty_leaf.Goals as goal

pub dead_mults-requires : goal.dead_mults-requires
dead_mults-requires c = record {
  mults = subst (AreMultipliers c.args.milp.now) (sym c.as_slice-2.ensures.value)
      (dead_multipliers c.args.milp.now (exchange_budget c.args.road.now) c.args.trail.items c.args.ray.items c.args.scale c.args.mults.items
      c.narrowed-ray.result.mults.items c.requires.dead c.narrowed-ray.ensures.count c.narrowed-ray.ensures.mults);
}

pub returns-in-Some : goal.returns-in-Some
returns-in-Some c =
    let dead : AreDeadMults c.args.milp.now c.as_slice-2.result.now (Some c.in-Some.pairs) =
    subst (λ pairs. AreDeadMults c.args.milp.now c.as_slice-2.result.now pairs) c.in-Some.is c.in_ok-pairs.ensures in
    empty_dead c.args.road.now c.args.range c.args.milp.now c.args.trail.items c.args.ray.items c.args.scale c.args.mults.items c.requires.dead
    c.narrowed-ray.result.mults.items c.in-Some.pairs _ c.narrowed-ray.ensures.count c.narrowed-ray.ensures.signs
    (subst (λ (ys : List ℤ). AreDeadMults c.args.milp.now ys (Some c.in-Some.pairs)) c.as_slice-2.ensures.value dead) c.emptied_leaf.ensures

pub stopped_leaf-requires-clause-proving : goal.stopped_leaf-requires-clause-proving
stopped_leaf-requires-clause-proving c =
    let scale : FitsSigned w128 c.args.scale = c.ranges.scale in
    simp to_z-of_z (dead_proving c.args.milp.now (exchange_budget c.args.road.now) c.args.trail.items c.args.ray.items c.args.scale c.args.mults.items
    c.requires.dead c.requires.mults)

pub returns : goal.returns
returns c =
    let program = c.args.milp.now in
    let numbers = c.args.ray.items in
    let scale_fits : FitsSigned w128 c.args.scale = c.ranges.scale in
    let greatest_fits : FitsSigned w128 c.greatest_magnitude-greatest.result = record { sfits = c.greatest_magnitude-greatest.type_inv } in
    let top_fits : FitsSigned w128 c.from_one.result = record { sfits = c.from_one.type_inv } in
    let greatest : IsGreatestOf numbers (length numbers) c.greatest_magnitude-greatest.result =
    subst (λ (ys : List ℤ). IsGreatestOf ys (length ys) c.greatest_magnitude-greatest.result) c.as_slice.ensures.value c.greatest_magnitude-greatest.ensures in
    let top : c.from_one.result ≡ int_max c.greatest_magnitude-greatest.result (pos 1) = simp to_z-of_z at c.from_one.ensures in
    let narrowed : IsNarrowed c.from_one.result numbers c.narrowed-ray.result.scale c.narrowed-ray.result.mults.items = simp to_z-of_z at c.narrowed-ray.ensures.narrowed in
    let unchanged : AreNarrow c.from_one.result numbers → (c.narrowed-ray.result.scale ≡ c.from_one.result) × (c.narrowed-ray.result.mults.items ≡ numbers) =
    simp to_z-of_z at c.narrowed-ray.ensures.unchanged in
    let dead : AreDeadMults program c.as_slice-2.result.now None =
    subst (λ pairs. AreDeadMults program c.as_slice-2.result.now pairs) c.in_default.is c.in_ok-pairs.ensures in
    let nothing : AreDeadMults program c.narrowed-ray.result.mults.items None = subst (λ (ys : List ℤ). AreDeadMults program ys None) c.as_slice-2.ensures.value dead in
    let raw : IfOk c.stopped_leaf.result (λ leaf. IsStoppedLeaf c.args.road.now c.args.range program c.args.scale c.args.mults.items (Limit c.new.result c.greatest_magnitude-greatest.result) leaf) =
    simp to_z-of_z at c.stopped_leaf.ensures in
    let stopped : IfOk c.stopped_leaf.result (λ leaf. IsStoppedLeaf c.args.road.now c.args.range program c.args.scale c.args.mults.items (Limit c.args.trail.items c.greatest_magnitude-greatest.result) leaf) =
    subst (λ (trail : List Exchange). IfOk c.stopped_leaf.result (λ leaf. IsStoppedLeaf c.args.road.now c.args.range program c.args.scale c.args.mults.items (Limit trail c.greatest_magnitude-greatest.result) leaf))
    c.new.ensures raw in
    IfOk-weaker c.stopped_leaf.result _ _
    (λ leaf s.
    empty_limit c.args.road.now c.args.range program c.args.trail.items numbers c.args.scale c.args.mults.items c.requires.dead
    c.greatest_magnitude-greatest.result c.from_one.result c.narrowed-ray.result.scale c.narrowed-ray.result.mults.items leaf greatest top narrowed unchanged nothing s)
    stopped
