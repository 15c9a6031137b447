use Rattle.std.proofs.Common.{rules, FitsSigned, refl, subst, sym, ◌^◌, ◌-◌, List}
use Rattle.std.specs.Prelude.{ℤ}
use Rattle.std.specs.Int.{w128}
use Rattle.std.specs.Result.{IfOk}
use Rattle.std.proofs.lemmas.Result.{IfOk-weaker}
use Rattle.std.proofs.lemmas.Int.{to_z-of_z}
use Rattle.simplex.specs.Ends.{IsEnd, HasNumbersWithin, AreWithin, IsOptimum, IsSpent, IsWide}
use Rattle.simplex.specs.declared.lp_end.LpEnd.{LpEnd}
use Rattle.branch_bound.specs.Optima.{exchange_budget}
use Rattle.branch_bound.specs.inside.Solving.{AreProving, IsStoppedLeaf, IsEmptyLeaf}
use Rattle.tableau.specs.declared.exchange.Exchange.{Exchange}
use Rattle.branch_bound.specs.declared.notes.NodeNote.TheVariants.{Pivots, Wide}
use Rattle.branch_bound.proofs.EndLemmas.{spent_proving, wide_proving, optimum_proving, spent_solved, wide_solved, empty_solved}
use Rattle.branch_bound.proofs.solving.solve_end.Goals as goal

pub solve_optimum-requires-clause-numbers : goal.solve_optimum-requires-clause-numbers
solve_optimum-requires-clause-numbers c =
    let scale : FitsSigned w128 c.in-Best.scale = search rules in
    let end : IsOptimum c.args.milp.now (exchange_budget c.args.road.now) c.in-Best.trail.items c.in-Best.den c.in-Best.point.items c.in-Best.scale c.in-Best.mults.items =
    subst (λ (e : LpEnd). IsEnd (2 ^ 127 - 1) c.args.milp.now (exchange_budget c.args.road.now) e) c.in-Best.is c.requires.end in
    let within : AreWithin (2 ^ 127 - 1) c.in-Best.mults.items = subst (λ (e : LpEnd). HasNumbersWithin (2 ^ 127 - 1) e) c.in-Best.is c.requires.numbers in
    let proving : AreProving c.args.milp.now c.in-Best.scale c.in-Best.mults.items =
    optimum_proving c.args.milp.now (exchange_budget c.args.road.now) c.in-Best.trail.items c.in-Best.scale c.in-Best.mults.items within c.in-Best.den c.in-Best.point.items end in
    simp to_z-of_z (subst (λ (ys : List ℤ). AreProving c.args.milp.now c.in-Best.scale ys) (sym c.new-in-Best-2.ensures) proving)

pub stopped_leaf-requires-clause-proving : goal.stopped_leaf-requires-clause-proving
stopped_leaf-requires-clause-proving c =
    let scale : FitsSigned w128 c.in-Pivots.scale = search rules in
    let end : IsSpent c.args.milp.now (exchange_budget c.args.road.now) c.in-Pivots.trail.items c.in-Pivots.scale c.in-Pivots.mults.items =
    subst (λ (e : LpEnd). IsEnd (2 ^ 127 - 1) c.args.milp.now (exchange_budget c.args.road.now) e) c.in-Pivots.is c.requires.end in
    let within : AreWithin (2 ^ 127 - 1) c.in-Pivots.mults.items = subst (λ (e : LpEnd). HasNumbersWithin (2 ^ 127 - 1) e) c.in-Pivots.is c.requires.numbers in
    simp to_z-of_z (spent_proving c.args.milp.now (exchange_budget c.args.road.now) c.in-Pivots.trail.items c.in-Pivots.scale c.in-Pivots.mults.items within end)

pub stopped_leaf-requires-in-Wide-clause-proving : goal.stopped_leaf-requires-in-Wide-clause-proving
stopped_leaf-requires-in-Wide-clause-proving c =
    let scale : FitsSigned w128 c.in-Wide.scale = search rules in
    let end : IsWide (2 ^ 127 - 1) c.args.milp.now (exchange_budget c.args.road.now) c.in-Wide.trail.items c.in-Wide.op c.in-Wide.scale c.in-Wide.mults.items =
    subst (λ (e : LpEnd). IsEnd (2 ^ 127 - 1) c.args.milp.now (exchange_budget c.args.road.now) e) c.in-Wide.is c.requires.end in
    let within : AreWithin (2 ^ 127 - 1) c.in-Wide.mults.items = subst (λ (e : LpEnd). HasNumbersWithin (2 ^ 127 - 1) e) c.in-Wide.is c.requires.numbers in
    simp to_z-of_z (wide_proving c.args.milp.now (exchange_budget c.args.road.now) c.in-Wide.trail.items c.in-Wide.scale c.in-Wide.mults.items within c.in-Wide.op end)

pub returns-in-Empty : goal.returns-in-Empty
returns-in-Empty c =
    let scale : FitsSigned w128 c.in-Empty.scale = search rules in
    let empty : IfOk c.empty_leaf.result (λ leaf. IsEmptyLeaf c.args.road.now c.args.range c.args.milp.now c.in-Empty.trail.items c.in-Empty.scale c.in-Empty.mults.items leaf) =
    simp to_z-of_z at c.empty_leaf.ensures in
    IfOk-weaker c.empty_leaf.result _ _
    (λ leaf h.
    empty_solved c.args.road.now c.args.best.now c.args.range c.args.milp.now _ c.requires.best c.requires.program refl
    c.in-Empty.trail.items c.in-Empty.scale c.in-Empty.mults.items h)
    empty

pub returns-in-Pivots : goal.returns-in-Pivots
returns-in-Pivots c =
    let scale : FitsSigned w128 c.in-Pivots.scale = search rules in
    let end : IsSpent c.args.milp.now (exchange_budget c.args.road.now) c.in-Pivots.trail.items c.in-Pivots.scale c.in-Pivots.mults.items =
    subst (λ (e : LpEnd). IsEnd (2 ^ 127 - 1) c.args.milp.now (exchange_budget c.args.road.now) e) c.in-Pivots.is c.requires.end in
    let stopped : IfOk c.stopped_leaf.result (λ leaf. IsStoppedLeaf c.args.road.now c.args.range c.args.milp.now c.in-Pivots.scale c.in-Pivots.mults.items (Pivots c.new-in-Pivots.result) leaf) =
    simp to_z-of_z at c.stopped_leaf.ensures in
    IfOk-weaker c.stopped_leaf.result _ _
    (λ leaf h.
    spent_solved c.args.road.now c.args.best.now c.args.range c.args.milp.now _ c.requires.best c.requires.program refl
    c.in-Pivots.trail.items c.in-Pivots.scale c.in-Pivots.mults.items
    (subst (λ (trail : List Exchange). IsStoppedLeaf c.args.road.now c.args.range c.args.milp.now c.in-Pivots.scale c.in-Pivots.mults.items (Pivots trail) leaf) c.new-in-Pivots.ensures h) end)
    stopped

pub returns-in-Wide : goal.returns-in-Wide
returns-in-Wide c =
    let scale : FitsSigned w128 c.in-Wide.scale = search rules in
    let end : IsWide (2 ^ 127 - 1) c.args.milp.now (exchange_budget c.args.road.now) c.in-Wide.trail.items c.in-Wide.op c.in-Wide.scale c.in-Wide.mults.items =
    subst (λ (e : LpEnd). IsEnd (2 ^ 127 - 1) c.args.milp.now (exchange_budget c.args.road.now) e) c.in-Wide.is c.requires.end in
    let stopped : IfOk c.stopped_leaf-in-Wide.result (λ leaf. IsStoppedLeaf c.args.road.now c.args.range c.args.milp.now c.in-Wide.scale c.in-Wide.mults.items (Wide c.new-in-Wide.result c.in-Wide.op) leaf) =
    simp to_z-of_z at c.stopped_leaf-in-Wide.ensures in
    IfOk-weaker c.stopped_leaf-in-Wide.result _ _
    (λ leaf h.
    wide_solved c.args.road.now c.args.best.now c.args.range c.args.milp.now _ c.requires.best c.requires.program refl
    c.in-Wide.trail.items c.in-Wide.op c.in-Wide.scale c.in-Wide.mults.items
    (subst (λ (trail : List Exchange). IsStoppedLeaf c.args.road.now c.args.range c.args.milp.now c.in-Wide.scale c.in-Wide.mults.items (Wide trail c.in-Wide.op) leaf) c.new-in-Wide.ensures h) end)
    stopped
