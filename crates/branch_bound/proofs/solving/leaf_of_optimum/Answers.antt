use Rattle.std.proofs.Common.{◌≡◌, rules, FitsSigned, refl, subst, arith, inl, List}
use Rattle.std.specs.Int.{w128}
use Rattle.std.proofs.lemmas.Int.{ints, to_z-of_z}
use Rattle.std.specs.Prelude.{ℤ}
use Rattle.algebra.specs.Scale.{IsScale}
use Rattle.milp_builder.specs.BoxPrograms.{box_program}
use Rattle.branch_bound.specs.inside.Asking.{IsAsked, AsksForNothing}
use Rattle.branch_bound.specs.inside.Grown.{grown_of, stopped_leaf}
use Rattle.branch_bound.specs.inside.Solving.{IsPricedBest}
use Rattle.branch_bound.specs.declared.work.Work.{Work}
use Rattle.branch_bound.specs.declared.notes.NodeNote.TheVariants.{Limit}
use Rattle.branch_bound.proofs.PieceLemmas.{beyond_solved}
use Rattle.branch_bound.proofs.EndLemmas.{den_scale, waiting_solved, denominator_solved}
use Rattle.branch_bound.proofs.WholeLemmas.{whole_solved}
use Rattle.branch_bound.proofs.solving.leaf_of_optimum.Goals as goal

pub returns-in-Some : goal.returns-in-Some
returns-in-Some c =
    let den : FitsSigned w128 c.args.optimum.den = search rules in
    let asked : IsAsked c.args.road.now c.args.range c.args.optimum.den c.as_slice.result.now c.in-Some.split = simp to_z-of_z at c.in-Some.ensures in
    waiting_solved c.args.road.now c.args.best.now c.args.range c.args.optimum c.args.proved _ c.requires.best c.requires.optimum refl c.in-Some.split _
    (subst (λ (point : List ℤ). IsAsked c.args.road.now c.args.range c.args.optimum.den point c.in-Some.split) c.as_slice.ensures asked) refl c.waiting_leaf.ensures

pub returns-then-optimum-gt-GREATEST_SCALE : goal.returns-then-optimum-gt-GREATEST_SCALE
returns-then-optimum-gt-GREATEST_SCALE c =
    let den : FitsSigned w128 c.args.optimum.den = search rules in
    let none : AsksForNothing c.args.road.now c.args.optimum.den c.as_slice.result.now = simp to_z-of_z at c.in_default.ensures in
    let own = subst (λ (point : List ℤ). AsksForNothing c.args.road.now c.args.optimum.den point) c.as_slice.ensures none in
    let past = simp to_z-of_z at c.if-optimum-gt-GREATEST_SCALE.true in
    beyond_solved c.args.road.now c.args.best.now c.past_plans.new.best c.args.range (stopped_leaf c.args.proved (Limit c.args.optimum.trail c.args.optimum.den)) c.past_plans.result
    (λ (leaf : Work) (e : grown_of leaf ≡ stopped_leaf c.args.proved (Limit c.args.optimum.trail c.args.optimum.den)).
    denominator_solved c.args.road.now c.args.best.now c.args.range c.args.optimum c.args.proved (record { leaf = leaf; best = c.args.best.now }) c.requires.best c.requires.optimum refl
    own.whole own.exact (omega (arith, ints, past)) (inl e))
    c.past_plans.ensures.leaf c.past_plans.ensures.best

pub plan_found-requires-clause-den : goal.plan_found-requires-clause-den
plan_found-requires-clause-den c =
    let den : FitsSigned w128 c.args.optimum.den = search rules in
    let small = simp to_z-of_z at c.if-optimum-gt-GREATEST_SCALE.false in
    simp to_z-of_z (den_scale c.args.optimum.den c.requires.optimum.own_optimum.den_from_one (λ past. omega (arith, ints, small, past)))

pub returns-in-Ok : goal.returns-in-Ok
returns-in-Ok c =
    let den : FitsSigned w128 c.args.optimum.den = search rules in
    let road = c.args.road.now in
    let program = box_program road c.args.range in
    let none : AsksForNothing road c.args.optimum.den c.as_slice.result.now = simp to_z-of_z at c.in_default.ensures in
    let own = subst (λ (point : List ℤ). AsksForNothing road c.args.optimum.den point) c.as_slice.ensures none in
    let small = simp to_z-of_z at c.if-optimum-gt-GREATEST_SCALE.false in
    let scale : IsScale c.args.optimum.den = den_scale c.args.optimum.den c.requires.optimum.own_optimum.den_from_one (λ past. omega (arith, ints, small, past)) in
    let priced : IsPricedBest road program c.args.optimum.den c.as_slice-2.result.now c.in-Ok.found = simp to_z-of_z at c.in-Ok.ensures in
    whole_solved road c.args.range c.args.optimum c.args.proved c.in-Ok.found c.args.best.now _ c.requires.optimum
    own.whole own.exact
    (subst (λ (point : List ℤ). IsPricedBest road program c.args.optimum.den point c.in-Ok.found) c.as_slice-2.ensures priced)
    c.requires.best c.whole_leaf.ensures
