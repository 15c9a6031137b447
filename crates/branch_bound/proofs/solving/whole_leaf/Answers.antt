use Rattle.std.proofs.Common.{rules, FitsSigned, Option, refl, subst, sym, List}
use Rattle.std.specs.Prelude.{ℤ}
use Rattle.std.specs.Int.{w128}
use Rattle.std.proofs.lemmas.Int.{to_z-of_z}
use Rattle.safe_bounds.specs.Narrowing.{AreNarrow}
use Rattle.branch_bound.specs.inside.Proving.{IsNumberPastLimit}
use Rattle.branch_bound.specs.inside.Grown.{IsCostKey}
use Rattle.branch_bound.specs.inside.Searches.{best_cost}
use Rattle.branch_bound.specs.inside.Solving.{IsCheaper}
use Rattle.branch_bound.specs.declared.best.Best.{Best}
use Rattle.branch_bound.proofs.WholeLemmas.{whole_is, past_is}
use Rattle.branch_bound.proofs.solving.whole_leaf.Goals as goal

pub cheaper-requires-clause-old : goal.cheaper-requires-clause-old
cheaper-requires-clause-old c = subst (λ (old : Option Best). IsCostKey (best_cost old)) (sym c.take.ensures.value) c.requires.best

pub returns-in-None : goal.returns-in-None
returns-in-None c =
    let fits : FitsSigned w128 c.args.optimum.scale = search rules in
    let cheaper : IsCheaper c.args.found c.args.best.now c.cheaper.result = subst (λ (old : Option Best). IsCheaper c.args.found old c.cheaper.result) c.take.ensures.value c.cheaper.ensures in
    let narrow : AreNarrow c.args.optimum.scale c.as_slice.result.now = simp to_z-of_z at c.in-None.ensures.narrow in
    whole_is c.args.optimum c.args.proved c.args.found c.args.best.now c.cheaper.result _ cheaper
    (subst (AreNarrow c.args.optimum.scale) c.as_slice.ensures narrow) refl c.done_leaf.ensures

pub returns-in-Some : goal.returns-in-Some
returns-in-Some c =
    let fits : FitsSigned w128 c.args.optimum.scale = search rules in
    let cheaper : IsCheaper c.args.found c.args.best.now c.cheaper.result = subst (λ (old : Option Best). IsCheaper c.args.found old c.cheaper.result) c.take.ensures.value c.cheaper.ensures in
    let value : FitsSigned w128 c.in-Some.value = search rules in
    let past : IsNumberPastLimit c.args.optimum.scale c.as_slice.result.now c.in-Some.value = simp to_z-of_z at c.in-Some.ensures.past in
    past_is c.args.optimum c.args.proved c.args.found c.args.best.now c.cheaper.result _ c.in-Some.value cheaper
    (subst (λ (ys : List ℤ). IsNumberPastLimit c.args.optimum.scale ys c.in-Some.value) c.as_slice.ensures past) refl (simp to_z-of_z at c.limit_leaf.ensures)
