use Rattle.std.proofs.Common.{rules, FitsSigned, subst, ◌∙◌, List}
use Rattle.std.specs.Prelude.{ℤ}
use Rattle.std.specs.Int.{w128}
use Rattle.std.specs.Result.{IfOk}
use Rattle.std.proofs.lemmas.Int.{to_z-of_z}
use Rattle.branch_bound.specs.inside.Proving.{IsProvedOn}
use Rattle.branch_bound.proofs.solving.prove_optimum.Goals as goal

pub returns : goal.returns
returns c =
    let scale : FitsSigned w128 c.args.optimum.now.scale = search rules in
    let proved : IfOk c.prove.result (λ proved. IsProvedOn c.args.milp.now c.args.optimum.now.scale c.in_ok-mults.mults.items proved) = simp to_z-of_z at c.prove.ensures in
    subst (λ (ys : List ℤ). IfOk c.prove.result (λ proved. IsProvedOn c.args.milp.now c.args.optimum.now.scale ys proved)) (c.in_ok-mults.ensures ∙ c.as_slice.ensures) proved
