use Rattle.std.proofs.Common.{FitsSigned, ap, arith, subst, sym, ◌≡◌, ◌∙◌}
use Rattle.std.specs.Prelude.{ℤ, pos, ◌^◌, ◌≤ℤ◌, ◌*ℤ◌}
use Rattle.std.specs.Int.{w128, int_min}
use Rattle.std.proofs.lemmas.Int.{ints, to_z-of_z}
use Rattle.milp_builder.proofs.volumes.thickness_within.Goals as goal

least_from : (a b : ℤ) → pos 0 ≤ℤ a → pos 0 ≤ℤ b → pos 0 ≤ℤ int_min a b
least_from a b h k = grind (arith, ints)

least_to : (a b : ℤ) → b ≤ℤ pos (2 ^ 96) → int_min a b ≤ℤ pos (2 ^ 96)
least_to a b h = grind (arith, ints)

pub returns-clause-value : goal.returns-clause-value
returns-clause-value c =
    let depth : FitsSigned w128 c.args.depth = c.ranges.depth in
    let den : FitsSigned w128 c.args.den = c.ranges.den in
    let thickness : FitsSigned w128 c.thickness_over.result = record { sfits = c.thickness_over.type_inv } in
    let least : FitsSigned w128 c.min.result = record { sfits = c.min.type_inv } in
    let product : c.thickness_over.result ≡ c.args.slab.thick *ℤ c.args.den = simp to_z-of_z at c.thickness_over.ensures.value in
    let within : c.min.result ≡ int_min c.args.depth c.thickness_over.result = simp to_z-of_z at c.min.ensures.value in
    simp to_z-of_z (within ∙ ap (int_min c.args.depth) product)

pub returns-clause-from : goal.returns-clause-from
returns-clause-from c =
    let depth : FitsSigned w128 c.args.depth = c.ranges.depth in
    let thickness : FitsSigned w128 c.thickness_over.result = record { sfits = c.thickness_over.type_inv } in
    let least : FitsSigned w128 c.min.result = record { sfits = c.min.type_inv } in
    let within : c.min.result ≡ int_min c.args.depth c.thickness_over.result = simp to_z-of_z at c.min.ensures.value in
    simp to_z-of_z (subst (λ (z : ℤ). pos 0 ≤ℤ z) (sym within) (least_from c.args.depth c.thickness_over.result c.requires.depth c.thickness_over.ensures.from))

pub returns-clause-to : goal.returns-clause-to
returns-clause-to c =
    let depth : FitsSigned w128 c.args.depth = c.ranges.depth in
    let thickness : FitsSigned w128 c.thickness_over.result = record { sfits = c.thickness_over.type_inv } in
    let least : FitsSigned w128 c.min.result = record { sfits = c.min.type_inv } in
    let within : c.min.result ≡ int_min c.args.depth c.thickness_over.result = simp to_z-of_z at c.min.ensures.value in
    simp to_z-of_z (subst (λ (z : ℤ). z ≤ℤ pos (2 ^ 96)) (sym within) (least_to c.args.depth c.thickness_over.result c.thickness_over.ensures.to))
