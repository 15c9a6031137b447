use Rattle.std.proofs.Common.{ap₂, FitsSigned, rules, arith}
use Rattle.std.specs.Prelude.{ℤ, pos, ◌+ℤ◌, ◌≤ℤ◌}
use Rattle.std.specs.Int.{w64}
use Rattle.std.proofs.lemmas.Int.{ints, to_z-of_z}
use Rattle.haul_rows.proofs.blocks.greatest_haul_out.Goals as goal

caps_fit : (a b : ℤ) → pos 0 ≤ℤ a → a ≤ℤ pos 100000000000000 → pos 0 ≤ℤ b → b ≤ℤ pos 100000000000000 → FitsSigned w64 (a +ℤ b)
caps_fit a b p q r s = omega (arith, ints)

pub overflow_add-result : goal.overflow_add-result
overflow_add-result c =
    let right : FitsSigned w64 c.right_cap.result = search rules in
    let left : FitsSigned w64 c.left_cap.result = search rules in
    simp to_z-of_z (caps_fit c.right_cap.result c.left_cap.result c.right_cap.ensures.from c.right_cap.ensures.to c.left_cap.ensures.from c.left_cap.ensures.to)

pub returns : goal.returns
returns c =
    let right : FitsSigned w64 c.right_cap.result = search rules in
    let left : FitsSigned w64 c.left_cap.result = search rules in
    let sum : FitsSigned w64 (c.right_cap.result +ℤ c.left_cap.result) =
    caps_fit c.right_cap.result c.left_cap.result c.right_cap.ensures.from c.right_cap.ensures.to c.left_cap.ensures.from c.left_cap.ensures.to in
    simp to_z-of_z (ap₂ (λ (x y : ℤ). x +ℤ y) c.right_cap.ensures.value c.left_cap.ensures.value)
