use Rattle.std.specs.Prelude.{◌*ℤ◌, FitsSigned}
use Rattle.std.specs.Int.{w128}
use Rattle.std.proofs.Common.{arith}
use Rattle.std.proofs.lemmas.Int.{to_z-of_z}
use Rattle.worked_values.proofs.SmallLemmas.{fits_narrow, fits_wide, product_width}
use Rattle.worked_values.proofs.small.product.Goals as goal

pub overflow_mul-result : goal.overflow_mul-result
overflow_mul-result c =
    let a = c.args.a.value in
    let b = c.args.b.value in
    let width = product_width a b c.args.a.in_range c.args.b.in_range in
    let left = fits_narrow a c.args.a.in_range in
    let right = fits_narrow b c.args.b.in_range in
    let left_wide : FitsSigned w128 a = fits_wide a (let h = c.args.a.in_range in omega arith) in
    let right_wide : FitsSigned w128 b = fits_wide b (let h = c.args.b.in_range in omega arith) in
    simp to_z-of_z (fits_wide (a *ℤ b) (omega arith))

pub returns : goal.returns
returns c =
    let a = c.args.a.value in
    let b = c.args.b.value in
    let width = product_width a b c.args.a.in_range c.args.b.in_range in
    let left = fits_narrow a c.args.a.in_range in
    let right = fits_narrow b c.args.b.in_range in
    let left_wide : FitsSigned w128 a = fits_wide a (let h = c.args.a.in_range in omega arith) in
    let right_wide : FitsSigned w128 b = fits_wide b (let h = c.args.b.in_range in omega arith) in
    let fits : FitsSigned w128 (a *ℤ b) = fits_wide (a *ℤ b) (omega arith) in
    record { value = simp to_z-of_z; width = simp to_z-of_z width }
