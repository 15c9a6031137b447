use Rattle.std.specs.Prelude.{◌^◌, ◌<◌, FitsSigned, unsigned_abs}
use Rattle.std.specs.Int.{w128}
use Rattle.std.proofs.Common.{arith}
use Rattle.std.proofs.lemmas.Int.{to_z-of_z, fits_signed_from_abs}
use Rattle.roadopt_program.proofs.judging.judge_plan.Goals as goal

pub cost_line-requires-clause-cost_in_range : goal.cost_line-requires-clause-cost_in_range
cost_line-requires-clause-cost_in_range c =
    let small : unsigned_abs c.in-Admissible.cost < 2 ^ 127 = omega (arith, c.in-Admissible.ensures.width) in
    let fits : FitsSigned w128 c.in-Admissible.cost = fits_signed_from_abs w128 c.in-Admissible.cost small in
    simp to_z-of_z small
