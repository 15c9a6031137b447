use Rattle.std.proofs.Common.{FitsSigned}
use Rattle.std.specs.Int.{w128}
use Rattle.std.proofs.lemmas.Int.{to_z-of_z}
use Rattle.milp_builder.proofs.ComparingLemmas.{scale_comparable}
use Rattle.milp_builder.proofs.plans.whole_plan.Goals as goal

pub other_volume-requires-clause-den : goal.other_volume-requires-clause-den
other_volume-requires-clause-den c =
    let fits : FitsSigned w128 c.args.den = c.ranges.den in
    simp to_z-of_z (scale_comparable c.args.den c.requires.den)
