use Rattle.std.proofs.Common.{FitsSigned}
use Rattle.std.specs.Int.{w128}
use Rattle.std.proofs.lemmas.Int.{to_z-of_z}
use Rattle.milp_builder.specs.FoundPlans.{IsPartRemoval}
use Rattle.branch_bound.proofs.AskingLemmas.{removal_is_asked}
use Rattle.branch_bound.proofs.asking.removal_split.Goals as goal

pub returns-in-Some : goal.returns-in-Some
returns-in-Some c =
    let fits : FitsSigned w128 c.args.den = c.ranges.den in
    let part : IsPartRemoval c.args.road.now c.args.den c.args.point.now c.in-Some.block c.in-Some.stage = simp to_z-of_z at c.in-Some.ensures in
    removal_is_asked c.args.road.now c.args.range.now c.args.den c.args.point.now c.in-Some.block c.in-Some.stage
    c.requires.accepted c.requires.fits c.requires.den c.requires.point part
