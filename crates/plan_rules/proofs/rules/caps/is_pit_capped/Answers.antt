use Rattle.std.proofs.Common.{rules, FitsSigned}
use Rattle.std.specs.Int.{w64, w128}
use Rattle.std.proofs.lemmas.Int.{to_z-of_z}
use Rattle.plan_rules.proofs.rules.caps.is_pit_capped.Goals as goal

pub returns : goal.returns
returns c =
    let den : FitsSigned w128 c.args.plan.now.den = search rules in
    let capacity : FitsSigned w64 c.pit.result.now.capacity = search rules in
    let total : FitsSigned w128 c.pit_total.result = search rules in
    let most : FitsSigned w128 c.scaled.result = search rules in
    rw (c.pit_total.ensures, simp to_z-of_z at c.scaled.ensures, c.pit.ensures) at (simp to_z-of_z at c.at_most.ensures)

pub scaled-requires : goal.scaled-requires
scaled-requires c =
    let den : FitsSigned w128 c.args.plan.now.den = search rules in
    simp to_z-of_z c.requires.fits.den
