use Rattle.std.proofs.Common.{rules, FitsSigned}
use Rattle.std.specs.Int.{w64, w128}
use Rattle.std.proofs.lemmas.Int.{to_z-of_z}
use Rattle.plan_rules.proofs.rules.caps.is_fill_capped.Goals as goal

pub returns : goal.returns
returns c =
    let cap : FitsSigned w64 c.section.result.now.fill_max = search rules in
    let den : FitsSigned w128 c.args.plan.now.den = search rules in
    let amount : FitsSigned w128 c.amount_at.result = search rules in
    rw (c.section.ensures, c.amount_at.ensures) at (simp to_z-of_z at c.is_within.ensures)

pub is_within-requires : goal.is_within-requires
is_within-requires c =
    let den : FitsSigned w128 c.args.plan.now.den = search rules in
    record { den = simp to_z-of_z c.requires.fits.den }
