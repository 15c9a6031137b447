use Rattle.std.proofs.Common.{FitsSigned, rules, arith}
use Rattle.std.specs.Int.{w128}
use Rattle.std.proofs.lemmas.Int.{to_z-of_z}
use Rattle.algebra.proofs.Magnitudes.{fits_w128}
use Rattle.report.specs.Mass.{hop_moment}
use Rattle.report.proofs.MassLemmas.{moment_small}
use Rattle.report.proofs.mass.hop_moment.Goals as goal

pub times-requires : goal.times-requires
times-requires c =
    let road = c.args.road.now in
    let plan = c.args.plan.now in
    let right : FitsSigned w128 c.amount_at.result = search rules in
    let left : FitsSigned w128 c.amount_at-2.result = search rules in
    let sum : FitsSigned w128 c.in_both-both.result = search rules in
    let metres : FitsSigned w128 c.hop_metres.result = search rules in
    let both = simp to_z-of_z at c.in_both-both.ensures in
    let small = moment_small road plan c.requires.well_formed c.requires.payable c.args.stage c.args.hop c.requires.stage c.requires.hop in
    let fits = fits_w128 (hop_moment road plan c.args.stage c.args.hop) (omega (arith, small)) in
    simp to_z-of_z (rw (both, c.amount_at.ensures, c.amount_at-2.ensures, c.hop_metres.ensures.value) fits)
