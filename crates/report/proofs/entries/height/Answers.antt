use Rattle.std.proofs.Common.{FitsSigned, rules}
use Rattle.std.specs.Int.{w64, w128}
use Rattle.std.proofs.lemmas.Int.{to_z-of_z}
use Rattle.report.proofs.WidthsLemmas.{limited, height_small}
use Rattle.report.proofs.entries.height.Goals as goal

pub height_at-requires-clause-limited : goal.height_at-requires-clause-limited
height_at-requires-clause-limited c = limited c.args.road.now c.args.plan.now c.requires.admissible

pub returns-clause-width : goal.returns-clause-width
returns-clause-width c =
    let fits : FitsSigned w64 c.section.result.now.station = search rules in
    let found : FitsSigned w128 c.height_at.result = search rules in
    let value = rw c.section.ensures at (simp to_z-of_z at c.height_at.ensures) in
    simp to_z-of_z (rw value (height_small c.args.road.now c.args.plan.now c.requires.well_formed c.requires.fits c.requires.admissible c.args.section c.requires.section))
