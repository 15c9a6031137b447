use Rattle.std.proofs.Common.{FitsSigned, rules}
use Rattle.std.specs.Int.{w128}
use Rattle.std.proofs.lemmas.Int.{to_z-of_z}
use Rattle.report.proofs.WidthsLemmas.{limited, offset_small}
use Rattle.report.proofs.entries.offset.Goals as goal

pub offset_of-requires-clause-limited : goal.offset_of-requires-clause-limited
offset_of-requires-clause-limited c = limited c.args.road.now c.args.plan.now c.requires.admissible

pub returns-clause-width : goal.returns-clause-width
returns-clause-width c =
    let found : FitsSigned w128 c.offset_of.result = search rules in
    simp to_z-of_z (rw c.offset_of.ensures (offset_small c.args.road.now c.args.plan.now c.requires.well_formed c.requires.fits c.requires.admissible c.args.section c.requires.section))
