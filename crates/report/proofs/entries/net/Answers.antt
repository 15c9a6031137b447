use Rattle.std.proofs.Common.{FitsSigned, rules}
use Rattle.std.specs.Int.{w128}
use Rattle.std.proofs.lemmas.Int.{to_z-of_z}
use Rattle.report.proofs.WidthsLemmas.{net_small, offset_wider}
use Rattle.report.proofs.entries.net.Goals as goal

pub net_volume-requires-clause-cut : goal.net_volume-requires-clause-cut
net_volume-requires-clause-cut c = rw c.section.ensures (c.requires.well_formed.sections c.args.section c.requires.section).cut

pub net_volume-requires-clause-fill : goal.net_volume-requires-clause-fill
net_volume-requires-clause-fill c = rw c.section.ensures (c.requires.well_formed.sections c.args.section c.requires.section).fill

pub net_volume-requires-clause-offset : goal.net_volume-requires-clause-offset
net_volume-requires-clause-offset c =
    let offset : FitsSigned w128 c.offset.result = search rules in
    simp to_z-of_z (offset_wider _ c.offset.ensures.width)

pub returns-clause-value : goal.returns-clause-value
returns-clause-value c =
    let offset : FitsSigned w128 c.offset.result = search rules in
    let den : FitsSigned w128 c.args.plan.now.den = search rules in
    let found : FitsSigned w128 c.net_volume.result = search rules in
    simp to_z-of_z (rw (c.section.ensures, c.offset.ensures.value) at (simp to_z-of_z at c.net_volume.ensures))

pub returns-clause-width : goal.returns-clause-width
returns-clause-width c =
    let offset : FitsSigned w128 c.offset.result = search rules in
    let den : FitsSigned w128 c.args.plan.now.den = search rules in
    let found : FitsSigned w128 c.net_volume.result = search rules in
    let value = rw (c.section.ensures, c.offset.ensures.value) at (simp to_z-of_z at c.net_volume.ensures) in
    simp to_z-of_z (rw value (net_small c.args.road.now c.args.plan.now c.requires.well_formed c.requires.fits c.requires.admissible c.args.section c.requires.section))
