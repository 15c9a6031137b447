use Rattle.std.proofs.Common.{FitsSigned, rules}
use Rattle.std.specs.Int.{w64}
use Rattle.std.proofs.lemmas.Int.{to_z-of_z}
use Rattle.road_types.specs.Road.{section}
use Rattle.road_types.specs.Ranges.{height_range}
use Rattle.section_rows.proofs.ScanLemmas.{breakpoint_span}
use Rattle.section_rows.proofs.rights.lower_end.Goals as goal

pub returns-clause-small : goal.returns-clause-small
returns-clause-small c =
    let s = c.requires.accepted.well_formed.sections c.args.section c.requires.section in
    let range = c.requires.ranges.each c.args.section c.requires.section in
    let fits : FitsSigned w64 c.at.result.0 = search rules in
    simp to_z-of_z (rw c.at.ensures (breakpoint_span (section c.args.road.now c.args.section) (height_range c.args.ranges.now.heights c.args.section).0 s.cut s.fill range.low))
