use Rattle.std.proofs.Common.{FitsSigned, rules}
use Rattle.std.specs.Int.{w64}
use Rattle.std.proofs.lemmas.Int.{to_z-of_z}
use Rattle.section_rows.proofs.rights.section_volume.Goals as goal

pub volume_at-requires-clause-cut : goal.volume_at-requires-clause-cut
volume_at-requires-clause-cut c = rw c.section.ensures ((c.requires.accepted.well_formed.sections c.args.section c.requires.section).cut)

pub volume_at-requires-clause-fill : goal.volume_at-requires-clause-fill
volume_at-requires-clause-fill c = rw c.section.ensures ((c.requires.accepted.well_formed.sections c.args.section c.requires.section).fill)

pub returns-clause-value : goal.returns-clause-value
returns-clause-value c =
    let offset = c.ranges.offset in
    let fits : FitsSigned w64 c.volume_at.result = search rules in
    simp to_z-of_z (rw c.section.ensures at (simp to_z-of_z at c.volume_at.ensures.value))
