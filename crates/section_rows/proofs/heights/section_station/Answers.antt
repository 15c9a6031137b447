use Rattle.std.proofs.Common.{FitsSigned, rules}
use Rattle.std.specs.Int.{w64}
use Rattle.std.proofs.lemmas.Int.{to_z-of_z}
use Rattle.section_rows.proofs.heights.section_station.Goals as goal

pub returns-clause-on_knots : goal.returns-clause-on_knots
returns-clause-on_knots c =
    let fits : FitsSigned w64 c.section.result.now.station = search rules in
    simp to_z-of_z (rw c.section.ensures ((c.requires.accepted.well_formed.sections c.args.section c.requires.section).on_knots))
