use Rattle.std.proofs.Common.{ap, sym, FitsSigned, rules}
use Rattle.std.specs.Int.{w64}
use Rattle.std.proofs.lemmas.Int.{to_z-of_z}
use Rattle.road_types.specs.Road.{section_count, ground}
use Rattle.road_types.specs.SectionForms.{offset_form}
use Rattle.form_rows.specs.FormRows.{asked}
use Rattle.form_rows.proofs.PlaceLemmas.{list_at}
use Rattle.section_rows.proofs.sides.offset_side.Goals as goal

pub returns : goal.returns
returns c =
    let road = c.args.road.now in
    let fits : FitsSigned w64 c.section.result.now.ground = search rules in
    let form = ap asked (list_at (offset_form road) (section_count road) c.args.row c.requires) in
    let right = ap ground c.section.ensures in
    simp to_z-of_z (rw right (sym form))
