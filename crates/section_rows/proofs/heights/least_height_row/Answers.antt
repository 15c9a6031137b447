use Rattle.std.proofs.Common.{FitsSigned, rules}
use Rattle.std.specs.Int.{w64}
use Rattle.std.proofs.lemmas.Int.{to_z-of_z}
use Rattle.section_rows.proofs.EntryLemmas.{row_put, height_made}
use Rattle.section_rows.proofs.heights.least_height_row.Goals as goal

pub returns : goal.returns
returns c =
    let station : FitsSigned w64 c.point_station-station.result = search rules in
    let steps : FitsSigned w64 c.steps_from-s.result = search rules in
    let square : FitsSigned w64 c.square.result = search rules in
    let made = height_made c.args.road.now c.segment_of-segment.result c.point_station-station.result _ c.steps_from-s.result c.point_station-station.ensures.value
    (simp to_z-of_z at c.segment_of-segment.ensures.value) (simp to_z-of_z at c.steps_from-s.ensures.value) c.square.result (simp to_z-of_z at c.square.ensures.value) in
    row_put c.args.road.now _ _ _ _ _ _ c.clear.ensures (simp to_z-of_z at c.add_all.ensures.terms) made c.put.ensures
