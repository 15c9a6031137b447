use Rattle.std.proofs.Common.{◌^◌, FitsSigned, rules, arith}
use Rattle.std.specs.Int.{w64}
use Rattle.std.proofs.lemmas.Int.{to_z-of_z}
use Rattle.section_rows.proofs.RoomLemmas.{number_small}
use Rattle.section_rows.proofs.EntryLemmas.{row_put, opposite_made}
use Rattle.section_rows.proofs.heights.greatest_height_row.Goals as goal

pub opposite-requires : goal.opposite-requires
opposite-requires c = number_small c.steps_from-s.result (2 ^ 17) (2 ^ 60) c.steps_from-s.ensures.width (omega arith) (omega arith)

pub opposite-requires-2 : goal.opposite-requires-2
opposite-requires-2 c = number_small c.square.result (2 ^ 34) (2 ^ 60) c.square.ensures.small (omega arith) (omega arith)

pub returns : goal.returns
returns c =
    let station : FitsSigned w64 c.point_station-station.result = search rules in
    let steps : FitsSigned w64 c.steps_from-s.result = search rules in
    let square : FitsSigned w64 c.square.result = search rules in
    let first : FitsSigned w64 c.opposite.result = search rules in
    let second : FitsSigned w64 c.opposite-2.result = search rules in
    let made = opposite_made c.args.road.now c.segment_of-segment.result c.point_station-station.result _ c.steps_from-s.result c.point_station-station.ensures.value
    (simp to_z-of_z at c.segment_of-segment.ensures.value) (simp to_z-of_z at c.steps_from-s.ensures.value) c.square.result c.opposite.result c.opposite-2.result
    (simp to_z-of_z at c.square.ensures.value) (simp to_z-of_z at c.opposite.ensures.value) (simp to_z-of_z at c.opposite-2.ensures.value) in
    row_put c.args.road.now _ _ _ _ _ _ c.clear.ensures (simp to_z-of_z at c.add_all.ensures.terms) made c.put.ensures
