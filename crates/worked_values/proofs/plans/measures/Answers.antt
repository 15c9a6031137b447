use Rattle.std.proofs.Common.{rules, FitsSigned}
use Rattle.std.specs.Int.{w64}
use Rattle.std.proofs.lemmas.Int.{to_z-of_z}
use Rattle.road_types.proofs.AcceptedRoad.{IsAccepted-from_fault}
use Rattle.worked_values.proofs.plans.measures.Goals as goal

pub height_at-height-requires-clause-station : goal.height_at-height-requires-clause-station
height_at-height-requires-clause-station c =
    let s = (IsAccepted-from_fault c.args.road.now c.requires.accepted).well_formed.sections c.args.number c.requires.number in
    let station : FitsSigned w64 c.section-section.result.now.station = search rules in
    simp to_z-of_z (rw c.section-section.ensures s.on_knots)

pub table_volume-volume-requires-clause-slabs : goal.table_volume-volume-requires-clause-slabs
table_volume-volume-requires-clause-slabs c =
    let s = (IsAccepted-from_fault c.args.road.now c.requires.accepted).well_formed.sections c.args.number c.requires.number in
    rw (c.as_slice.ensures, c.section-section.ensures) s.cut
