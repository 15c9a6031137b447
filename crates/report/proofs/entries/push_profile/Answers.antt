use Rattle.road_types.proofs.AcceptedRoad.{IsAccepted-from_fault}
use Rattle.std.proofs.Common.{◌∙◌}
use Rattle.report.proofs.CellsLemmas.{shown_by}
use Rattle.report.proofs.LinesLemmas.{ok_gives, seven_cells}
use Rattle.report.proofs.entries.push_profile.Goals as goal

pub metres_text-requires-clause-well_formed : goal.metres_text-requires-clause-well_formed
metres_text-requires-clause-well_formed c = (IsAccepted-from_fault c.args.road.now c.requires.accepted).well_formed

pub height_text-requires-clause-well_formed : goal.height_text-requires-clause-well_formed
height_text-requires-clause-well_formed c = (IsAccepted-from_fault c.args.road.now c.requires.accepted).well_formed

pub offset_text-requires-clause-well_formed : goal.offset_text-requires-clause-well_formed
offset_text-requires-clause-well_formed c = (IsAccepted-from_fault c.args.road.now c.requires.accepted).well_formed

pub net_text-requires-clause-well_formed : goal.net_text-requires-clause-well_formed
net_text-requires-clause-well_formed c = (IsAccepted-from_fault c.args.road.now c.requires.accepted).well_formed

pub returns : goal.returns
returns c =
    let name = c.as_bytes.ensures.value ∙ c.in_ok-name.ensures in
    let station = c.as_bytes-2.ensures.value ∙ c.in_ok-station.ensures in
    let metres = c.as_bytes-3.ensures.value ∙ c.in_ok-metres.ensures in
    let ground = c.as_bytes-4.ensures.value ∙ c.in_ok-ground.ensures in
    let height = shown_by _ _ _ _ _ c.as_bytes-5.ensures.value c.in_ok-height.ensures in
    let offset = shown_by _ _ _ _ _ c.as_bytes-6.ensures.value c.in_ok-offset.ensures in
    let net = shown_by _ _ _ _ _ c.as_bytes-7.ensures.value c.in_ok-net.ensures in
    ok_gives c.push_row.result c.push_row.ensures (λ e. seven_cells _ _ _ _ _ _ _ _ _ _ _ _ _ _ _ _ name station metres ground height offset net e)
