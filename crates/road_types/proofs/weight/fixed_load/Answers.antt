use Rattle.road_types.proofs.LoadWidths.{height_width, fixed_kept, station_kept, fixed_adds, fixed_width}
use Rattle.road_types.proofs.weight.fixed_load.Goals as goal

pub station_load-requires-clause-station : goal.station_load-requires-clause-station
station_load-requires-clause-station c =
    station_kept _ _ (fixed_kept _ _ _ c.requires.well_formed c.requires.number c.fixed_point-point.ensures)

pub returns-clause-value : goal.returns-clause-value
returns-clause-value c =
    let kept = fixed_kept _ _ _ c.requires.well_formed c.requires.number c.fixed_point-point.ensures in
    fixed_adds _ _ _ _ _ _ kept c.fixed_point-point.ensures c.station_load.ensures.value c.magnitude.ensures c.magnitude-2.ensures

pub returns-clause-small : goal.returns-clause-small
returns-clause-small c =
    let kept = fixed_kept _ _ _ c.requires.well_formed c.requires.number c.fixed_point-point.ensures in
    fixed_width _ _ _ c.station_load.ensures.small (height_width _ _ kept.low c.magnitude.ensures) (height_width _ _ kept.high c.magnitude-2.ensures)
