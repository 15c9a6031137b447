use Rattle.road_types.proofs.LoadWidths.{block_stands}
use Rattle.road_types.proofs.weight.block_load.Goals as goal

pub transit_load-requires-clause-number : goal.transit_load-requires-clause-number
transit_load-requires-clause-number c = block_stands _ _ _ c.requires.well_formed c.requires.number c.block-block.ensures

pub stop_load-requires-clause-number : goal.stop_load-requires-clause-number
stop_load-requires-clause-number c = block_stands _ _ _ c.requires.well_formed c.requires.number c.block-block.ensures
