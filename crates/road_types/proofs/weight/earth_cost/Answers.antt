use Rattle.road_types.proofs.LoadWidths.{cost_width, cap_width, wider}
use Rattle.road_types.proofs.weight.earth_cost.Goals as goal

pub product-requires-clause-a : goal.product-requires-clause-a
product-requires-clause-a c = cost_width _ _ c.requires.cut_cost c.magnitude.ensures

pub product-requires-clause-b : goal.product-requires-clause-b
product-requires-clause-b c = wider _ (cap_width _ _ c.requires.cut_max c.magnitude-2.ensures)

pub product-requires-2-clause-a : goal.product-requires-2-clause-a
product-requires-2-clause-a c = cost_width _ _ c.requires.fill_cost c.magnitude-3.ensures

pub product-requires-2-clause-b : goal.product-requires-2-clause-b
product-requires-2-clause-b c = wider _ (cap_width _ _ c.requires.fill_max c.magnitude-4.ensures)
