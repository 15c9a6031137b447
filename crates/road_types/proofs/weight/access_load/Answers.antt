use Rattle.road_types.proofs.LoadWidths.{cap_width, wider, one_cap, access_kept, unit_cost_width, access_adds}
use Rattle.road_types.proofs.weight.access_load.Goals as goal

pub staged-requires-clause-amount : goal.staged-requires-clause-amount
staged-requires-clause-amount c =
    let kept = access_kept _ _ _ c.requires.well_formed c.requires.number c.access.ensures in
    one_cap _ (cap_width _ _ kept.max c.magnitude-cap.ensures)

pub product-requires-clause-a : goal.product-requires-clause-a
product-requires-clause-a c =
    unit_cost_width _ _ _ _ c.requires.well_formed c.requires.number c.access_unit_cost.ensures c.magnitude.ensures

pub product-requires-clause-b : goal.product-requires-clause-b
product-requires-clause-b c =
    let kept = access_kept _ _ _ c.requires.well_formed c.requires.number c.access.ensures in
    wider _ (cap_width _ _ kept.max c.magnitude-cap.ensures)

pub returns-clause-value : goal.returns-clause-value
returns-clause-value c =
    access_adds _ _ _ _ _ _ _ _ _ c.requires.well_formed c.requires.number c.access.ensures c.access_unit_cost.ensures
    c.magnitude-cap.ensures c.magnitude.ensures c.product.ensures.value c.staged.ensures.value c.staged-2.ensures.value
