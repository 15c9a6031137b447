use Rattle.road_types.proofs.LoadWidths.{cost_is, cost_width, cap_is, cap_width, wider, two_caps, hauls_add}
use Rattle.road_types.proofs.weight.hop_load.Goals as goal

pub product-requires-clause-a : goal.product-requires-clause-a
product-requires-clause-a c = cost_width _ _ c.requires.hop.right_cost c.magnitude.ensures

pub product-requires-clause-b : goal.product-requires-clause-b
product-requires-clause-b c =
    wider _ (cap_width _ _ c.requires.hop.right_max c.magnitude-right.ensures)

pub product-requires-2-clause-a : goal.product-requires-2-clause-a
product-requires-2-clause-a c = cost_width _ _ c.requires.hop.left_cost c.magnitude-2.ensures

pub product-requires-2-clause-b : goal.product-requires-2-clause-b
product-requires-2-clause-b c = wider _ (cap_width _ _ c.requires.hop.left_max c.magnitude-left.ensures)

pub staged-requires-clause-amount : goal.staged-requires-clause-amount
staged-requires-clause-amount c = two_caps _ _ (cap_width _ _ c.requires.hop.right_max c.magnitude-right.ensures) (cap_width _ _ c.requires.hop.left_max c.magnitude-left.ensures)

pub returns-clause-value : goal.returns-clause-value
returns-clause-value c =
    hauls_add _ _ _ _ _ _ _ _ _ _ _ _ _
    (cap_is _ _ c.requires.hop.right_max c.magnitude-right.ensures)
    (cap_is _ _ c.requires.hop.left_max c.magnitude-left.ensures)
    (cost_is _ _ c.requires.hop.right_cost c.magnitude.ensures)
    (cost_is _ _ c.requires.hop.left_cost c.magnitude-2.ensures)
    c.product.ensures.value c.product-2.ensures.value c.staged.ensures.value c.staged-2.ensures.value
