use Rattle.road_types.specs.RoadPrograms.{row_count}
use Rattle.cert_tree.specs.Trees.{box_tree_of}
use Rattle.cert_text.specs.NodeText.{most_levels}
use Rattle.carried_bounds.proofs.TreeLaws.{widths_of_text}
use Rattle.carried_bounds.proofs.CarryLaws.{can_be_priced, carried_is, spelled_again}
use Rattle.carried_bounds.proofs.carrying.carry.Goals as goal

pub bounded_tree-requires-clause-within : goal.bounded_tree-requires-clause-within
bounded_tree-requires-clause-within c = widths_of_text (row_count c.args.road.now) most_levels (box_tree_of c.args.cert.now.tree) c.requires.spelled.has_text.tree

pub price_plan-requires-clause-plan : goal.price_plan-requires-clause-plan
price_plan-requires-clause-plan c =
    can_be_priced c.args.road.now c.args.cert.now.plan c.args.cert.now.cost c.requires.spelled.paired c.requires.spelled.has_text.planned c.requires.carriable.planned

pub returns-in-Ok-clause-carried : goal.returns-in-Ok-clause-carried
returns-in-Ok-clause-carried c = carried_is c.args.road.now c.args.cert.now _ c.requires.accepted c.requires.spelled c.requires.carriable c.in_ok-bounded.ensures c.in-Ok.ensures

pub returns-in-Ok-clause-spelled : goal.returns-in-Ok-clause-spelled
returns-in-Ok-clause-spelled c = spelled_again c.args.road.now c.args.cert.now _ c.requires.accepted c.requires.spelled c.requires.carriable c.in_ok-bounded.ensures c.in-Ok.ensures
