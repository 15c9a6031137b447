use Rattle.road_types.proofs.AcceptedRoad.{IsAccepted-from_fault}
use Rattle.cert_tree.proofs.Lift.{sound_trees_bound}
use Rattle.search_trees.proofs.ProvingLaws.{bounds_found}
use Rattle.search_trees.proofs.least.least_bound.Goals as goal

pub returns-clause-bounds : goal.returns-clause-bounds
returns-clause-bounds c = λ proving.
    bounds_found c.args.road.now (IsAccepted-from_fault c.args.road.now c.requires.accepted) c.args.tree.now c.tree.result.now c.root.result.now c.bound_of.result
    c.requires.fits proving c.tree.ensures.tree c.root.ensures c.bound_of.ensures

pub returns-clause-any_sound : goal.returns-clause-any_sound
returns-clause-any_sound c = sound_trees_bound c.args.road.now (IsAccepted-from_fault c.args.road.now c.requires.accepted)
