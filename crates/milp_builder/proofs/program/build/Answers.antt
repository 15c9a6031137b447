use Rattle.road_types.proofs.AcceptedRoad.{IsAccepted-from_fault}
use Rattle.milp_builder.proofs.program.build.Goals as goal

pub build_accepted-requires-clause-accepted : goal.build_accepted-requires-clause-accepted
build_accepted-requires-clause-accepted c = IsAccepted-from_fault c.args.road.now c.requires.accepted
