use Rattle.road_types.proofs.AcceptedRoad.{IsAccepted-from_fault}
use Rattle.cert_checker.specs.declared.checking.Tried.TheVariants.{Everything}
use Rattle.cert_checker.proofs.CheckLaws.{planned_of, concluded}
use Rattle.cert_checker.proofs.checking.conclude.Goals as goal

pub first_refusal-refusal-requires-clause-planned : goal.first_refusal-refusal-requires-clause-planned
first_refusal-refusal-requires-clause-planned c =
    planned_of c.args.road.now (IsAccepted-from_fault c.args.road.now c.requires.accepted) c.args.bytes.now Everything c.args.findings c.requires.found

pub returns : goal.returns
returns c =
    concluded c.args.road.now (IsAccepted-from_fault c.args.road.now c.requires.accepted) c.args.bytes.now c.args.findings c.first_refusal-refusal.result c.answer-checked.result c.requires.short c.requires.found c.first_refusal-refusal.ensures c.answer-checked.ensures
