use Rattle.road_types.proofs.AcceptedRoad.{IsAccepted-from_fault}
use Rattle.cert_checker.specs.declared.checking.Tried.TheVariants.{Lasting}
use Rattle.cert_checker.proofs.CheckLaws.{planned_of}
use Rattle.cert_checker.proofs.CarryLaws.{tells_lasting}
use Rattle.cert_checker.proofs.checking.conclude_lasting.Goals as goal

pub lasting_refusal-refusal-requires-clause-planned : goal.lasting_refusal-refusal-requires-clause-planned
lasting_refusal-refusal-requires-clause-planned c =
    planned_of c.args.road.now (IsAccepted-from_fault c.args.road.now c.requires.accepted) c.args.bytes.now Lasting c.args.findings c.requires.found

pub returns : goal.returns
returns c =
    tells_lasting c.args.road.now (IsAccepted-from_fault c.args.road.now c.requires.accepted) c.args.bytes.now c.args.findings c.lasting_refusal-refusal.result c.told.result c.requires.short c.requires.found c.lasting_refusal-refusal.ensures c.told.ensures
