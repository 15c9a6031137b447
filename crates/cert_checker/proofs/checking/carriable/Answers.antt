use Rattle.road_types.proofs.AcceptedRoad.{IsAccepted-from_fault}
use Rattle.cert_checker.proofs.CarryLaws.{refuses_uncarriable, one_carry_refusal}
use Rattle.cert_checker.proofs.checking.carriable.Goals as goal

pub returns-clause-rightly : goal.returns-clause-rightly
returns-clause-rightly c =
    refuses_uncarriable c.args.road.now (IsAccepted-from_fault c.args.road.now c.requires) c.args.bytes.now c.answer_carriable.result c.answer_carriable.ensures

pub returns-clause-one : goal.returns-clause-one
returns-clause-one c =
    λ a b p q. one_carry_refusal c.args.road.now (IsAccepted-from_fault c.args.road.now c.requires) c.args.bytes.now a b p q
