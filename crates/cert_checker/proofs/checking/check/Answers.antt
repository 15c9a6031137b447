use Rattle.road_types.proofs.AcceptedRoad.{IsAccepted-from_fault}
use Rattle.cert_tree.proofs.Lift.{sound_trees_bound}
use Rattle.cert_checker.proofs.CheckLaws.{refuses_rightly, proved}
use Rattle.cert_checker.proofs.WidthLaws.{narrow_values}
use Rattle.cert_checker.proofs.OneRefusal.{one_refusal}
use Rattle.cert_checker.proofs.checking.check.Goals as goal

pub returns-clause-rightly : goal.returns-clause-rightly
returns-clause-rightly c =
    refuses_rightly c.args.road.now (IsAccepted-from_fault c.args.road.now c.requires) c.args.bytes.now c.answer_bytes.result c.answer_bytes.ensures

pub returns-clause-proved : goal.returns-clause-proved
returns-clause-proved c =
    proved c.args.road.now (IsAccepted-from_fault c.args.road.now c.requires) c.args.bytes.now c.answer_bytes.result c.answer_bytes.ensures

pub returns-clause-one : goal.returns-clause-one
returns-clause-one c =
    λ a b p q. one_refusal c.args.road.now (IsAccepted-from_fault c.args.road.now c.requires) c.args.bytes.now a b p q

pub returns-clause-any_sound : goal.returns-clause-any_sound
returns-clause-any_sound c = sound_trees_bound c.args.road.now (IsAccepted-from_fault c.args.road.now c.requires)

pub returns-clause-narrow : goal.returns-clause-narrow
returns-clause-narrow c = narrow_values c.args.road.now (IsAccepted-from_fault c.args.road.now c.requires)
