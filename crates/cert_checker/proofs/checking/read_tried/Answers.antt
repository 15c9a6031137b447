use Rattle.std.proofs.Common.{rules}
use Rattle.road_types.proofs.AcceptedRoad.{IsAccepted-from_fault}
use Rattle.cert_checker.proofs.CarryLaws.{read_carriable, read_refused}
use Rattle.cert_checker.proofs.checking.read_tried.Goals as goal

pub returns-in-Ok : goal.returns-in-Ok
returns-in-Ok c =
    read_carriable c.args.road.now (IsAccepted-from_fault c.args.road.now c.requires.accepted) c.args.bytes.now c.in-Ok.cert c.requires.tried c.in-Ok.ensures.found

pub returns-in-Err-Bad : goal.returns-in-Err-Bad
returns-in-Err-Bad c =
    read_refused c.args.road.now c.args.bytes.now c.in-Err-Bad.line c.in-Err-Bad.field-0 c.requires.tried (search rules) c.in-Err-Bad.ensures.line
