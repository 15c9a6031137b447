use Rattle.roadopt_program.proofs.CarryLemmas.{carried_made}
use Rattle.roadopt_program.proofs.carrying.carry_cert.Goals as goal

pub returns : goal.returns
returns c = carried_made c.args.road.now c.args.bytes.now c.args.given.now c.in_ok-cert.cert c.carried.result _ _ c.requires.accepted c.requires.carriable
    c.in_ok-cert.ensures.carried c.in_ok-cert.ensures.spelled c.in_ok-text.ensures c.in_ok-line.ensures c.carried.ensures.found c.carried.ensures.end
