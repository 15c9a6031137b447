use Rattle.cert_report.proofs.StatingLemmas.{report_there}
use Rattle.cert_report.proofs.diagram.mass.Goals as goal

pub append_mass-requires-clause-valid : goal.append_mass-requires-clause-valid
append_mass-requires-clause-valid c = report_there c.args.road.now c.args.bytes.now c.in-Ok.field-0 c.in-Ok.ensures.answer c.in-Ok.ensures.proved
