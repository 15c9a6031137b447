use Rattle.roadopt_program.proofs.SolvingLemmas.{few_nodes}
use Rattle.roadopt_program.proofs.solving.report_of.Goals as goal

pub report_cert-requires-clause-few : goal.report_cert-requires-clause-few
report_cert-requires-clause-few c = few_nodes c.args.road.now c.args.found.now c.requires.accepted c.requires.found
