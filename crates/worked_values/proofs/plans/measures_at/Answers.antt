use Rattle.std.proofs.Common.{arith}
use Rattle.plan_rules.specs.declared.verdict.Rule.TheVariants.{P2}
use Rattle.plan_rules.proofs.ScanLemmas.{limited_of_broken}
use Rattle.worked_values.proofs.plans.measures_at.Goals as goal

pub measures-requires-clause-limited : goal.measures-requires-clause-limited
measures-requires-clause-limited c =
    let broken = c.in-Broken-P2-default-default in
    limited_of_broken c.args.road.now c.args.plan.now P2 broken.stage broken.place (omega arith) (rw broken.rule-is at broken.ensures.verdict)
