use Rattle.std.proofs.Common.{arith}
use Rattle.plan_rules.specs.declared.verdict.Rule.TheVariants.{P1, P6}
use Rattle.plan_rules.proofs.ScanLemmas.{number_in_order, payable}
use Rattle.plan_rules.proofs.judging.verdict_of.Goals as goal

pub first_broken_stage-requires-clause-lesser : goal.first_broken_stage-requires-clause-lesser
first_broken_stage-requires-clause-lesser c =
    record { each = λ r s p l n. c.loop-rule.invariant r s p (omega (arith, number_in_order c.loop-rule.rule-index P1 c.loop-rule-test.true)) n }

pub cost_of-requires-clause-payable : goal.cost_of-requires-clause-payable
cost_of-requires-clause-payable c =
    payable c.args.road.now c.args.plan.now c.requires.well_formed c.requires.fits (λ t place n. c.loop-rule.invariant P6 t place (omega arith) n)
