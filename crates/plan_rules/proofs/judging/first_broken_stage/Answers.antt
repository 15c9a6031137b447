use Rattle.std.proofs.Common.{arith}
use Rattle.plan_rules.proofs.ScanLemmas.{stage_of_place}
use Rattle.plan_rules.proofs.judging.first_broken_stage.Goals as goal

pub returns : goal.returns
returns c =
    let road = c.args.road.now in
    record { each = λ s p n. c.loop-stage.invariant s p (omega (arith, stage_of_place road c.args.rule s p n)) n }
