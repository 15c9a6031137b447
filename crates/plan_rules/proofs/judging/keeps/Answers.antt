use Rattle.std.proofs.Common.{arith}
use Rattle.plan_rules.specs.declared.verdict.Rule.TheVariants.{P2, P3, P4, P5}
use Rattle.plan_rules.proofs.ScanLemmas.{limited_before, place_at_no_stage, place_at_each_stage}
use Rattle.plan_rules.specs.Rules.{place_count}
use Rattle.plan_rules.proofs.judging.keeps.Goals as goal

pub is_continuous-requires-clause-limited : goal.is_continuous-requires-clause-limited
is_continuous-requires-clause-limited c =
    limited_before c.args.road.now c.args.plan.now P2 (omega arith) (rw c.in-P2.is at c.requires.lesser)

pub ends_in_grade-requires-clause-limited : goal.ends_in_grade-requires-clause-limited
ends_in_grade-requires-clause-limited c =
    limited_before c.args.road.now c.args.plan.now P3 (omega arith) (rw c.in-P3.is at c.requires.lesser)

pub passes_fixed_point-requires-clause-limited : goal.passes_fixed_point-requires-clause-limited
passes_fixed_point-requires-clause-limited c =
    limited_before c.args.road.now c.args.plan.now P4 (omega arith) (rw c.in-P4.is at c.requires.lesser)

pub has_its_volume-requires-clause-limited : goal.has_its_volume-requires-clause-limited
has_its_volume-requires-clause-limited c =
    limited_before c.args.road.now c.args.plan.now P5 (omega arith) (rw c.in-P5.is at c.requires.lesser)

pub is_continuous-requires-clause-segment : goal.is_continuous-requires-clause-segment
unfolding place_count
is_continuous-requires-clause-segment c = place_at_no_stage c.args.stage _ c.args.place (rw c.in-P2.is at c.requires.place)

pub ends_in_grade-requires-clause-segment : goal.ends_in_grade-requires-clause-segment
unfolding place_count
ends_in_grade-requires-clause-segment c = place_at_no_stage c.args.stage _ c.args.place (rw c.in-P3.is at c.requires.place)

pub passes_fixed_point-requires-clause-number : goal.passes_fixed_point-requires-clause-number
unfolding place_count
passes_fixed_point-requires-clause-number c = place_at_no_stage c.args.stage _ c.args.place (rw c.in-P4.is at c.requires.place)

pub has_its_volume-requires-clause-number : goal.has_its_volume-requires-clause-number
unfolding place_count
has_its_volume-requires-clause-number c = place_at_no_stage c.args.stage _ c.args.place (rw c.in-P5.is at c.requires.place)

pub is_balanced-requires-clause-number : goal.is_balanced-requires-clause-number
unfolding place_count
is_balanced-requires-clause-number c = place_at_each_stage c.args.road.now c.args.stage _ c.args.place (rw c.in-P7.is at c.requires.place)

pub respects_block-requires-clause-number : goal.respects_block-requires-clause-number
unfolding place_count
respects_block-requires-clause-number c = place_at_each_stage c.args.road.now c.args.stage _ c.args.place (rw c.in-P9.is at c.requires.place)
