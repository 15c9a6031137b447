use Rattle.std.proofs.Common.{ℕ, ◌<◌}
use Rattle.plan_rules.specs.Rules.{Keeps, IsPlace}
use Rattle.plan_rules.proofs.judging.first_broken_stage.Given as goal

abbrev pub invariant-loop-stage : goal.invariant-loop-stage
invariant-loop-stage l = (s p : ℕ) → s < l.stage → IsPlace l.road l.rule s p → Keeps l.road l.plan l.rule s p
