use Rattle.std.proofs.Common.{ℕ, ◌≤◌}
use Rattle.plan_rules.specs.declared.verdict.Rule.{Rule}
use Rattle.plan_rules.specs.Rules.{Keeps, IsPlace, rule_number}
use Rattle.plan_rules.proofs.judging.verdict_of.Given as goal

abbrev pub invariant-loop-rule : goal.invariant-loop-rule
invariant-loop-rule l = (r : Rule) (s p : ℕ) → rule_number r ≤ l.rule-index → IsPlace l.road r s p → Keeps l.road l.plan r s p
