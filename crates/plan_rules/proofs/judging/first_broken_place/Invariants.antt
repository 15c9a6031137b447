use Rattle.std.proofs.Common.{ℕ, ◌≤◌}
use Rattle.plan_rules.specs.Rules.{Keeps}
use Rattle.plan_rules.proofs.judging.first_broken_place.Given as goal

abbrev pub invariant-loop-before : goal.invariant-loop-before
invariant-loop-before l = (p : ℕ) → 1 ≤ p → p ≤ l.before → Keeps l.road l.plan l.rule l.stage p
