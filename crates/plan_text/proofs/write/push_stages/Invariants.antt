use Rattle.std.proofs.Common.{◌≡◌, ◌++◌}
use Rattle.plan_text.specs.PlanText.{stages_text, tables_of}
use Rattle.plan_text.proofs.write.push_stages.Given as goal

abbrev pub invariant-loop-t : goal.invariant-loop-t
invariant-loop-t l = l.text.items ≡ l.fn.text.items ++ stages_text (tables_of l.plan) 1 l.t
