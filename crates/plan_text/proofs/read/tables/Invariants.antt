use Rattle.std.proofs.Common.{◌≡◌, ◌-◌}
use Rattle.plan_text.specs.inside.LineReading.{repeat_due}
use Rattle.plan_text.specs.inside.PlanReading.{stage_due, tables_due}
use Rattle.plan_text.proofs.RepeatLemmas.{with_stages}
use Rattle.plan_text.proofs.read.tables.Given as goal

abbrev pub invariant-loop-turn : goal.invariant-loop-turn
invariant-loop-turn l =
    tables_due l.road l.initial.lines ≡ with_stages l.rows.cut.items l.rows.fill.items l.rows.right.items l.rows.left.items l.rows.roads.items (repeat_due (l.road.stages - l._turn) (stage_due l.road) l.lines)
