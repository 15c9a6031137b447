use Rattle.std.proofs.Common.{◌≡◌, ◌-◌}
use Rattle.plan_text.specs.inside.LineReading.{repeat_due}
use Rattle.plan_text.specs.inside.PlanReading.{piece_due}
use Rattle.plan_text.proofs.RepeatLemmas.{with_front}
use Rattle.plan_text.proofs.read.pieces.Given as goal

abbrev pub invariant-loop-turn : goal.invariant-loop-turn
invariant-loop-turn l =
    repeat_due l.count piece_due l.initial.lines ≡ with_front l.pieces.items (repeat_due (l.count - l._turn) piece_due l.lines)
