use Rattle.std.proofs.Common.{◌≡◌, ◌-◌, ◌+◌, Ok, ◌∙◌, arith}
use Rattle.plan_text.specs.inside.PlanReading.{piece_due}
use Rattle.plan_text.proofs.RepeatLemmas.{repeat_step}
use Rattle.plan_text.proofs.read.pieces.Goals as goal

pub loop-turn-preserved : goal.loop-turn-preserved
loop-turn-preserved c =
    let read : piece_due c.loop-turn.lines ≡ Ok (c.in_ok-piece.field-0, c.piece.new.lines) = c.in_ok-piece.ensures in
    rw c.in_ok-push.ensures.items
    (c.loop-turn.invariant ∙ repeat_step piece_due c.loop-turn.pieces.items (c.args.count - c.loop-turn._turn) (c.args.count - (c.loop-turn._turn + 1)) c.loop-turn.lines c.piece.new.lines c.in_ok-piece.field-0 (omega arith) read)
