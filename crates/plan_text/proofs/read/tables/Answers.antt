use Rattle.std.proofs.Common.{◌-◌, ◌+◌, ◌∙◌, arith}
use Rattle.plan_text.specs.inside.PlanReading.{last_stage}
use Rattle.plan_text.proofs.RepeatLemmas.{stages_start, stages_step, stages_gives}
use Rattle.plan_text.proofs.read.tables.Goals as goal

pub loop-turn-init : goal.loop-turn-init
loop-turn-init c =
    rw (c.new.ensures.items, c.new-2.ensures.items, c.new-3.ensures.items, c.new-4.ensures.items, c.new-5.ensures.items)
    (stages_start c.args.road.now (c.args.road.now.stages - 0) c.args.lines.now (omega arith))

pub returns-in-Err : goal.returns-in-Err
returns-in-Err c =
    stages_gives c.args.road.now c.loop-turn.rows.cut.items c.loop-turn.rows.fill.items c.loop-turn.rows.right.items c.loop-turn.rows.left.items c.loop-turn.rows.roads.items c.args.lines.now c.loop-turn.lines c.stage.new.lines (c.args.road.now.stages - c.loop-turn._turn) (c.args.road.now.stages - (c.loop-turn._turn + 1)) c.in-Err.error c.loop-turn.invariant (omega arith) c.in-Err.ensures.due

pub loop-turn-preserved : goal.loop-turn-preserved
loop-turn-preserved c =
    rw (c.in-Ok.ensures.cut, c.in-Ok.ensures.fill, c.in-Ok.ensures.right, c.in-Ok.ensures.left, c.in-Ok.ensures.roads)
    (c.loop-turn.invariant
    ∙ stages_step c.args.road.now c.loop-turn.rows.cut.items c.loop-turn.rows.fill.items c.loop-turn.rows.right.items c.loop-turn.rows.left.items c.loop-turn.rows.roads.items (c.args.road.now.stages - c.loop-turn._turn) (c.args.road.now.stages - (c.loop-turn._turn + 1)) c.loop-turn.lines c.stage.new.lines (last_stage c.stage.new.rows) (omega arith) c.in-Ok.ensures.due)
