use Rattle.std.proofs.Common.{◌≡◌, false, rules}
use Rattle.road_types.specs.RoadPrograms.{row_count}
use Rattle.road_types.proofs.AcceptedRoad.{IsAccepted-from_fault}
use Rattle.cert_checker.proofs.WalkLaws.{walked, over_turn}
use Rattle.cert_checker.proofs.walk.walk_tree.Goals as goal

pub row_count-rows-requires : goal.row_count-rows-requires
row_count-rows-requires c = (IsAccepted-from_fault c.args.road.now c.requires.accepted).well_formed.counted

pub returns-then-not-branch : goal.returns-then-not-branch
returns-then-not-branch c =
    let turned : c.in_ok-turn.field-0 ≡ false = search rules in
    walked c.args.road.now c.args.bound.now c.args.lines.now c.loop-walk.lines c.turn.new.lines c.loop-walk.reader.levels c.loop-walk.walk c.turn.new.self _ c.loop-walk.invariant.goes_on
    (over_turn c.args.road.now c.args.bound.now (row_count c.args.road.now) c.loop-walk.reader.levels c.loop-walk.lines c.loop-walk.walk c.in_ok-turn.field-0 c.turn.new.reader.levels c.turn.new.lines c.turn.new.self turned c.in_ok-turn.ensures.turns)
    (search rules) (search rules)
