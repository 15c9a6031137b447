use Rattle.std.proofs.Common.{rules}
use Rattle.cert_checker.proofs.FindLaws.{heading_failed, bound_stated, walk_failed, end_failed, more_left, all_found}
use Rattle.cert_checker.proofs.checking.find.Goals as goal

pub returns-in-Err : goal.returns-in-Err
returns-in-Err c = heading_failed c.args.road.now c.args.bytes.now c.args.tried c.over-lines.result c.read_heading.new.lines c.in-Err.error (search rules) c.in-Err.ensures

pub walk_tree-requires-clause-bound : goal.walk_tree-requires-clause-bound
walk_tree-requires-clause-bound c = bound_stated c.args.road.now c.args.tried c.bound_tried-bound.result c.over-lines.result c.read_heading.new.lines c.in-Ok.heading c.bound_tried-bound.ensures c.in-Ok.ensures

pub returns-in-Err-walk_tree : goal.returns-in-Err-walk_tree
returns-in-Err-walk_tree c =
    walk_failed c.args.road.now c.args.bytes.now c.args.tried c.bound_tried-bound.result c.over-lines.result c.read_heading.new.lines c.walk_tree.new.lines c.in-Ok.heading c.in-Err-walk_tree.error (search rules) c.in-Ok.ensures c.in-Err-walk_tree.ensures

pub returns-in-Err-read_end : goal.returns-in-Err-read_end
returns-in-Err-read_end c =
    end_failed c.args.road.now c.args.bytes.now c.args.tried c.bound_tried-bound.result c.over-lines.result c.read_heading.new.lines c.walk_tree.new.lines c.read_end.new.lines c.in-Ok.heading c.in-Ok-walk_tree.walked c.in-Err-read_end.error (search rules) c.in-Ok.ensures c.in-Ok-walk_tree.ensures c.in-Err-read_end.ensures

pub returns-in-Err-read_nothing : goal.returns-in-Err-read_nothing
returns-in-Err-read_nothing c =
    more_left c.args.road.now c.args.bytes.now c.args.tried c.bound_tried-bound.result c.over-lines.result c.read_heading.new.lines c.walk_tree.new.lines c.read_end.new.lines c.in-Ok.heading c.in-Ok-walk_tree.walked c.in-Ok-read_end.field-0 c.in-Err-read_nothing.error (search rules) c.in-Ok.ensures c.in-Ok-walk_tree.ensures c.in-Ok-read_end.ensures c.in-Err-read_nothing.ensures

pub returns-in-Ok-read_nothing : goal.returns-in-Ok-read_nothing
returns-in-Ok-read_nothing c =
    all_found c.args.road.now c.args.bytes.now c.args.tried c.bound_tried-bound.result c.over-lines.result c.read_heading.new.lines c.walk_tree.new.lines c.read_end.new.lines c.in-Ok.heading c.in-Ok-walk_tree.walked c.in-Ok-read_end.field-0 c.number-bound_line.result (search rules) c.in-Ok.ensures c.number-bound_line.ensures.value c.bound_tried-bound.ensures c.in-Ok-walk_tree.ensures c.in-Ok-read_end.ensures c.in-Ok-read_nothing.ensures
