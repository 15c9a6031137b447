use Rattle.std.proofs.Common.{◌≡◌, ◌≤◌, false, None, [], ◌∷◌, length}
use Rattle.road_types.specs.RoadPrograms.{row_count}
use Rattle.milp_builder.specs.Boxes.{root_box}
use Rattle.cert_text.specs.NodeText.{most_levels}
use Rattle.cert_checker.specs.inside.Walking.{HasBoxes, GoesOn}
use Rattle.cert_checker.proofs.walk.walk_tree.Given as goal

abbrev pub invariant-loop-walk : goal.invariant-loop-walk
invariant-loop-walk l = record {
  rows : l.reader.rows ≡ row_count l.road;
  room : row_count l.road ≤ l.leaf.room;
  boxes : HasBoxes l.road l.reader.levels l.walk;
  goes_on : GoesOn l.road l.bound (row_count l.road) (most_levels ∷ []) l.fn.lines (record { boxes = root_box l.road ∷ []; found = None; seen_low = false }) l.reader.levels l.lines l.walk;
}

abbrev pub decreases-loop-walk : goal.decreases-loop-walk
decreases-loop-walk l = length l.lines.left
