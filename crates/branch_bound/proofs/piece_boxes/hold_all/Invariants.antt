use Rattle.milp_builder.specs.Boxes.{IsBoxOf}
use Rattle.branch_bound.proofs.piece_boxes.hold_all.Given as goal

abbrev pub invariant-loop-before : goal.invariant-loop-before
invariant-loop-before l = IsBoxOf l.road l.range

abbrev pub invariant-loop-before-2 : goal.invariant-loop-before-2
invariant-loop-before-2 l = IsBoxOf l.road l.range
