use Rattle.milp_builder.specs.Boxes.{IsBoxOf}
use Rattle.branch_bound.proofs.piece_boxes.hold_section.Given as goal

abbrev pub invariant-loop-turn : goal.invariant-loop-turn
invariant-loop-turn l = IsBoxOf l.road l.range
