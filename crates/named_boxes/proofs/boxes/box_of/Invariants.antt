use Rattle.milp_builder.specs.Boxes.{IsBoxOf}
use Rattle.named_boxes.proofs.boxes.box_of.Given as goal

abbrev pub invariant-loop-text : goal.invariant-loop-text
invariant-loop-text l = IsBoxOf l.road l.range
