use Rattle.branch_bound.specs.inside.Pieces.{IsImproved}
use Rattle.branch_bound.proofs.piece_boxes.try_pieces.Given as goal

abbrev pub invariant-loop-turn : goal.invariant-loop-turn
invariant-loop-turn l = IsImproved l.road l.fn.best l.best
