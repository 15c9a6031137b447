use Rattle.branch_bound.proofs.PieceLemmas.{improved_along}
use Rattle.branch_bound.proofs.piece_boxes.try_pieces.Goals as goal

pub returns-in-None : goal.returns-in-None
returns-in-None c = improved_along c.args.road.now c.args.best.now c.loop-turn.best c.try_piece.new.best c.loop-turn.invariant c.in_ok-next.ensures

pub loop-turn-preserved : goal.loop-turn-preserved
loop-turn-preserved c = improved_along c.args.road.now c.args.best.now c.loop-turn.best c.try_piece.new.best c.loop-turn.invariant c.in_ok-next.ensures
