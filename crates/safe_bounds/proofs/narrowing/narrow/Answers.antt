use Rattle.safe_bounds.proofs.NarrowingLemmas.{narrow_stays, narrowed_within, narrowed_nearer}
use Rattle.safe_bounds.proofs.narrowing.narrow.Goals as goal

pub returns-clause-unchanged : goal.returns-clause-unchanged
returns-clause-unchanged c = λ narrow. narrow_stays c.args.scale.now c.shift_to_limit.new.scale c.args.mults.now c.shift_to_limit.new.mults c.requires.scale c.shift_to_limit.ensures.narrowed narrow

pub returns-clause-mults : goal.returns-clause-mults
returns-clause-mults c = narrowed_within c.args.scale.now c.shift_to_limit.new.scale c.args.mults.now c.shift_to_limit.new.mults c.shift_to_limit.ensures.narrowed

pub returns-clause-nearer : goal.returns-clause-nearer
returns-clause-nearer c = narrowed_nearer c.args.scale.now c.shift_to_limit.new.scale c.args.mults.now c.shift_to_limit.new.mults c.shift_to_limit.ensures.narrowed
