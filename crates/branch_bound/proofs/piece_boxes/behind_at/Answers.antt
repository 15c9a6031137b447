use Rattle.branch_bound.proofs.FreeLemmas.{tables_of_section}
use Rattle.branch_bound.proofs.piece_boxes.behind_at.Goals as goal

pub behind-requires : goal.behind-requires
behind-requires c = rw c.section.ensures (tables_of_section c.args.road.now c.args.section c.requires.accepted c.requires.section)
