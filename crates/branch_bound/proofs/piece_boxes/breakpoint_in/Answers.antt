use Rattle.branch_bound.proofs.FreeLemmas.{tables_of_section}
use Rattle.branch_bound.proofs.piece_boxes.breakpoint_in.Goals as goal

pub inner_breakpoint-requires : goal.inner_breakpoint-requires
inner_breakpoint-requires c = rw c.section.ensures (tables_of_section c.args.road.now c.args.section c.requires.accepted c.requires.section)
