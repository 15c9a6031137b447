use Rattle.haul_rows.proofs.blocks.transit_row.Goals as goal

pub greatest_haul_out-hauls-requires-clause-section : goal.greatest_haul_out-hauls-requires-clause-section
greatest_haul_out-hauls-requires-clause-section c = rw c.block-section.ensures (c.requires.accepted.well_formed.blocks c.args.block c.requires.block).section
