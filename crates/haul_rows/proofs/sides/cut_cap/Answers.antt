use Rattle.std.proofs.Common.{ap, FitsSigned, rules}
use Rattle.std.specs.Int.{w64}
use Rattle.std.proofs.lemmas.Int.{to_z-of_z}
use Rattle.road_types.specs.Road.{block}
use Rattle.road_types.specs.declared.road.Section.{Section}
use Rattle.haul_rows.proofs.sides.cut_cap.Goals as goal

pub section-requires : goal.section-requires
section-requires c = rw c.block.ensures (c.requires.accepted.well_formed.blocks c.args.block c.requires.block).section

pub returns-clause-value : goal.returns-clause-value
returns-clause-value c =
    let fits : FitsSigned w64 c.section.result.now.cut_max = search rules in
    simp to_z-of_z (ap (λ (s : Section). s.cut_max) (rw c.block.ensures at c.section.ensures))

pub returns-clause-from : goal.returns-clause-from
returns-clause-from c =
    let fits : FitsSigned w64 c.section.result.now.cut_max = search rules in
    let stands = (c.requires.accepted.well_formed.blocks c.args.block c.requires.block).section in
    let there = rw c.block.ensures at c.section.ensures in
    simp to_z-of_z (rw there (c.requires.accepted.well_formed.sections (block c.args.road.now c.args.block).section stands).cut_max.at_least)
