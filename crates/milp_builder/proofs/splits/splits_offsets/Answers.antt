use Rattle.std.proofs.Common.{rules, FitsSigned}
use Rattle.std.specs.Int.{w64}
use Rattle.std.proofs.lemmas.Int.{to_z-of_z}
use Rattle.milp_builder.proofs.RootBox.{tables_at}
use Rattle.milp_builder.proofs.Cover.{splits_from_tests}
use Rattle.road_types.specs.Road.{section_count}
use Rattle.road_types.specs.Numbered.{IsNumber}
use Rattle.milp_builder.proofs.splits.splits_offsets.Goals as goal

pub is_breakpoint-requires : goal.is_breakpoint-requires
is_breakpoint-requires c =
    let n : IsNumber c.args.section (section_count c.args.road.now) = search rules in
    tables_at c.args.road.now c.requires.well_formed c.args.section n c.section.result.now c.section.ensures

pub returns-then-is_number : goal.returns-then-is_number
returns-then-is_number c =
    let n : IsNumber c.args.section (section_count c.args.road.now) = search rules in
    let at = c.ranges.at in
    let low : FitsSigned w64 c.height_range.result.0 = search rules in
    let high : FitsSigned w64 c.height_range.result.1 = search rules in
    let inside = rw c.height_range.ensures at (simp to_z-of_z at c.parts_offsets.ensures) in
    splits_from_tests
    c.args.road.now
    c.args.range.now
    c.args.section
    c.args.at
    c.section.result.now
    c.is_breakpoint.result
    c.parts_offsets.result
    c.both.result
    n
    c.section.ensures
    (simp to_z-of_z at c.is_breakpoint.ensures)
    inside
    c.both.ensures
