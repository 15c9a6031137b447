use Rattle.std.proofs.Common.{subst, sym}
use Rattle.std.specs.List.{All}
use Rattle.std.proofs.Common.{List}
use Rattle.road_types.specs.declared.road.Section.{Section}
use Rattle.volume_lines.specs.SlabTables.{HasSlabTables}
use Rattle.milp_builder.proofs.RootBox.{all_tables}
use Rattle.milp_builder.proofs.root.whole_box.Goals as goal

pub whole_ranges-requires : goal.whole_ranges-requires
whole_ranges-requires c = subst (λ (xs : List Section). All HasSlabTables xs) (sym c.as_slice-2.ensures) (all_tables c.args.road.now c.requires)
