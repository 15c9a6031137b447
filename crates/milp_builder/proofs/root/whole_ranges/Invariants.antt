use Rattle.std.proofs.Common.{◌≡◌, map, take}
use Rattle.road_types.specs.Ranges.{whole_range}
use Rattle.milp_builder.proofs.root.whole_ranges.Given as goal

abbrev pub invariant-loop-section : goal.invariant-loop-section
invariant-loop-section l = l.heights.items ≡ map whole_range (take l.section-index l.sections)
