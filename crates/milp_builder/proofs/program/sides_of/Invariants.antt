use Rattle.std.proofs.Common.{◌≡◌}
use Rattle.algebra.specs.Lists.{list_to}
use Rattle.road_types.specs.Numbered.{numbered}
use Rattle.road_types.specs.Forms.{no_form}
use Rattle.road_types.specs.RoadPrograms.{forms_of, lines_in}
use Rattle.milp_builder.proofs.program.sides_of.Given as goal

abbrev pub invariant-loop-before : goal.invariant-loop-before
invariant-loop-before l = l.sides.items ≡ list_to (λ i. (numbered no_form (forms_of l.road (lines_in l.road l.ranges.heights)) i).side) l.before
