-- When the leaves of a tree prove something of plans: no multiplier of a row that asks for at least its right side is below 0, and the
-- value of each dead leaf is above 0. Then no admissible plan inside the root costs less than the least bound of the leaves.
use Rattle.std.specs.Prelude.{List, ℕ, ℤ, pos, ◌<ℤ◌}
use Rattle.road_types.specs.declared.road.Road.{Road}
use Rattle.safe_bounds.specs.Values.{HasRightSigns}
use Rattle.milp_builder.specs.BoxPrograms.{box_program}
use Rattle.milp_builder.specs.Parts.{first_part, second_part}
use Rattle.milp_builder.specs.declared.boxes.BoxRange.{BoxRange}
use Rattle.cert_tree.specs.Trees.{BoxTree, low, dead, fork}
use Rattle.cert_tree.specs.Soundness.{box_mults, box_value}

-- the signs of a leaf's multipliers are right
abbrev pub AreSigned : Road → BoxRange → List (ℕ × ℤ) → Type 0
AreSigned road box mults = HasRightSigns (box_program road box) (box_mults road box mults)

-- every leaf proves what it can of its own box
abbrev pub HasProvingLeaves : Road → BoxTree → BoxRange → Type 0
HasProvingLeaves road (low scale mults cause) box = AreSigned road box mults
HasProvingLeaves road (dead mults) box = AreSigned road box mults × (pos 0 <ℤ box_value road box (pos 0) mults)
HasProvingLeaves road (fork split first second) box =
    HasProvingLeaves road first (first_part box split) × HasProvingLeaves road second (second_part box split)
