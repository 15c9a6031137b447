-- Splits of a box that no point asks for.
use Rattle.std.specs.Prelude.{Option, Some, None}
use Rattle.road_types.specs.declared.road.Road.{Road}
use Rattle.milp_builder.specs.Parts.{SplitsOffsets}
use Rattle.milp_builder.specs.declared.boxes.BoxRange.{BoxRange}
use Rattle.branch_bound.specs.declared.splitting.Candidate.{Candidate}

-- none, or a section at one of whose breakpoints the box can be split
abbrev pub IsFreeHeight : Road → BoxRange → Option Candidate → Type 0
IsFreeHeight road box None = Unit {0}
IsFreeHeight road box (Some found) = SplitsOffsets road box found.section found.at
