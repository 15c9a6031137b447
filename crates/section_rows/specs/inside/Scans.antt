-- Slopes as they are found slab by slab.
use Rattle.std.specs.Prelude.{◌&&◌, if◌then◌else◌, List, [], ◌∷◌, ℤ, pos, ◌+ℤ◌, ◌≤ℤ◌, int_le}
use Rattle.road_types.specs.declared.road.Slab.{Slab}
use Rattle.section_rows.specs.declared.lines.Scan.{Scan}

-- the area of a slab that lies wholly between two depths
abbrev pub area_within : Slab → ℤ → ℤ → ℤ → List ℤ
area_within slab top low high = if int_le low top && int_le (top +ℤ slab.thick) high then slab.area ∷ [] else []

-- a depth of at least 0, and areas in range
pub record IsScan (scan : Scan) : Type 0 where
  pub top : pos 0 ≤ℤ scan.top
  pub least_from : pos 0 ≤ℤ scan.least
  pub least_to : scan.least ≤ℤ pos 10000000
  pub greatest_from : pos 0 ≤ℤ scan.greatest
  pub greatest_to : scan.greatest ≤ℤ pos 10000000
