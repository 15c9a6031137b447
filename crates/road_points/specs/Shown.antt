-- What a point of a road's program shows: its number in the column of a kind, whether removals are whole and volumes exact.
use Rattle.std.specs.Prelude.{◌≡◌, ℕ, ◌≤◌, ◌⊎◌, Option, Some, None, List, ℤ, pos, ◌-ℤ◌}
use Rattle.algebra.specs.Sums.{sum_to}
use Rattle.programs.specs.Points.{numerator_at}
use Rattle.road_types.specs.Numbered.{IsNumber}
use Rattle.road_types.specs.Road.{section, section_count, block_count}
use Rattle.road_types.specs.Volumes.{net_volume}
use Rattle.road_types.specs.Columns.{column_number}
use Rattle.road_types.specs.declared.road.Road.{Road}
use Rattle.road_types.specs.declared.column.Column.{Column}
use Rattle.road_types.specs.declared.column.Column.TheVariants.{Offset, Cut, Fill, Opened}

-- the point's number in a column, 0 where there is none
abbrev pub shown_at : List ℤ → Option ℕ → ℤ
shown_at point None = pos 0
shown_at point (Some j) = numerator_at point j

-- the point's number in the column of a kind
abbrev pub shown : Road → List ℤ → Column → ℤ
shown road point kind = shown_at point (column_number road kind)

-- block k is opened by stage t, or isn't
abbrev pub IsWholeAt : Road → ℤ → List ℤ → ℕ → ℕ → Type 0
IsWholeAt road den point k t = (shown road point (Opened k t) ≡ pos 0) ⊎ (shown road point (Opened k t) ≡ den)

-- so is every block by every stage from 2 on
pub record HasWholeRemovals (road : Road) (den : ℤ) (point : List ℤ) : Type 0 where
  pub each : (k t : ℕ) → IsNumber k (block_count road) → 2 ≤ t → t ≤ road.stages → IsWholeAt road den point k t

-- what the point fills in section i in all stages, less what it cuts
abbrev pub moved_volume : Road → List ℤ → ℕ → ℤ
moved_volume road point i = sum_to (λ t. shown road point (Fill i t) -ℤ shown road point (Cut i t)) road.stages

-- that is the volume of the section's offset
abbrev pub IsExactAt : Road → ℤ → List ℤ → ℕ → Type 0
IsExactAt road den point i =
    moved_volume road point i ≡ net_volume (section road i).cut (section road i).fill (shown road point (Offset i)) den

-- so it is in every section
pub record HasExactVolumes (road : Road) (den : ℤ) (point : List ℤ) : Type 0 where
  pub each : (i : ℕ) → IsNumber i (section_count road) → IsExactAt road den point i
