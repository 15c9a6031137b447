-- Breakpoints of a section strictly inside a range of offsets, in mm.
use Rattle.std.specs.Prelude.{ℤ, ◌<ℤ◌}
use Rattle.road_types.specs.Breakpoints.{IsBreakpoint}
use Rattle.road_types.specs.declared.road.Section.{Section}

-- some breakpoint lies above the lower end and below the upper end
abbrev pub HasBreakpointInside : Section → ℤ × ℤ → Type 0
HasBreakpointInside s range = (x : ℤ) × (IsBreakpoint s x × ((range.0 <ℤ x) × (x <ℤ range.1)))
