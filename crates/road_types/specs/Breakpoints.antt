-- The offsets at which a section's slab changes: 0, the sums of leading fill thicknesses, and the negated sums of leading
-- cut thicknesses. Offsets are in mm.
use Rattle.std.specs.Prelude.{◌≡◌, ℕ, ◌⊎◌, List, take, ℤ, neg_ℤ}
use Rattle.road_types.specs.Volumes.{thickness_of}
use Rattle.road_types.specs.declared.road.Section.{Section}
use Rattle.road_types.specs.declared.road.Slab.{Slab}

-- the thickness of the first k slabs, from the ground away
abbrev pub leading_thickness : List Slab → ℕ → ℤ
leading_thickness slabs k = thickness_of (take k slabs)

-- the top of the first k fill slabs, or the bottom of the first k cut slabs, for some k
abbrev pub IsBreakpoint : Section → ℤ → Type 0
IsBreakpoint s x = (k : ℕ) × ((x ≡ leading_thickness s.fill k) ⊎ (x ≡ neg_ℤ (leading_thickness s.cut k)))
