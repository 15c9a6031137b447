-- Heights and grades along a segment, the segment of a station, segments' starts, ends and lengths. A road is one quadratic a
-- segment. Stations are whole steps; heights, grades and curves are mm times the plan's denominator.
use Rattle.std.specs.Prelude.{ℕ, suc, ◌-◌, if◌then◌else◌, List, [], ◌∷◌, length, ℤ, pos, ◌+ℤ◌, ◌-ℤ◌, ◌*ℤ◌, ◌≤ℤ◌, ◌<ℤ◌, int_lt, ◌≡◌, ◌⊎◌}
use Rattle.road_types.specs.Numbered.{numbered, IsNumber}

-- the height of `a + b*s + c*s^2` at s steps from the segment's start
abbrev pub height_along : ℤ → ℤ → ℤ → ℤ → ℤ
height_along a b c s = (a +ℤ b *ℤ s) +ℤ c *ℤ (s *ℤ s)

-- the grade of `a + b*s + c*s^2` at s steps from the segment's start
abbrev pub grade_along : ℤ → ℤ → ℤ → ℤ
grade_along b c s = b +ℤ (pos 2 *ℤ c) *ℤ s

-- how many of the knots, from the first on, lie before a station
unfoldable pub knots_before : List ℤ → ℤ → ℕ
knots_before [] station = 0
knots_before (knot ∷ knots) station = if int_lt knot station then suc (knots_before knots station) else 0

-- the number of the first segment that ends at the station or after it; segment g ends at the knot after its start
abbrev pub segment_at : List ℤ → ℤ → ℕ
segment_at [] station = 0
segment_at (start ∷ ends) station = suc (knots_before ends station)

-- the station at which segment g starts
abbrev pub segment_start : List ℤ → ℕ → ℤ
segment_start knots g = numbered (pos 0) knots g

-- the station at which segment g ends
abbrev pub segment_end : List ℤ → ℕ → ℤ
segment_end knots g = numbered (pos 0) knots (suc g)

-- the length of segment g in steps
abbrev pub segment_length : List ℤ → ℕ → ℤ
segment_length knots g = segment_end knots g -ℤ segment_start knots g

-- how many steps a station lies after the start of its segment
abbrev pub steps_along : List ℤ → ℤ → ℤ
steps_along knots station = station -ℤ segment_start knots (segment_at knots station)

-- a station in segment g: after its start and not after its end; the first segment has its start as well
pub record IsInSegment (knots : List ℤ) (g : ℕ) (station : ℤ) : Type 0 where
  pub number : IsNumber g (length knots - 1)
  pub after_start : (segment_start knots g <ℤ station) ⊎ ((g ≡ 1) × (station ≡ segment_start knots 1))
  pub to_end : station ≤ℤ segment_end knots g
