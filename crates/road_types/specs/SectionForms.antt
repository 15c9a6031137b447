-- The rows for heights and volumes: what joins each section's offset to its segment, each segment to the next one, and limits
-- grades, fixed points and volumes. They come in five groups, in this order.
use Rattle.std.specs.Prelude.{ℕ, ◌+◌, ◌-◌, List, [], ◌∷◌, ◌++◌, ℤ, pos, neg_ℤ, ◌*ℤ◌}
use Rattle.algebra.specs.Lists.{list_to, flat_to}
use Rattle.road_types.specs.Heights.{segment_at, segment_length, steps_along}
use Rattle.road_types.specs.Road.{section, fixed_point, section_count, segment_count, fixed_count}
use Rattle.road_types.specs.Forms.{Form, negated, equal_form, least_form, between_forms}
use Rattle.road_types.specs.Lines.{Lines}
use Rattle.road_types.specs.declared.road.Road.{Road}
use Rattle.road_types.specs.declared.column.Column.{Column}
use Rattle.road_types.specs.declared.column.Column.TheVariants.{A, B, C, Offset, Cut, Fill}

-- the height of segment g after s steps: a + b*s + c*s^2
abbrev pub height_entries : ℕ → ℤ → List (Column × ℤ)
height_entries g s = (A g, pos 1) ∷ (B g, s) ∷ (C g, s *ℤ s) ∷ []

-- the grade of segment g after s steps: b + 2*c*s
abbrev pub grade_entries : ℕ → ℤ → List (Column × ℤ)
grade_entries g s = (B g, pos 1) ∷ (C g, pos 2 *ℤ s) ∷ []

-- the height at a station
abbrev pub station_entries : Road → ℤ → List (Column × ℤ)
station_entries road station = height_entries (segment_at road.knots station) (steps_along road.knots station)

-- offset: the height at a section less its offset is its ground
abbrev pub offset_form : Road → ℕ → Form
offset_form road i = equal_form (station_entries road (section road i).station ++ (Offset i, neg_ℤ (pos 1)) ∷ []) (section road i).ground

abbrev pub offset_forms : Road → List Form
offset_forms road = list_to (offset_form road) (section_count road)

-- continuity: the next segment begins with the height, and with the grade, with which segment g ends
abbrev pub next_height_form : Road → ℕ → Form
next_height_form road g = equal_form (height_entries g (segment_length road.knots g) ++ (A (g + 1), neg_ℤ (pos 1)) ∷ []) (pos 0)

abbrev pub next_grade_form : Road → ℕ → Form
next_grade_form road g = equal_form (grade_entries g (segment_length road.knots g) ++ (B (g + 1), neg_ℤ (pos 1)) ∷ []) (pos 0)

abbrev pub continuity_forms : Road → List Form
continuity_forms road = flat_to (λ g. next_height_form road g ∷ next_grade_form road g ∷ []) (segment_count road - 1)

-- grade end: the grade with which a segment ends is within the road's limits
abbrev pub grade_end_forms : Road → List Form
grade_end_forms road =
    flat_to (λ g. between_forms (grade_entries g (segment_length road.knots g)) road.grade.0 road.grade.1) (segment_count road)

-- fixed: the height at a fixed point's station is within its limits
abbrev pub fixed_forms : Road → List Form
fixed_forms road =
    flat_to (λ f. between_forms (station_entries road (fixed_point road f).station) (fixed_point road f).low (fixed_point road f).high)
    (fixed_count road)

-- what is filled in section i over all stages, less what is cut, less `slope` times the offset
abbrev pub volume_entries : Road → ℕ → ℤ → List (Column × ℤ)
volume_entries road i slope =
    (Offset i, neg_ℤ slope) ∷ flat_to (λ t. (Cut i t, neg_ℤ (pos 1)) ∷ (Fill i t, pos 1) ∷ []) road.stages

-- the volume lies above a line, or below it

abbrev pub above_form : Road → ℕ → ℤ → ℤ → Form
above_form road i slope right = least_form (volume_entries road i slope) right

abbrev pub below_form : Road → ℕ → ℤ → ℤ → Form
below_form road i slope right = least_form (negated (volume_entries road i slope)) right

-- volume: the four lines of section i
abbrev pub lines_forms : Road → ℕ → Lines → List Form
lines_forms road i lines =
    above_form road i lines.least lines.above_least
    ∷ below_form road i lines.greatest lines.below_greatest
    ∷ below_form road i lines.least lines.below_least
    ∷ above_form road i lines.greatest lines.above_greatest
    ∷ []

abbrev pub volume_forms : Road → (ℕ → Lines) → List Form
volume_forms road lines = flat_to (λ i. lines_forms road i (lines i)) (section_count road)

-- all rows for heights and volumes, where `lines` gives each section's lines
abbrev pub section_forms : Road → (ℕ → Lines) → List Form
section_forms road lines =
    offset_forms road ++ (continuity_forms road ++ (grade_end_forms road ++ (fixed_forms road ++ volume_forms road lines)))
