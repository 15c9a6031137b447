-- The plan that a point shows: its pieces and amounts are the point's numbers, and a block opens at the first stage at which the
-- point doesn't show it as closed.
use Rattle.std.specs.Prelude.{ℕ, zero, suc, ◌+◌, ◌-◌, if◌then◌else◌, List, ℤ, pos}
use Rattle.std.specs.Ordering.{int_eq}
use Rattle.algebra.specs.Lists.{list_to}
use Rattle.road_types.specs.Road.{section_count, segment_count, access_count, block_count}
use Rattle.road_types.specs.declared.road.Road.{Road}
use Rattle.road_types.specs.declared.column.Column.{Column}
use Rattle.road_types.specs.declared.column.Column.TheVariants.{A, B, C, Cut, Fill, Right, Left, Access, Opened}
use Rattle.plan_rules.specs.declared.plan.Piece.{Piece}
use Rattle.plan_rules.specs.declared.plan.Plan.{Plan}

-- so many stages of so many numbers, each what `f` gives at its number and stage
abbrev pub table_to : (ℕ → ℕ → ℤ) → ℕ → ℕ → List (List ℤ)
table_to f stages entries = list_to (λ t. list_to (λ i. f i t) entries) stages

-- how many of h 1, .., h n are 0
unfoldable pub zeros_to : (ℕ → ℤ) → ℕ → ℕ
zeros_to h zero = 0
zeros_to h (suc n) = zeros_to h n + (if int_eq (h (suc n)) (pos 0) then 1 else 0)

-- the three numbers of segment g
abbrev pub piece_at : (Column → ℤ) → ℕ → Piece
piece_at f g = record { a = f (A g); b = f (B g); c = f (C g) }

-- one more than the stages at which block k is shown as closed
abbrev pub opening_at : Road → (Column → ℤ) → ℕ → ℕ
opening_at road f k = zeros_to (λ t. f (Opened k t)) road.stages + 1

-- the plan over den whose numbers are what `f` gives their kinds
abbrev pub plan_at : Road → ℤ → (Column → ℤ) → Plan
plan_at road den f = record {
  den = den;
  pieces = list_to (piece_at f) (segment_count road);
  cut = table_to (λ i t. f (Cut i t)) road.stages (section_count road);
  fill = table_to (λ i t. f (Fill i t)) road.stages (section_count road);
  right = table_to (λ h t. f (Right h t)) road.stages (section_count road - 1);
  left = table_to (λ h t. f (Left h t)) road.stages (section_count road - 1);
  roads = table_to (λ q t. f (Access q t)) road.stages (access_count road);
  opens = list_to (opening_at road f) (block_count road);
}
