-- A section's costs, in cost units per litre, and its caps, in litres.
use Rattle.std.specs.Prelude.{◌≡◌, ℕ, ℤ, List, Option, Some}
use Rattle.road_types.specs.RecordFaults.{is_cost, is_cap}
use Rattle.section_tables.specs.Steps.{◌>>=◌}
use Rattle.section_tables.specs.Cells.{number_in}
use Rattle.section_tables.specs.Tables.{cell_at}

-- the costs of cut and of fill, and the caps of both
unfoldable pub prices_of : List (List ℕ) → Option (ℤ × ℤ × ℤ × ℤ)
prices_of cells = do
  cut_cost ← cell_at (number_in is_cost) 4 cells
  fill_cost ← cell_at (number_in is_cost) 5 cells
  cut_max ← cell_at (number_in is_cap) 6 cells
  fill_max ← cell_at (number_in is_cap) 7 cells
  Some (cut_cost, fill_cost, cut_max, fill_max)

-- these are the costs and the caps
abbrev pub ArePrices : List (List ℕ) → ℤ × ℤ × ℤ × ℤ → Type 0
ArePrices cells (cut_cost, fill_cost, cut_max, fill_max) =
    (cell_at (number_in is_cost) 4 cells ≡ Some cut_cost) × (cell_at (number_in is_cost) 5 cells ≡ Some fill_cost)
    × (cell_at (number_in is_cap) 6 cells ≡ Some cut_max) × (cell_at (number_in is_cap) 7 cells ≡ Some fill_max)
