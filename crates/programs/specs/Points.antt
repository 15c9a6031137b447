-- Points of a program: whole numerators, one for each column, over one denominator. Which rows a point meets, whether it
-- is in the bounds, and what it costs.
use Rattle.std.specs.Prelude.{◌≡◌, ℕ, List, [], ◌∷◌, length, ℤ, pos, ◌+ℤ◌, ◌*ℤ◌, ◌≤ℤ◌}
use Rattle.std.specs.List.{All}
use Rattle.algebra.specs.Sums.{sum_to}
use Rattle.term_store.specs.declared.term.Term.{Term}
use Rattle.term_store.specs.declared.side.Side.{Side}
use Rattle.term_store.specs.declared.side.Side.TheVariants.{Equal, AtLeast}
use Rattle.algebra.specs.Numbered.{numbered, IsNumber}
use Rattle.programs.specs.Programs.{Program, ProgramRow, column_count, bounds_at, cost_at}

-- the point's numerator at column j
abbrev pub numerator_at : List ℤ → ℕ → ℤ
numerator_at point j = numbered (pos 0) point j

-- the sum of a row's terms at a point
abbrev pub value_at : List ℤ → List (Term ℤ) → ℤ
value_at point [] = pos 0
value_at point (t ∷ ts) = t.value *ℤ numerator_at point t.column +ℤ value_at point ts

-- a sum is what the side asks of it
abbrev pub Satisfies : Side → ℤ → ℤ → Type 0
Satisfies Equal value right = value ≡ right
Satisfies AtLeast value right = right ≤ℤ value

-- a row holds at a point over den: its sum equals, or is at least, den times its right side
abbrev pub MeetsRow : ℤ → List ℤ → ProgramRow → Type 0
MeetsRow den point row = Satisfies row.side (value_at point row.terms) (den *ℤ row.right)

-- every row holds at the point over den
abbrev pub MeetsRows : Program → ℤ → List ℤ → Type 0
MeetsRows program den point = All (MeetsRow den point) program.rows

-- den times the bounds of column j are bounds of the point's numerator there
pub record IsInBoundsAt (program : Program) (den : ℤ) (point : List ℤ) (j : ℕ) : Type 0 where
  pub at_least : ((bounds_at program j).0 *ℤ den) ≤ℤ numerator_at point j
  pub at_most : numerator_at point j ≤ℤ ((bounds_at program j).1 *ℤ den)

-- the point has one numerator for each column, each in the column's bounds
pub record IsInBounds (program : Program) (den : ℤ) (point : List ℤ) : Type 0 where
  pub columns : length point ≡ column_count program
  pub each : (j : ℕ) → IsNumber j (column_count program) → IsInBoundsAt program den point j

-- the point over den meets the rows, in the bounds
pub record IsPoint (program : Program) (den : ℤ) (point : List ℤ) : Type 0 where
  pub meets : MeetsRows program den point
  pub in_bounds : IsInBounds program den point

-- the cost of column j times the point's numerator there
abbrev pub cost_share : Program → List ℤ → ℕ → ℤ
cost_share program point j = cost_at program j *ℤ numerator_at point j

-- what the point costs, times its denominator
abbrev pub cost_of_point : Program → List ℤ → ℤ
cost_of_point program point = sum_to (cost_share program point) (column_count program)
