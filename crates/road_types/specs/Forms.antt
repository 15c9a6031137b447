-- A row of a road's program before its columns are numbered: coefficients at kinds of column, in rising order of columns, and
-- what their sum is asked to be. Once the columns are numbered, coefficients 0 and kinds without a column drop out.
use Rattle.std.specs.Prelude.{List, [], ◌∷◌, map, ℤ, pos, neg_ℤ}
use Rattle.road_types.specs.declared.column.Column.{Column}
use Rattle.term_store.specs.declared.side.Side.{Side}
use Rattle.term_store.specs.declared.side.Side.TheVariants.{Equal, AtLeast}

-- coefficients at kinds, the sum's side, and the right side
pub record Form : Type 0 where
  pub entries : List (Column × ℤ)
  pub side : Side
  pub right : ℤ

-- a form that asks nothing
abbrev pub no_form : Form
no_form = record { entries = []; side = Equal; right = pos 0 }

-- the same with the other sign
abbrev pub negated : List (Column × ℤ) → List (Column × ℤ)
negated entries = map (λ e. (e.0, neg_ℤ e.1)) entries

-- the sum equals the right side
abbrev pub equal_form : List (Column × ℤ) → ℤ → Form
equal_form entries right = record { entries = entries; side = Equal; right = right }

-- the sum is the right side or more
abbrev pub least_form : List (Column × ℤ) → ℤ → Form
least_form entries right = record { entries = entries; side = AtLeast; right = right }

-- the sum lies between two numbers, in two rows
abbrev pub between_forms : List (Column × ℤ) → ℤ → ℤ → List Form
between_forms entries low high = least_form entries low ∷ least_form (negated entries) (neg_ℤ high) ∷ []
