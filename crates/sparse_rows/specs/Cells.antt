-- Cells of a reduced row: a row times `keep` less a pivot row times `take`, and when one is out of a range.
use Rattle.std.specs.Prelude.{◌≡◌, ℕ, ◌<◌, ◌⊎◌, cond, ℤ, pos, neg_ℤ, int_lt, ◌<ℤ◌, ◌-ℤ◌, ◌*ℤ◌, ◌≤ℤ◌, unsigned_abs}
use Rattle.numbers.specs.Divisors.{Divides}

-- the cell of a row's entry y and the pivot row's entry x
abbrev pub cell : ℤ → ℤ → ℤ → ℤ → ℤ
cell keep y take x = keep *ℤ y -ℤ take *ℤ x

-- one of the two products or their difference is of a magnitude above the greatest
abbrev pub IsWideCell : ℕ → ℤ → ℤ → ℤ → ℤ → Type 0
IsWideCell greatest keep y take x =
    (greatest < unsigned_abs (keep *ℤ y)) ⊎ ((greatest < unsigned_abs (take *ℤ x)) ⊎ (greatest < unsigned_abs (cell keep y take x)))

-- g divides all entries below `end`, and for every h each common divisor of the h-fold entries divides h times g
pub record IsCommonDivisor (entries : ℕ → ℤ) (end : ℕ) (g : ℤ) : Type 0 where
  pub divides : (j : ℕ) → j < end → Divides g (entries j)
  pub greatest : (h d : ℤ) → ((j : ℕ) → j < end → Divides d (h *ℤ entries j)) → Divides d (h *ℤ g)
  pub not_negative : pos 0 ≤ℤ g

-- keep and take are the magnitude of the pivot and the entry, with the sign of the pivot, divided by a common divisor
pub record AreFactors (pivot entry keep take : ℤ) : Type 0 where
  pub divisor : ℤ
  pub positive : pos 0 <ℤ divisor
  pub kept : pos (unsigned_abs pivot) ≡ divisor *ℤ keep
  pub taken : cond (int_lt pivot (pos 0)) (neg_ℤ entry) entry ≡ divisor *ℤ take
