-- Lists of the entries that a row has at the slacks.
use Rattle.std.specs.Prelude.{◌≡◌, ℕ, ◌+◌, ◌≤◌, Bool, List, length, ℤ, pos, neg_ℤ, if◌then◌else◌}
use Rattle.algebra.specs.Numbered.{numbered}

-- the list has an entry for each row, that at its slack, or its opposite where it is turned
pub record AreSlacks (columns rows : ℕ) (turns : Bool) (entries : ℕ → ℤ) (list : List ℤ) : Type 0 where
  pub count : length list ≡ rows
  pub each : (i : ℕ) → 1 ≤ i → i ≤ rows → numbered (pos 0) list i ≡ (if turns then (neg_ℤ (entries (columns + i))) else (entries (columns + i)))
