-- Multipliers of each row as they are written down.
use Rattle.std.specs.Prelude.{◌≡◌, ℕ, List, take, ℤ}
use Rattle.safe_bounds.specs.Sparse.{dense}
use Rattle.cert_tree.specs.Trees.{AreMultipliersBehind}

-- the pairs are the first multipliers as they are written down: those of the rows in rising order that aren't 0
pub record IsWritten (mults : List ℤ) (count : ℕ) (pairs : List (ℕ × ℤ)) : Type 0 where
  pub on_rows : AreMultipliersBehind count 0 pairs
  pub same : dense count pairs ≡ take count mults
