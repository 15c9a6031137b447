-- The rows outside of a tableau, looked at one by one.
use Rattle.std.specs.Prelude.{◌≡◌, ◌≢◌, ℕ, ◌≤◌, ◌^◌, ◌-◌}
use Rattle.tableau.specs.Tableaux.{Tableau, IsRow}
use Rattle.tableau.specs.Exchanges.{IsOutside}
use Rattle.tableau.specs.declared.bound.Bound.{Bound}

-- of the rows up to `done`, `first` has the least-numbered basic column of those outside, and `other` is one of them;
-- where none is outside `first` is 0
pub record IsPriced (t : Tableau) (done first : ℕ) (first_bound : Bound) (first_basic other : ℕ) (other_bound : Bound) : Type 0 where
  pub none : first ≡ 0 → (first_basic ≡ 2 ^ 32 - 1) × ((k : ℕ) (b : Bound) → 1 ≤ k → k ≤ done → IsOutside t k b → ⊥)
  pub some : first ≢ 0 → IsRow t first × IsOutside t first first_bound × (t.basis first ≡ first_basic)
  pub least : (k : ℕ) (b : Bound) → 1 ≤ k → k ≤ done → IsOutside t k b → first_basic ≤ t.basis k
  pub another : first ≢ 0 → IsRow t other × IsOutside t other other_bound
