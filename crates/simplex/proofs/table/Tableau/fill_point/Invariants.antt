use Rattle.std.proofs.Common.{◌≡◌, ◌≤◌, ℕ, length}
use Rattle.std.specs.Prelude.{ℤ, pos, vec_capacity}
use Rattle.algebra.specs.Numbered.{numbered}
use Rattle.wide_products.specs.Naturals.{whole_of}
use Rattle.tableau.specs.Ends.{IsPointOfTableau}
use Rattle.simplex.specs.States.{tableau_of}
use Rattle.simplex.proofs.table.Tableau.fill_point.Given as goal

abbrev pub invariant-loop-k : goal.invariant-loop-k
invariant-loop-k g l = (vec_capacity l.point ≡ vec_capacity l.fn.point) × ((length l.point.items ≡ l.k)
    × ((x : ℕ → ℤ) → IsPointOfTableau (tableau_of g.W.Whole.meaning l.self) (whole_of l.den.value) x → (j : ℕ) → 1 ≤ j → j ≤ l.k → numbered (pos 0) l.point.items j ≡ x j))
