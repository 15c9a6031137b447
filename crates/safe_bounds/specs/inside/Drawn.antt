-- What the multipliers of the rows so far have drawn at each column.
use Rattle.std.specs.Prelude.{◌≡◌, ℕ, ◌^◌, ◌≤◌, ◌<◌, List, length, ℤ, pos, ◌+ℤ◌, ◌*ℤ◌, unsigned_abs}
use Rattle.std.specs.List.{All}
use Rattle.algebra.specs.Numbered.{numbered, IsNumber}
use Rattle.term_store.specs.declared.term.Term.{Term}
use Rattle.programs.specs.Programs.{Program, coefficient, column_count}
use Rattle.safe_bounds.specs.Values.{combined, reduced_cost}

-- numbers of magnitudes at most k
abbrev pub AreAtMost : ℕ → List ℤ → Type 0
AreAtMost k xs = All (λ x. unsigned_abs x ≤ k) xs

-- each column has a row's coefficient more, times a multiplier
pub record HaveDrawn (old : List ℤ) (mult : ℤ) (terms : List (Term ℤ)) (new : List ℤ) : Type 0 where
  pub columns : length new ≡ length old
  pub each : (j : ℕ) → IsNumber j (length old) → numbered (pos 0) new j ≡ numbered (pos 0) old j +ℤ mult *ℤ coefficient j terms

-- the numbers of the first columns are reduced costs, and the others what the multipliers drew
pub record AreTaken (program : Program) (scale : ℤ) (mults : List ℤ) (done : ℕ) (reduced : List ℤ) : Type 0 where
  pub columns : length reduced ≡ column_count program
  pub taken : (j : ℕ) → IsNumber j done → numbered (pos 0) reduced j ≡ reduced_cost program scale mults j
  pub left : (j : ℕ) → IsNumber j (column_count program) → done < j → numbered (pos 0) reduced j ≡ combined j program.rows mults
  pub narrow : (j : ℕ) → IsNumber j (column_count program) → done < j → unsigned_abs (numbered (pos 0) reduced j) ≤ 2 ^ 123
  pub width : AreAtMost (2 ^ 124) reduced
