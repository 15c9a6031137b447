use Rattle.std.proofs.Common.{◌≡◌, ℕ}
use Rattle.std.specs.Prelude.{pos, ◌≤ℤ◌}
use Rattle.algebra.specs.Numbered.{IsNumber}
use Rattle.term_store.specs.declared.side.Side.TheVariants.{AtLeast}
use Rattle.programs.specs.Programs.{row_at}
use Rattle.safe_bounds.specs.Values.{multiplier_at}
use Rattle.rows_of.proofs.multipliers.have_right_signs.Given as goal

abbrev pub invariant-loop-before : goal.invariant-loop-before
invariant-loop-before l = (i : ℕ) → IsNumber i l.before → (row_at l.milp i).side ≡ AtLeast → pos 0 ≤ℤ multiplier_at l.mults i
