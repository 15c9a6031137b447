use Rattle.std.proofs.Common.{◌≡◌, ℕ, ◌*◌, ◌^◌, ◌≤◌, drop}
use Rattle.std.specs.Prelude.{pos, ◌+ℤ◌, unsigned_abs}
use Rattle.algebra.specs.Numbered.{numbered, IsNumber}
use Rattle.programs.specs.Programs.{column_count}
use Rattle.safe_bounds.specs.Values.{combined, rights_value}
use Rattle.safe_bounds.specs.inside.Drawn.{AreAtMost}
use Rattle.safe_bounds.proofs.rows.draw_rows.Given as goal

abbrev pub invariant-loop-place : goal.invariant-loop-place
invariant-loop-place l =
    ((l.value +ℤ rights_value (drop l.place l.milp.rows) (drop l.place l.mults) ≡ rights_value l.milp.rows l.mults)
    × (unsigned_abs l.value ≤ l.place * 2 ^ 103)
    )
    × (((j : ℕ) → IsNumber j (column_count l.milp) → numbered (pos 0) l.drawn j +ℤ combined j (drop l.place l.milp.rows) (drop l.place l.mults) ≡ combined j l.milp.rows l.mults)
    × AreAtMost (l.place * 2 ^ 113) l.drawn
    )
