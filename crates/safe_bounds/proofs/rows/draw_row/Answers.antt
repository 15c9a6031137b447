use Rattle.std.proofs.Common.{arith, ap, ◌∙◌, ◌≡◌, ℕ, ◌+◌, ◌*◌, ◌^◌, ◌≤◌, List, length}
use Rattle.std.specs.Prelude.{ℤ, FitsSigned}
use Rattle.std.specs.Int.{w64, w128}
use Rattle.std.proofs.lemmas.Int.{to_z-of_z}
use Rattle.term_store.specs.declared.term.Term.{Term}
use Rattle.algebra.specs.Numbered.{IsNumber}
use Rattle.algebra.proofs.NumberedLemmas.{numbered_in}
use Rattle.programs.specs.Programs.{Program, ProgramRow, empty_row, row_at, row_count, column_count}
use Rattle.programs.specs.Limits.{Rises, IsWithinLimits}
use Rattle.programs.proofs.RisesLemmas.{rises_length}
use Rattle.safe_bounds.proofs.DrawnLemmas.{nothing_drawn, wider, zero_product}
use Rattle.safe_bounds.proofs.rows.draw_row.Goals as goal

-- a row has at most 1,000 terms
short_row : (program : Program) (i : ℕ) (ts : List (Term ℤ)) (row : ProgramRow) → IsWithinLimits program → IsNumber i (row_count program) → ts ≡ row.terms → row ≡ row_at program i → length ts ≤ 1000
short_row program i ts row limits n p q =
    let rises = numbered_in (λ r. Rises 0 (column_count program) r.terms) empty_row program.rows limits.rising i n in
    let few = rises_length 0 (column_count program) (row_at program i).terms rises in
    let columns = limits.columns in
    rw (p, q) (omega arith)

pub returns-clause-width : goal.returns-clause-width
returns-clause-width c = λ k h.
    let short = short_row c.args.milp.now c.args.i c.terms.result.now c.row-row.result c.row-row.ensures.limits c.requires.number c.terms.ensures c.row-row.ensures.row in
    wider (k + length c.terms.result.now * 2 ^ 103) (k + 2 ^ 113) c.draw_terms.new.drawn (omega arith) (c.draw_terms.ensures.width k h)

pub returns-then-is_zero-clause-value : goal.returns-then-is_zero-clause-value
returns-then-is_zero-clause-value c =
    let fits : FitsSigned w128 c.args.mult = c.ranges.mult in
    let zero = simp to_z-of_z at c.is_zero.ensures in
    zero_product c.args.mult (row_at c.args.milp.now c.args.i).right (zero.0 c.if-is_zero.true)

pub returns-then-is_zero-clause-drawn : goal.returns-then-is_zero-clause-drawn
returns-then-is_zero-clause-drawn c =
    let fits : FitsSigned w128 c.args.mult = c.ranges.mult in
    let zero = simp to_z-of_z at c.is_zero.ensures in
    nothing_drawn c.args.drawn.now c.args.mult (row_at c.args.milp.now c.args.i).terms (zero.0 c.if-is_zero.true)

pub returns-then-is_zero-clause-width : goal.returns-then-is_zero-clause-width
returns-then-is_zero-clause-width c = λ k h. wider k (k + 2 ^ 113) c.args.drawn.now (omega arith) h

pub returns-clause-value : goal.returns-clause-value
returns-clause-value c =
    let mult : FitsSigned w128 c.args.mult = c.ranges.mult in
    let word : FitsSigned w64 c.right.result = record { sfits = c.right.type_inv } in
    let product : FitsSigned w128 c.times_word.result = record { sfits = c.times_word.type_inv } in
    let right = c.right.ensures ∙ ap (λ row. row.right) c.row-row.ensures.row in
    simp to_z-of_z (rw right at (simp to_z-of_z at c.times_word.ensures.value))

pub returns-clause-drawn : goal.returns-clause-drawn
returns-clause-drawn c =
    let mult : FitsSigned w128 c.args.mult = c.ranges.mult in
    let terms = c.terms.ensures ∙ ap (λ row. row.terms) c.row-row.ensures.row in
    rw terms at (simp to_z-of_z at c.draw_terms.ensures.drawn)
