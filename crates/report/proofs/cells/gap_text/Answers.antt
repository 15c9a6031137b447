use Rattle.std.proofs.Common.{sym, ◌∙◌}
use Rattle.std.proofs.lemmas.Bool.{false≢true}
use Rattle.std.proofs.lemmas.Int.{to_z-of_z}
use Rattle.report.proofs.CellsLemmas.{gap_closed, gap_open}
use Rattle.report.proofs.cells.gap_text.Goals as goal

pub returns-then-is_same : goal.returns-then-is_same
returns-then-is_same c =
    let num = c.ranges.num in
    let den = c.ranges.den in
    gap_closed _ _ _ _ (simp to_z-of_z at c.fraction.ensures.same) (c.is_same.ensures.same.0 c.if-is_same.true)

pub returns-else-is_same : goal.returns-else-is_same
returns-else-is_same c =
    let num = c.ranges.num in
    let den = c.ranges.den in
    gap_open _ _ _ _ (simp to_z-of_z at c.fraction.ensures.one) c.is_same.ensures.reduced
    (λ e. false≢true (sym c.if-is_same.false ∙ c.is_same.ensures.same.1 e))
