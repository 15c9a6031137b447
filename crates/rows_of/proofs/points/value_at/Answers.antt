use Rattle.std.proofs.Common.{rules, FitsSigned, get_or, to_z, ap, ◌∙◌}
use Rattle.std.specs.Prelude.{ℤ, pos, ◌*ℤ◌}
use Rattle.std.specs.Int.{w64, w128}
use Rattle.std.proofs.lemmas.Int.{to_z-of_z}
use Rattle.rows_of.proofs.PointsLemmas.{value_more}
use Rattle.rows_of.proofs.points.value_at.Goals as goal

pub loop-term-preserved : goal.loop-term-preserved
loop-term-preserved c =
    let word : FitsSigned w64 (get_or c.args.terms.now c.loop-term.term-index (record { column = 0; value = pos 0 })).value = search rules in
    let at : FitsSigned w128 c.numerator.result = search rules in
    let value : FitsSigned w128 c.in_ok-value.value = search rules in
    let share : FitsSigned w128 c.in_ok-share.share = search rules in
    let s = simp to_z-of_z at c.in_ok-share.ensures in
    let e = simp to_z-of_z at c.in_ok-value.ensures in
    simp to_z-of_z (
    value_more c.args.point.now c.args.terms.now c.loop-term.term-index (record { column = 0; value = pos 0 }) (to_z w128 c.loop-term.value-bits) c.in_ok-share.share c.in_ok-value.value
    c.loop-term-test.true c.loop-term.invariant
    (s ∙ ap (λ (x : ℤ). (get_or c.args.terms.now c.loop-term.term-index (record { column = 0; value = pos 0 })).value *ℤ x) c.numerator.ensures)
    e.1
    )
