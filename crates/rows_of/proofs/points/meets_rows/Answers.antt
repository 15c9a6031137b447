use Rattle.std.proofs.Common.{arith, subst, to_z, of_z}
use Rattle.std.specs.Prelude.{ℤ}
use Rattle.std.specs.Int.{w128}
use Rattle.std.proofs.lemmas.Int.{to_z-of_z}
use Rattle.algebra.proofs.NumberedLemmas.{all_from_numbers}
use Rattle.programs.specs.Programs.{empty_row, row_at}
use Rattle.programs.specs.Points.{MeetsRow}
use Rattle.milp_builder.proofs.ShownLemmas.{numbers_more}
use Rattle.rows_of.proofs.points.meets_rows.Goals as goal

pub returns : goal.returns
returns c = λ h.
    all_from_numbers (MeetsRow c.args.den c.args.point.now) empty_row c.args.milp.now.rows
    (λ i n.
    subst (λ (d : ℤ). MeetsRow d c.args.point.now (row_at c.args.milp.now i)) (to_z-of_z w128 c.args.den c.ranges.den)
    (c.loop-before.invariant i (record { from_one = n.from_one; at_most = omega (arith, n.at_most, c.loop-before-test.false, c.rows-before-end.ensures.count) })))

pub loop-before-preserved : goal.loop-before-preserved
loop-before-preserved c =
    numbers_more (λ i. MeetsRow (to_z w128 (of_z w128 c.args.den)) c.args.point.now (row_at c.args.milp.now i)) c.loop-before.before
    c.loop-before.invariant (c.meets_row.ensures c.if-not-meets_row.false)
