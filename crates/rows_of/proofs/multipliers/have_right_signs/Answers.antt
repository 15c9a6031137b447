use Rattle.std.proofs.Common.{◌≡◌}
use Rattle.std.specs.Prelude.{pos, ◌≤ℤ◌}
use Rattle.term_store.specs.declared.side.Side.TheVariants.{AtLeast}
use Rattle.programs.specs.Programs.{row_at}
use Rattle.safe_bounds.specs.Values.{multiplier_at}
use Rattle.milp_builder.proofs.ShownLemmas.{numbers_more}
use Rattle.rows_of.proofs.multipliers.have_right_signs.Goals as goal

pub loop-before-preserved : goal.loop-before-preserved
loop-before-preserved c =
    numbers_more (λ i. (row_at c.args.milp.now i).side ≡ AtLeast → pos 0 ≤ℤ multiplier_at c.args.mults.now i) c.loop-before.before
    c.loop-before.invariant (c.has_right_sign.ensures c.if-not-has_right_sign.false)
