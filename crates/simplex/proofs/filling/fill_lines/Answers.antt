use Rattle.std.proofs.Common.{◌≡◌, ℕ, ◌+◌, [], ◌∷◌, length, length-append, arith, ap, ◌∙◌, subst}
use Rattle.simplex.specs.inside.Filled.{AreLines}
use Rattle.simplex.proofs.Fills.{lines_none, lines_more, lines_spare}
use Rattle.simplex.proofs.filling.fill_lines.Goals as goal

pub loop-k-init : goal.loop-k-init
loop-k-init g c =
    let rows = rw (c.requires.none, c.as_slice.ensures.value) at c.push_row.ensures.rows in (
      lines_none g.W.Whole.meaning c.args.milp.now c.push_row.new.self.rows c.fill_costs.new.line.items rows c.in-Ok.ensures.line,
      (ap length rows, (c.push_row.ensures.room, (c.push_row.ensures.width, c.in-Ok.ensures.capacity))),
    )

pub loop-k-preserved : goal.loop-k-preserved
loop-k-preserved g c =
    let so_far = c.loop-k.invariant in
    let line = c.fill_row.new.line.items in
    let rows = rw c.as_slice-in-Ok-fill_row.ensures.value at c.push_row-in-Ok-fill_row.ensures.rows in (
      lines_more g.W.Whole.meaning c.args.milp.now c.loop-k.k c.loop-k.lines.rows c.push_row-in-Ok-fill_row.new.self.rows line so_far.0 so_far.1.0 rows c.in-Ok-fill_row.ensures.line,
      (
        ap length rows ∙ length-append c.loop-k.lines.rows (line ∷ []) ∙ ap (λ n. n + 1) so_far.1.0,
        (
          c.push_row-in-Ok-fill_row.ensures.room ∙ so_far.1.1.0,
          (c.push_row-in-Ok-fill_row.ensures.width ∙ so_far.1.1.1.0, c.in-Ok-fill_row.ensures.capacity ∙ so_far.1.1.1.1),
        ),
      ),
    )

pub loop-spare-init : goal.loop-spare-init
loop-spare-init g c =
    let so_far = c.loop-k.invariant in
    let end : c.loop-k.k ≡ c.rows-rows.result = omega (arith, c.loop-k-test.false, c.loop-k.auto.k-end) in (
      subst (λ (n : ℕ). AreLines g.W.Whole.meaning c.args.milp.now n c.loop-k.lines.rows) end so_far.0,
      (omega (arith, end, so_far.1.0), (so_far.1.1.0, so_far.1.1.1.0)),
    )

pub loop-spare-preserved : goal.loop-spare-preserved
loop-spare-preserved g c =
    let so_far = c.loop-spare.invariant in
    let line = c.as_slice-in-loop-spare.result.now in
    let rows = c.push_row-in-loop-spare.ensures.rows in
    let size = ap length rows ∙ length-append c.loop-spare.lines.rows (line ∷ []) in (
      lines_spare g.W.Whole.meaning c.args.milp.now c.rows-rows.result c.loop-spare.lines.rows c.push_row-in-loop-spare.new.self.rows line so_far.0 rows,
      (
        omega (arith, size, so_far.1.0),
        (c.push_row-in-loop-spare.ensures.room ∙ so_far.1.1.0, c.push_row-in-loop-spare.ensures.width ∙ so_far.1.1.1),
      ),
    )
