use Rattle.std.proofs.Common.{◌+◌, arith, sym, ◌∙◌}
use Rattle.sparse_rows.proofs.LinesLemmas.{line_length}
use Rattle.std.proofs.Common.{rules}
use Rattle.std.specs.Prelude.{FitsSigned}
use Rattle.std.specs.Int.{w64}
use Rattle.std.proofs.lemmas.Int.{to_z-of_z}
use Rattle.simplex.specs.Starts.{cost_entry}
use Rattle.simplex.proofs.Fills.{cost_entry_at}
use Rattle.simplex.proofs.filling.fill_costs.Goals as goal

pub put-requires : goal.put-requires
put-requires g c =
    let l = line_length g.W.Whole.meaning 0 (c.loop-k.k + 1) c.loop-k.line.items c.loop-k.invariant.0.line in
    let room = c.requires in
    let capacity = c.loop-k.invariant.1 in
    let within = c.loop-k-test.true in
    let count = c.columns-columns.ensures.count in
    omega arith

pub loop-k-preserved : goal.loop-k-preserved
loop-k-preserved g c =
    let fits : FitsSigned w64 c.cost.result = search rules in
    let value = simp to_z-of_z at c.in-Some.ensures.value in (
      c.put.ensures.filled (cost_entry c.args.milp.now) (c.loop-k.k + 1) c.loop-k.invariant.0 (omega arith) (λ j a b. absurd (omega arith))
          (cost_entry_at c.args.milp.now (c.loop-k.k + 1) (omega arith) ∙ (sym c.cost.ensures ∙ sym value)),
      c.put.ensures.capacity ∙ c.loop-k.invariant.1,
    )
