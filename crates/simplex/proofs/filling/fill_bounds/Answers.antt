use Rattle.std.proofs.Common.{◌≡◌, ℕ, ◌+◌, ◌≤◌, length, inl, inr, refl, arith, rules, ap, ◌∙◌, subst}
use Rattle.programs.specs.Programs.{column_count, row_count}
use Rattle.sparse_rows.proofs.Tests.{beyond}
use Rattle.simplex.specs.inside.Filled.{AreBounds}
use Rattle.std.specs.Prelude.{FitsSigned}
use Rattle.std.specs.Int.{w64}
use Rattle.std.proofs.lemmas.Int.{to_z-of_z}
use Rattle.simplex.proofs.Fills.{bounds_none, bounds_more}
use Rattle.simplex.proofs.filling.fill_bounds.Goals as goal

pub loop-k-init : goal.loop-k-init
loop-k-init g c =
    let low = rw c.clear.ensures.items at c.push_reserved.ensures.items in
    let high = rw c.clear-2.ensures.items at c.push_reserved-2.ensures.items in
    let has_high = rw c.clear-3.ensures.items at c.push_reserved-3.ensures.items in (
      bounds_none g.W.Whole.meaning c.args.milp.now c.push_reserved.new.self.items c.push_reserved-2.new.self.items c.push_reserved-3.new.self.items (ap length low) (ap length high) (ap length has_high),
      (c.push_reserved.ensures.capacity ∙ c.clear.ensures.capacity, (c.push_reserved-2.ensures.capacity ∙ c.clear-2.ensures.capacity, c.push_reserved-3.ensures.capacity ∙ c.clear-3.ensures.capacity)),
    )

pub returns-in_default-clause-wide : goal.returns-in_default-clause-wide
returns-in_default-clause-wide g c =
    let fits : FitsSigned w64 c.column_bounds-least.result.0 = search rules in
    let wide = simp to_z-of_z at c.in_default.ensures.some in
    let last : c.loop-k.k + 1 ≤ column_count c.args.milp.now + row_count c.args.milp.now = omega (arith, c.loop-k-test.true, c.columns.ensures.count, c.rows.ensures.count) in
    (c.column_bounds-least.result.0, inr (inr (omega arith, last, refl, inl c.column_bounds-least.ensures.low)), beyond _ _ wide.1)

pub returns-clause-bounds : goal.returns-clause-bounds
returns-clause-bounds g c =
    let end : c.loop-k.k + 1 ≡ column_count c.args.milp.now + row_count c.args.milp.now + 1 = omega (arith, c.loop-k-test.false, c.loop-k.auto.k-end, c.columns.ensures.count, c.rows.ensures.count) in
    subst (λ (n : ℕ). AreBounds g.W.Whole.meaning c.args.milp.now n c.loop-k.low.items c.loop-k.high.items c.loop-k.has_high.items) end c.loop-k.invariant.0

pub loop-k-preserved : goal.loop-k-preserved
loop-k-preserved g c =
    let low_fits : FitsSigned w64 c.column_bounds-least.result.0 = search rules in
    let high_fits : FitsSigned w64 c.column_bounds-least.result.1 = search rules in
    let least = simp to_z-of_z at c.in-Some.ensures.value in
    let greatest = simp to_z-of_z at c.in-Some-of.ensures.value in
    let more = bounds_more g.W.Whole.meaning c.args.milp.now (c.loop-k.k + 1) c.loop-k.low.items c.loop-k.high.items c.loop-k.has_high.items c.in-Some.least c.in-Some-of.greatest c.column_bounds-least.result.2
    c.loop-k.invariant.0 (omega arith)
    (least ∙ c.column_bounds-least.ensures.low)
    (greatest ∙ c.column_bounds-least.ensures.high)
    c.column_bounds-least.ensures.has_high in (
      rw (c.push_reserved-in-loop-k.ensures.items, c.push_reserved-in-loop-k-2.ensures.items, c.push_reserved-in-loop-k-3.ensures.items) more,
      (c.push_reserved-in-loop-k.ensures.capacity ∙ c.loop-k.invariant.1.0, (c.push_reserved-in-loop-k-2.ensures.capacity ∙ c.loop-k.invariant.1.1.0, c.push_reserved-in-loop-k-3.ensures.capacity ∙ c.loop-k.invariant.1.1.1)),
    )
