use Rattle.std.proofs.Common.{◌≡◌, ◌≢◌, ℕ, ◌+◌, ◌-◌, ◌^◌, ◌<◌, ◌⊎◌, inl, inr, List, get_or, arith, ap, sym, ◌∙◌, subst, refl, ⊎_elim}
use Rattle.programs.specs.Programs.{row_count}
use Rattle.tableau.specs.Tableaux.{IsRow}
use Rattle.tableau.specs.declared.bound.Bound.{Bound}
use Rattle.simplex.specs.States.{State, tableau_of, KeepsLaws}
use Rattle.simplex.proofs.PricingLemmas.{priced_inside, priced_outside, first_known}
use Rattle.simplex.proofs.table.Tableau.price_rows.Goals as goal

pub loop-k-preserved-in-Ok-None : goal.loop-k-preserved-in-Ok-None
loop-k-preserved-in-Ok-None g c =
    (priced_inside (tableau_of g.W.Whole.meaning c.args.self.now) c.loop-k.k _ _ _ _ _ c.loop-k.invariant.0 (rw c.in-Ok-None.field-0-is at c.in-Ok-None.ensures.inside), c.loop-k.invariant.1)

pub loop-k-preserved : goal.loop-k-preserved
loop-k-preserved g c =
    let t = tableau_of g.W.Whole.meaning c.args.self.now in
    let same_rows : row_count c.self.inside.milp.now ≡ row_count c.args.self.now.program = ap (λ (s : State g.row.W.Denot). row_count s.program) c.self.view_is in
    let rows : c.rows-rows.result ≡ row_count c.self.inside.milp.now = c.rows-rows.ensures.count in
    let within : c.loop-k.k < c.rows-rows.result = c.loop-k-test.true in
    let i_row : IsRow (tableau_of g.W.Whole.meaning c.args.self.now) (c.loop-k.k + 1) = (omega arith, omega arith) in
    let outside = rw c.in-Ok-Some.field-0-is at c.in-Ok-Some.ensures.outside in
    let basic_is : get_or c.args.self.now.basis (c.loop-k.k + 1) 0 ≡ get_or c.as_slice-basis.result.now (c.loop-k.k + 1) 0 =
    sym (ap (λ (s : State g.row.W.Denot). get_or s.basis (c.loop-k.k + 1) 0) c.self.view_is) ∙ ap (λ (bs : List ℕ). get_or bs (c.loop-k.k + 1) 0) (sym c.as_slice-basis.ensures.value) in
    let reached = subst (λ (s : State g.row.W.Denot). KeepsLaws g.W.Whole.meaning s) c.self.view_is c.self.invariant.reached in
    let column = (reached.laws.basis.column (c.loop-k.k + 1) i_row).1 in
    let size = reached.shape.low in
    let few = reached.shape.few in
    let small : get_or c.as_slice-basis.result.now (c.loop-k.k + 1) 0 < 2 ^ 32 - 1 = omega arith in
    let larger : ((c.larger-largest.result.0 ≡ c.loop-k.k + 1) × (c.larger-largest.result.1 ≡ c.in-Ok-Some.bound)) ⊎ ((c.larger-largest.result.0 ≡ c.loop-k.largest.0) × ((c.larger-largest.result.1 ≡ c.loop-k.largest.1) × (c.loop-k.largest.0 ≢ 0))) =
    ⊎_elim
    (λ (e : c.larger-largest.result ≡ (c.loop-k.k + 1, c.in-Ok-Some.bound, c.in-Ok-Some.size)). inl (ap (λ (x : ℕ × Bound × ℕ). x.0) e, ap (λ (x : ℕ × Bound × ℕ). x.1) e))
    (λ (e : (c.larger-largest.result ≡ c.loop-k.largest) × (c.loop-k.largest.0 ≢ 0)). inr (ap (λ (x : ℕ × Bound × ℕ). x.0) e.0, (ap (λ (x : ℕ × Bound × ℕ). x.1) e.0, e.1)))
    c.larger-largest.ensures in (
      priced_outside (tableau_of g.W.Whole.meaning c.args.self.now) c.loop-k.k c.loop-k.first.0 c.loop-k.first.1 c.loop-k.first.2 c.loop-k.largest.0 c.loop-k.largest.1 c.loop-k.invariant.0
          (c.loop-k.k + 1) refl i_row c.in-Ok-Some.bound outside (get_or c.as_slice-basis.result.now (c.loop-k.k + 1) 0) basic_is small c.larger-largest.result.0 c.larger-largest.result.1 larger c.loop-k.invariant.1
          c.lesser-first.result c.lesser-first.ensures,
      λ _. first_known (tableau_of g.W.Whole.meaning c.args.self.now) c.loop-k.k c.loop-k.first.0 c.loop-k.first.1 c.loop-k.first.2 c.loop-k.largest.0 c.loop-k.largest.1 c.loop-k.invariant.0
          (c.loop-k.k + 1) (λ z. omega arith) c.in-Ok-Some.bound (get_or c.as_slice-basis.result.now (c.loop-k.k + 1) 0) small c.lesser-first.result c.lesser-first.ensures,
    )
