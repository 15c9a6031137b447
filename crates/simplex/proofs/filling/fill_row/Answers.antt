use Rattle.std.proofs.Common.{◌≡◌, ◌≤◌, ◌<◌, List, length, get_or, take, inl, arith, ap, sym, ◌∙◌, subst, refl}
use Rattle.std.proofs.Common.{rules}
use Rattle.std.specs.Int.{w64}
use Rattle.std.specs.Prelude.{FitsSigned, ℤ, pos, negsuc, neg_ℤ, ◌*ℤ◌}
use Rattle.std.proofs.lemmas.Int.{ints, to_z-of_z}
use Rattle.std.proofs.lemmas.List.{take_all, take_more, length-take}
use Rattle.term_store.specs.declared.term.Term.{Term}
use Rattle.programs.specs.Programs.{row_at, ProgramRow}
use Rattle.sparse_rows.proofs.Tests.{beyond}
use Rattle.sparse_rows.proofs.Common.{AreQuotients, quotients_more, quotients_length}
use Rattle.simplex.proofs.Fills.{row_length, term_coefficient, term_column, term_first, row_filled, item_is}
use Rattle.simplex.proofs.filling.fill_row.Goals as goal

pub returns-in_default-clause-wide : goal.returns-in_default-clause-wide
returns-in_default-clause-wide g c =
    let terms_is : c.terms-term-items.result.now ≡ (row_at c.args.milp.now c.args.i).terms = c.terms-term-items.ensures ∙ ap (λ (r : ProgramRow). r.terms) c.row.ensures.row in
    let size : length c.terms-term-items.result.now ≡ length (row_at c.args.milp.now c.args.i).terms = ap length terms_is in
    let many = row_length c.args.milp.now c.row.ensures.limits c.args.i c.requires.row in
    let within : c.loop-term.term-index < length c.terms-term-items.result.now = c.loop-term-test.true in
    let inside : c.loop-term.term-index < length (row_at c.args.milp.now c.args.i).terms = omega arith in
    let is = item_is c.terms-term-items.result.now (row_at c.args.milp.now c.args.i).terms c.loop-term.term-index (record { column = 0; value = pos 0 }) terms_is within in
    let fits : FitsSigned w64 (get_or c.terms-term-items.result.now c.loop-term.term-index (record { column = 0; value = pos 0 })).value = search rules in
    let wide = simp to_z-of_z at c.in_default.ensures.some in
    let below = term_column c.args.milp.now c.row.ensures.limits c.args.i c.requires.row c.loop-term.term-index (get_or c.terms-term-items.result.now c.loop-term.term-index (record { column = 0; value = pos 0 })) inside is in (
      (get_or c.terms-term-items.result.now c.loop-term.term-index (record { column = 0; value = pos 0 })).value,
      inl (
        c.requires.row.from_one,
        c.requires.row.at_most,
        term_first c.args.milp.now c.row.ensures.limits c.args.i c.requires.row c.loop-term.term-index (get_or c.terms-term-items.result.now c.loop-term.term-index (record { column = 0; value = pos 0 })) inside is,
        (omega arith),
        sym (term_coefficient c.args.milp.now c.row.ensures.limits c.args.i c.requires.row c.loop-term.term-index (get_or c.terms-term-items.result.now c.loop-term.term-index (record { column = 0; value = pos 0 })) inside is),
      ),
      beyond _ _ wide.1,
    )

pub push_reserved-requires : goal.push_reserved-requires
push_reserved-requires g c =
    let terms_is : c.terms-term-items.result.now ≡ (row_at c.args.milp.now c.args.i).terms = c.terms-term-items.ensures ∙ ap (λ (r : ProgramRow). r.terms) c.row.ensures.row in
    let size : length c.terms-term-items.result.now ≡ length (row_at c.args.milp.now c.args.i).terms = ap length terms_is in
    let many = row_length c.args.milp.now c.row.ensures.limits c.args.i c.requires.row in
    let within : c.loop-term.term-index < length c.terms-term-items.result.now = c.loop-term-test.true in
    let n = quotients_length (λ (z : ℤ). z) g.W.Whole.meaning (pos 1) (take c.loop-term.term-index c.terms-term-items.result.now) c.loop-term.line.items c.loop-term.invariant.0 in
    let t = length-take c.loop-term.term-index c.terms-term-items.result.now in
    let v = c.loop-term.line.ok.0 in
    let room = c.requires.room in
    let capacity = c.loop-term.invariant.1 in
    omega arith

pub loop-term-preserved : goal.loop-term-preserved
loop-term-preserved g c =
    let within : c.loop-term.term-index < length c.terms-term-items.result.now = c.loop-term-test.true in
    let fits : FitsSigned w64 (get_or c.terms-term-items.result.now c.loop-term.term-index (record { column = 0; value = pos 0 })).value = search rules in
    let value = simp to_z-of_z at c.in-Some.ensures.value in
    let more = quotients_more (λ (z : ℤ). z) g.W.Whole.meaning (pos 1) (take c.loop-term.term-index c.terms-term-items.result.now) c.loop-term.line.items
    (get_or c.terms-term-items.result.now c.loop-term.term-index (record { column = 0; value = pos 0 })) (record { column = (get_or c.terms-term-items.result.now c.loop-term.term-index (record { column = 0; value = pos 0 })).column; value = c.in-Some.value }) c.loop-term.invariant.0 refl (sym value ∙ one_times (g.W.Whole.meaning c.in-Some.value)) in
    let longer = sym (take_more c.terms-term-items.result.now c.loop-term.term-index (record { column = 0; value = pos 0 }) within) in
    let P : List (Term ℤ) → Type 0 = λ ts. AreQuotients (λ (z : ℤ). z) g.W.Whole.meaning (pos 1) ts c.push_reserved.new.self.items in
    (subst P longer (rw c.push_reserved.ensures.items more), c.push_reserved.ensures.capacity ∙ c.loop-term.invariant.1)
  where
    one_times : (z : ℤ) → z ≡ pos 1 *ℤ z
    one_times z = omega (arith, ints)

pub push_reserved-requires-2 : goal.push_reserved-requires-2
push_reserved-requires-2 g c =
    let terms_is : c.terms-term-items.result.now ≡ (row_at c.args.milp.now c.args.i).terms = c.terms-term-items.ensures ∙ ap (λ (r : ProgramRow). r.terms) c.row.ensures.row in
    let size : length c.terms-term-items.result.now ≡ length (row_at c.args.milp.now c.args.i).terms = ap length terms_is in
    let many = row_length c.args.milp.now c.row.ensures.limits c.args.i c.requires.row in
    let n = quotients_length (λ (z : ℤ). z) g.W.Whole.meaning (pos 1) (take c.loop-term.term-index c.terms-term-items.result.now) c.loop-term.line.items c.loop-term.invariant.0 in
    let t = length-take c.loop-term.term-index c.terms-term-items.result.now in
    let v = c.loop-term.line.ok.0 in
    let room = c.requires.room in
    let capacity = c.loop-term.invariant.1 in
    omega arith

pub returns-clause-line : goal.returns-clause-line
returns-clause-line g c =
    let terms_is : c.terms-term-items.result.now ≡ (row_at c.args.milp.now c.args.i).terms = c.terms-term-items.ensures ∙ ap (λ (r : ProgramRow). r.terms) c.row.ensures.row in
    let size : length c.terms-term-items.result.now ≡ length (row_at c.args.milp.now c.args.i).terms = ap length terms_is in
    let many = row_length c.args.milp.now c.row.ensures.limits c.args.i c.requires.row in
    let done : length c.terms-term-items.result.now ≤ c.loop-term.term-index = omega arith in
    let P : List (Term ℤ) → Type 0 = λ ts. AreQuotients (λ (z : ℤ). z) g.W.Whole.meaning (pos 1) ts c.loop-term.line.items in
    let all = subst P (take_all c.loop-term.term-index c.terms-term-items.result.now done ∙ terms_is) c.loop-term.invariant.0 in
    let slack : g.W.Whole.meaning c.negated.result ≡ negsuc 0 = c.negated.ensures ∙ ap neg_ℤ c.one.ensures in
    let filled = row_filled c.args.milp.now c.row.ensures.limits c.args.i c.requires.row g.W.Whole.meaning c.loop-term.line.items c.negated.result all slack in
    rw (c.push_reserved-2.ensures.items, c.columns-columns.ensures.count) filled
