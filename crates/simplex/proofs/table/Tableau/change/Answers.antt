use Rattle.std.proofs.Common.{◌≡◌, ℕ, List, [], get_or, length, set, Bool, arith, ap, sym, ◌∙◌, subst}
use Rattle.std.specs.Vec.{with_items}
use Rattle.std.proofs.lemmas.List.{with_items_is}
use Rattle.programs.specs.Programs.{column_count}
use Rattle.tableau.specs.Exchanges.{IsGood, IsResult}
use Rattle.tableau.specs.Operations.{IsOutOfRange}
use Rattle.tableau.specs.declared.op.Op.TheVariants.{Cell}
use Rattle.simplex.specs.States.{State, tableau_of, KeepsLaws}
use Rattle.simplex.specs.inside.Rows.{IsRestanding}
use Rattle.simplex.proofs.Keeping.{state, rising_rows, leaves, wide_op, after_result, after_reached, same_state, kept_again, reached_points}
use Rattle.simplex.proofs.table.Tableau.change.Goals as goal

pub exchange_rows-requires-clause-rising : goal.exchange_rows-requires-clause-rising
exchange_rows-requires-clause-rising g c = λ k l.
    let m : length c.deref_mut.result.now ≡ length c.self.inside.marks.items = ap length c.deref_mut.ensures.value in
    rising_rows g.W.Whole.meaning c.self.inside.milp.now c.self.inside.low.items c.self.inside.high.items c.self.inside.has_high.items c.self.inside.lines.rows c.self.inside.basis.items c.self.inside.at_high.items (length c.self.inside.marks.items) c.self.inside.lines.width c.self.inside.cells c.self.invariant k (omega arith)

pub exchange_rows-requires-clause-entries : goal.exchange_rows-requires-clause-entries
exchange_rows-requires-clause-entries g c = λ k l.
    let m : length c.deref_mut.result.now ≡ length c.self.inside.marks.items = ap length c.deref_mut.ensures.value in
    leaves g.W.Whole.meaning c.self.inside.milp.now c.self.inside.low.items c.self.inside.high.items c.self.inside.has_high.items c.self.inside.lines.rows c.self.inside.basis.items c.self.inside.at_high.items (length c.self.inside.marks.items) c.self.inside.lines.width c.self.inside.cells c.self.invariant c.args.swap (subst (λ (s : State g.row.W.Denot). IsGood (tableau_of g.W.Whole.meaning s) c.args.swap) (sym c.self.view_is) c.requires) k (omega arith)

pub invariant_of-self : goal.invariant_of-self
invariant_of-self g c =
    let marks_len = c.self.inside.marks.ok.0 in
    let basis_len = c.self.inside.basis.ok.0 in
    let high_len = c.self.inside.at_high.ok.0 in
    let m : length c.deref_mut.result.now ≡ length c.self.inside.marks.items = ap length c.deref_mut.ensures.value in
    let b : length c.deref_mut-2.result.now ≡ length c.self.inside.basis.items = ap length c.deref_mut-2.ensures.value in
    let h : length c.deref_mut-3.result.now ≡ length c.self.inside.at_high.items = ap length c.deref_mut-3.ensures.value in
    let new_marks = c.exchange_rows.ensures.marks in
    let new_basis : length c.exchange_rows.new.basis ≡ length c.deref_mut-2.result.now = c.exchange_rows.auto.basis in
    let new_high = c.exchange_rows.ensures.standing in
    let marks_is = with_items_is c.self.inside.marks c.exchange_rows.new.marks (omega arith) in
    let basis_is = with_items_is c.self.inside.basis c.exchange_rows.new.basis (omega arith) in
    let high_is = with_items_is c.self.inside.at_high c.exchange_rows.new.at_high (omega arith) in
    let same = same_state g.W.Whole.meaning c.self.inside.milp.now c.self.inside.low.items c.self.inside.high.items c.self.inside.has_high.items c.self.inside.lines.rows c.self.inside.basis.items c.self.inside.at_high.items (length c.self.inside.marks.items) c.self.inside.lines.width c.self.inside.cells c.self.invariant c.exchange_rows.new.lines.rows (with_items c.self.inside.basis c.exchange_rows.new.basis).items (with_items c.self.inside.at_high c.exchange_rows.new.at_high).items c.exchange_rows.ensures.count
    (λ k l. c.in-Err.ensures.same k (let e = m in omega arith))
    (basis_is ∙ (c.in-Err.ensures.same_basis ∙ c.deref_mut-2.ensures.value))
    (high_is ∙ (c.in-Err.ensures.same_standing ∙ c.deref_mut-3.ensures.value)) in
    kept_again g.W.Whole.meaning c.self.inside.milp.now c.self.inside.low.items c.self.inside.high.items c.self.inside.has_high.items c.self.inside.lines.rows c.self.inside.basis.items c.self.inside.at_high.items (length c.self.inside.marks.items) c.self.inside.lines.width c.self.inside.cells c.self.invariant c.exchange_rows.new.lines.rows (with_items c.self.inside.basis c.exchange_rows.new.basis).items (with_items c.self.inside.at_high c.exchange_rows.new.at_high).items (length (with_items c.self.inside.marks c.exchange_rows.new.marks).items) c.exchange_rows.new.lines.width c.exchange_rows.new.cells
    c.exchange_rows.ensures.count (ap length marks_is ∙ (c.exchange_rows.ensures.marks ∙ m)) c.exchange_rows.ensures.width c.exchange_rows.ensures.room
    (subst (λ (s : State g.row.W.Denot). KeepsLaws g.W.Whole.meaning s) (sym same) c.self.invariant.reached)

pub returns-in-Err-clause-same : goal.returns-in-Err-clause-same
returns-in-Err-clause-same g c =
    let marks_len = c.self.inside.marks.ok.0 in
    let basis_len = c.self.inside.basis.ok.0 in
    let high_len = c.self.inside.at_high.ok.0 in
    let m : length c.deref_mut.result.now ≡ length c.self.inside.marks.items = ap length c.deref_mut.ensures.value in
    let b : length c.deref_mut-2.result.now ≡ length c.self.inside.basis.items = ap length c.deref_mut-2.ensures.value in
    let h : length c.deref_mut-3.result.now ≡ length c.self.inside.at_high.items = ap length c.deref_mut-3.ensures.value in
    let new_marks = c.exchange_rows.ensures.marks in
    let new_basis : length c.exchange_rows.new.basis ≡ length c.deref_mut-2.result.now = c.exchange_rows.auto.basis in
    let new_high = c.exchange_rows.ensures.standing in
    let marks_is = with_items_is c.self.inside.marks c.exchange_rows.new.marks (omega arith) in
    let basis_is = with_items_is c.self.inside.basis c.exchange_rows.new.basis (omega arith) in
    let high_is = with_items_is c.self.inside.at_high c.exchange_rows.new.at_high (omega arith) in
    let same = same_state g.W.Whole.meaning c.self.inside.milp.now c.self.inside.low.items c.self.inside.high.items c.self.inside.has_high.items c.self.inside.lines.rows c.self.inside.basis.items c.self.inside.at_high.items (length c.self.inside.marks.items) c.self.inside.lines.width c.self.inside.cells c.self.invariant c.exchange_rows.new.lines.rows (with_items c.self.inside.basis c.exchange_rows.new.basis).items (with_items c.self.inside.at_high c.exchange_rows.new.at_high).items c.exchange_rows.ensures.count
    (λ k l. c.in-Err.ensures.same k (let e = m in omega arith))
    (basis_is ∙ (c.in-Err.ensures.same_basis ∙ c.deref_mut-2.ensures.value))
    (high_is ∙ (c.in-Err.ensures.same_standing ∙ c.deref_mut-3.ensures.value)) in
    same ∙ c.self.view_is

pub returns-in-Err-clause-wide : goal.returns-in-Err-clause-wide
returns-in-Err-clause-wide g c =
    let m : length c.deref_mut.result.now ≡ length c.self.inside.marks.items = ap length c.deref_mut.ensures.value in
    let l = c.in-Err.ensures.wide.0 in
    subst (λ (s : State g.row.W.Denot). IsOutOfRange g.W.Whole.greatest (tableau_of g.W.Whole.meaning s) (Cell c.args.swap c.in-Err.row c.in-Err.col)) c.self.view_is
    (wide_op g.W.Whole.meaning c.self.inside.milp.now c.self.inside.low.items c.self.inside.high.items c.self.inside.has_high.items c.self.inside.lines.rows c.self.inside.basis.items c.self.inside.at_high.items (length c.self.inside.marks.items) c.self.inside.lines.width c.self.inside.cells c.self.invariant c.args.swap (subst (λ (s : State g.row.W.Denot). IsGood (tableau_of g.W.Whole.meaning s) c.args.swap) (sym c.self.view_is) c.requires) g.W.Whole.greatest c.in-Err.row c.in-Err.col (omega arith) c.in-Err.ensures.wide.1)

pub returns-in-Err-clause-laws : goal.returns-in-Err-clause-laws
returns-in-Err-clause-laws g c =
    let marks_len = c.self.inside.marks.ok.0 in
    let basis_len = c.self.inside.basis.ok.0 in
    let high_len = c.self.inside.at_high.ok.0 in
    let m : length c.deref_mut.result.now ≡ length c.self.inside.marks.items = ap length c.deref_mut.ensures.value in
    let b : length c.deref_mut-2.result.now ≡ length c.self.inside.basis.items = ap length c.deref_mut-2.ensures.value in
    let h : length c.deref_mut-3.result.now ≡ length c.self.inside.at_high.items = ap length c.deref_mut-3.ensures.value in
    let new_marks = c.exchange_rows.ensures.marks in
    let new_basis : length c.exchange_rows.new.basis ≡ length c.deref_mut-2.result.now = c.exchange_rows.auto.basis in
    let new_high = c.exchange_rows.ensures.standing in
    let marks_is = with_items_is c.self.inside.marks c.exchange_rows.new.marks (omega arith) in
    let basis_is = with_items_is c.self.inside.basis c.exchange_rows.new.basis (omega arith) in
    let high_is = with_items_is c.self.inside.at_high c.exchange_rows.new.at_high (omega arith) in
    let same = same_state g.W.Whole.meaning c.self.inside.milp.now c.self.inside.low.items c.self.inside.high.items c.self.inside.has_high.items c.self.inside.lines.rows c.self.inside.basis.items c.self.inside.at_high.items (length c.self.inside.marks.items) c.self.inside.lines.width c.self.inside.cells c.self.invariant c.exchange_rows.new.lines.rows (with_items c.self.inside.basis c.exchange_rows.new.basis).items (with_items c.self.inside.at_high c.exchange_rows.new.at_high).items c.exchange_rows.ensures.count
    (λ k l. c.in-Err.ensures.same k (let e = m in omega arith))
    (basis_is ∙ (c.in-Err.ensures.same_basis ∙ c.deref_mut-2.ensures.value))
    (high_is ∙ (c.in-Err.ensures.same_standing ∙ c.deref_mut-3.ensures.value)) in
    (subst (λ (s : State g.row.W.Denot). KeepsLaws g.W.Whole.meaning s) (sym same) c.self.invariant.reached).laws

pub returns-in-Err-clause-points : goal.returns-in-Err-clause-points
returns-in-Err-clause-points g c =
    let marks_len = c.self.inside.marks.ok.0 in
    let basis_len = c.self.inside.basis.ok.0 in
    let high_len = c.self.inside.at_high.ok.0 in
    let m : length c.deref_mut.result.now ≡ length c.self.inside.marks.items = ap length c.deref_mut.ensures.value in
    let b : length c.deref_mut-2.result.now ≡ length c.self.inside.basis.items = ap length c.deref_mut-2.ensures.value in
    let h : length c.deref_mut-3.result.now ≡ length c.self.inside.at_high.items = ap length c.deref_mut-3.ensures.value in
    let new_marks = c.exchange_rows.ensures.marks in
    let new_basis : length c.exchange_rows.new.basis ≡ length c.deref_mut-2.result.now = c.exchange_rows.auto.basis in
    let new_high = c.exchange_rows.ensures.standing in
    let marks_is = with_items_is c.self.inside.marks c.exchange_rows.new.marks (omega arith) in
    let basis_is = with_items_is c.self.inside.basis c.exchange_rows.new.basis (omega arith) in
    let high_is = with_items_is c.self.inside.at_high c.exchange_rows.new.at_high (omega arith) in
    let same = same_state g.W.Whole.meaning c.self.inside.milp.now c.self.inside.low.items c.self.inside.high.items c.self.inside.has_high.items c.self.inside.lines.rows c.self.inside.basis.items c.self.inside.at_high.items (length c.self.inside.marks.items) c.self.inside.lines.width c.self.inside.cells c.self.invariant c.exchange_rows.new.lines.rows (with_items c.self.inside.basis c.exchange_rows.new.basis).items (with_items c.self.inside.at_high c.exchange_rows.new.at_high).items c.exchange_rows.ensures.count
    (λ k l. c.in-Err.ensures.same k (let e = m in omega arith))
    (basis_is ∙ (c.in-Err.ensures.same_basis ∙ c.deref_mut-2.ensures.value))
    (high_is ∙ (c.in-Err.ensures.same_standing ∙ c.deref_mut-3.ensures.value)) in
    reached_points g.W.Whole.meaning _ (subst (λ (s : State g.row.W.Denot). KeepsLaws g.W.Whole.meaning s) (sym same) c.self.invariant.reached)

pub invariant_of-self-2 : goal.invariant_of-self-2
invariant_of-self-2 g c =
    let marks_len = c.self.inside.marks.ok.0 in
    let basis_len = c.self.inside.basis.ok.0 in
    let high_len = c.self.inside.at_high.ok.0 in
    let m : length c.deref_mut.result.now ≡ length c.self.inside.marks.items = ap length c.deref_mut.ensures.value in
    let b : length c.deref_mut-2.result.now ≡ length c.self.inside.basis.items = ap length c.deref_mut-2.ensures.value in
    let h : length c.deref_mut-3.result.now ≡ length c.self.inside.at_high.items = ap length c.deref_mut-3.ensures.value in
    let new_marks = c.exchange_rows.ensures.marks in
    let new_basis : length c.exchange_rows.new.basis ≡ length c.deref_mut-2.result.now = c.exchange_rows.auto.basis in
    let new_high = c.exchange_rows.ensures.standing in
    let marks_is = with_items_is c.self.inside.marks c.exchange_rows.new.marks (omega arith) in
    let basis_is = with_items_is c.self.inside.basis c.exchange_rows.new.basis (omega arith) in
    let high_is = with_items_is c.self.inside.at_high c.exchange_rows.new.at_high (omega arith) in
    kept_again g.W.Whole.meaning c.self.inside.milp.now c.self.inside.low.items c.self.inside.high.items c.self.inside.has_high.items c.self.inside.lines.rows c.self.inside.basis.items c.self.inside.at_high.items (length c.self.inside.marks.items) c.self.inside.lines.width c.self.inside.cells c.self.invariant c.exchange_rows.new.lines.rows (with_items c.self.inside.basis c.exchange_rows.new.basis).items (with_items c.self.inside.at_high c.exchange_rows.new.at_high).items (length (with_items c.self.inside.marks c.exchange_rows.new.marks).items) c.exchange_rows.new.lines.width c.exchange_rows.new.cells
    c.exchange_rows.ensures.count (ap length marks_is ∙ (c.exchange_rows.ensures.marks ∙ m)) c.exchange_rows.ensures.width c.exchange_rows.ensures.room
    (after_reached g.W.Whole.meaning c.self.inside.milp.now c.self.inside.low.items c.self.inside.high.items c.self.inside.has_high.items c.self.inside.lines.rows c.self.inside.basis.items c.self.inside.at_high.items (length c.self.inside.marks.items) c.self.inside.lines.width c.self.inside.cells c.self.invariant c.args.swap (subst (λ (s : State g.row.W.Denot). IsGood (tableau_of g.W.Whole.meaning s) c.args.swap) (sym c.self.view_is) c.requires) c.exchange_rows.new.lines.rows (with_items c.self.inside.basis c.exchange_rows.new.basis).items (with_items c.self.inside.at_high c.exchange_rows.new.at_high).items c.exchange_rows.ensures.count
    (ap length high_is ∙ (c.exchange_rows.ensures.standing ∙ h))
    (basis_is ∙ (c.in-Ok.ensures.basis ∙ ap (λ (xs : List ℕ). set xs c.args.swap.row c.args.swap.col) c.deref_mut-2.ensures.value))
    (λ k l. c.in-Ok.ensures.changed k (let e = m in omega arith))
    (subst (λ (hs : List Bool). IsRestanding g.W.Whole.meaning (column_count c.self.inside.milp.now) (get_or c.self.inside.basis.items c.args.swap.row 0) c.args.swap.col (get_or c.self.inside.lines.rows c.args.swap.row []) (get_or c.exchange_rows.new.lines.rows 0 []) c.self.inside.at_high.items hs) (sym high_is)
    (subst (λ (hs : List Bool). IsRestanding g.W.Whole.meaning (column_count c.self.inside.milp.now) (get_or c.self.inside.basis.items c.args.swap.row 0) c.args.swap.col (get_or c.self.inside.lines.rows c.args.swap.row []) (get_or c.exchange_rows.new.lines.rows 0 []) hs c.exchange_rows.new.at_high) c.deref_mut-3.ensures.value
    (subst (λ (bs : List ℕ). IsRestanding g.W.Whole.meaning (column_count c.self.inside.milp.now) (get_or bs c.args.swap.row 0) c.args.swap.col (get_or c.self.inside.lines.rows c.args.swap.row []) (get_or c.exchange_rows.new.lines.rows 0 []) c.deref_mut-3.result.now c.exchange_rows.new.at_high) c.deref_mut-2.ensures.value (subst (λ (n : ℕ). IsRestanding g.W.Whole.meaning n (get_or c.deref_mut-2.result.now c.args.swap.row 0) c.args.swap.col (get_or c.self.inside.lines.rows c.args.swap.row []) (get_or c.exchange_rows.new.lines.rows 0 []) c.deref_mut-3.result.now c.exchange_rows.new.at_high) c.columns-columns.ensures.count c.in-Ok.ensures.restanding)))))

pub returns-clause-result : goal.returns-clause-result
returns-clause-result g c =
    let marks_len = c.self.inside.marks.ok.0 in
    let basis_len = c.self.inside.basis.ok.0 in
    let high_len = c.self.inside.at_high.ok.0 in
    let m : length c.deref_mut.result.now ≡ length c.self.inside.marks.items = ap length c.deref_mut.ensures.value in
    let b : length c.deref_mut-2.result.now ≡ length c.self.inside.basis.items = ap length c.deref_mut-2.ensures.value in
    let h : length c.deref_mut-3.result.now ≡ length c.self.inside.at_high.items = ap length c.deref_mut-3.ensures.value in
    let new_marks = c.exchange_rows.ensures.marks in
    let new_basis : length c.exchange_rows.new.basis ≡ length c.deref_mut-2.result.now = c.exchange_rows.auto.basis in
    let new_high = c.exchange_rows.ensures.standing in
    let marks_is = with_items_is c.self.inside.marks c.exchange_rows.new.marks (omega arith) in
    let basis_is = with_items_is c.self.inside.basis c.exchange_rows.new.basis (omega arith) in
    let high_is = with_items_is c.self.inside.at_high c.exchange_rows.new.at_high (omega arith) in
    let P : State g.row.W.Denot → Type 0 = λ s. IsResult (tableau_of g.W.Whole.meaning s) c.args.swap (tableau_of g.W.Whole.meaning (state g.W.Whole.meaning c.self.inside.milp.now c.self.inside.low.items c.self.inside.high.items c.self.inside.has_high.items c.exchange_rows.new.lines.rows (with_items c.self.inside.basis c.exchange_rows.new.basis).items (with_items c.self.inside.at_high c.exchange_rows.new.at_high).items)) in
    subst P c.self.view_is (after_result g.W.Whole.meaning c.self.inside.milp.now c.self.inside.low.items c.self.inside.high.items c.self.inside.has_high.items c.self.inside.lines.rows c.self.inside.basis.items c.self.inside.at_high.items (length c.self.inside.marks.items) c.self.inside.lines.width c.self.inside.cells c.self.invariant c.args.swap (subst (λ (s : State g.row.W.Denot). IsGood (tableau_of g.W.Whole.meaning s) c.args.swap) (sym c.self.view_is) c.requires) c.exchange_rows.new.lines.rows (with_items c.self.inside.basis c.exchange_rows.new.basis).items (with_items c.self.inside.at_high c.exchange_rows.new.at_high).items c.exchange_rows.ensures.count
    (ap length high_is ∙ (c.exchange_rows.ensures.standing ∙ h))
    (basis_is ∙ (c.in-Ok.ensures.basis ∙ ap (λ (xs : List ℕ). set xs c.args.swap.row c.args.swap.col) c.deref_mut-2.ensures.value))
    (λ k l. c.in-Ok.ensures.changed k (let e = m in omega arith))
    (subst (λ (hs : List Bool). IsRestanding g.W.Whole.meaning (column_count c.self.inside.milp.now) (get_or c.self.inside.basis.items c.args.swap.row 0) c.args.swap.col (get_or c.self.inside.lines.rows c.args.swap.row []) (get_or c.exchange_rows.new.lines.rows 0 []) c.self.inside.at_high.items hs) (sym high_is)
    (subst (λ (hs : List Bool). IsRestanding g.W.Whole.meaning (column_count c.self.inside.milp.now) (get_or c.self.inside.basis.items c.args.swap.row 0) c.args.swap.col (get_or c.self.inside.lines.rows c.args.swap.row []) (get_or c.exchange_rows.new.lines.rows 0 []) hs c.exchange_rows.new.at_high) c.deref_mut-3.ensures.value
    (subst (λ (bs : List ℕ). IsRestanding g.W.Whole.meaning (column_count c.self.inside.milp.now) (get_or bs c.args.swap.row 0) c.args.swap.col (get_or c.self.inside.lines.rows c.args.swap.row []) (get_or c.exchange_rows.new.lines.rows 0 []) c.deref_mut-3.result.now c.exchange_rows.new.at_high) c.deref_mut-2.ensures.value (subst (λ (n : ℕ). IsRestanding g.W.Whole.meaning n (get_or c.deref_mut-2.result.now c.args.swap.row 0) c.args.swap.col (get_or c.self.inside.lines.rows c.args.swap.row []) (get_or c.exchange_rows.new.lines.rows 0 []) c.deref_mut-3.result.now c.exchange_rows.new.at_high) c.columns-columns.ensures.count c.in-Ok.ensures.restanding)))))

pub returns-clause-laws : goal.returns-clause-laws
returns-clause-laws g c =
    let marks_len = c.self.inside.marks.ok.0 in
    let basis_len = c.self.inside.basis.ok.0 in
    let high_len = c.self.inside.at_high.ok.0 in
    let m : length c.deref_mut.result.now ≡ length c.self.inside.marks.items = ap length c.deref_mut.ensures.value in
    let b : length c.deref_mut-2.result.now ≡ length c.self.inside.basis.items = ap length c.deref_mut-2.ensures.value in
    let h : length c.deref_mut-3.result.now ≡ length c.self.inside.at_high.items = ap length c.deref_mut-3.ensures.value in
    let new_marks = c.exchange_rows.ensures.marks in
    let new_basis : length c.exchange_rows.new.basis ≡ length c.deref_mut-2.result.now = c.exchange_rows.auto.basis in
    let new_high = c.exchange_rows.ensures.standing in
    let marks_is = with_items_is c.self.inside.marks c.exchange_rows.new.marks (omega arith) in
    let basis_is = with_items_is c.self.inside.basis c.exchange_rows.new.basis (omega arith) in
    let high_is = with_items_is c.self.inside.at_high c.exchange_rows.new.at_high (omega arith) in
    (after_reached g.W.Whole.meaning c.self.inside.milp.now c.self.inside.low.items c.self.inside.high.items c.self.inside.has_high.items c.self.inside.lines.rows c.self.inside.basis.items c.self.inside.at_high.items (length c.self.inside.marks.items) c.self.inside.lines.width c.self.inside.cells c.self.invariant c.args.swap (subst (λ (s : State g.row.W.Denot). IsGood (tableau_of g.W.Whole.meaning s) c.args.swap) (sym c.self.view_is) c.requires) c.exchange_rows.new.lines.rows (with_items c.self.inside.basis c.exchange_rows.new.basis).items (with_items c.self.inside.at_high c.exchange_rows.new.at_high).items c.exchange_rows.ensures.count
    (ap length high_is ∙ (c.exchange_rows.ensures.standing ∙ h))
    (basis_is ∙ (c.in-Ok.ensures.basis ∙ ap (λ (xs : List ℕ). set xs c.args.swap.row c.args.swap.col) c.deref_mut-2.ensures.value))
    (λ k l. c.in-Ok.ensures.changed k (let e = m in omega arith))
    (subst (λ (hs : List Bool). IsRestanding g.W.Whole.meaning (column_count c.self.inside.milp.now) (get_or c.self.inside.basis.items c.args.swap.row 0) c.args.swap.col (get_or c.self.inside.lines.rows c.args.swap.row []) (get_or c.exchange_rows.new.lines.rows 0 []) c.self.inside.at_high.items hs) (sym high_is)
    (subst (λ (hs : List Bool). IsRestanding g.W.Whole.meaning (column_count c.self.inside.milp.now) (get_or c.self.inside.basis.items c.args.swap.row 0) c.args.swap.col (get_or c.self.inside.lines.rows c.args.swap.row []) (get_or c.exchange_rows.new.lines.rows 0 []) hs c.exchange_rows.new.at_high) c.deref_mut-3.ensures.value
    (subst (λ (bs : List ℕ). IsRestanding g.W.Whole.meaning (column_count c.self.inside.milp.now) (get_or bs c.args.swap.row 0) c.args.swap.col (get_or c.self.inside.lines.rows c.args.swap.row []) (get_or c.exchange_rows.new.lines.rows 0 []) c.deref_mut-3.result.now c.exchange_rows.new.at_high) c.deref_mut-2.ensures.value (subst (λ (n : ℕ). IsRestanding g.W.Whole.meaning n (get_or c.deref_mut-2.result.now c.args.swap.row 0) c.args.swap.col (get_or c.self.inside.lines.rows c.args.swap.row []) (get_or c.exchange_rows.new.lines.rows 0 []) c.deref_mut-3.result.now c.exchange_rows.new.at_high) c.columns-columns.ensures.count c.in-Ok.ensures.restanding))))).laws

pub returns-clause-points : goal.returns-clause-points
returns-clause-points g c =
    let marks_len = c.self.inside.marks.ok.0 in
    let basis_len = c.self.inside.basis.ok.0 in
    let high_len = c.self.inside.at_high.ok.0 in
    let m : length c.deref_mut.result.now ≡ length c.self.inside.marks.items = ap length c.deref_mut.ensures.value in
    let b : length c.deref_mut-2.result.now ≡ length c.self.inside.basis.items = ap length c.deref_mut-2.ensures.value in
    let h : length c.deref_mut-3.result.now ≡ length c.self.inside.at_high.items = ap length c.deref_mut-3.ensures.value in
    let new_marks = c.exchange_rows.ensures.marks in
    let new_basis : length c.exchange_rows.new.basis ≡ length c.deref_mut-2.result.now = c.exchange_rows.auto.basis in
    let new_high = c.exchange_rows.ensures.standing in
    let marks_is = with_items_is c.self.inside.marks c.exchange_rows.new.marks (omega arith) in
    let basis_is = with_items_is c.self.inside.basis c.exchange_rows.new.basis (omega arith) in
    let high_is = with_items_is c.self.inside.at_high c.exchange_rows.new.at_high (omega arith) in
    reached_points g.W.Whole.meaning (state g.W.Whole.meaning c.self.inside.milp.now c.self.inside.low.items c.self.inside.high.items c.self.inside.has_high.items c.exchange_rows.new.lines.rows (with_items c.self.inside.basis c.exchange_rows.new.basis).items (with_items c.self.inside.at_high c.exchange_rows.new.at_high).items) (after_reached g.W.Whole.meaning c.self.inside.milp.now c.self.inside.low.items c.self.inside.high.items c.self.inside.has_high.items c.self.inside.lines.rows c.self.inside.basis.items c.self.inside.at_high.items (length c.self.inside.marks.items) c.self.inside.lines.width c.self.inside.cells c.self.invariant c.args.swap (subst (λ (s : State g.row.W.Denot). IsGood (tableau_of g.W.Whole.meaning s) c.args.swap) (sym c.self.view_is) c.requires) c.exchange_rows.new.lines.rows (with_items c.self.inside.basis c.exchange_rows.new.basis).items (with_items c.self.inside.at_high c.exchange_rows.new.at_high).items c.exchange_rows.ensures.count
    (ap length high_is ∙ (c.exchange_rows.ensures.standing ∙ h))
    (basis_is ∙ (c.in-Ok.ensures.basis ∙ ap (λ (xs : List ℕ). set xs c.args.swap.row c.args.swap.col) c.deref_mut-2.ensures.value))
    (λ k l. c.in-Ok.ensures.changed k (let e = m in omega arith))
    (subst (λ (hs : List Bool). IsRestanding g.W.Whole.meaning (column_count c.self.inside.milp.now) (get_or c.self.inside.basis.items c.args.swap.row 0) c.args.swap.col (get_or c.self.inside.lines.rows c.args.swap.row []) (get_or c.exchange_rows.new.lines.rows 0 []) c.self.inside.at_high.items hs) (sym high_is)
    (subst (λ (hs : List Bool). IsRestanding g.W.Whole.meaning (column_count c.self.inside.milp.now) (get_or c.self.inside.basis.items c.args.swap.row 0) c.args.swap.col (get_or c.self.inside.lines.rows c.args.swap.row []) (get_or c.exchange_rows.new.lines.rows 0 []) hs c.exchange_rows.new.at_high) c.deref_mut-3.ensures.value
    (subst (λ (bs : List ℕ). IsRestanding g.W.Whole.meaning (column_count c.self.inside.milp.now) (get_or bs c.args.swap.row 0) c.args.swap.col (get_or c.self.inside.lines.rows c.args.swap.row []) (get_or c.exchange_rows.new.lines.rows 0 []) c.deref_mut-3.result.now c.exchange_rows.new.at_high) c.deref_mut-2.ensures.value (subst (λ (n : ℕ). IsRestanding g.W.Whole.meaning n (get_or c.deref_mut-2.result.now c.args.swap.row 0) c.args.swap.col (get_or c.self.inside.lines.rows c.args.swap.row []) (get_or c.exchange_rows.new.lines.rows 0 []) c.deref_mut-3.result.now c.exchange_rows.new.at_high) c.columns-columns.ensures.count c.in-Ok.ensures.restanding)))))
