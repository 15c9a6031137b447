use Rattle.std.proofs.Common.{◌≡◌, ◌+◌, ◌≤◌, ℕ, length, get_or, replicate, false, arith, ap, ◌∙◌}
use Rattle.programs.specs.Programs.{column_count, row_count}
use Rattle.simplex.proofs.Starting.{started, start_reached, start_kept, start_in_range, length_replicate}
use Rattle.simplex.proofs.table.Tableau.begin.Goals as goal

pub invariant_of-result : goal.invariant_of-result
invariant_of-result g c =
    let bounds = rw c.in-Ok.is at c.in_ok-filled.ensures.bounds in
    let lines = rw c.in-Ok.is at c.in_ok-filled.ensures.lines in
    let n : c.columns-columns.result ≡ column_count c.args.lp.now.milp.now = c.columns-columns.ensures.count in
    let m : c.rows-rows.result ≡ row_count c.args.lp.now.milp.now = c.rows-rows.ensures.count in
    let count : length c.in_ok-basis.basis.items ≡ row_count c.args.lp.now.milp.now + 1 = (let e = c.in_ok-basis.ensures.count in omega arith) in
    let slacks : (i : ℕ) → 1 ≤ i → i ≤ row_count c.args.lp.now.milp.now → get_or c.in_ok-basis.basis.items i 0 ≡ column_count c.args.lp.now.milp.now + i = λ i first last. c.in_ok-basis.ensures.slacks i first (omega arith) ∙ ap (λ (k : ℕ). k + i) n in
    let end : c.columns-columns.result + (c.rows-rows.result + 1) ≡ column_count c.args.lp.now.milp.now + row_count c.args.lp.now.milp.now + 1 = omega arith in
    let standing : c.in_ok-at_high.at_high.items ≡ replicate (column_count c.args.lp.now.milp.now + row_count c.args.lp.now.milp.now + 1) false = c.in_ok-at_high.ensures ∙ ap (λ (k : ℕ). replicate k false) end in
    let marks : length c.in_ok-marks.marks.items ≡ row_count c.args.lp.now.milp.now + 1 = ap length c.in_ok-marks.ensures ∙ (length_replicate (c.rows-rows.result + 1) ∙ (omega arith)) in
    let width : c.fill_numbers.new.lines.width ≡ column_count c.args.lp.now.milp.now + row_count c.args.lp.now.milp.now + 1 = (rw c.in-Ok.is at c.in_ok-filled.ensures.width) ∙ (ap (λ s. s.width) c.in_ok-lines.ensures ∙ end) in
    let cells : c.in_ok-cells.cells ≡ column_count c.args.lp.now.milp.now + row_count c.args.lp.now.milp.now + 1 = c.in_ok-cells.ensures ∙ end in
    start_kept g.W.Whole.meaning c.args.lp.now.milp.now c.columns-columns.ensures.limits c.fill_numbers.new.lines.rows c.fill_numbers.new.low.items c.fill_numbers.new.high.items c.fill_numbers.new.has_high.items c.in_ok-basis.basis.items c.in_ok-at_high.at_high.items bounds lines count slacks standing (length c.in_ok-marks.marks.items) c.fill_numbers.new.lines.width c.in_ok-cells.cells marks (rw c.in-Ok.is at c.in_ok-filled.ensures.count) width cells

pub returns-in-Ok-clause-start : goal.returns-in-Ok-clause-start
returns-in-Ok-clause-start g c =
    let bounds = rw c.in-Ok.is at c.in_ok-filled.ensures.bounds in
    let lines = rw c.in-Ok.is at c.in_ok-filled.ensures.lines in
    let n : c.columns-columns.result ≡ column_count c.args.lp.now.milp.now = c.columns-columns.ensures.count in
    let m : c.rows-rows.result ≡ row_count c.args.lp.now.milp.now = c.rows-rows.ensures.count in
    let count : length c.in_ok-basis.basis.items ≡ row_count c.args.lp.now.milp.now + 1 = (let e = c.in_ok-basis.ensures.count in omega arith) in
    let slacks : (i : ℕ) → 1 ≤ i → i ≤ row_count c.args.lp.now.milp.now → get_or c.in_ok-basis.basis.items i 0 ≡ column_count c.args.lp.now.milp.now + i = λ i first last. c.in_ok-basis.ensures.slacks i first (omega arith) ∙ ap (λ (k : ℕ). k + i) n in
    let end : c.columns-columns.result + (c.rows-rows.result + 1) ≡ column_count c.args.lp.now.milp.now + row_count c.args.lp.now.milp.now + 1 = omega arith in
    let standing : c.in_ok-at_high.at_high.items ≡ replicate (column_count c.args.lp.now.milp.now + row_count c.args.lp.now.milp.now + 1) false = c.in_ok-at_high.ensures ∙ ap (λ (k : ℕ). replicate k false) end in
    started g.W.Whole.meaning c.args.lp.now.milp.now c.columns-columns.ensures.limits c.fill_numbers.new.lines.rows c.fill_numbers.new.low.items c.fill_numbers.new.high.items c.fill_numbers.new.has_high.items c.in_ok-basis.basis.items c.in_ok-at_high.at_high.items bounds lines count slacks standing

pub returns-in-Ok-clause-reached : goal.returns-in-Ok-clause-reached
returns-in-Ok-clause-reached g c =
    let bounds = rw c.in-Ok.is at c.in_ok-filled.ensures.bounds in
    let lines = rw c.in-Ok.is at c.in_ok-filled.ensures.lines in
    let n : c.columns-columns.result ≡ column_count c.args.lp.now.milp.now = c.columns-columns.ensures.count in
    let m : c.rows-rows.result ≡ row_count c.args.lp.now.milp.now = c.rows-rows.ensures.count in
    let count : length c.in_ok-basis.basis.items ≡ row_count c.args.lp.now.milp.now + 1 = (let e = c.in_ok-basis.ensures.count in omega arith) in
    let slacks : (i : ℕ) → 1 ≤ i → i ≤ row_count c.args.lp.now.milp.now → get_or c.in_ok-basis.basis.items i 0 ≡ column_count c.args.lp.now.milp.now + i = λ i first last. c.in_ok-basis.ensures.slacks i first (omega arith) ∙ ap (λ (k : ℕ). k + i) n in
    let end : c.columns-columns.result + (c.rows-rows.result + 1) ≡ column_count c.args.lp.now.milp.now + row_count c.args.lp.now.milp.now + 1 = omega arith in
    let standing : c.in_ok-at_high.at_high.items ≡ replicate (column_count c.args.lp.now.milp.now + row_count c.args.lp.now.milp.now + 1) false = c.in_ok-at_high.ensures ∙ ap (λ (k : ℕ). replicate k false) end in
    start_reached g.W.Whole.meaning c.args.lp.now.milp.now c.columns-columns.ensures.limits c.fill_numbers.new.lines.rows c.fill_numbers.new.low.items c.fill_numbers.new.high.items c.fill_numbers.new.has_high.items c.in_ok-basis.basis.items c.in_ok-at_high.at_high.items bounds lines count slacks standing

pub returns-in-Ok-clause-in_range : goal.returns-in-Ok-clause-in_range
returns-in-Ok-clause-in_range g c =
    let bounds = rw c.in-Ok.is at c.in_ok-filled.ensures.bounds in
    let lines = rw c.in-Ok.is at c.in_ok-filled.ensures.lines in
    let n : c.columns-columns.result ≡ column_count c.args.lp.now.milp.now = c.columns-columns.ensures.count in
    let m : c.rows-rows.result ≡ row_count c.args.lp.now.milp.now = c.rows-rows.ensures.count in
    let count : length c.in_ok-basis.basis.items ≡ row_count c.args.lp.now.milp.now + 1 = (let e = c.in_ok-basis.ensures.count in omega arith) in
    let slacks : (i : ℕ) → 1 ≤ i → i ≤ row_count c.args.lp.now.milp.now → get_or c.in_ok-basis.basis.items i 0 ≡ column_count c.args.lp.now.milp.now + i = λ i first last. c.in_ok-basis.ensures.slacks i first (omega arith) ∙ ap (λ (k : ℕ). k + i) n in
    let end : c.columns-columns.result + (c.rows-rows.result + 1) ≡ column_count c.args.lp.now.milp.now + row_count c.args.lp.now.milp.now + 1 = omega arith in
    let standing : c.in_ok-at_high.at_high.items ≡ replicate (column_count c.args.lp.now.milp.now + row_count c.args.lp.now.milp.now + 1) false = c.in_ok-at_high.ensures ∙ ap (λ (k : ℕ). replicate k false) end in
    start_in_range g.W.Whole.meaning c.args.lp.now.milp.now c.columns-columns.ensures.limits c.fill_numbers.new.lines.rows c.fill_numbers.new.low.items c.fill_numbers.new.high.items c.fill_numbers.new.has_high.items c.in_ok-basis.basis.items c.in_ok-at_high.at_high.items bounds lines count slacks standing g.W.Whole.greatest g.met.W.Whole.in_range
