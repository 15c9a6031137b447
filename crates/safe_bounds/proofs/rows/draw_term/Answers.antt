use Rattle.std.proofs.Common.{rules, arith, ◌^◌, ◌-◌, get_or}
use Rattle.std.specs.Prelude.{pos, FitsSigned}
use Rattle.std.specs.Int.{w64, w128}
use Rattle.std.proofs.lemmas.Int.{to_z-of_z}
use Rattle.safe_bounds.proofs.DrawnLemmas.{one_drawn, one_drawn_width}
use Rattle.safe_bounds.proofs.StepWidths.{drawn_fits, drawn_width}
use Rattle.safe_bounds.proofs.rows.draw_term.Goals as goal

pub plus-requires : goal.plus-requires
plus-requires c =
    let word : FitsSigned w64 c.args.term.value = search rules in
    let mult : FitsSigned w128 c.args.mult = c.ranges.mult in
    let product : FitsSigned w128 c.times_word.result = record { sfits = c.times_word.type_inv } in
    let old : FitsSigned w128 (get_or c.args.drawn.now (c.args.term.column - 1) (pos 0)) = search rules in
    let here = c.requires.room (c.args.term.column - 1) (pos 0) (omega arith) in
    let times = simp to_z-of_z at c.times_word.ensures.value in
    simp to_z-of_z (rw times (drawn_fits (get_or c.args.drawn.now (c.args.term.column - 1) (pos 0)) c.args.mult c.args.term.value here c.requires.mult word))

pub returns-clause-drawn : goal.returns-clause-drawn
returns-clause-drawn c =
    let word : FitsSigned w64 c.args.term.value = search rules in
    let mult : FitsSigned w128 c.args.mult = c.ranges.mult in
    let product : FitsSigned w128 c.times_word.result = record { sfits = c.times_word.type_inv } in
    let total : FitsSigned w128 c.plus.result = record { sfits = c.plus.type_inv } in
    let old : FitsSigned w128 (get_or c.args.drawn.now (c.args.term.column - 1) (pos 0)) = search rules in
    let times = simp to_z-of_z at c.times_word.ensures.value in
    let plus = rw times at (simp to_z-of_z at c.plus.ensures) in
    simp to_z-of_z (one_drawn c.args.drawn.now c.args.term c.args.mult c.plus.result c.requires.column plus)

pub returns-clause-width : goal.returns-clause-width
returns-clause-width c = λ k h.
    let word : FitsSigned w64 c.args.term.value = search rules in
    let mult : FitsSigned w128 c.args.mult = c.ranges.mult in
    let product : FitsSigned w128 c.times_word.result = record { sfits = c.times_word.type_inv } in
    let total : FitsSigned w128 c.plus.result = record { sfits = c.plus.type_inv } in
    let old : FitsSigned w128 (get_or c.args.drawn.now (c.args.term.column - 1) (pos 0)) = search rules in
    let times = simp to_z-of_z at c.times_word.ensures.value in
    let plus = rw times at (simp to_z-of_z at c.plus.ensures) in
    let here = h (c.args.term.column - 1) (pos 0) (omega arith) in
    let b = drawn_width k (get_or c.args.drawn.now (c.args.term.column - 1) (pos 0)) c.args.mult c.args.term.value here c.requires.mult word in
    simp to_z-of_z (one_drawn_width k (2 ^ 103) (c.args.term.column - 1) c.args.drawn.now c.plus.result (rw plus b) h)
