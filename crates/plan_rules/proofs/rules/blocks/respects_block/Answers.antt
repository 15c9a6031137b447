use Rattle.std.proofs.Common.{rules, FitsSigned, arith}
use Rattle.std.specs.Int.{w128}
use Rattle.std.proofs.lemmas.Int.{to_z-of_z}
use Rattle.plan_rules.proofs.LogicLemmas.{both_tells}
use Rattle.plan_rules.proofs.rules.blocks.respects_block.Goals as goal

pub returns-then-stage-opening_at : goal.returns-then-stage-opening_at
returns-then-stage-opening_at c =
    let out : FitsSigned w128 c.hauled_out.result = search rules in
    let cut : FitsSigned w128 c.amount_at-cut.result = search rules in
    let test = rw (c.hauled_out.ensures.value, c.amount_at-cut.ensures, c.block-section.ensures) at (simp to_z-of_z at c.at_most.ensures) in
    (λ t. record { standing = λ _. test.0 t; no_cut = λ l. absurd (omega arith); no_fill = λ l. absurd (omega arith) }, λ r. test.1 (r.standing (omega arith)))

pub returns-else-stage-opening_at : goal.returns-else-stage-opening_at
returns-else-stage-opening_at c =
    let cut : FitsSigned w128 c.amount_at-cut.result = search rules in
    let fill : FitsSigned w128 c.amount_at.result = search rules in
    let no_cut = rw (c.amount_at-cut.ensures, c.block-section.ensures) at (simp to_z-of_z at c.same.ensures) in
    let no_fill = rw (c.amount_at.ensures, c.block-section.ensures) at (simp to_z-of_z at c.same-else-stage-opening_at.ensures) in
    both_tells _ _ _ c.both.ensures no_cut no_fill
    (λ h. record { standing = λ l. absurd (omega arith); no_cut = λ _. h.0; no_fill = λ _. h.1 })
    (λ r. (r.no_cut (omega arith), r.no_fill (omega arith)))
