use Rattle.std.proofs.Common.{◌≡◌, ℕ, zero, suc, refl, sym, ◌∙◌, FitsSigned, rules}
use Rattle.std.specs.Int.{w64}
use Rattle.std.proofs.lemmas.Int.{to_z-of_z}
use Rattle.road_types.specs.Lines.{Lines}
use Rattle.section_rows.specs.inside.Rights.{right_at}
use Rattle.section_rows.proofs.rights.volume_right.Goals as goal

right_at_last : (place : ℕ) (lines : Lines) → ¬ (place ≡ 0) → ¬ (place ≡ 1) → ¬ (place ≡ 2) → right_at place lines ≡ lines.above_greatest
right_at_last zero lines first second third = absurd (first refl)
right_at_last (suc zero) lines first second third = absurd (second refl)
right_at_last (suc (suc zero)) lines first second third = absurd (third refl)
right_at_last (suc (suc (suc place))) lines first second third = refl

pub returns-then-place-eq0 : goal.returns-then-place-eq0
returns-then-place-eq0 c =
    let fits : FitsSigned w64 c.above_least.result = search rules in
    simp to_z-of_z (rw c.if-place-eq0.true c.above_least.ensures)

pub returns-then-place-eq1 : goal.returns-then-place-eq1
returns-then-place-eq1 c =
    let fits : FitsSigned w64 c.below_greatest.result = search rules in
    simp to_z-of_z (rw c.if-place-eq1.true c.below_greatest.ensures)

pub returns-then-place-eq2 : goal.returns-then-place-eq2
returns-then-place-eq2 c =
    let fits : FitsSigned w64 c.below_least.result = search rules in
    simp to_z-of_z (rw c.if-place-eq2.true c.below_least.ensures)

pub returns : goal.returns
returns c =
    let fits : FitsSigned w64 c.above_greatest.result = search rules in
    simp to_z-of_z (c.above_greatest.ensures ∙ sym (right_at_last c.args.place _ c.if-place-eq0.false c.if-place-eq1.false c.if-place-eq2.false))
