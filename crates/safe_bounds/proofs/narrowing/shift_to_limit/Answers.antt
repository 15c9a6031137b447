use Rattle.std.proofs.Common.{rules, arith, ◌≡◌, ◌<◌, length, replicate, sym, ◌∙◌, refl}
use Rattle.std.specs.Prelude.{pos, FitsSigned, IsTrue, true, false, ◌↔◌}
use Rattle.std.specs.Int.{w128}
use Rattle.std.proofs.lemmas.Int.{to_z-of_z}
use Rattle.safe_bounds.specs.Narrowing.{AreNarrow}
use Rattle.safe_bounds.proofs.StepWidths.{none_of_bits}
use Rattle.safe_bounds.proofs.NarrowingLemmas.{narrowed_by_none, narrow_by_none, not_narrow, narrowed_to_none}
use Rattle.safe_bounds.proofs.narrowing.shift_to_limit.Goals as goal

unchanged : (P : Type 0) → P → IsTrue false ↔ (P → ⊥)
unchanged P p = (λ t q. cc, λ h. absurd (h p))

changed : (P : Type 0) → (P → ⊥) → IsTrue true ↔ (P → ⊥)
changed P n = (λ t. n, λ h. refl)

pub returns-then-bits-eq0-clause-narrowed : goal.returns-then-bits-eq0-clause-narrowed
returns-then-bits-eq0-clause-narrowed c =
    let scale : FitsSigned w128 c.args.scale.now = search rules in
    let least = simp to_z-of_z at c.least_shift-bits.ensures.least in
    narrowed_by_none c.args.scale.now c.args.mults.now c.least_shift-bits.result c.requires.scale c.if-bits-eq0.true least

pub returns-then-bits-eq0-clause-changed : goal.returns-then-bits-eq0-clause-changed
returns-then-bits-eq0-clause-changed c =
    let scale : FitsSigned w128 c.args.scale.now = search rules in
    let least = simp to_z-of_z at c.least_shift-bits.ensures.least in
    unchanged (AreNarrow c.args.scale.now c.args.mults.now) (narrow_by_none c.args.scale.now c.args.mults.now c.least_shift-bits.result c.if-bits-eq0.true least)

pub returns-then-narrowed-eq0-clause-narrowed : goal.returns-then-narrowed-eq0-clause-narrowed
returns-then-narrowed-eq0-clause-narrowed c =
    let scale : FitsSigned w128 c.args.scale.now = search rules in
    let new : FitsSigned w128 c.shift-narrowed.result = search rules in
    let least = simp to_z-of_z at c.least_shift-bits.ensures.least in
    let value = simp to_z-of_z at c.shift-narrowed.ensures in
    let fallen = sym value ∙ none_of_bits c.shift-narrowed.result new c.if-narrowed-eq0.true in
    let zeros : c.fill.new.self ≡ replicate (length c.args.mults.now) (pos 0) = c.fill.ensures.after (λ y e. e) in
    narrowed_to_none c.args.scale.now c.args.mults.now c.fill.new.self c.least_shift-bits.result fallen zeros least

pub returns-then-narrowed-eq0-clause-changed : goal.returns-then-narrowed-eq0-clause-changed
returns-then-narrowed-eq0-clause-changed c =
    let scale : FitsSigned w128 c.args.scale.now = search rules in
    let least = simp to_z-of_z at c.least_shift-bits.ensures.least in
    let n : 0 < c.least_shift-bits.result = omega arith in
    changed (AreNarrow c.args.scale.now c.args.mults.now) (not_narrow c.args.scale.now c.args.mults.now c.least_shift-bits.result n least)

pub returns-else-narrowed-eq0-clause-changed : goal.returns-else-narrowed-eq0-clause-changed
returns-else-narrowed-eq0-clause-changed c =
    let scale : FitsSigned w128 c.args.scale.now = search rules in
    let least = simp to_z-of_z at c.least_shift-bits.ensures.least in
    let n : 0 < c.least_shift-bits.result = omega arith in
    changed (AreNarrow c.args.scale.now c.args.mults.now) (not_narrow c.args.scale.now c.args.mults.now c.least_shift-bits.result n least)
