-- A step by the levels that are due.
use Rattle.std.proofs.Common.{◌≡◌, ℕ, ℤ, ◌-◌, zero, suc, Some, None, Ok, Err, List, [], ◌∷◌, drop, slice_get, refl, ap, subst, ◌∙◌, arith}
use Rattle.text_parts.specs.Lines.{Reading}
use Rattle.cert_text.specs.declared.step.Step.{Step}
use Rattle.cert_text.specs.declared.step.Step.TheVariants.{End}
use Rattle.cert_text.specs.Steps.{levels_after}
use Rattle.cert_text.specs.inside.NodeReading.{root_due, root_on}
use Rattle.cert_text.specs.inside.StepReading.{IsNodeRead, TakesNode, Steps}

pub steps_refused : (rows : ℕ) (levels : List ℕ) (before after : Reading) (line : ℕ) (last mults : List (ℕ × ℤ)) (left : List ℕ) → slice_get levels 0 ≡ Some 0 → root_on rows 0 before ≡ Err line → Steps rows levels before (Err line) after last mults left
steps_refused rows [] before after line last mults left top e = cc
steps_refused rows (level ∷ others) before after line last mults left top e =
    let zero_is : 0 ≡ level = cc in subst (λ l. root_on rows l before ≡ Err line) zero_is e

steps_bad : (rows level : ℕ) (levels : List ℕ) (before after : Reading) (line : ℕ) (last mults : List (ℕ × ℤ)) (left : List ℕ) → slice_get levels 0 ≡ Some (suc level) → root_due rows before ≡ Err line → Steps rows levels before (Err line) after last mults left
steps_bad rows level [] before after line last mults left top e = cc
steps_bad rows level (l ∷ others) before after line last mults left top e =
    let is : suc level ≡ l = cc in subst (λ l. root_on rows l before ≡ Err line) is e

steps_read : (rows level : ℕ) (levels : List ℕ) (before after : Reading) (step : Step) (last mults : List (ℕ × ℤ)) (left : List ℕ) → slice_get levels 0 ≡ Some (suc level) → IsNodeRead (root_due rows before) after step last mults → left ≡ levels_after step level (drop 1 levels) → Steps rows levels before (Ok step) after last mults left
steps_read rows level [] before after step last mults left top h e = cc
steps_read rows level (l ∷ others) before after step last mults left top h e =
    let is : suc level ≡ l = cc in
    subst (λ l. TakesNode rows l others before after step last mults left) is
    (record {
      root = h.root;
      read = h.read;
      step_is = h.step_is;
      mults_is = h.mults_is;
      levels_is = let back : suc level - 1 ≡ level = omega arith in rw back e;
    })

-- the same by a level that isn't 0
pub steps_failed : (rows level : ℕ) (levels : List ℕ) (before after : Reading) (line : ℕ) (last mults : List (ℕ × ℤ)) (left : List ℕ) → (level ≡ 0 → ⊥) → slice_get levels 0 ≡ Some level → root_due rows before ≡ Err line → Steps rows levels before (Err line) after last mults left
steps_failed rows zero levels before after line last mults left n top e = absurd (n refl)
steps_failed rows (suc level) levels before after line last mults left n top e = steps_bad rows level levels before after line last mults left top e

pub steps_taken : (rows level : ℕ) (levels : List ℕ) (before after : Reading) (step : Step) (last mults : List (ℕ × ℤ)) (left : List ℕ) → (level ≡ 0 → ⊥) → slice_get levels 0 ≡ Some level → IsNodeRead (root_due rows before) after step last mults → left ≡ levels_after step (level - 1) (drop 1 levels) → Steps rows levels before (Ok step) after last mults left
steps_taken rows zero levels before after step last mults left n top h e = absurd (n refl)
steps_taken rows (suc level) levels before after step last mults left n top h e =
    let back : suc level - 1 ≡ level = omega arith in
    steps_read rows level levels before after step last mults left top h (e ∙ ap (λ l. levels_after step l (drop 1 levels)) back)

pub steps_end : (rows : ℕ) (levels : List ℕ) (lines : Reading) (mults : List (ℕ × ℤ)) → slice_get levels 0 ≡ None → Steps rows levels lines (Ok End) lines mults mults levels
steps_end rows [] lines mults e = record { step_is = refl; lines_are = refl; mults_is = refl; levels_is = refl }
steps_end rows (level ∷ others) lines mults e = cc
