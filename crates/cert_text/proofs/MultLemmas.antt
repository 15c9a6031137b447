-- Multipliers read one by one.
use Rattle.std.proofs.Common.{◌≡◌, ℕ, ℤ, suc, Result, Ok, Err, List, [], ◌∷◌, ◌++◌, refl, sym, ap, ◌∙◌, append_assoc, append-nil}
use Rattle.text_parts.specs.Lines.{Reading}
use Rattle.plan_text.specs.inside.LineReading.{then_read, ◌>>=◌, give}
use Rattle.cert_text.specs.WordForms.{mult_form}
use Rattle.cert_text.specs.inside.NodeReading.{line_due, mults_due}

-- the multipliers read so far, before those that are still to be read
abbrev pub mults_with : List (ℕ × ℤ) → Result (List (ℕ × ℤ) × Reading) ℕ → Result (List (ℕ × ℤ) × Reading) ℕ
mults_with front due = then_read due (λ mults. give (front ++ mults))

mults_with-none : (due : Result (List (ℕ × ℤ) × Reading) ℕ) → mults_with [] due ≡ due
mults_with-none (Ok read) = refl
mults_with-none (Err line) = refl

mults_with-more : (front : List (ℕ × ℤ)) (mult : ℕ × ℤ) (due : Result (List (ℕ × ℤ) × Reading) ℕ) → mults_with front (then_read due (λ mults. give (mult ∷ mults))) ≡ mults_with (front ++ (mult ∷ [])) due
mults_with-more front mult (Ok read) = ap (λ ms. Ok (ms, read.1)) (sym (append_assoc front (mult ∷ []) read.0))
mults_with-more front mult (Err line) = refl

pub mults_start : (rows count : ℕ) (lines : Reading) → mults_due rows 0 count lines ≡ mults_with [] (mults_due rows 0 count lines)
mults_start rows count lines = sym (mults_with-none (mults_due rows 0 count lines))

-- one more multiplier is read
pub mults_step : (rows before left less : ℕ) (front : List (ℕ × ℤ)) (lines after : Reading) (mult : ℕ × ℤ) → left ≡ suc less → line_due (mult_form rows before) lines ≡ Ok (mult, after) → mults_with front (mults_due rows before left lines) ≡ mults_with (front ++ (mult ∷ [])) (mults_due rows mult.0 less after)
mults_step rows before left less front lines after mult n e =
    ap (λ k. mults_with front (mults_due rows before k lines)) n
    ∙ ap (λ o. mults_with front (then_read o (λ first. (mults_due rows first.0 less >>= (λ mults. give (first ∷ mults)))))) e
    ∙ mults_with-more front mult (mults_due rows mult.0 less after)

-- a line that is refused
pub mults_stop : (rows before left less : ℕ) (front : List (ℕ × ℤ)) (lines : Reading) (line : ℕ) → left ≡ suc less → line_due (mult_form rows before) lines ≡ Err line → mults_with front (mults_due rows before left lines) ≡ Err line
mults_stop rows before left less front lines line n e =
    ap (λ k. mults_with front (mults_due rows before k lines)) n
    ∙ ap (λ o. mults_with front (then_read o (λ first. (mults_due rows first.0 less >>= (λ mults. give (first ∷ mults)))))) e

pub mults_end : (rows before left : ℕ) (front : List (ℕ × ℤ)) (lines : Reading) → left ≡ 0 → mults_with front (mults_due rows before left lines) ≡ Ok (front, lines)
mults_end rows before left front lines n =
    ap (λ k. mults_with front (mults_due rows before k lines)) n ∙ ap (λ ms. Ok (ms, lines)) (append-nil front)
