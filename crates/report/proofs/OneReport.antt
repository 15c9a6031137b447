-- Lines have one text.
use Rattle.std.proofs.Common.{◌≡◌, ◌⊎◌, inl, inr, Bool, true, false, ℕ, ℤ, pos, ◌*ℤ◌, List, [], ◌∷◌, ◌++◌, Decides, codes, refl, sym, ap, ap₂, ◌∙◌}
use Rattle.std.specs.Ordering.{int_eq}
use Rattle.std.proofs.lemmas.Bool.{false≢true}
use Rattle.std.proofs.lemmas.Bool.Decides.{Decides-int_eq}
use Rattle.csv.specs.Writing.{default_writer, row_text}
use Rattle.numbers.specs.Fractions.{Fraction, HasValue, fraction_text}
use Rattle.numbers.proofs.FractionsLemmas.{same_value_fraction}
use Rattle.report.specs.Lines.{Cell, text, ratio, gap, Line, alone, row, ShowsGap, IsWrittenAs, AreWrittenAs, IsLine, AreLines, Adds}

has_value : (num den : ℤ) (f : Fraction) → HasValue f num den ⊎ (¬ HasValue f num den)
has_value num den f = by_tests (int_eq den (pos 0)) (int_eq (f.num *ℤ den) (num *ℤ f.den)) (Decides-int_eq den (pos 0)) (Decides-int_eq (f.num *ℤ den) (num *ℤ f.den))
  where
    by_tests : (a b : Bool) → Decides a (den ≡ pos 0) → Decides b (f.num *ℤ den ≡ num *ℤ f.den) → HasValue f num den ⊎ (¬ HasValue f num den)
    by_tests true b p q = inr (λ h. h.defined (p.0 refl))
    by_tests false true p q = inl (record { defined = λ e. false≢true (p.1 e); same = q.0 refl })
    by_tests false false p q = inr (λ h. false≢true (q.1 h.same))

one_gap : (num den : ℤ) (bound : Fraction) (a b : List ℕ) → HasValue bound num den ⊎ (¬ HasValue bound num den) → ShowsGap num den bound a → ShowsGap num den bound b → a ≡ b
one_gap num den bound a b (inl v) h k = h.closed v ∙ sym (k.closed v)
one_gap num den bound a b (inr n) h k = h.still_open n ∙ sym (k.still_open n)

one_cell : (cell : Cell) (a b : List ℕ) → IsWrittenAs cell a → IsWrittenAs cell b → a ≡ b
one_cell (text t) a b h k = h ∙ sym k
one_cell (ratio label num den) a b h k =
    h.text_is ∙ ap (λ f. label ++ fraction_text f) (same_value_fraction h.value k.value num den h.lowest k.lowest h.same k.same) ∙ sym k.text_is
one_cell (gap num den bound) a b h k = one_gap num den bound a b (has_value num den bound) h k

one_row : (cells : List Cell) (a b : List (List ℕ)) → AreWrittenAs cells a → AreWrittenAs cells b → a ≡ b
one_row [] [] [] h k = refl
one_row [] [] (t ∷ b) h k = absurd k
one_row [] (s ∷ a) b h k = absurd h
one_row (cell ∷ cells) [] b h k = absurd h
one_row (cell ∷ cells) (s ∷ a) [] h k = absurd k
one_row (cell ∷ cells) (s ∷ a) (t ∷ b) h k = ap₂ (λ x xs. x ∷ xs) (one_cell cell s t h.0 k.0) (one_row cells a b h.1 k.1)

one_line : (line : Line) (a b : List ℕ) → IsLine line a → IsLine line b → a ≡ b
one_line (alone cell) a b h k = h.ends ∙ ap (λ s. s ++ codes "\n") (one_cell cell h.shown k.shown h.is_shown k.is_shown) ∙ sym k.ends
one_line (row cells) a b h k = h.is_record ∙ ap (row_text default_writer) (one_row cells h.shown k.shown h.are_shown k.are_shown) ∙ sym k.is_record

pub one_text : (lines : List Line) (a b : List ℕ) → AreLines lines a → AreLines lines b → a ≡ b
one_text [] a b h k = h ∙ sym k
one_text (line ∷ lines) a b h k = h.4 ∙ ap₂ (λ x y. x ++ y) (one_line line h.0 k.0 h.2 k.2) (one_text lines h.1 k.1 h.3 k.3) ∙ sym k.4

-- what was added is one
pub one_added : (lines : List Line) (before a b : List ℕ) → Adds lines before a → Adds lines before b → a ≡ b
one_added lines before a b h k = h.behind ∙ ap (λ t. before ++ t) (one_text lines h.added k.added h.are_lines k.are_lines) ∙ sym k.behind
