-- Lists copied one by one.
use Rattle.std.proofs.Common.{◌≡◌, ℕ, ◌+◌, ◌<◌, List, [], ◌∷◌, ◌++◌, length, get_or, take, sym, ap, ◌∙◌}
use Rattle.std.specs.Prelude.{ℤ}
use Rattle.std.proofs.lemmas.List.{take_more}

pub row_copied : (rows copy : List (List ℤ)) (k : ℕ) (row : List ℤ) → k < length rows → copy ≡ take k rows → row ≡ get_or rows k row → copy ++ (row ∷ []) ≡ take (k + 1) rows
row_copied rows copy k row l e f = ap (λ xs. xs ++ (row ∷ [])) e ∙ ap (λ r. take k rows ++ (r ∷ [])) f ∙ sym (take_more rows k row l)
