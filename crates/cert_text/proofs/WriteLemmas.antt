-- Words on a line, one after another.
use Rattle.std.proofs.Common.{◌≡◌, ℕ, List, [], ◌∷◌, ◌++◌, ap, ◌∙◌, append_assoc}

-- two words at the end of a line
pub two_at_end : (a b : List ℕ) → (a ++ (32 ∷ b)) ++ (10 ∷ []) ≡ a ++ (32 ∷ (b ++ (10 ∷ [])))
two_at_end a b = append_assoc a (32 ∷ b) (10 ∷ [])

-- three words at the end of a line
pub three_at_end : (a b c : List ℕ) → (a ++ (32 ∷ (b ++ (32 ∷ c)))) ++ (10 ∷ []) ≡ a ++ (32 ∷ (b ++ (32 ∷ (c ++ (10 ∷ [])))))
three_at_end a b c =
    append_assoc a (32 ∷ (b ++ (32 ∷ c))) (10 ∷ []) ∙ ap (λ t. a ++ (32 ∷ t)) (two_at_end b c)
