-- Reading the numbers of a line word by word.
use Rattle.std.proofs.Common.{◌≡◌, ℕ, ℤ, List, [], ◌∷◌, ◌++◌, Option, Some, None, refl, sym, ap, ◌∙◌, append_assoc}
use Rattle.std.specs.Option.{option_map, option_and_then}
use Rattle.plan_text.specs.LineForms.{LineForm, word_number, numbers_of}

-- the numbers read so far, before those of the words that are left
abbrev pub numbers_with : LineForm → List ℤ → List (List ℕ) → Option (List ℤ)
numbers_with form front words = option_map (λ ns. front ++ ns) (numbers_of form words)

push_front : (front : List ℤ) (n : ℤ) (o : Option (List ℤ)) → option_map (λ ns. front ++ ns) (option_map (λ ns. n ∷ ns) o) ≡ option_map (λ ns. (front ++ (n ∷ [])) ++ ns) o
push_front front n None = refl
push_front front n (Some ns) = ap (λ ns. Some ns) (sym (append_assoc front (n ∷ []) ns))

-- one more word is one more number
pub numbers_with-step : (form : LineForm) (front : List ℤ) (word : List ℕ) (words : List (List ℕ)) (n : ℤ) → Some n ≡ word_number form word → numbers_with form front (word ∷ words) ≡ numbers_with form (front ++ (n ∷ [])) words
numbers_with-step form front word words n e =
    ap (λ o. option_map (λ ns. front ++ ns) (option_and_then (λ n. option_map (λ ns. n ∷ ns) (numbers_of form words)) o)) (sym e)
    ∙ push_front front n (numbers_of form words)

-- a word that is no number of the form ends the line's reading
pub numbers_with-stops : (form : LineForm) (front : List ℤ) (word : List ℕ) (words : List (List ℕ)) → None ≡ word_number form word → numbers_with form front (word ∷ words) ≡ None
numbers_with-stops form front word words e =
    ap (λ o. option_map (λ ns. front ++ ns) (option_and_then (λ n. option_map (λ ns. n ∷ ns) (numbers_of form words)) o)) (sym e)

numbers_with-start : (o : Option (List ℤ)) → option_map (λ ns. [] ++ ns) o ≡ o
numbers_with-start None = refl
numbers_with-start (Some ns) = refl

pub numbers_with-none : (form : LineForm) (words : List (List ℕ)) → numbers_of form words ≡ numbers_with form [] words
numbers_with-none form words = sym (numbers_with-start (numbers_of form words))
