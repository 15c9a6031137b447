-- The command of a list of words, by its first word and the names behind it.
use Rattle.std.specs.Prelude.{ℕ, ◌≢◌, ◌-◌, Some, None, List, [], ◌∷◌, length, map, take, drop}
use Rattle.std.proofs.Common.{◌≡◌, get_or, refl, ap, arith}
use Rattle.std.proofs.lemmas.List.{take_all}
use Rattle.text_parts.specs.Decimal.{whole_of}
use Rattle.roadopt_program.specs.CommandWords.{Verb, Carry, two_files, a_number, to_new, forms, form_in, over_files, trial_of, command_by, command_of}

pub two_of : {A : Type 0} (f : A → List ℕ) (verb : Verb) (names : List A) (x y : A) (road other : List ℕ) → length names ≡ 2
    → x ≡ get_or names 0 x → y ≡ get_or names 1 y → road ≡ f x → other ≡ f y
    → over_files verb road other ≡ command_by (Some (two_files verb)) (map f names)
unfolding command_by
two_of f verb [] x y road other l p q r s = absurd (omega arith)
two_of f verb (a ∷ []) x y road other l p q r s = absurd (omega arith)
two_of f verb (a ∷ b ∷ []) x y road other l p q r s = rw (r, s, p, q) refl
two_of f verb (a ∷ b ∷ c ∷ rest) x y road other l p q r s = absurd (omega arith)

pub not_two : {A : Type 0} (f : A → List ℕ) (verb : Verb) (names : List A) → length names ≢ 2 → None ≡ command_by (Some (two_files verb)) (map f names)
unfolding command_by
not_two f verb [] n = refl
not_two f verb (a ∷ []) n = refl
not_two f verb (a ∷ b ∷ []) n = absurd (n refl)
not_two f verb (a ∷ b ∷ c ∷ rest) n = refl

pub three_of : {A : Type 0} (f : A → List ℕ) (names : List A) (x y z : A) (road cert new : List ℕ) → length names ≡ 3
    → x ≡ get_or names 0 x → y ≡ get_or names 1 y → z ≡ get_or names 2 z → road ≡ f x → cert ≡ f y → new ≡ f z
    → over_files (Carry new) road cert ≡ command_by (Some to_new) (map f names)
unfolding command_by
three_of f [] x y z road cert new l p q r a b c = absurd (omega arith)
three_of f (u ∷ []) x y z road cert new l p q r a b c = absurd (omega arith)
three_of f (u ∷ v ∷ []) x y z road cert new l p q r a b c = absurd (omega arith)
three_of f (u ∷ v ∷ w ∷ []) x y z road cert new l p q r a b c = rw (a, b, c, p, q, r) refl
three_of f (u ∷ v ∷ w ∷ t ∷ rest) x y z road cert new l p q r a b c = absurd (omega arith)

pub not_three : {A : Type 0} (f : A → List ℕ) (names : List A) → length names ≢ 3 → None ≡ command_by (Some to_new) (map f names)
unfolding command_by
not_three f [] n = refl
not_three f (a ∷ []) n = refl
not_three f (a ∷ b ∷ []) n = refl
not_three f (a ∷ b ∷ c ∷ []) n = absurd (n refl)
not_three f (a ∷ b ∷ c ∷ d ∷ rest) n = refl

pub one_of : {A : Type 0} (f : A → List ℕ) (names : List A) (x : A) (number : List ℕ) → length names ≡ 1 → x ≡ get_or names 0 x → number ≡ f x
    → trial_of (whole_of number) ≡ command_by (Some a_number) (map f names)
unfolding command_by
one_of f [] x number l p r = absurd (omega arith)
one_of f (a ∷ []) x number l p r = rw (r, p) refl
one_of f (a ∷ b ∷ rest) x number l p r = absurd (omega arith)

pub not_one : {A : Type 0} (f : A → List ℕ) (names : List A) → length names ≢ 1 → None ≡ command_by (Some a_number) (map f names)
unfolding command_by
not_one f [] n = refl
not_one f (a ∷ []) n = absurd (n refl)
not_one f (a ∷ b ∷ rest) n = refl

pub by_no_form : (names : List (List ℕ)) → None ≡ command_by None names
unfolding command_by
by_no_form names = refl

pub no_words : {A : Type 0} (f : A → List ℕ) (words : List A) → length words ≡ 0 → None ≡ command_of (map f words)
unfolding command_of
no_words f [] l = refl
no_words f (a ∷ rest) l = absurd (omega arith)

pub behind_the_word : {A : Type 0} (f : A → List ℕ) (words : List A) (x : A) (word : List ℕ) → length words ≢ 0 → x ≡ get_or words 0 x → word ≡ f x
    → command_by (form_in forms word) (map f (take (length words - 1) (drop 1 words))) ≡ command_of (map f words)
unfolding command_of
behind_the_word f [] x word n p r = absurd (n refl)
behind_the_word f (a ∷ rest) x word n p r =
    rw (r, p) (ap (λ names. command_by (form_in forms (f a)) (map f names)) (take_all (length (a ∷ rest) - 1) rest (omega arith)))
