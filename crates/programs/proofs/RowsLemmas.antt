-- The rows of a program whose terms, sides and right sides are listed apart.
use Rattle.std.proofs.Common.{◌≡◌, ℕ, zero, suc, ◌-◌, ◌<◌, ◌≤◌, List, [], ◌∷◌, ◌++◌, length, get_or, map, arith, ap, sym, ◌∙◌, refl}
use Rattle.std.specs.Prelude.{ℤ}
use Rattle.std.proofs.lemmas.List.{get_or_default}
use Rattle.term_store.specs.declared.term.Term.{Term}
use Rattle.term_store.specs.declared.side.Side.{Side}
use Rattle.algebra.specs.Numbered.{numbered}
use Rattle.programs.specs.Programs.{ProgramRow, empty_row, rows_of}

-- there are as many rows as lists of terms, where there are as many sides and right sides
pub length-rows_of : (rows : List (List (Term ℤ))) (sides : List Side) (rights : List ℤ) → length sides ≡ length rows → length rights ≡ length rows → length (rows_of rows sides rights) ≡ length rows
length-rows_of [] sides rights p q = refl
length-rows_of (t ∷ ts) [] rights p q = absurd (omega arith)
length-rows_of (t ∷ ts) (s ∷ ss) [] p q = absurd (omega arith)
length-rows_of (t ∷ ts) (s ∷ ss) (r ∷ rs) p q = ap suc (length-rows_of ts ss rs (omega arith) (omega arith))

-- the row at a position has the terms, the side and the right side of that position
pub get_or-rows_of : (rows : List (List (Term ℤ))) (sides : List Side) (rights : List ℤ) (k : ℕ) (other : ProgramRow) (terms : List (Term ℤ)) (side : Side) (right : ℤ) → length sides ≡ length rows → length rights ≡ length rows → k < length rows → terms ≡ get_or rows k terms → side ≡ get_or sides k side → right ≡ get_or rights k right → record { terms = terms; side = side; right = right } ≡ get_or (rows_of rows sides rights) k other
get_or-rows_of [] sides rights k other terms side right p q l a b c = absurd (omega arith)
get_or-rows_of (t ∷ ts) [] rights k other terms side right p q l a b c = absurd (omega arith)
get_or-rows_of (t ∷ ts) (s ∷ ss) [] k other terms side right p q l a b c = absurd (omega arith)
get_or-rows_of (t ∷ ts) (s ∷ ss) (r ∷ rs) zero other terms side right p q l a b c = cc
get_or-rows_of (t ∷ ts) (s ∷ ss) (r ∷ rs) (suc k) other terms side right p q l a b c =
    get_or-rows_of ts ss rs k other terms side right (omega arith) (omega arith) (omega arith) a b c

-- row i, by number
pub row_of_parts : (rows : List (List (Term ℤ))) (sides : List Side) (rights : List ℤ) (i : ℕ) (terms : List (Term ℤ)) (side : Side) (right : ℤ) → length sides ≡ length rows → length rights ≡ length rows → 1 ≤ i → i - 1 < length rows → terms ≡ get_or rows (i - 1) [] → side ≡ get_or sides (i - 1) side → right ≡ get_or rights (i - 1) right → record { terms = terms; side = side; right = right } ≡ numbered empty_row (rows_of rows sides rights) i
row_of_parts rows sides rights zero terms side right p q low l a b c = absurd (omega arith)
row_of_parts rows sides rights (suc k) terms side right p q low l a b c =
    let e : suc k - 1 ≡ k = omega arith in
    get_or-rows_of rows sides rights k empty_row terms side right p q (omega arith)
    (rw (sym e) (a ∙ get_or_default rows (suc k - 1) [] terms l))
    (rw (sym e) b)
    (rw (sym e) c)

-- rows that follow others follow them in each list
pub rows_of-append : (rows more : List (List (Term ℤ))) (sides after : List Side) (rights behind : List ℤ) → length sides ≡ length rows → length rights ≡ length rows → rows_of (rows ++ more) (sides ++ after) (rights ++ behind) ≡ rows_of rows sides rights ++ rows_of more after behind
rows_of-append [] more [] after [] behind p q = refl
rows_of-append [] more (s ∷ ss) after rights behind p q = absurd (omega arith)
rows_of-append [] more [] after (r ∷ rs) behind p q = absurd (omega arith)
rows_of-append (t ∷ ts) more [] after rights behind p q = absurd (omega arith)
rows_of-append (t ∷ ts) more (s ∷ ss) after [] behind p q = absurd (omega arith)
rows_of-append (t ∷ ts) more (s ∷ ss) after (r ∷ rs) behind p q =
    ap (λ rest. record { terms = t; side = s; right = r } ∷ rest) (rows_of-append ts more ss after rs behind (omega arith) (omega arith))

-- the rows whose parts are made from one list
pub rows_of-map : {A : Type 0} (terms : A → List (Term ℤ)) (side : A → Side) (right : A → ℤ) (xs : List A) → rows_of (map terms xs) (map side xs) (map right xs) ≡ map (λ x. record { terms = terms x; side = side x; right = right x }) xs
rows_of-map terms side right [] = refl
rows_of-map terms side right (x ∷ xs) =
    ap (λ rest. record { terms = terms x; side = side x; right = right x } ∷ rest) (rows_of-map terms side right xs)
