-- A store that grows by rows, row by row and list by list.
use Rattle.std.proofs.Common.{◌≡◌, ℕ, suc, ◌+◌, ◌*◌, ◌≤◌, List, [], ◌∷◌, ◌++◌, length, arith, ap, sym, ◌∙◌, refl, subst}
use Rattle.std.specs.Prelude.{ℤ}
use Rattle.std.proofs.lemmas.List.{length-append, length-map, append_assoc, append-nil, map-append}
use Rattle.algebra.specs.Lists.{list_to, flat_to}
use Rattle.algebra.proofs.ListsLemmas.{length-list_to, length-flat_to}
use Rattle.road_types.specs.Forms.{Form}
use Rattle.road_types.specs.declared.road.Road.{Road}
use Rattle.road_types.specs.declared.column.Column.{Column}
use Rattle.road_types.specs.RoadPrograms.{term_in, terms_of}
use Rattle.road_types.specs.Columns.{column_number, column_count}
use Rattle.programs.proofs.RisesLemmas.{rises_length}
use Rattle.term_store.specs.HeldRows.{HeldRows}
use Rattle.term_store.specs.declared.term.Term.{Term}
use Rattle.form_rows.specs.FormRows.{form_terms, forms_terms, Grew}
use Rattle.form_rows.proofs.RisingLemmas.{terms_of-append, RisesAll}

pub grew_none : (a : HeldRows (Term ℤ)) → Grew a a []
grew_none a = record { rows = sym (append-nil a.rows); room = refl; width = refl }

pub grew_more : (a b c : HeldRows (Term ℤ)) (xs ys : List (List (Term ℤ))) → Grew a b xs → Grew b c ys → Grew a c (xs ++ ys)
grew_more a b c xs ys p q = record {
  rows = q.rows ∙ ap (λ rows. rows ++ ys) p.rows ∙ append_assoc a.rows xs ys;
  room = q.room ∙ p.room;
  width = q.width ∙ p.width;
}

pub grew_count : (a b : HeldRows (Term ℤ)) (xs : List (List (Term ℤ))) → Grew a b xs → length b.rows ≡ length a.rows + length xs
grew_count a b xs p = ap length p.rows ∙ length-append a.rows xs

pub grew_by : (a b : HeldRows (Term ℤ)) (xs ys : List (List (Term ℤ))) → xs ≡ ys → Grew a b xs → Grew a b ys
grew_by a b xs ys e p = subst (λ rows. Grew a b rows) e p

forms_terms-append : (road : Road) (xs ys : List Form) → forms_terms road (xs ++ ys) ≡ forms_terms road xs ++ forms_terms road ys
forms_terms-append road xs ys = map-append (form_terms road) xs ys

-- the next form of a list by number, and the next of several lists

pub grew_list : (road : Road) (f : ℕ → Form) (n : ℕ) (a b c : HeldRows (Term ℤ)) → Grew a b (forms_terms road (list_to f n))
    → Grew b c (form_terms road (f (n + 1)) ∷ []) → Grew a c (forms_terms road (list_to f (n + 1)))
grew_list road f n a b c p q =
    let e : n + 1 ≡ suc n = omega arith in
    let both = forms_terms-append road (list_to f n) (f (suc n) ∷ []) in
    let last : Grew b c (form_terms road (f (suc n)) ∷ []) = subst (λ k. Grew b c (form_terms road (f k) ∷ [])) e q in
    subst (λ k. Grew a c (forms_terms road (list_to f k))) (sym e)
    (grew_by a c (forms_terms road (list_to f n) ++ form_terms road (f (suc n)) ∷ []) (forms_terms road (list_to f (suc n))) (sym both)
    (grew_more a b c (forms_terms road (list_to f n)) (form_terms road (f (suc n)) ∷ []) p last))

pub grew_flat : (road : Road) (f : ℕ → List Form) (n : ℕ) (a b c : HeldRows (Term ℤ)) → Grew a b (forms_terms road (flat_to f n))
    → Grew b c (forms_terms road (f (n + 1))) → Grew a c (forms_terms road (flat_to f (n + 1)))
grew_flat road f n a b c p q =
    let e : n + 1 ≡ suc n = omega arith in
    let both = forms_terms-append road (flat_to f n) (f (suc n)) in
    let last : Grew b c (forms_terms road (f (suc n))) = subst (λ k. Grew b c (forms_terms road (f k))) e q in
    subst (λ k. Grew a c (forms_terms road (flat_to f k))) (sym e)
    (grew_by a c (forms_terms road (flat_to f n) ++ forms_terms road (f (suc n))) (forms_terms road (flat_to f (suc n))) (sym both)
    (grew_more a b c (forms_terms road (flat_to f n)) (forms_terms road (f (suc n))) p last))

-- two groups of forms
pub grew_groups : (road : Road) (xs ys : List Form) (a b c : HeldRows (Term ℤ)) → Grew a b (forms_terms road xs) → Grew b c (forms_terms road ys) → Grew a c (forms_terms road (xs ++ ys))
grew_groups road xs ys a b c p q =
    grew_by a c (forms_terms road xs ++ forms_terms road ys) (forms_terms road (xs ++ ys)) (sym (forms_terms-append road xs ys)) (grew_more a b c (forms_terms road xs) (forms_terms road ys) p q)

-- ---- terms of entries by number

pub terms_list : (road : Road) (f : ℕ → Column × ℤ) (n : ℕ) → terms_of road (list_to f (n + 1)) ≡ terms_of road (list_to f n) ++ terms_of road (f (n + 1) ∷ [])
terms_list road f n =
    let e : n + 1 ≡ suc n = omega arith in
    ap (λ k. terms_of road (list_to f k)) e
    ∙ terms_of-append road (list_to f n) (f (suc n) ∷ [])
    ∙ sym (ap (λ k. terms_of road (list_to f n) ++ terms_of road (f k ∷ [])) e)

pub terms_flat : (road : Road) (f : ℕ → List (Column × ℤ)) (n : ℕ) → terms_of road (flat_to f (n + 1)) ≡ terms_of road (flat_to f n) ++ terms_of road (f (n + 1))
terms_flat road f n =
    let e : n + 1 ≡ suc n = omega arith in
    ap (λ k. terms_of road (flat_to f k)) e
    ∙ terms_of-append road (flat_to f n) (f (suc n))
    ∙ sym (ap (λ k. terms_of road (flat_to f n) ++ terms_of road (f k)) e)

-- ---- how many rows

pub length-terms : (road : Road) (f : ℕ → Form) (n : ℕ) → length (forms_terms road (list_to f n)) ≡ n
length-terms road f n = length-map (list_to f n) (form_terms road) ∙ length-list_to f n

pub length-pairs : (road : Road) (f : ℕ → List Form) (n : ℕ) → ((k : ℕ) → length (f k) ≡ 2) → length (forms_terms road (flat_to f n)) ≡ 2 * n
length-pairs road f n h = omega (arith, length-map (flat_to f n) (form_terms road), length-flat_to f n 2 (λ k low high. h k))

-- ---- terms, entry by entry

pub terms_step : (road : Road) (f : ℕ → Column × ℤ) (n : ℕ) (start now next : List (Term ℤ)) → now ≡ start ++ terms_of road (list_to f n)
    → next ≡ now ++ term_in (column_number road (f (n + 1)).0) (f (n + 1)).1 → next ≡ start ++ terms_of road (list_to f (n + 1))
terms_step road f n start now next p q =
    let last = term_in (column_number road (f (n + 1)).0) (f (n + 1)).1 in
    q
    ∙ ap (λ ts. ts ++ last) p
    ∙ append_assoc start (terms_of road (list_to f n)) last
    ∙ ap (λ ts. start ++ ts)
    (ap (λ ts. terms_of road (list_to f n) ++ ts) (sym (append-nil last)) ∙ sym (terms_list road f n))

pub terms_steps : (road : Road) (f : ℕ → List (Column × ℤ)) (n : ℕ) (start now next : List (Term ℤ)) → now ≡ start ++ terms_of road (flat_to f n)
    → next ≡ now ++ terms_of road (f (n + 1)) → next ≡ start ++ terms_of road (flat_to f (n + 1))
terms_steps road f n start now next p q =
    q
    ∙ ap (λ ts. ts ++ terms_of road (f (n + 1))) p
    ∙ append_assoc start (terms_of road (flat_to f n)) (terms_of road (f (n + 1)))
    ∙ ap (λ ts. start ++ ts) (sym (terms_flat road f n))

-- a row of rising terms is no longer than there are columns
pub rising_fits : (road : Road) (entries : List (Column × ℤ)) (terms : List (Term ℤ)) (width : ℕ) → terms ≡ terms_of road entries → RisesAll road entries → column_count road ≤ width
    → length terms ≤ width
rising_fits road entries terms width e r h = omega (arith, ap length e, rises_length 0 (column_count road) (terms_of road entries) r, h)

pub group_count : (road : Road) (forms : List Form) (a b : HeldRows (Term ℤ)) → Grew a b (forms_terms road forms) → length b.rows ≡ length a.rows + length forms
group_count road forms a b p = omega (arith, grew_count a b (forms_terms road forms) p, length-map forms (form_terms road))
