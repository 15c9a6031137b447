-- What the multipliers have drawn at each column, term by term and row by row.
use Rattle.std.proofs.Common.{◌≡◌, ℕ, zero, suc, ◌+◌, ◌-◌, ◌<◌, ◌≤◌, List, [], ◌∷◌, ◌++◌, length, get_or, set, drop, arith, ap, sym, ◌∙◌, refl, ⊎_elim, subst}
use Rattle.std.specs.Prelude.{ℤ, pos, ◌+ℤ◌, ◌*ℤ◌, unsigned_abs}
use Rattle.std.proofs.lemmas.Int.{ints}
use Rattle.std.proofs.lemmas.Bool.{cases_eq}
use Rattle.std.proofs.lemmas.List.{length-set, get_or-set_same, get_or-set_other, drop_more}
use Rattle.std.proofs.lemmas.List.Elements.{All-set, All-weaker}
use Rattle.term_store.specs.declared.term.Term.{Term}
use Rattle.algebra.specs.Numbered.{numbered, IsNumber}
use Rattle.algebra.proofs.NumberedLemmas.{numbered_at}
use Rattle.algebra.proofs.Products.{int_mul_add, int_mul_zero}
use Rattle.programs.specs.Programs.{ProgramRow, coefficient, empty_row}
use Rattle.programs.proofs.EntriesLemmas.{entry_here, entry_elsewhere}
use Rattle.safe_bounds.specs.Values.{combined, rights_value}
use Rattle.safe_bounds.specs.inside.Drawn.{AreAtMost, HaveDrawn}

-- ---- terms

pub coefficient-append : (j : ℕ) (ts us : List (Term ℤ)) → coefficient j (ts ++ us) ≡ coefficient j ts +ℤ coefficient j us
coefficient-append j [] us = omega (arith, ints)
coefficient-append j (t ∷ ts) us = let rest = coefficient-append j ts us in omega (arith, ints)

-- nothing drawn yet
pub none_drawn : (xs : List ℤ) (y : ℤ) → HaveDrawn xs y [] xs
none_drawn xs y = record { columns = refl; each = λ j n. omega (arith, ints) }

-- a multiplier of 0 draws nothing
pub zero_product : (y x : ℤ) → y ≡ pos 0 → pos 0 ≡ y *ℤ x
zero_product y x e = rw e (omega (arith, ints))

pub nothing_drawn : (xs : List ℤ) (y : ℤ) (ts : List (Term ℤ)) → y ≡ pos 0 → HaveDrawn xs y ts xs
nothing_drawn xs y ts e = record {
  columns = refl;
  each = λ j n. let none = zero_product y (coefficient j ts) e in omega (arith, ints);
}

-- what is drawn by some terms, and then by others
pub more_drawn : (xs ys zs : List ℤ) (y : ℤ) (ts us : List (Term ℤ)) → HaveDrawn xs y ts ys → HaveDrawn ys y us zs → HaveDrawn xs y (ts ++ us) zs
more_drawn xs ys zs y ts us p q = record {
  columns = q.columns ∙ p.columns;
  each = λ j n.
      let n' : IsNumber j (length ys) = record { from_one = n.from_one; at_most = omega (arith, p.columns, n.at_most) } in
      let first = p.each j n in
      let then_ = q.each j n' in
      let parts = ap (λ c. y *ℤ c) (coefficient-append j ts us) ∙ int_mul_add y (coefficient j ts) (coefficient j us) in
      omega (arith, ints);
}

int_add_zero : (a : ℤ) → a +ℤ pos 0 ≡ a
int_add_zero a = omega (arith, ints)

-- the number that was set, and each other one
pub set_here : (xs : List ℤ) (j : ℕ) (v : ℤ) → IsNumber j (length xs) → numbered (pos 0) (set xs (j - 1) v) j ≡ v
set_here xs zero v n = absurd (omega arith)
set_here xs (suc k) v n = let e : suc k - 1 ≡ k = omega arith in rw e (get_or-set_same xs k v (pos 0) (omega arith))

pub set_elsewhere : (xs : List ℤ) (j i : ℕ) (v : ℤ) → 1 ≤ i → (j ≡ i → ⊥) → numbered (pos 0) (set xs (i - 1) v) j ≡ numbered (pos 0) xs j
set_elsewhere xs zero i v low d = refl
set_elsewhere xs (suc k) i v low d = get_or-set_other xs (i - 1) k v (pos 0) (λ e. d (omega arith))

one_drawn_here : (xs : List ℤ) (t : Term ℤ) (y v : ℤ) → IsNumber t.column (length xs) → v ≡ get_or xs (t.column - 1) (pos 0) +ℤ y *ℤ t.value → numbered (pos 0) (set xs (t.column - 1) v) t.column ≡ numbered (pos 0) xs t.column +ℤ y *ℤ coefficient t.column (t ∷ [])
one_drawn_here xs t y v n e =
    let here = set_here xs t.column v n in
    let old = numbered_at (pos 0) xs t.column n.from_one in
    let whole = ap (λ x. y *ℤ (x +ℤ pos 0)) (entry_here t) in
    let plain = ap (λ x. y *ℤ x) (int_add_zero t.value) in
    omega (arith, ints)

-- one term drawn
pub one_drawn : (xs : List ℤ) (t : Term ℤ) (y v : ℤ) → IsNumber t.column (length xs) → v ≡ get_or xs (t.column - 1) (pos 0) +ℤ y *ℤ t.value → HaveDrawn xs y (t ∷ []) (set xs (t.column - 1) v)
one_drawn xs t y v n e = record {
  columns = length-set xs (t.column - 1) v;
  each = λ j m.
      ⊎_elim
      (λ (s : j ≡ t.column).
      let P : ℕ → Type 0 = λ i. numbered (pos 0) (set xs (t.column - 1) v) i ≡ numbered (pos 0) xs i +ℤ y *ℤ coefficient i (t ∷ []) in
      subst P (sym s) (one_drawn_here xs t y v n e))
      (λ (d : j ≡ t.column → ⊥).
      let zero_entry = ap (λ x. y *ℤ x) (ap (λ x. x +ℤ pos 0) (entry_elsewhere j t d)) in
      let none = int_mul_zero y in
      let same = set_elsewhere xs j t.column v n.from_one d in
      omega (arith, ints))
      (cases_eq j t.column);
}

-- how great what is drawn can be, one term on
pub one_drawn_width : (k m p : ℕ) (xs : List ℤ) (v : ℤ) → unsigned_abs v ≤ k + m → AreAtMost k xs → AreAtMost (k + m) (set xs p v)
one_drawn_width k m p xs v b h =
    let before = All-weaker (λ x. unsigned_abs x ≤ k) (λ x. unsigned_abs x ≤ k + m) (λ x q. omega arith) xs h in
    All-set (λ x. unsigned_abs x ≤ k + m) xs p v b before

pub wider : (k m : ℕ) (xs : List ℤ) → k ≤ m → AreAtMost k xs → AreAtMost m xs
wider k m xs p h = All-weaker (λ x. unsigned_abs x ≤ k) (λ x. unsigned_abs x ≤ m) (λ x q. omega arith) xs h

-- ---- rows

row_here : (rows : List ProgramRow) (k : ℕ) → numbered empty_row rows (k + 1) ≡ get_or rows k empty_row
row_here rows k = let e : k + 1 ≡ suc k = omega arith in ap (numbered empty_row rows) e

pub drawn_here : (drawn : List ℤ) (k : ℕ) → numbered (pos 0) drawn (k + 1) ≡ get_or drawn k (pos 0)
drawn_here drawn k = let e : k + 1 ≡ suc k = omega arith in ap (numbered (pos 0) drawn) e

-- the right sides, one row on
pub next_rights : (rows : List ProgramRow) (ys : List ℤ) (k : ℕ) (value more sum : ℤ) → k < length rows → k < length ys → value +ℤ rights_value (drop k rows) (drop k ys) ≡ rights_value rows ys → more ≡ get_or ys k (pos 0) *ℤ (numbered empty_row rows (k + 1)).right → sum ≡ value +ℤ more → sum +ℤ rights_value (drop (k + 1) rows) (drop (k + 1) ys) ≡ rights_value rows ys
next_rights rows ys k value more sum l m so_far here e =
    let split = ap (λ r. rights_value r (drop k ys)) (drop_more rows k empty_row l) ∙ ap (λ s. rights_value (get_or rows k empty_row ∷ drop (k + 1) rows) s) (drop_more ys k (pos 0) m) in
    let row = ap (λ r. get_or ys k (pos 0) *ℤ r.right) (row_here rows k) in
    omega (arith, ints)

-- what is drawn at column j, one row on
pub next_combined : (rows : List ProgramRow) (ys : List ℤ) (k j : ℕ) (old new : ℤ) → k < length rows → k < length ys → old +ℤ combined j (drop k rows) (drop k ys) ≡ combined j rows ys → new ≡ old +ℤ get_or ys k (pos 0) *ℤ coefficient j (numbered empty_row rows (k + 1)).terms → new +ℤ combined j (drop (k + 1) rows) (drop (k + 1) ys) ≡ combined j rows ys
next_combined rows ys k j old new l m so_far here =
    let split = ap (λ r. combined j r (drop k ys)) (drop_more rows k empty_row l) ∙ ap (λ s. combined j (get_or rows k empty_row ∷ drop (k + 1) rows) s) (drop_more ys k (pos 0) m) in
    let row = ap (λ r. get_or ys k (pos 0) *ℤ coefficient j r.terms) (row_here rows k) in
    omega (arith, ints)
