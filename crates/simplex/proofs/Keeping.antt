-- A tableau in memory through an exchange.
use Rattle.std.proofs.Common.{◌≡◌, ℕ, zero, suc, ◌+◌, ◌≤◌, ◌<◌, ◌⊎◌, inl, inr, List, [], ◌∷◌, length, get_or, set, take, Bool, arith, ap, sym, ◌∙◌, refl, subst, ⊎_elim}
use Rattle.std.specs.Prelude.{ℤ, pos, ◌≢◌, ◌↔◌, ◌-ℤ◌, ◌*ℤ◌, unsigned_abs}
use Rattle.std.proofs.lemmas.Int.{ints}
use Rattle.std.proofs.lemmas.List.{get_or-take, length-take}
use Rattle.term_store.specs.declared.term.Term.{Term}
use Rattle.programs.specs.Programs.{Program, row_count, column_count}
use Rattle.tableau.specs.Programs.{last_column, HasSlacks}
use Rattle.tableau.specs.Signs.{turned}
use Rattle.tableau.specs.Exchanges.{IsGood, IsResult, kept_product, taken_product, reduced}
use Rattle.tableau.specs.Operations.{IsOutOfRange}
use Rattle.tableau.specs.Laws.{MakesRowsZero}
use Rattle.tableau.specs.declared.exchange.Exchange.{Exchange}
use Rattle.tableau.specs.declared.op.Op.TheVariants.{Cell}
use Rattle.tableau.proofs.Points.{zero_where_slacks}
use Rattle.sparse_rows.specs.Lines.{entry_of, IsLine}
use Rattle.simplex.specs.Givens.{given_of}
use Rattle.simplex.specs.States.{State, tableau_of, KeepsLaws}
use Rattle.simplex.specs.inside.Rows.{IsChangedRow, IsRestanding, LeavesEntries, IsWideRow}
use Rattle.simplex.specs.inside.Kept.{IsKept}
use Rattle.simplex.proofs.Reducing.{leaves_same, wide_row_same}
use Rattle.simplex.proofs.Steps.{pivot_nonzero, reduced_some, changed_any, changed_reached}

-- equal first elements
pub take_same : {X : Type 0} (n : ℕ) (d : X) (xs ys : List X) → n ≤ length xs → n ≤ length ys → ((k : ℕ) → k < n → get_or xs k d ≡ get_or ys k d) → take n xs ≡ take n ys
take_same zero d xs ys l m h = refl
take_same (suc n) d [] ys l m h = absurd (omega arith)
take_same (suc n) d (x ∷ xs) [] l m h = absurd (omega arith)
take_same (suc n) d (x ∷ xs) (y ∷ ys) l m h =
    let rest = take_same n d xs ys (omega arith) (omega arith) (λ k p. h (suc k) (omega arith)) in
    let first : x ≡ y = h 0 (omega arith) in
    ap (λ z. z ∷ take n xs) first ∙ ap (λ zs. y ∷ zs) rest

changed_row_same : {A : Type 0} (f : A → ℤ) (i c end k : ℕ) (pivot pivot' other other' to to' : List (Term A)) → pivot ≡ pivot' → other ≡ other' → to ≡ to'
    → IsChangedRow f i c end k pivot other to → IsChangedRow f i c end k pivot' other' to'
changed_row_same f i c end k pivot pivot' other other' to to' e h t p =
    subst (λ x. IsChangedRow f i c end k x other' to') e (subst (λ x. IsChangedRow f i c end k pivot x to') h (subst (λ x. IsChangedRow f i c end k pivot other x) t p))

restanding_same : {A : Type 0} (f : A → ℤ) (columns leaving c : ℕ) (pivot pivot' costs costs' : List (Term A)) (before after : List Bool) → pivot ≡ pivot' → costs ≡ costs'
    → IsRestanding f columns leaving c pivot costs before after → IsRestanding f columns leaving c pivot' costs' before after
restanding_same f columns leaving c pivot pivot' costs costs' before after e h p =
    subst (λ x. IsRestanding f columns leaving c x costs' before after) e (subst (λ x. IsRestanding f columns leaving c pivot x before after) h p)

module _ {A : Type 0} (f : A → ℤ) (program : Program) (low high : List A) (has_high : List Bool) where
  -- the state with these rows, basis and standing
  abbrev pub state : List (List (Term A)) → List ℕ → List Bool → State A
  state rows basis at_high = record { program = program; lines = take (row_count program + 1) rows; low = low; high = high; has_high = has_high; basis = basis; at_high = at_high }

  module _ (rows : List (List (Term A))) (basis : List ℕ) (at_high : List Bool) (count width room : ℕ) (h : IsKept f (state rows basis at_high) rows count width room) where
    front : (ys : List (List (Term A))) (k : ℕ) → k < count → get_or (take (row_count program + 1) ys) k [] ≡ get_or ys k []
    front ys k l = let e = h.marked in get_or-take (row_count program + 1) ys k [] (omega arith)

    within : (k : ℕ) → k < count → k ≤ row_count program
    within k l = let e = h.marked in omega arith

    pub rising_rows : (k : ℕ) → k < count → IsLine f 0 room (get_or rows k [])
    rising_rows k l =
        let P : ℕ → Type 0 = λ n. IsLine f 0 n (get_or rows k []) in
        subst P (sym h.cells) (subst (λ (ts : List (Term A)). IsLine f 0 (length low) ts) (front rows k l) (h.reached.shape.rising k (within k l)))

    pub lines_long : row_count program + 1 ≤ length rows
    lines_long = let a = h.marked in let b = h.spare in omega arith

    module _ (x : Exchange) (good : IsGood (tableau_of f (state rows basis at_high)) x) where
      pub row_in : x.row < count
      row_in = let e = h.marked in let r = good.1.row.1 in omega arith

      pub column_in : x.col < room
      column_in = let e = h.cells in let s = h.reached.shape.low in let r = good.1.eligible.column.1 in omega arith

      pub pivot_some : entry_of f (get_or rows x.row []) x.col ≢ pos 0
      pivot_some = subst (λ (ts : List (Term A)). entry_of f ts x.col ≢ pos 0) (front rows x.row row_in)
          (pivot_nonzero (tableau_of f (state rows basis at_high)) h.reached.laws x.row x.col good.0 good.1)

      pub leaves : (k : ℕ) → k < count → LeavesEntries f x.row x.col room k (get_or rows x.row []) (get_or rows k [])
      leaves k l = leaves_same f x.row x.col room k _ _ _ _ (front rows x.row row_in) (front rows k l)
          (λ changes.
          let s = reduced_some (tableau_of f (state rows basis at_high)) h.reached.laws x.row x.col good.0 good.1 k (within k l) changes.0 in
          let e = h.cells in let n = h.reached.shape.low in let m = s.1 in
          (s.0, omega arith, s.2))

      -- an entry out of range
      pub wide_op : (greatest k column : ℕ) → k < count → IsWideRow f greatest x.row x.col room k (get_or rows x.row []) (get_or rows k []) column
          → IsOutOfRange greatest (tableau_of f (state rows basis at_high)) (Cell x k column)
      wide_op greatest k column l wide =
          let t = tableau_of f (state rows basis at_high) in
          let w = wide_row_same f greatest x.row x.col room k _ _ _ _ column (sym (front rows x.row row_in)) (sym (front rows k l)) wide in
          let e = h.cells in let n = h.reached.shape.low in let m = w.within in
          let place : column ≤ last_column (given_of program) = omega arith in
          out greatest k column (within k l) w.changes.0 w.changes.1 place
          (λ zero_column. ⊎_elim (λ (z : k ≡ 0). z) (λ (some : k ≢ 0).
          let row : (1 ≤ k) × (k ≤ row_count program) = (omega arith, within k l) in
          absurd (no_scale_wide greatest k column zero_column (h.reached.laws.rows.no_scale k row) (h.reached.laws.rows.no_scale x.row good.1.row) w.wide)) (same_or_not k 0))
          w.wide
        where
          same_or_not : (i k : ℕ) → (i ≡ k) ⊎ (i ≢ k)
          same_or_not i k = grind arith

          out : (greatest k column : ℕ) → k ≤ row_count program → k ≢ x.row → (tableau_of f (state rows basis at_high)).entry k x.col ≢ pos 0 → column ≤ last_column (given_of program) → (column ≡ 0 → k ≡ 0)
              → (greatest < unsigned_abs (kept_product (tableau_of f (state rows basis at_high)) x.row x.col k column)) ⊎ ((greatest < unsigned_abs (taken_product (tableau_of f (state rows basis at_high)) x.row x.col k column)) ⊎ (greatest < unsigned_abs (reduced (tableau_of f (state rows basis at_high)) x.row x.col k column)))
              → IsOutOfRange greatest (tableau_of f (state rows basis at_high)) (Cell x k column)
          out greatest k column a b c d e (inl w) = (kept_product (tableau_of f (state rows basis at_high)) x.row x.col k column, (good, record { row = a; other = b; changes = c; column = d; scale = e; value = inl refl }), w)
          out greatest k column a b c d e (inr (inl w)) = (taken_product (tableau_of f (state rows basis at_high)) x.row x.col k column, (good, record { row = a; other = b; changes = c; column = d; scale = e; value = inr (inl refl) }), w)
          out greatest k column a b c d e (inr (inr w)) = (reduced (tableau_of f (state rows basis at_high)) x.row x.col k column, (good, record { row = a; other = b; changes = c; column = d; scale = e; value = inr (inr refl) }), w)

          none : (greatest : ℕ) (p q a b : ℤ) → a ≡ pos 0 → b ≡ pos 0 → (greatest < unsigned_abs (p *ℤ a)) ⊎ ((greatest < unsigned_abs (q *ℤ b)) ⊎ (greatest < unsigned_abs (p *ℤ a -ℤ q *ℤ b))) → ⊥
          none greatest p q a b e g (inl w) = let z : p *ℤ a ≡ pos 0 = ap (λ n. p *ℤ n) e ∙ omega (arith, ints) in let s = ap unsigned_abs z in omega (arith, ints)
          none greatest p q a b e g (inr (inl w)) = let z : q *ℤ b ≡ pos 0 = ap (λ n. q *ℤ n) g ∙ omega (arith, ints) in let s = ap unsigned_abs z in omega (arith, ints)
          none greatest p q a b e g (inr (inr w)) =
              let z : p *ℤ a ≡ pos 0 = ap (λ n. p *ℤ n) e ∙ omega (arith, ints) in
              let u : q *ℤ b ≡ pos 0 = ap (λ n. q *ℤ n) g ∙ omega (arith, ints) in
              let s : unsigned_abs (p *ℤ a -ℤ q *ℤ b) ≡ 0 = omega (arith, ints) in omega arith

          no_scale_wide : (greatest k column : ℕ) → column ≡ 0 → (tableau_of f (state rows basis at_high)).entry k 0 ≡ pos 0 → (tableau_of f (state rows basis at_high)).entry x.row 0 ≡ pos 0
              → (greatest < unsigned_abs (kept_product (tableau_of f (state rows basis at_high)) x.row x.col k column)) ⊎ ((greatest < unsigned_abs (taken_product (tableau_of f (state rows basis at_high)) x.row x.col k column)) ⊎ (greatest < unsigned_abs (reduced (tableau_of f (state rows basis at_high)) x.row x.col k column))) → ⊥
          no_scale_wide greatest k column e a b w =
              none greatest (pos (unsigned_abs ((tableau_of f (state rows basis at_high)).entry x.row x.col))) (turned ((tableau_of f (state rows basis at_high)).entry x.row x.col) ((tableau_of f (state rows basis at_high)).entry k x.col)) ((tableau_of f (state rows basis at_high)).entry k column) ((tableau_of f (state rows basis at_high)).entry x.row column)
              (ap ((tableau_of f (state rows basis at_high)).entry k) e ∙ a) (ap ((tableau_of f (state rows basis at_high)).entry x.row) e ∙ b) w

      module _ (rows' : List (List (Term A))) (basis' : List ℕ) (at_high' : List Bool) (lines_count : length rows' ≡ length rows) (flags : length at_high' ≡ length at_high)
          (entered : basis' ≡ set basis x.row x.col)
          (changes : (k : ℕ) → k < count → IsChangedRow f x.row x.col room k (get_or rows x.row []) (get_or rows k []) (get_or rows' k []))
          (restanding : IsRestanding f (column_count program) (get_or basis x.row 0) x.col (get_or rows x.row []) (get_or rows' 0 []) at_high at_high') where
        long' : row_count program + 1 ≤ length rows'
        long' = let a = lines_long in omega arith

        same_count : length (take (row_count program + 1) rows') ≡ length (take (row_count program + 1) rows)
        same_count =
            let a = length-take (row_count program + 1) rows' in
            let b = length-take (row_count program + 1) rows in
            let c = lines_long in let d = long' in omega arith

        first_count : 0 < count
        first_count = let e = h.marked in omega arith

        row_changes : (k : ℕ) → k < length (take (row_count program + 1) rows) → IsChangedRow f x.row x.col (length low) k (get_or (take (row_count program + 1) rows) x.row []) (get_or (take (row_count program + 1) rows) k []) (get_or (take (row_count program + 1) rows') k [])
        row_changes k l =
            let b = length-take (row_count program + 1) rows in
            let e = h.marked in
            let c = lines_long in
            let k_in : k < count = omega arith in
            subst (λ (n : ℕ). IsChangedRow f x.row x.col n k (get_or (take (row_count program + 1) rows) x.row []) (get_or (take (row_count program + 1) rows) k []) (get_or (take (row_count program + 1) rows') k [])) h.cells
            (changed_row_same f x.row x.col room k _ _ _ _ _ _ (sym (front rows x.row row_in)) (sym (front rows k k_in)) (sym (front rows' k k_in)) (changes k k_in))

        restands : IsRestanding f (column_count program) (get_or basis x.row 0) x.col (get_or (take (row_count program + 1) rows) x.row []) (get_or (take (row_count program + 1) rows') 0 []) at_high at_high'
        restands = restanding_same f (column_count program) (get_or basis x.row 0) x.col _ _ _ _ at_high at_high' (sym (front rows x.row row_in)) (sym (front rows' 0 first_count)) restanding

        pub after_result : IsResult (tableau_of f (state rows basis at_high)) x (tableau_of f (state rows' basis' at_high'))
        after_result = changed_any f (state rows basis at_high) h.reached (take (row_count program + 1) rows') basis' at_high' same_count flags x.row x.col good.0 good.1 entered row_changes restands

        pub after_reached : KeepsLaws f (state rows' basis' at_high')
        after_reached = changed_reached f (state rows basis at_high) h.reached (take (row_count program + 1) rows') basis' at_high' same_count flags x.row x.col good.0 good.1 entered row_changes restands

    -- nothing has changed in the first rows
    pub unchanged : (rows' : List (List (Term A))) → length rows' ≡ length rows → ((k : ℕ) → k < count → get_or rows' k [] ≡ get_or rows k []) → state rows' basis at_high ≡ state rows basis at_high
    unchanged rows' e same =
        let a = lines_long in
        let m = h.marked in
        ap (λ (ls : List (List (Term A))). record { program = program; lines = ls; low = low; high = high; has_high = has_high; basis = basis; at_high = at_high })
        (take_same (row_count program + 1) [] rows' rows (omega arith) lines_long (λ k l. same k (omega arith)))

    pub same_state : (rows' : List (List (Term A))) (basis' : List ℕ) (at_high' : List Bool) → length rows' ≡ length rows → ((k : ℕ) → k < count → get_or rows' k [] ≡ get_or rows k [])
        → basis' ≡ basis → at_high' ≡ at_high → state rows' basis' at_high' ≡ state rows basis at_high
    same_state rows' basis' at_high' e same b s =
        ap (λ (bs : List ℕ). state rows' bs at_high') b ∙ (ap (λ (hs : List Bool). state rows' basis hs) s ∙ unchanged rows' e same)

    -- and it is kept in memory again
    pub kept_again : (rows' : List (List (Term A))) (basis' : List ℕ) (at_high' : List Bool) (count' width' room' : ℕ) → length rows' ≡ length rows → count' ≡ count → width' ≡ width → room' ≡ room
        → KeepsLaws f (state rows' basis' at_high') → IsKept f (state rows' basis' at_high') rows' count' width' room'
    kept_again rows' basis' at_high' count' width' room' e c w r reached =
        let a = h.spare in
        let b = h.marked in
        let d = h.wide in
        let k = h.cells in
        record { reached = reached; spare = omega arith; marked = omega arith; wide = omega arith; cells = omega arith }

-- both ways of a reached tableau's points
pub reached_points : {A : Type 0} (f : A → ℤ) (s : State A) → KeepsLaws f s → (y : ℕ → ℤ) → MakesRowsZero (tableau_of f s) y ↔ HasSlacks (given_of s.program) y
reached_points f s h y = (h.points y, zero_where_slacks (tableau_of f s) y h.laws)
