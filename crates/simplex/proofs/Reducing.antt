-- A row reduced by factors without a common divisor, and then divided, is the reduced row divided.
use Rattle.std.proofs.Common.{◌≡◌, ℕ, ◌+◌, ◌≤◌, ◌<◌, ◌⊎◌, inl, inr, List, [], length, get_or, arith, ap, sym, ◌∙◌, subst, ⊎_elim, Bool, true, false, get_or-set_other}
use Rattle.std.specs.Prelude.{ℤ, pos, ◌≢◌, ◌-ℤ◌, ◌*ℤ◌, ◌<ℤ◌, unsigned_abs}
use Rattle.std.proofs.lemmas.Int.{ints, unsigned_abs-mul}
use Rattle.std.proofs.Math.Nat.{mul-le-mul_right}
use Rattle.std.proofs.Math.ListN.{length-set}
use Rattle.algebra.proofs.Products.{mults, int_mul_assoc}
use Rattle.algebra.proofs.Order.{int_mul_pos}
use Rattle.numbers.specs.Divisors.{Divides}
use Rattle.term_store.specs.declared.term.Term.{Term}
use Rattle.tableau.specs.Signs.{turned}
use Rattle.tableau.specs.Exchanges.{IsDivided}
use Rattle.sparse_rows.specs.Lines.{entry_of, IsLine}
use Rattle.sparse_rows.specs.Cells.{cell, IsWideCell, IsCommonDivisor, AreFactors}
use Rattle.sparse_rows.proofs.LinesLemmas.{entry_past}
use Rattle.simplex.specs.inside.Rows.{kept_by, taken_by, reduced_by, IsWideBy, AreSameBut, IsPrepared, IsWideRow, LeavesEntries}

zero_or_not : (z : ℤ) → (z ≡ pos 0) ⊎ (z ≢ pos 0)
zero_or_not z = grind (arith, ints)

lt_or_le : (a b : ℕ) → (a < b) ⊎ (b ≤ a)
lt_or_le a b = grind arith

shared : (d k m a b : ℤ) → d *ℤ k *ℤ a -ℤ d *ℤ m *ℤ b ≡ d *ℤ (k *ℤ a -ℤ m *ℤ b)
shared d k m a b = simp mults (omega (arith, ints))

module _ (p q keep take : ℤ) (pivot other : ℕ → ℤ) (h : AreFactors p q keep take) where
  -- the reduced row is the divisor of the factors times the cells
  pub reduced_cells : (j : ℕ) → reduced_by p q pivot other j ≡ h.divisor *ℤ cell keep (other j) take (pivot j)
  reduced_cells j =
      ap (λ x. x *ℤ other j -ℤ turned p q *ℤ pivot j) h.kept
      ∙ (ap (λ x. h.divisor *ℤ keep *ℤ other j -ℤ x *ℤ pivot j) h.taken
      ∙ shared h.divisor keep take (other j) (pivot j))

  larger : (d x : ℤ) → pos 0 <ℤ d → unsigned_abs x ≤ unsigned_abs (d *ℤ x)
  larger d x some =
      let m = unsigned_abs-mul d x in
      let one : 1 ≤ unsigned_abs d = omega (arith, ints) in
      omega (arith, mul-le-mul_right (unsigned_abs x) one)

  kept_cells : (j : ℕ) → kept_by p other j ≡ h.divisor *ℤ (keep *ℤ other j)
  kept_cells j = ap (λ x. x *ℤ other j) h.kept ∙ int_mul_assoc h.divisor keep (other j)

  taken_cells : (j : ℕ) → taken_by p q pivot j ≡ h.divisor *ℤ (take *ℤ pivot j)
  taken_cells j = ap (λ x. x *ℤ pivot j) h.taken ∙ int_mul_assoc h.divisor take (pivot j)

  -- a cell out of the wider range is out of the narrower one
  pub wide_cell : (narrow wide j : ℕ) → narrow ≤ wide → IsWideCell wide keep (other j) take (pivot j) → IsWideBy narrow p q pivot other j
  wide_cell narrow wide j l (inl x) = inl (let e = ap unsigned_abs (kept_cells j) in let m = larger h.divisor (keep *ℤ other j) h.positive in omega arith)
  wide_cell narrow wide j l (inr (inl x)) = inr (inl (let e = ap unsigned_abs (taken_cells j) in let m = larger h.divisor (take *ℤ pivot j) h.positive in omega arith))
  wide_cell narrow wide j l (inr (inr x)) = inr (inr (let e = ap unsigned_abs (reduced_cells j) in let m = larger h.divisor (cell keep (other j) take (pivot j)) h.positive in omega arith))

  -- so is a quotient of it
  pub wide_quotient : (narrow j : ℕ) (z : ℤ) → z ≡ cell keep (other j) take (pivot j) → narrow < unsigned_abs z → IsWideBy narrow p q pivot other j
  wide_quotient narrow j z e l = inr (inr (let f = ap unsigned_abs e in let k = ap unsigned_abs (reduced_cells j) in let m = larger h.divisor (cell keep (other j) take (pivot j)) h.positive in omega arith))

  module _ (end : ℕ) (cells : ℕ → ℤ) (filled : (j : ℕ) → j < end → cells j ≡ cell keep (other j) take (pivot j)) (g : ℤ) (common : IsCommonDivisor cells end g) where
    -- the divisor is above 0 where the reduced row isn't empty
    pub divisor_positive : (j : ℕ) → j < end → reduced_by p q pivot other j ≢ pos 0 → pos 0 <ℤ g
    divisor_positive j within some =
        let n = common.not_negative in
        ⊎_elim
        (λ (e : g ≡ pos 0).
        let k = common.divides j within in
        let z : cells j ≡ pos 0 = k.1 ∙ (ap (λ x. x *ℤ k.0) e ∙ omega (arith, ints)) in
        absurd (some (reduced_cells j ∙ (ap (λ x. h.divisor *ℤ x) (sym (filled j within) ∙ z) ∙ omega (arith, ints)))))
        (λ (differ : g ≢ pos 0). omega (arith, ints))
        (zero_or_not g)

    pub reduced_divided : (last : ℕ) (to : ℕ → ℤ) → last + 1 ≡ end → pos 0 <ℤ g → ((j : ℕ) → cells j ≡ g *ℤ to j) → IsDivided last (reduced_by p q pivot other) to
    reduced_divided last to e positive each = record {
      divisor = h.divisor *ℤ g;
      positive = int_mul_pos h.divisor g h.positive positive;
      each = λ j l.
          let within : j < end = omega arith in
          reduced_cells j ∙ (ap (λ x. h.divisor *ℤ x) (sym (filled j within) ∙ each j) ∙ sym (int_mul_assoc h.divisor g (to j)));
      greatest = λ d all. common.greatest h.divisor d (λ j l.
          let within : j ≤ last = omega arith in
          subst (λ (x : ℤ). Divides d x) (reduced_cells j ∙ ap (λ x. h.divisor *ℤ x) (sym (filled j l))) (all j within));
    }

-- a cell that is out of a range lies at a column where one of the rows has an entry
pub wide_within : {A : Type 0} (f : A → ℤ) (greatest : ℕ) (p q : ℤ) (pivot other : List (Term A)) (end j : ℕ) → IsLine f 0 end pivot → IsLine f 0 end other
    → IsWideBy greatest p q (entry_of f pivot) (entry_of f other) j → j < end
wide_within f greatest p q pivot other end j lp lo wide = ⊎_elim
    (λ (l : j < end). l)
    (λ (l : end ≤ j).
    let a = entry_past f 0 end j pivot lp l in
    let b = entry_past f 0 end j other lo l in
    absurd (none (pos (unsigned_abs p)) (turned p q) (entry_of f other j) (entry_of f pivot j) b a wide))
    (lt_or_le j end)
  where
    none : (k m x y : ℤ) → x ≡ pos 0 → y ≡ pos 0 → (greatest < unsigned_abs (k *ℤ x)) ⊎ ((greatest < unsigned_abs (m *ℤ y)) ⊎ (greatest < unsigned_abs (k *ℤ x -ℤ m *ℤ y))) → ⊥
    none k m x y e h (inl w) = let z : k *ℤ x ≡ pos 0 = ap (λ n. k *ℤ n) e ∙ omega (arith, ints) in let s = ap unsigned_abs z in omega (arith, ints)
    none k m x y e h (inr (inl w)) = let z : m *ℤ y ≡ pos 0 = ap (λ n. m *ℤ n) h ∙ omega (arith, ints) in let s = ap unsigned_abs z in omega (arith, ints)
    none k m x y e h (inr (inr w)) =
        let z : k *ℤ x ≡ pos 0 = ap (λ n. k *ℤ n) e ∙ omega (arith, ints) in
        let u : m *ℤ y ≡ pos 0 = ap (λ n. m *ℤ n) h ∙ omega (arith, ints) in
        let s : unsigned_abs (k *ℤ x -ℤ m *ℤ y) ≡ 0 = omega (arith, ints) in omega arith

pub same_cells : (k k' m m' x x' y y' : ℤ) → k ≡ k' → m ≡ m' → x ≡ x' → y ≡ y' → cell k x m y ≡ cell k' x' m' y'
same_cells k k' m m' x x' y y' e f h i = cc

pub wide_same : (greatest : ℕ) (k k' m m' x x' y y' : ℤ) → k ≡ k' → m ≡ m' → x ≡ x' → y ≡ y' → IsWideCell greatest k x m y → IsWideCell greatest k' x' m' y'
wide_same greatest k k' m m' x x' y y' e f h i wide =
    subst (λ (z : ℤ). IsWideCell greatest z x' m' y') e
    (subst (λ (z : ℤ). IsWideCell greatest k x' z y') f
    (subst (λ (z : ℤ). IsWideCell greatest k z m y') h
    (subst (λ (z : ℤ). IsWideCell greatest k x m z) i wide)))

-- a column with an entry lies below the end
pub entry_within : {A : Type 0} (f : A → ℤ) (terms : List (Term A)) (end j n : ℕ) → IsLine f 0 end terms → n < unsigned_abs (entry_of f terms j) → j < end
entry_within f terms end j n line l = ⊎_elim
    (λ (m : j < end). m)
    (λ (m : end ≤ j). let e = ap unsigned_abs (entry_past f 0 end j terms line m) in absurd (zero_size n (subst (λ (x : ℕ). n < x) e l)))
    (lt_or_le j end)
  where
    zero_size : (n : ℕ) → n < unsigned_abs (pos 0) → ⊥
    zero_size n l = omega (arith, ints)

-- rows that are the same but for one
pub other_row_same : {A : Type 0} (f : A → ℤ) (place j : ℕ) (before after : List (List (Term A))) → AreSameBut f place before after → j ≢ place → get_or after j [] ≡ get_or before j []
other_row_same f place j before after (inl e) differ = ap (λ rows. get_or rows j []) (sym e)
other_row_same f place j before after (inr s) differ = ap (λ rows. get_or rows j []) s.1 ∙ get_or-set_other before place j s.0 [] differ

pub rows_length : {A : Type 0} (f : A → ℤ) (place : ℕ) (before after : List (List (Term A))) → AreSameBut f place before after → length after ≡ length before
rows_length f place before after (inl e) = ap length (sym e)
rows_length f place before after (inr s) = ap length s.1 ∙ length-set before place s.0

-- what is known of a prepared row for equal rows
pub prepared_same : {A : Type 0} (f : A → ℤ) (i c end k : ℕ) (pivot pivot' other other' to to' : List (Term A)) (marked marked' : Bool) → pivot ≡ pivot' → other ≡ other' → to ≡ to' → marked ≡ marked'
    → IsPrepared f i c end k pivot other marked to → IsPrepared f i c end k pivot' other' marked' to'
prepared_same f i c end k pivot pivot' other other' to to' marked marked' e h t m p =
    subst (λ x. IsPrepared f i c end k x other' marked' to') e
    (subst (λ x. IsPrepared f i c end k pivot x marked' to') h
    (subst (λ x. IsPrepared f i c end k pivot other marked' x) t
    (subst (λ x. IsPrepared f i c end k pivot other x to) m p)))

pub wide_row_same : {A : Type 0} (f : A → ℤ) (greatest i c end k : ℕ) (pivot pivot' other other' : List (Term A)) (column : ℕ) → pivot ≡ pivot' → other ≡ other'
    → IsWideRow f greatest i c end k pivot other column → IsWideRow f greatest i c end k pivot' other' column
wide_row_same f greatest i c end k pivot pivot' other other' column e h p =
    subst (λ x. IsWideRow f greatest i c end k x other' column) e (subst (λ x. IsWideRow f greatest i c end k pivot x column) h p)

pub leaves_same : {A : Type 0} (f : A → ℤ) (i c end k : ℕ) (pivot pivot' other other' : List (Term A)) → pivot ≡ pivot' → other ≡ other'
    → LeavesEntries f i c end k pivot other → LeavesEntries f i c end k pivot' other'
leaves_same f i c end k pivot pivot' other other' e h p =
    subst (λ x. LeavesEntries f i c end k x other') e (subst (λ x. LeavesEntries f i c end k pivot x) h p)

-- a row that was reduced is prepared, with p and q its entries
pub prepared_by : {A : Type 0} (f : A → ℤ) (i c end k : ℕ) (pivot other to : List (Term A)) (p q : ℤ) → p ≡ entry_of f pivot c → q ≡ entry_of f other c → k ≢ i → q ≢ pos 0
    → IsLine f 0 end to → ((last : ℕ) → last + 1 ≡ end → IsDivided last (reduced_by p q (entry_of f pivot) (entry_of f other)) (entry_of f to))
    → IsPrepared f i c end k pivot other true to
prepared_by f i c end k pivot other to p q e h differ some line divided = record {
  same = λ z. absurd (cc);
  changes = λ _. (differ, λ z. some (h ∙ z));
  line = λ _. line;
  divided = λ _ last l.
      subst (λ (x : ℤ). IsDivided last (reduced_by x (entry_of f other c) (entry_of f pivot) (entry_of f other)) (entry_of f to)) e
      (subst (λ (x : ℤ). IsDivided last (reduced_by p x (entry_of f pivot) (entry_of f other)) (entry_of f to)) h (divided last l));
}

pub wide_by : {A : Type 0} (f : A → ℤ) (greatest i c end k : ℕ) (pivot other : List (Term A)) (p q : ℤ) (column : ℕ) → p ≡ entry_of f pivot c → q ≡ entry_of f other c → k ≢ i → q ≢ pos 0
    → column < end → IsWideBy greatest p q (entry_of f pivot) (entry_of f other) column → IsWideRow f greatest i c end k pivot other column
wide_by f greatest i c end k pivot other p q column e h differ some within wide = record {
  changes = (differ, λ z. some (h ∙ z));
  within = within;
  wide = subst (λ (x : ℤ). IsWideBy greatest x (entry_of f other c) (entry_of f pivot) (entry_of f other) column) e
      (subst (λ (x : ℤ). IsWideBy greatest p x (entry_of f pivot) (entry_of f other) column) h wide);
}

pub leaves_by : {A : Type 0} (f : A → ℤ) (i c end k : ℕ) (pivot other : List (Term A)) (p q : ℤ) → p ≡ entry_of f pivot c → q ≡ entry_of f other c → k ≢ i → q ≢ pos 0
    → LeavesEntries f i c end k pivot other → (j : ℕ) × (j < end) × (reduced_by p q (entry_of f pivot) (entry_of f other) j ≢ pos 0)
leaves_by f i c end k pivot other p q e h differ some leaves =
    let x = leaves (differ, λ z. some (h ∙ z)) in (
      x.0,
      x.1,
      subst (λ (y : ℤ). reduced_by y q (entry_of f pivot) (entry_of f other) x.0 ≢ pos 0) (sym e)
          (subst (λ (y : ℤ). reduced_by (entry_of f pivot c) y (entry_of f pivot) (entry_of f other) x.0 ≢ pos 0) (sym h) x.2),
    )

pub prepared_none : {A : Type 0} (f : A → ℤ) (i c end k : ℕ) (pivot other to : List (Term A)) → (k ≡ i) ⊎ (entry_of f other c ≡ pos 0) → IsPrepared f i c end k pivot other false to
prepared_none f i c end k pivot other to h = record {
  same = λ _. h;
  changes = λ z. absurd (cc);
  line = λ z. absurd (cc);
  divided = λ z. absurd (cc);
}
