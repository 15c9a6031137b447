-- The rows while they are prepared one by one.
use Rattle.std.proofs.Common.{◌≡◌, ℕ, ◌+◌, ◌<◌, ◌⊎◌, List, [], length, get_or, set, Bool, false, arith, sym, ◌∙◌, refl, subst, ⊎_elim, get_or-set_same, get_or-set_other}
use Rattle.std.specs.Prelude.{ℤ, ◌≢◌}
use Rattle.term_store.specs.declared.term.Term.{Term}
use Rattle.simplex.specs.inside.Rows.{AreSameBut, IsPrepared, IsWideRow, LeavesEntries}
use Rattle.simplex.proofs.Reducing.{other_row_same, rows_length, prepared_same}

pub same_or_not : (i k : ℕ) → (i ≡ k) ⊎ (i ≢ k)
same_or_not i k = grind arith

-- the first `count` rows are as they were, and the first `done` of them are prepared
pub record ArePrepared {A : Type 0} (f : A → ℤ) (i c end count done : ℕ) (before after : List (List (Term A))) (marks : List Bool) : Type 0 where
  pub length_same : length after ≡ length before
  pub same : (k : ℕ) → k < count → get_or after k [] ≡ get_or before k []
  pub prepared : (k : ℕ) → k < done → IsPrepared f i c end k (get_or before i []) (get_or before k []) (get_or marks k false) (get_or after (count + k) [])

module _ {A : Type 0} (f : A → ℤ) (i c end count done : ℕ) (before now after : List (List (Term A))) (marks : List Bool) (h : ArePrepared f i c end count done before now marks)
    (l : done < count) (m : length marks ≡ count) (i_row : i < count) (step : AreSameBut f (count + done) now after) (marked : Bool)
    (p : IsPrepared f i c end done (get_or now i []) (get_or now done []) marked (get_or after (count + done) [])) where
  pub prepared_more : ArePrepared f i c end count (done + 1) before after (set marks done marked)
  prepared_more = record {
    length_same = rows_length f (count + done) now after step ∙ h.length_same;
    same = λ k k_row. other_row_same f (count + done) k now after step (λ e. omega arith) ∙ h.same k k_row;
    prepared = λ k k_done. ⊎_elim
        (λ (e : k ≡ done).
        let P : ℕ → Type 0 = λ x. IsPrepared f i c end x (get_or before i []) (get_or before x []) (get_or (set marks done marked) x false) (get_or after (count + x) []) in
        let within : done < length marks = omega arith in
        subst P (sym e) (prepared_same f i c end done _ _ _ _ _ _ _ _ (h.same i i_row) (h.same done l) refl (sym (get_or-set_same marks done marked false within)) p))
        (λ (differ : k ≢ done).
        let below : k < done = omega arith in
        prepared_same f i c end k _ _ _ _ _ _ _ _ refl refl (sym (other_row_same f (count + done) (count + k) now after step (λ e. omega arith)))
        (sym (get_or-set_other marks done k marked false differ)) (h.prepared k below))
        (same_or_not k done);
  }

-- what holds of two rows holds of rows that are the same
module _ {A : Type 0} (f : A → ℤ) (i c k end end' : ℕ) (pivot pivot' other other' : List (Term A)) (e : end' ≡ end) (p : pivot' ≡ pivot) (o : other' ≡ other) where
  pub leaves_same : LeavesEntries f i c end k pivot other → LeavesEntries f i c end' k pivot' other'
  leaves_same h =
      subst (λ (n : ℕ). LeavesEntries f i c n k pivot' other') (sym e)
      (subst (λ (ts : List (Term A)). LeavesEntries f i c end k ts other') (sym p) (subst (λ (ts : List (Term A)). LeavesEntries f i c end k pivot ts) (sym o) h))

  pub wide_row_same : (greatest column : ℕ) → IsWideRow f greatest i c end' k pivot' other' column → IsWideRow f greatest i c end k pivot other column
  wide_row_same greatest column h =
      subst (λ (n : ℕ). IsWideRow f greatest i c n k pivot other column) e
      (subst (λ (ts : List (Term A)). IsWideRow f greatest i c end' k ts other column) p (subst (λ (ts : List (Term A)). IsWideRow f greatest i c end' k pivot' ts column) o h))
