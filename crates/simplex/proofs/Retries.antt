-- A row that is written a second time, after a first try wrote to the same place.
use Rattle.std.proofs.Common.{◌≡◌, ℕ, ◌<◌, List, [], length, get_or, set, set-set, arith, ap, sym, ◌∙◌, subst, inl, inr}
use Rattle.std.specs.Prelude.{ℤ, pos, ◌≢◌}
use Rattle.term_store.specs.declared.term.Term.{Term}
use Rattle.tableau.specs.Exchanges.{IsDivided}
use Rattle.sparse_rows.specs.Lines.{entry_of}
use Rattle.simplex.specs.inside.Rows.{AreSameBut, reduced_by}
use Rattle.simplex.proofs.Reducing.{other_row_same, rows_length}

module _ {A : Type 0} (f : A → ℤ) (spare : ℕ) (before middle : List (List (Term A))) (first : AreSameBut f spare before middle) where
  pub kept_row : (j : ℕ) → j < spare → get_or middle j [] ≡ get_or before j []
  kept_row j l = other_row_same f spare j before middle first (λ e. omega arith)

  pub kept_place : spare < length before → spare < length middle
  kept_place l = let e = rows_length f spare before middle first in omega arith

  pub written_again : (after : List (List (Term A))) → AreSameBut f spare middle after → AreSameBut f spare before after
  written_again after (inl e) = subst (λ (rows : List (List (Term A))). AreSameBut f spare before rows) e first
  written_again after (inr s) = again first
    where
      again : AreSameBut f spare before middle → AreSameBut f spare before after
      again (inl e) = inr (s.0, s.1 ∙ ap (λ (rows : List (List (Term A))). set rows spare s.0) (sym e))
      again (inr t) = inr (s.0, s.1 ∙ (ap (λ (rows : List (List (Term A))). set rows spare s.0) t.1 ∙ set-set before spare t.0 s.0))

  -- what is known of the rows before is known of those behind the first try, and the other way
  module _ (p q : ℤ) (row k : ℕ) (row_in : row < spare) (k_in : k < spare) where
    pub entries_again : (end end' : ℕ) → end' ≡ end → (j : ℕ) × (j < end) × (reduced_by p q (entry_of f (get_or before row [])) (entry_of f (get_or before k [])) j ≢ pos 0)
        → (j : ℕ) × (j < end') × (reduced_by p q (entry_of f (get_or middle row [])) (entry_of f (get_or middle k [])) j ≢ pos 0)
    entries_again end end' e h = (
      h.0,
      (let l = h.1 in omega arith),
      subst (λ (ts : List (Term A)). reduced_by p q (entry_of f ts) (entry_of f (get_or middle k [])) h.0 ≢ pos 0) (sym (kept_row row row_in))
          (subst (λ (ts : List (Term A)). reduced_by p q (entry_of f (get_or before row [])) (entry_of f ts) h.0 ≢ pos 0) (sym (kept_row k k_in)) h.2),
    )

    pub divided_again : (last : ℕ) (to : ℕ → ℤ) → IsDivided last (reduced_by p q (entry_of f (get_or middle row [])) (entry_of f (get_or middle k []))) to
        → IsDivided last (reduced_by p q (entry_of f (get_or before row [])) (entry_of f (get_or before k []))) to
    divided_again last to h =
        subst (λ (ts : List (Term A)). IsDivided last (reduced_by p q (entry_of f ts) (entry_of f (get_or before k []))) to) (kept_row row row_in)
        (subst (λ (ts : List (Term A)). IsDivided last (reduced_by p q (entry_of f (get_or middle row [])) (entry_of f ts)) to) (kept_row k k_in) h)
