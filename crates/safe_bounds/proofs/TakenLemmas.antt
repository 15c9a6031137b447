-- Reduced costs, taken column by column from what the multipliers drew.
use Rattle.std.proofs.Common.{◌≡◌, ℕ, zero, suc, ◌+◌, ◌^◌, ◌<◌, ◌≤◌, List, length, get_or, set, arith, ap, sym, ◌∙◌, refl, ⊎_elim, subst}
use Rattle.std.specs.Prelude.{ℤ, pos, ◌-ℤ◌, ◌*ℤ◌, unsigned_abs}
use Rattle.std.proofs.lemmas.Bool.{cases_eq}
use Rattle.std.proofs.lemmas.List.{length-set, get_or-set_same, get_or-set_other}
use Rattle.std.proofs.lemmas.List.Elements.{All-set}
use Rattle.algebra.specs.Numbered.{numbered, IsNumber}
use Rattle.programs.specs.Programs.{Program, column_count, cost_at}
use Rattle.safe_bounds.specs.Values.{combined, reduced_cost}
use Rattle.safe_bounds.specs.inside.Drawn.{AreAtMost, AreTaken}
use Rattle.safe_bounds.proofs.DrawnLemmas.{drawn_here, wider}

in_place : (drawn : List ℤ) (j columns : ℕ) → length drawn ≡ columns → IsNumber j columns → AreAtMost (2 ^ 123) drawn → unsigned_abs (numbered (pos 0) drawn j) ≤ 2 ^ 123
in_place drawn zero columns size n h = absurd (omega (arith, n.from_one))
in_place drawn (suc k) columns size n h = h k (pos 0) (omega (arith, n.at_most))

pub none_taken : (program : Program) (scale : ℤ) (ys drawn : List ℤ) → length drawn ≡ column_count program → ((j : ℕ) → IsNumber j (column_count program) → numbered (pos 0) drawn j ≡ combined j program.rows ys) → AreAtMost (2 ^ 123) drawn → AreTaken program scale ys 0 drawn
none_taken program scale ys drawn size all h = record {
  columns = size;
  taken = λ j n. absurd (omega (arith, n.from_one, n.at_most));
  left = λ j n l. all j n;
  narrow = λ j n l. in_place drawn j (column_count program) size n h;
  width = wider (2 ^ 123) (2 ^ 124) drawn (omega arith) h;
}

set_place : (xs : List ℤ) (k : ℕ) (v : ℤ) → k < length xs → numbered (pos 0) (set xs k v) (k + 1) ≡ v
set_place xs k v l = drawn_here (set xs k v) k ∙ get_or-set_same xs k v (pos 0) l

other_place : (xs : List ℤ) (k j : ℕ) (v : ℤ) → (k + 1 ≡ j → ⊥) → numbered (pos 0) (set xs k v) j ≡ numbered (pos 0) xs j
other_place xs k zero v d = refl
other_place xs k (suc m) v d = get_or-set_other xs k m v (pos 0) (λ e. d (omega arith))

-- what is left at the next column
pub narrow_next : (program : Program) (scale : ℤ) (ys reduced : List ℤ) (k : ℕ) → k < column_count program → AreTaken program scale ys k reduced → unsigned_abs (get_or reduced k (pos 0)) ≤ 2 ^ 123
narrow_next program scale ys reduced k l h =
    subst (λ x. unsigned_abs x ≤ 2 ^ 123) (drawn_here reduced k) (h.narrow (k + 1) (record { from_one = omega arith; at_most = omega arith }) (omega arith))

-- one column more
pub next_taken : (program : Program) (scale : ℤ) (ys reduced : List ℤ) (k : ℕ) (v : ℤ) → k < column_count program → AreTaken program scale ys k reduced → v ≡ scale *ℤ cost_at program (k + 1) -ℤ get_or reduced k (pos 0) → unsigned_abs v ≤ 2 ^ 124 → AreTaken program scale ys (k + 1) (set reduced k v)
next_taken program scale ys reduced k v l h e b =
    let size = h.columns in
    let next : IsNumber (k + 1) (column_count program) = record { from_one = omega arith; at_most = omega arith } in
    let drew = sym (drawn_here reduced k) ∙ h.left (k + 1) next (omega arith) in
    let here = set_place reduced k v (omega (arith, size)) ∙ e ∙ ap (λ x. scale *ℤ cost_at program (k + 1) -ℤ x) drew in
    record {
      columns = length-set reduced k v ∙ size;
      taken = λ j n.
          ⊎_elim
          (λ (s : k + 1 ≡ j). subst (λ i. numbered (pos 0) (set reduced k v) i ≡ reduced_cost program scale ys i) s here)
          (λ (d : k + 1 ≡ j → ⊥). other_place reduced k j v d ∙ h.taken j (record { from_one = n.from_one; at_most = omega (arith, n.at_most) }))
          (cases_eq (k + 1) j);
      left = λ j n m. other_place reduced k j v (λ s. omega arith) ∙ h.left j n (omega arith);
      narrow = λ j n m. subst (λ x. unsigned_abs x ≤ 2 ^ 123) (sym (other_place reduced k j v (λ s. omega arith))) (h.narrow j n (omega arith));
      width = All-set (λ x. unsigned_abs x ≤ 2 ^ 124) reduced k v b h.width;
    }
