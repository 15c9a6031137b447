-- The columns' part of a value, column by column.
use Rattle.std.proofs.Common.{◌≡◌, ℕ, ◌+◌, ◌*◌, ◌^◌, ◌<◌, ◌≤◌, List, get_or, arith, ap, sym, ◌∙◌, refl}
use Rattle.std.specs.Prelude.{ℤ, pos, ◌+ℤ◌, ◌-ℤ◌, ◌*ℤ◌, FitsSigned, unsigned_abs}
use Rattle.std.specs.Int.{int_min, w128}
use Rattle.std.proofs.Math.Nat.{mul-le-mul_left}
use Rattle.std.proofs.lemmas.Int.{ints}
use Rattle.algebra.specs.Sums.{sum_to}
use Rattle.algebra.specs.Numbered.{numbered, IsNumber}
use Rattle.algebra.proofs.SumsLemmas.{sum_to_step}
use Rattle.algebra.proofs.Magnitudes.{fits_w128}
use Rattle.programs.specs.Programs.{Program, column_count, bounds_at, cost_at}
use Rattle.programs.specs.Weights.{reach, weight}
use Rattle.safe_bounds.specs.Values.{rights_value, combined, reduced_cost, column_value}
use Rattle.safe_bounds.specs.inside.Drawn.{AreAtMost}
use Rattle.safe_bounds.proofs.DrawnLemmas.{drawn_here}
use Rattle.safe_bounds.proofs.ValueWidths.{part_width, reduced_reach}

-- what was drawn at each column gives its reduced cost
pub reduced_is : (program : Program) (scale : ℤ) (ys drawn : List ℤ) (k : ℕ) (reduced : ℤ) → ((j : ℕ) → IsNumber j (column_count program) → numbered (pos 0) drawn j ≡ combined j program.rows ys) → k < column_count program → reduced ≡ scale *ℤ cost_at program (k + 1) -ℤ get_or drawn k (pos 0) → reduced ≡ reduced_cost program scale ys (k + 1)
reduced_is program scale ys drawn k reduced all l e =
    let here = sym (drawn_here drawn k) ∙ all (k + 1) (record { from_one = omega arith; at_most = omega arith }) in
    e ∙ ap (λ x. scale *ℤ cost_at program (k + 1) -ℤ x) here

pub share_is : (program : Program) (scale : ℤ) (ys : List ℤ) (j : ℕ) (reduced share : ℤ) → reduced ≡ reduced_cost program scale ys j → share ≡ int_min (reduced *ℤ (bounds_at program j).0) (reduced *ℤ (bounds_at program j).1) → share ≡ column_value program scale ys j
share_is program scale ys j reduced share e f =
    f ∙ ap (λ r. int_min (r *ℤ (bounds_at program j).0) (r *ℤ (bounds_at program j).1)) e

pub reach_left : (program : Program) (scale : ℤ) (ys : List ℤ) (k : ℕ) (reduced : ℤ) → unsigned_abs scale ≤ 2 ^ 40 → AreAtMost (2 ^ 40) ys → weight program ≤ 2 ^ 46 → k < column_count program → reduced ≡ reduced_cost program scale ys (k + 1) → unsigned_abs reduced * reach (bounds_at program (k + 1)) ≤ 2 ^ 126
reach_left program scale ys k reduced s h light l e =
    let b = reduced_reach (2 ^ 40) program scale ys (k + 1) s h (record { from_one = omega arith; at_most = omega arith }) in
    let w = mul-le-mul_left (2 ^ 40) light in
    rw e (omega arith)

-- one column more
pub next_part : (f : ℕ → ℤ) (rights value share sum : ℤ) (k : ℕ) → value ≡ rights +ℤ sum_to f k → share ≡ f (k + 1) → sum ≡ value +ℤ share → sum ≡ rights +ℤ sum_to f (k + 1)
next_part f rights value share sum k so_far here e =
    let step = sum_to_step f k in
    omega (arith, ints)

pub part_small : (program : Program) (scale : ℤ) (ys : List ℤ) (m : ℕ) (part : ℤ) → unsigned_abs scale ≤ 2 ^ 40 → AreAtMost (2 ^ 40) ys → weight program ≤ 2 ^ 46 → m ≤ column_count program → part ≡ rights_value program.rows ys +ℤ sum_to (column_value program scale ys) m → unsigned_abs part ≤ 2 ^ 86
part_small program scale ys m part s h light l e =
    let b = part_width (2 ^ 40) program scale ys m s h l in
    let w = mul-le-mul_left (2 ^ 40) light in
    rw e (omega arith)

pub part_fits : (program : Program) (scale : ℤ) (ys : List ℤ) (k : ℕ) (value share : ℤ) → unsigned_abs scale ≤ 2 ^ 40 → AreAtMost (2 ^ 40) ys → weight program ≤ 2 ^ 46 → k < column_count program → value ≡ rights_value program.rows ys +ℤ sum_to (column_value program scale ys) k → share ≡ column_value program scale ys (k + 1) → FitsSigned w128 (value +ℤ share)
part_fits program scale ys k value share s h light l so_far here =
    let next = next_part (column_value program scale ys) (rights_value program.rows ys) value share (value +ℤ share) k so_far here refl in
    let b = part_small program scale ys (k + 1) (value +ℤ share) s h light (omega arith) next in
    fits_w128 (value +ℤ share) (omega arith)
