-- Multipliers as they are written down, and what they prove once they are narrowed.
use Rattle.std.proofs.Common.{◌≡◌, ℕ, ◌+◌, ◌≤◌, ◌<◌, ◌^◌, List, length, get_or, sym, ap, subst, arith, ⊎_elim, ◌∙◌}
use Rattle.std.specs.Prelude.{ℤ, pos, ◌≤ℤ◌, ◌<ℤ◌, unsigned_abs}
use Rattle.std.specs.Int.{int_max}
use Rattle.std.specs.List.{All}
use Rattle.std.proofs.lemmas.Int.{ints}
use Rattle.std.proofs.lemmas.Bool.{cases_lt}
use Rattle.std.proofs.lemmas.List.{take_all, get_or_default}
use Rattle.std.proofs.lemmas.List.Elements.{Contains-get_or}
use Rattle.algebra.specs.Scale.{IsScale}
use Rattle.algebra.proofs.Order.{int_le_trans, int_le_total, int_le_max_left, int_le_max_right, int_max_of_ge, int_max_of_le}
use Rattle.programs.specs.Programs.{Program, row_count}
use Rattle.safe_bounds.specs.Values.{value_of, IsMultiplier, AreMultipliers, HasRightSigns}
use Rattle.safe_bounds.specs.Narrowing.{IsNarrowed}
use Rattle.safe_bounds.specs.Sparse.{dense}
use Rattle.cert_tree.specs.Trees.{AreMultipliersBehind}
use Rattle.cert_tree.specs.Written.{IsWritten}
use Rattle.branch_bound.specs.inside.Proving.{IsProvedOn, IsGreatestOf}
use Rattle.branch_bound.specs.declared.work.Proved.{Proved}

-- ---- what narrowed multipliers prove

pub proved_on : (program : Program) (scale : ℤ) (mults : List ℤ) (narrow_scale : ℤ) (narrow_mults : List ℤ) (pairs : List (ℕ × ℤ)) (value : ℤ) (proved : Proved)
    → IsNarrowed scale mults narrow_scale narrow_mults → IsScale narrow_scale
    → ((p : Program) → HasRightSigns p mults → HasRightSigns p narrow_mults) → HasRightSigns program mults
    → length narrow_mults ≡ length mults → length mults ≡ row_count program
    → IsWritten narrow_mults (length narrow_mults) pairs → value ≡ value_of program narrow_scale narrow_mults → unsigned_abs value ≤ 2 ^ 86
    → proved.value ≡ value → proved.scale ≡ narrow_scale → proved.mults ≡ pairs → IsProvedOn program scale mults proved
proved_on program scale mults narrow_scale narrow_mults pairs value proved n s signs right c r w v width pv ps pm =
    let rows : length narrow_mults ≡ row_count program = c ∙ r in
    let same : dense (row_count program) pairs ≡ narrow_mults =
    ap (λ (k : ℕ). dense k pairs) (sym rows) ∙ w.same ∙ take_all (length narrow_mults) narrow_mults (omega arith) in
    let same' : dense (row_count program) proved.mults ≡ narrow_mults = ap (λ (ps : List (ℕ × ℤ)). dense (row_count program) ps) pm ∙ same in
    record {
      scale_within = subst IsScale (sym ps) s;
      on_rows = subst (λ (k : ℕ). AreMultipliersBehind k 0 proved.mults) rows (subst (AreMultipliersBehind (length narrow_mults) 0) (sym pm) w.on_rows);
      right_signs = subst (HasRightSigns program) (sym same') (signs program right);
      value_is = pv ∙ v ∙ ap (λ (x : ℤ). value_of program x narrow_mults) (sym ps) ∙ ap (value_of program proved.scale) (sym same');
      value_within = subst (λ (x : ℤ). unsigned_abs x ≤ 2 ^ 86) (sym pv) width;
      narrow_key = record {
        narrow_mults = narrow_mults;
        narrowed = subst (λ (x : ℤ). IsNarrowed scale mults x narrow_mults) (sym ps) n;
        value = pv ∙ v ∙ ap (λ (x : ℤ). value_of program x narrow_mults) (sym ps);
      };
    }

pub narrow_are_multipliers : (program : Program) (mults narrow_mults : List ℤ) → length narrow_mults ≡ length mults → length mults ≡ row_count program
    → All IsMultiplier narrow_mults → AreMultipliers program narrow_mults
narrow_are_multipliers program mults narrow_mults c r all = record { each_row = c ∙ r; within = all }

-- ---- the greatest magnitude

pub greatest_none : (numbers : List ℤ) → IsGreatestOf numbers 0 (pos 0)
greatest_none numbers = record { from_zero = omega (arith, ints); each = λ k other l. absurd (omega arith); one = λ h. absurd (omega (arith, ints)) }

pub greatest_more : (numbers : List ℤ) (count : ℕ) (greatest : ℤ) → count < length numbers → IsGreatestOf numbers count greatest
    → IsGreatestOf numbers (count + 1) (int_max greatest (pos (unsigned_abs (get_or numbers count (pos 0)))))
greatest_more numbers count greatest l h =
    let y = get_or numbers count (pos 0) in
    let m = pos (unsigned_abs y) in
    let above = int_le_max_left greatest m in
    let own = int_le_max_right greatest m in
    record {
      from_zero = int_le_trans (pos 0) greatest (int_max greatest m) h.from_zero above;
      each = λ k other b. ⊎_elim
          (λ (t : k < count). int_le_trans (pos (unsigned_abs (get_or numbers k other))) greatest (int_max greatest m) (h.each k other t) above)
          (λ (t : count ≤ k).
          let same : count ≡ k = omega arith in
          subst (λ (z : ℤ). pos (unsigned_abs z) ≤ℤ int_max greatest m)
          (get_or_default numbers count (pos 0) other l ∙ ap (λ (i : ℕ). get_or numbers i other) same) own)
          (cases_lt k count);
      one = λ p. ⊎_elim
          (λ (g : m ≤ℤ greatest).
          let same = int_max_of_ge greatest m g in
          let o = h.one (subst (λ (z : ℤ). pos 0 <ℤ z) same p) in (o.0, (o.1.0, o.1.1 ∙ sym same)))
          (λ (g : greatest ≤ℤ m). (y, (Contains-get_or numbers count (pos 0) l, sym (int_max_of_le greatest m g))))
          (int_le_total m greatest);
    }

-- ---- few multipliers

pub few_multipliers : (program : Program) (mults : List ℤ) → AreMultipliers program mults → row_count program ≤ 600 → length mults ≤ 600
few_multipliers program mults h few = omega (arith, h.each_row, few)

pub few_narrow : (program : Program) (mults narrow_mults : List ℤ) → length narrow_mults ≡ length mults → length mults ≡ row_count program → row_count program ≤ 600
    → length narrow_mults ≤ 600
few_narrow program mults narrow_mults c r few = omega (arith, c, r, few)
