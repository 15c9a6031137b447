-- A value within its width over a denominator within the limit can be stated in lowest terms.
use Rattle.std.proofs.Common.{◌≡◌, ⊎_elim, ℕ, ◌*◌, ◌≤◌, ◌<◌, ◌^◌, sym, ap, subst, arith, ◌∙◌}
use Rattle.std.specs.Prelude.{ℤ, unsigned_abs}
use Rattle.std.specs.Int.{IsGcd, ◌∣◌}
use Rattle.std.proofs.lemmas.Int.{ints}
use Rattle.std.proofs.lemmas.Nat.{mul-le}
use Rattle.std.proofs.lemmas.Nat.Gcd.{IsGcd-swap}
use Rattle.std.proofs.lemmas.Bool.{cases_lt}
use Rattle.std.proofs.Math.Nat.{dvd-mul_left, dvd-mul_right, le_of_dvd}
use Rattle.algebra.proofs.Magnitudes.{unsigned_abs_mul}
use Rattle.numbers.specs.Fractions.{Fraction, IsLowest, HasValue}
use Rattle.numbers.proofs.DivisorsLemmas.{dvd_of_coprime, magnitudes_of_greatest}
use Rattle.algebra.specs.Scale.{IsScale}
use Rattle.cert_text.specs.CertText.{IsStated}

-- the numbers of lowest terms are at most those of the fraction
lesser_parts : (n d num den : ℕ) → IsGcd n d 1 → 0 < den → n * den ≡ num * d → (n ≤ num) × (d ≤ den)
lesser_parts n d num den g some e =
    let D : ℕ → ℕ → Type 0 = λ x y. x ∣ y in
    let den_by : d ∣ den = dvd_of_coprime d n den (IsGcd-swap n d 1 g) (let f : num * d ≡ den * n = omega arith in subst (D d) f (dvd-mul_left d num)) in
    let num_by : n ∣ num = dvd_of_coprime n d num g (subst (D n) e (dvd-mul_right n den)) in (
      ⊎_elim
          (λ (l : 0 < num). le_of_dvd l num_by)
          (λ (z : num ≤ 0).
          let none : num ≡ 0 = omega arith in
          let zero : num * d ≡ 0 * d = ap (λ (k : ℕ). k * d) none in
          let product : n * den ≡ 0 = omega (arith, e, zero) in
          ⊎_elim
          (λ (l : 0 < n). absurd (omega (arith, product, mul-le 1 1 n den (omega arith) (omega arith))))
          (λ (l : n ≤ 0). omega arith)
          (cases_lt 0 n))
          (cases_lt 0 num),
      le_of_dvd some den_by,
    )

lesser_magnitudes : (f : Fraction) (num den : ℤ) → IsLowest f → HasValue f num den → (unsigned_abs f.num ≤ unsigned_abs num) × (unsigned_abs f.den ≤ unsigned_abs den)
lesser_magnitudes f num den lowest v =
    let product : unsigned_abs f.num * unsigned_abs den ≡ unsigned_abs num * unsigned_abs f.den =
    sym (unsigned_abs_mul f.num den) ∙ ap unsigned_abs v.same ∙ unsigned_abs_mul num f.den in
    let some : 0 < unsigned_abs den = let x = v.defined in omega (arith, ints) in
    lesser_parts (unsigned_abs f.num) (unsigned_abs f.den) (unsigned_abs num) (unsigned_abs den) (magnitudes_of_greatest f.num f.den 1 lowest.coprime) some product

pub stated_of_value : (f : Fraction) (num den : ℤ) → IsLowest f → HasValue f num den → unsigned_abs num ≤ 2 ^ 86 → IsScale den → IsStated f
stated_of_value f num den lowest v width scale =
    let small = lesser_magnitudes f num den lowest v in
    let from = scale.from_one in
    let to = scale.at_most in
    let positive = lowest.positive in
    record {
      lowest = lowest;
      den_within = record { from_one = positive; at_most = let s = small.1 in omega (arith, ints) };
      num_within = omega (arith, small.0, width);
    }
