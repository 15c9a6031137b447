use Rattle.std.proofs.Common.{◌<◌, ◌^◌, refl, arith, inl, inr, to_z, of_z}
use Rattle.std.specs.Prelude.{FitsSigned}
use Rattle.std.specs.Int.{w128}
use Rattle.std.proofs.lemmas.Int.{to_z-of_z, to_z_pos}
use Rattle.numbers.specs.Fractions.{IsReduced, HasValue}
use Rattle.numbers.proofs.FractionsLemmas.{has_fraction, no_fraction, same_value_fraction, made_value, made_reduced}
use Rattle.numbers.proofs.fraction.Frac.new.Goals as goal
use Rattle.numbers.proofs.fraction.Frac.new.Goals.{then-size-gt-GREATEST-via-then-size-gt-GREATEST, then-size-gt-GREATEST-via-else-size-gt-GREATEST+then-bottom-gt-GREATEST}

pub returns-then-size-gt-GREATEST-clause-some : goal.returns-then-size-gt-GREATEST-clause-some
returns-then-size-gt-GREATEST-clause-some c =
    let fz : FitsSigned w128 c.args.num = c.ranges.num in
    let fw : FitsSigned w128 c.args.den = c.ranges.den in
    let low = simp to_z-of_z at c.lowest_magnitudes-size.ensures in
    let t = c.lowest_magnitudes-size.result.0 in
    let d = c.lowest_magnitudes-size.result.1 in (
      λ e. cc,
      λ found.
          elim c.then-size-gt-GREATEST.branch [
            | then-size-gt-GREATEST-via-then-size-gt-GREATEST w ↦
                absurd (no_fraction t d c.args.num c.args.den low (inl (omega arith)) found)
            | then-size-gt-GREATEST-via-else-size-gt-GREATEST+then-bottom-gt-GREATEST w ↦
                absurd (no_fraction t d c.args.num c.args.den low (inr (omega arith)) found)
          ],
    )

pub returns-then-size-gt-GREATEST-clause-in_range : goal.returns-then-size-gt-GREATEST-clause-in_range
returns-then-size-gt-GREATEST-clause-in_range c defined p q =
    (returns-then-size-gt-GREATEST-clause-some c).1 (has_fraction c.args.num c.args.den defined p q)

made : (c : goal.After-signed) → IsReduced (record { num = to_z w128 (of_z w128 c.signed.result); den = to_z w128 c.lowest_magnitudes-size.result.1 }) × HasValue (record { num = to_z w128 (of_z w128 c.signed.result); den = to_z w128 c.lowest_magnitudes-size.result.1 }) c.args.num c.args.den
made c =
    let fz : FitsSigned w128 c.args.num = c.ranges.num in
    let fw : FitsSigned w128 c.args.den = c.ranges.den in
    let fn : FitsSigned w128 c.signed.result = record { sfits = c.signed.type_inv } in
    let low = simp to_z-of_z at c.lowest_magnitudes-size.ensures in
    let sign = simp to_z-of_z at c.signed.ensures in
    let d = c.lowest_magnitudes-size.result.1 in
    let small : d < 2 ^ 127 = omega arith in
    let den = to_z_pos w128 d small in
    simp to_z-of_z (
      made_reduced _ d c.args.num c.args.den c.signed.result _ low sign den (omega arith) small,
      made_value _ d c.args.num c.args.den c.signed.result _ low sign den,
    )

pub invariant_of-result : goal.invariant_of-result
invariant_of-result c = (made c).0

pub returns-clause-some : goal.returns-clause-some
returns-clause-some c = (λ _. (_, (made c).0, (made c).1), λ _. refl)

pub returns-clause-value : goal.returns-clause-value
returns-clause-value c = (made c).1

pub returns-clause-reduced : goal.returns-clause-reduced
returns-clause-reduced c = (made c).0

pub returns-clause-one : goal.returns-clause-one
returns-clause-one c g r v =
    same_value_fraction g _ c.args.num c.args.den r.lowest (made c).0.lowest v (made c).1
