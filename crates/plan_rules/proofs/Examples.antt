-- The two plans of `specs/Examples` keep every rule and aren't admissible.
use Rattle.std.proofs.Common.{arith}
use Rattle.std.proofs.lemmas.Int.{ints}
use Rattle.plan_rules.specs.Rules.{IsAdmissible}
use Rattle.plan_rules.specs.Examples.{two_sections, past_the_last_hop, nothing_over_zero}

hop_past_the_last : ¬ IsAdmissible two_sections past_the_last_hop
hop_past_the_last a =
    let hops = a.is_plan.right.each_length 1 (record { from_one = omega arith; at_most = omega arith }) in
    absurd (omega (arith, hops))

over_zero : ¬ IsAdmissible two_sections nothing_over_zero
over_zero a = let den = a.is_plan.den in absurd (omega (arith, ints, den))
