use Rattle.std.proofs.Common.{◌≤◌, pos, take}
use Rattle.numbers.specs.Fractions.{IsLeastCommonDenominator}
use Rattle.numbers.proofs.fraction.common_den.Given as goal

abbrev pub invariant-loop-part : goal.invariant-loop-part
invariant-loop-part l =
    record { common : IsLeastCommonDenominator (take l.part-index l.parts) (pos l.common); within : l.common ≤ 1099511627776 }
