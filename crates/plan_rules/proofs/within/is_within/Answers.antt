use Rattle.std.proofs.Common.{FitsSigned}
use Rattle.std.specs.Int.{w128}
use Rattle.std.proofs.lemmas.Int.{to_z-of_z}
use Rattle.plan_rules.proofs.LogicLemmas.{both_tells}
use Rattle.plan_rules.proofs.within.is_within.Goals as goal

pub returns : goal.returns
returns c =
    let low = c.ranges.low in
    let high = c.ranges.high in
    let den = c.ranges.den in
    let x = c.ranges.x in
    let least : FitsSigned w128 c.scaled.result = record { sfits = c.scaled.type_inv } in
    let most : FitsSigned w128 c.scaled-2.result = record { sfits = c.scaled-2.type_inv } in
    let from = rw (simp to_z-of_z at c.scaled.ensures) at (simp to_z-of_z at c.at_most.ensures) in
    let to = rw (simp to_z-of_z at c.scaled-2.ensures) at (simp to_z-of_z at c.at_most-2.ensures) in
    both_tells _ _ _ c.both.ensures from to (λ h. record { at_least = h.0; at_most = h.1 }) (λ h. (h.at_least, h.at_most))

pub scaled-requires : goal.scaled-requires
scaled-requires c =
    let den = c.ranges.den in
    simp to_z-of_z c.requires.den

pub scaled-requires-2 : goal.scaled-requires-2
scaled-requires-2 c =
    let den = c.ranges.den in
    simp to_z-of_z c.requires.den
