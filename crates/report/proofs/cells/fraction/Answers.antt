use Rattle.std.proofs.lemmas.Int.{to_z-of_z}
use Rattle.report.proofs.cells.fraction.Goals as goal

pub returns-clause-lowest : goal.returns-clause-lowest
returns-clause-lowest c = c.in-Some.ensures.reduced

pub returns-clause-same : goal.returns-clause-same
returns-clause-same c =
    let num = c.ranges.num in
    let den = c.ranges.den in
    simp to_z-of_z at c.in-Some.ensures.value

pub returns-clause-one : goal.returns-clause-one
returns-clause-one c =
    let num = c.ranges.num in
    let den = c.ranges.den in
    simp to_z-of_z at c.in-Some.ensures.one
