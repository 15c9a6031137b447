use Rattle.std.proofs.Common.{FitsSigned, rules, arith}
use Rattle.std.specs.Int.{w64}
use Rattle.std.proofs.lemmas.Int.{to_z-of_z}
use Rattle.road_types.proofs.weight.offset_load.Goals as goal

pub returns-clause-value : goal.returns-clause-value
returns-clause-value c =
    let depth : FitsSigned w64 c.deepest.result = search rules in
    let ground : FitsSigned w64 c.args.section.now.ground = search rules in
    let station : FitsSigned w64 c.args.section.now.station = search rules in
    let deep = rw c.deepest.ensures.value at (simp to_z-of_z at c.magnitude.ensures) in
    let high = simp to_z-of_z at c.magnitude-2.ensures in
    omega (arith, simp to_z-of_z at c.station_load.ensures.value, deep, high)
