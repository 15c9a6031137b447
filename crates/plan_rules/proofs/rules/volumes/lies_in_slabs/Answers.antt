use Rattle.std.proofs.Common.{◌≤◌, FitsSigned, rules, arith}
use Rattle.std.specs.Prelude.{unsigned_abs}
use Rattle.std.specs.Int.{w64}
use Rattle.std.proofs.lemmas.Int.{ints, to_z-of_z}
use Rattle.plan_rules.proofs.HeightWidths.{within_width}
use Rattle.plan_rules.proofs.rules.volumes.lies_in_slabs.Goals as goal

pub returns-clause-value : goal.returns-clause-value
returns-clause-value c =
    let den = c.ranges.den in
    let offset = c.ranges.offset in
    let cut : FitsSigned w64 c.thickness_of.result = search rules in
    let fill : FitsSigned w64 c.thickness_of-above.result = search rules in
    let below : FitsSigned w64 c.opposite-below.result = search rules in
    let cut_is = rw c.as_slice.ensures at c.thickness_of.ensures.value in
    let fill_is = rw c.as_slice-2.ensures at c.thickness_of-above.ensures.value in
    rw (simp to_z-of_z at c.opposite-below.ensures, cut_is, fill_is) at (simp to_z-of_z at c.is_within.ensures)

pub returns-clause-width : goal.returns-clause-width
returns-clause-width c =
    let den = c.ranges.den in
    let offset = c.ranges.offset in
    let cut : FitsSigned w64 c.thickness_of.result = search rules in
    let above : FitsSigned w64 c.thickness_of-above.result = search rules in
    let below : FitsSigned w64 c.opposite-below.result = search rules in
    let least : unsigned_abs c.opposite-below.result ≤ 40000000 = omega (arith, ints, c.opposite-below.ensures, c.thickness_of.ensures.from, c.thickness_of.ensures.to) in
    let most : unsigned_abs c.thickness_of-above.result ≤ 40000000 = omega (arith, ints, c.thickness_of-above.ensures.from, c.thickness_of-above.ensures.to) in
    let within = simp to_z-of_z at c.is_within.ensures in
    λ t. omega (arith, within_width _ _ c.args.den c.args.offset 40000000 c.requires.den least most (within.0 t))

pub is_within-requires : goal.is_within-requires
is_within-requires c =
    let den = c.ranges.den in
    record { den = simp to_z-of_z c.requires.den }
