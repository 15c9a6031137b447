use Rattle.std.proofs.Common.{rules, FitsSigned, arith}
use Rattle.std.specs.Prelude.{◌*ℤ◌}
use Rattle.std.specs.Int.{w64, w128}
use Rattle.std.proofs.lemmas.Int.{to_z-of_z}
use Rattle.algebra.proofs.Magnitudes.{fits_w128}
use Rattle.plan_rules.proofs.HeightWidths.{ground_width}
use Rattle.plan_rules.proofs.heights.ground_over.Goals as goal

pub times-requires : goal.times-requires
times-requires c =
    let height = c.args.section.now.ground in
    let width = ground_width c.args.den height c.requires.den c.requires.ground in
    let fits = fits_w128 (c.args.den *ℤ height) (omega (arith, width)) in
    let den = c.ranges.den in
    let ground : FitsSigned w64 height = search rules in
    let wide : FitsSigned w128 c.from.result = search rules in
    let from = simp to_z-of_z at c.from.ensures in
    simp to_z-of_z (rw from fits)

pub returns-clause-value : goal.returns-clause-value
returns-clause-value c =
    let den = c.ranges.den in
    let ground : FitsSigned w64 c.args.section.now.ground = search rules in
    let wide : FitsSigned w128 c.from.result = search rules in
    let product : FitsSigned w128 c.times.result = search rules in
    simp to_z-of_z (rw (simp to_z-of_z at c.from.ensures) at (simp to_z-of_z at c.times.ensures))

pub returns-clause-width : goal.returns-clause-width
returns-clause-width c =
    let height = c.args.section.now.ground in
    let den = c.ranges.den in
    let ground : FitsSigned w64 height = search rules in
    let wide : FitsSigned w128 c.from.result = search rules in
    let product : FitsSigned w128 c.times.result = search rules in
    let value = rw (simp to_z-of_z at c.from.ensures) at (simp to_z-of_z at c.times.ensures) in
    simp to_z-of_z (rw value (ground_width c.args.den height c.requires.den c.requires.ground))
