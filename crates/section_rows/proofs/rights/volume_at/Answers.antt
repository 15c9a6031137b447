use Rattle.std.proofs.Common.{◌≡◌, arith, FitsSigned, rules}
use Rattle.std.specs.Prelude.{pos}
use Rattle.std.specs.Int.{w64, w128}
use Rattle.std.proofs.lemmas.Int.{to_z-of_z, fits_signed_from_abs}
use Rattle.road_types.specs.Volumes.{net_volume}
use Rattle.section_rows.proofs.ScanLemmas.{net_span}
use Rattle.section_rows.proofs.rights.volume_at.Goals as goal

pub overflow_cast-result : goal.overflow_cast-result
overflow_cast-result c =
    let offset = c.ranges.offset in
    let from : c.from.result ≡ c.args.offset = simp to_z-of_z at c.from.ensures in
    let wide : FitsSigned w128 c.from.result = rw from (fits_signed_from_abs w128 c.args.offset (omega (arith, c.requires.offset))) in
    let s = c.args.section.now in
    let span = net_span s c.args.offset c.requires.cut c.requires.fill in
    let value : c.net_volume.result ≡ net_volume s.cut s.fill c.args.offset (pos 1) = rw from at (simp to_z-of_z at c.net_volume.ensures) in
    let fits : FitsSigned w128 c.net_volume.result = search rules in
    let narrow : FitsSigned w64 c.net_volume.result = rw value (fits_signed_from_abs w64 (net_volume s.cut s.fill c.args.offset (pos 1)) (omega arith)) in
    simp to_z-of_z narrow

pub returns-clause-value : goal.returns-clause-value
returns-clause-value c =
    let offset = c.ranges.offset in
    let from : c.from.result ≡ c.args.offset = simp to_z-of_z at c.from.ensures in
    let wide : FitsSigned w128 c.from.result = rw from (fits_signed_from_abs w128 c.args.offset (omega (arith, c.requires.offset))) in
    let s = c.args.section.now in
    let span = net_span s c.args.offset c.requires.cut c.requires.fill in
    let value : c.net_volume.result ≡ net_volume s.cut s.fill c.args.offset (pos 1) = rw from at (simp to_z-of_z at c.net_volume.ensures) in
    let fits : FitsSigned w128 c.net_volume.result = search rules in
    let narrow : FitsSigned w64 c.net_volume.result = rw value (fits_signed_from_abs w64 (net_volume s.cut s.fill c.args.offset (pos 1)) (omega arith)) in
    simp to_z-of_z value

pub returns-clause-small : goal.returns-clause-small
returns-clause-small c =
    let offset = c.ranges.offset in
    let from : c.from.result ≡ c.args.offset = simp to_z-of_z at c.from.ensures in
    let wide : FitsSigned w128 c.from.result = rw from (fits_signed_from_abs w128 c.args.offset (omega (arith, c.requires.offset))) in
    let s = c.args.section.now in
    let span = net_span s c.args.offset c.requires.cut c.requires.fill in
    let value : c.net_volume.result ≡ net_volume s.cut s.fill c.args.offset (pos 1) = rw from at (simp to_z-of_z at c.net_volume.ensures) in
    let fits : FitsSigned w128 c.net_volume.result = search rules in
    let narrow : FitsSigned w64 c.net_volume.result = rw value (fits_signed_from_abs w64 (net_volume s.cut s.fill c.args.offset (pos 1)) (omega arith)) in
    simp to_z-of_z (rw value (omega arith))
