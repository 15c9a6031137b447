use Rattle.std.proofs.Common.{◌≡◌, max}
use Rattle.std.specs.Prelude.{FitsSigned, unsigned_abs}
use Rattle.std.specs.Int.{w128}
use Rattle.std.proofs.lemmas.Int.{to_z-of_z}
use Rattle.safe_bounds.specs.inside.Magnitudes.{greatest_magnitude}
use Rattle.safe_bounds.proofs.NarrowingLemmas.{least_for_all}
use Rattle.safe_bounds.proofs.narrowing.least_shift.Goals as goal

pub returns-clause-least : goal.returns-clause-least
returns-clause-least c =
    let scale : FitsSigned w128 c.args.scale = c.ranges.scale in
    let magnitude = simp to_z-of_z at c.unsigned_abs.ensures.value in
    let greatest : c.max.result ≡ max (unsigned_abs c.args.scale) (greatest_magnitude c.args.mults.now) = cc in
    least_for_all c.bits_above.result c.max.result c.args.scale c.args.mults.now greatest c.bits_above.ensures.enough c.bits_above.ensures.least
