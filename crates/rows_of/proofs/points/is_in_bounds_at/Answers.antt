use Rattle.std.proofs.Common.{rules, FitsSigned}
use Rattle.std.specs.Int.{w64, w128}
use Rattle.std.proofs.lemmas.Int.{to_z-of_z}
use Rattle.rows_of.proofs.PointsLemmas.{in_bounds_at}
use Rattle.rows_of.proofs.points.is_in_bounds_at.Goals as goal

pub returns : goal.returns
returns c = λ h.
    let den : FitsSigned w128 c.args.den = c.ranges.den in
    let low : FitsSigned w64 c.bounds-low.result.0 = search rules in
    let high : FitsSigned w64 c.bounds-low.result.1 = search rules in
    let least : FitsSigned w128 c.in-Some.least = search rules in
    let greatest : FitsSigned w128 c.in-Some-product.greatest = search rules in
    let at : FitsSigned w128 c.numerator.result = search rules in
    let l = simp to_z-of_z at c.in-Some.ensures in
    let g = simp to_z-of_z at c.in-Some-product.ensures in
    let both = simp to_z-of_z at (c.is_between.ensures h) in
    in_bounds_at c.args.milp.now c.args.den c.args.point.now c.args.j c.bounds-low.result c.in-Some.least c.numerator.result c.in-Some-product.greatest
    c.bounds-low.ensures l g c.numerator.ensures both
