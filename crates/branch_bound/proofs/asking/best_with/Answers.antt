use Rattle.std.proofs.Common.{FitsSigned, ◌+◌}
use Rattle.std.specs.Int.{w128}
use Rattle.std.proofs.lemmas.Int.{to_z-of_z}
use Rattle.road_points.specs.Shown.{IsExactAt}
use Rattle.branch_bound.specs.inside.Splitting.{IsAskedHeight}
use Rattle.branch_bound.proofs.AskingLemmas.{best_kept, best_next}
use Rattle.branch_bound.proofs.asking.best_with.Goals as goal

pub returns-then-is_exact : goal.returns-then-is_exact
returns-then-is_exact c =
    let fits : FitsSigned w128 c.args.den = c.ranges.den in
    let exact : IsExactAt c.args.road.now c.args.den c.args.point.now (c.args.before + 1) = simp to_z-of_z at (c.is_exact.ensures.0 c.if-is_exact.true) in
    best_kept c.args.road.now c.args.range.now c.args.den c.args.point.now c.args.before c.args.best c.requires.best exact

pub returns : goal.returns
returns c =
    let fits : FitsSigned w128 c.args.den = c.ranges.den in
    let next : IsAskedHeight c.args.road.now c.args.range.now c.args.den c.args.point.now c.candidate_at.result = simp to_z-of_z at c.candidate_at.ensures in
    best_next c.args.road.now c.args.range.now c.args.den c.args.point.now c.args.before c.args.best c.candidate_at.result c.better_of.result
    c.requires.best next c.better_of.ensures
