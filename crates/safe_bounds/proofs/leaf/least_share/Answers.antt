use Rattle.std.proofs.Common.{rules}
use Rattle.std.specs.Prelude.{FitsSigned}
use Rattle.std.specs.Int.{w64, w128}
use Rattle.std.proofs.lemmas.Int.{to_z-of_z}
use Rattle.programs.specs.Programs.{bounds_at}
use Rattle.safe_bounds.proofs.StepWidths.{share_fits, low_in_reach, high_in_reach}
use Rattle.safe_bounds.proofs.leaf.least_share.Goals as goal

pub times-at_low-requires : goal.times-at_low-requires
times-at_low-requires c =
    let word : FitsSigned w64 c.bounds-low.result.0 = search rules in
    let reduced : FitsSigned w128 c.args.reduced = c.ranges.reduced in
    let wide : FitsSigned w128 c.from.result = search rules in
    let value = simp to_z-of_z at c.from.ensures in
    simp to_z-of_z
    (share_fits c.args.reduced c.from.result (bounds_at c.args.milp.now c.args.j) c.requires.width
    (low_in_reach c.from.result c.bounds-low.result (bounds_at c.args.milp.now c.args.j) value c.bounds-low.ensures))

pub times-at_high-requires : goal.times-at_high-requires
times-at_high-requires c =
    let word : FitsSigned w64 c.bounds-low.result.1 = search rules in
    let reduced : FitsSigned w128 c.args.reduced = c.ranges.reduced in
    let wide : FitsSigned w128 c.from-2.result = search rules in
    let value = simp to_z-of_z at c.from-2.ensures in
    simp to_z-of_z
    (share_fits c.args.reduced c.from-2.result (bounds_at c.args.milp.now c.args.j) c.requires.width
    (high_in_reach c.from-2.result c.bounds-low.result (bounds_at c.args.milp.now c.args.j) value c.bounds-low.ensures))
