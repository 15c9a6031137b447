use Rattle.std.proofs.lemmas.Int.{to_z-of_z}
use Rattle.report.proofs.WidthsLemmas.{metres_fit}
use Rattle.report.proofs.entries.product.Goals as goal

pub overflow_mul-result : goal.overflow_mul-result
overflow_mul-result c =
    let station = c.ranges.station in
    let step = c.ranges.step in
    simp to_z-of_z (metres_fit c.args.station c.args.step c.requires.station c.requires.step)
