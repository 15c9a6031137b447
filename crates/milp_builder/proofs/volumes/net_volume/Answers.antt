use Rattle.std.proofs.Common.{◌∙◌, FitsSigned, rules}
use Rattle.std.specs.Int.{w128}
use Rattle.std.proofs.lemmas.Int.{to_z-of_z}
use Rattle.milp_builder.proofs.volumes.net_volume.Goals as goal

pub returns : goal.returns
returns c =
    let den = c.ranges.den in
    let offset = c.ranges.offset in
    let net : FitsSigned w128 c.minus.result = search rules in
    let filled : FitsSigned w128 c.table_volume-filled.result = search rules in
    let cut : FitsSigned w128 c.table_volume-cut.result = search rules in
    let above : FitsSigned w128 c.above_ground.result = search rules in
    let below : FitsSigned w128 c.below_ground.result = search rules in
    let fill_is = rw (c.as_slice.ensures, simp to_z-of_z at c.above_ground.ensures.value) at (simp to_z-of_z at c.table_volume-filled.ensures.value) in
    let cut_is = rw (c.as_slice-2.ensures, simp to_z-of_z at c.below_ground.ensures.value) at (simp to_z-of_z at c.table_volume-cut.ensures.value) in
    to_z-of_z w128 _ net ∙ rw (fill_is, cut_is) at (simp to_z-of_z at c.minus.ensures)
