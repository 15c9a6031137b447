use Rattle.std.proofs.Common.{◌^◌, FitsSigned, rules, arith}
use Rattle.std.specs.Int.{w64}
use Rattle.std.proofs.lemmas.Int.{to_z-of_z}
use Rattle.road_types.specs.Road.{section}
use Rattle.section_rows.proofs.RoomLemmas.{number_small, below_line}
use Rattle.section_rows.proofs.rights.below_greatest.Goals as goal

pub section_volume-volume-requires-clause-offset : goal.section_volume-volume-requires-clause-offset
section_volume-volume-requires-clause-offset c = number_small c.lower_end-end.result 40000000 40000000 c.lower_end-end.ensures.small (omega arith) (omega arith)

pub product-line-requires-clause-slope : goal.product-line-requires-clause-slope
product-line-requires-clause-slope c = number_small c.section_slopes.result.greatest (2 ^ 24) (2 ^ 24) c.section_slopes.ensures.greatest_small (omega arith) (omega arith)

pub product-line-requires-clause-offset : goal.product-line-requires-clause-offset
product-line-requires-clause-offset c = number_small c.lower_end-end.result 40000000 (2 ^ 26) c.lower_end-end.ensures.small (omega arith) (omega arith)

pub difference-requires-clause-a : goal.difference-requires-clause-a
difference-requires-clause-a c = number_small c.product-line.result (2 ^ 50) (2 ^ 50) c.product-line.ensures.small (omega arith) (omega arith)

pub difference-requires-clause-b : goal.difference-requires-clause-b
difference-requires-clause-b c = number_small c.section_volume-volume.result (2 ^ 50) (2 ^ 50) c.section_volume-volume.ensures.small (omega arith) (omega arith)

pub returns : goal.returns
returns c =
    let fits : FitsSigned w64 c.difference.result = search rules in
    simp to_z-of_z (below_line (section c.args.road.now c.args.section) c.section_slopes.result.greatest c.lower_end-end.result c.section_volume-volume.result c.product-line.result c.difference.result _ _
    c.section_slopes.ensures.greatest_small c.lower_end-end.ensures.small c.section_volume-volume.ensures.small c.product-line.ensures.small
    c.section_slopes.ensures.greatest c.lower_end-end.ensures.value c.section_volume-volume.ensures.value c.product-line.ensures.value c.difference.ensures)
