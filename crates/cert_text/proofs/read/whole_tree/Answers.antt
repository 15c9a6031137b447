use Rattle.std.proofs.Common.{arith, ap}
use Rattle.road_types.proofs.AcceptedRoad.{IsAccepted-from_fault}
use Rattle.cert_text.specs.Steps.{TreesDue}
use Rattle.cert_text.proofs.read.whole_tree.Goals as goal

pub row_count-rows-requires : goal.row_count-rows-requires
row_count-rows-requires c = (IsAccepted-from_fault c.args.road.now c.requires).well_formed.counted

pub tree-requires-clause-rows : goal.tree-requires-clause-rows
tree-requires-clause-rows c =
    let few = (IsAccepted-from_fault c.args.road.now c.requires).rows in
    let is = c.row_count-rows.ensures.value in
    let rows_are = ap (λ (due : TreesDue). due.rows) c.over-reader.ensures in
    omega (arith, few, is, rows_are)
