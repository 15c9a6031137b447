use Rattle.std.proofs.Common.{ap, sym, FitsSigned, rules}
use Rattle.std.specs.Int.{w64}
use Rattle.std.proofs.lemmas.Int.{to_z-of_z}
use Rattle.road_types.specs.HaulForms.{pit_form}
use Rattle.road_types.specs.Road.{pit_count}
use Rattle.form_rows.specs.FormRows.{asked}
use Rattle.form_rows.proofs.PlaceLemmas.{list_at}
use Rattle.haul_rows.proofs.sides.pit_side.Goals as goal

pub returns : goal.returns
returns c =
    let road = c.args.road.now in
    let fits : FitsSigned w64 c.opposite.result = search rules in
    let cap : FitsSigned w64 c.pit_capacity.result = search rules in
    let right = rw c.pit_capacity.ensures.value at (simp to_z-of_z at c.opposite.ensures) in
    let form = ap asked (list_at (pit_form road) (pit_count road) c.args.row c.requires.row) in
    simp to_z-of_z (rw right (sym form))
