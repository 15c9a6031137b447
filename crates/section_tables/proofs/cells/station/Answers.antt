use Rattle.std.proofs.Common.{rules, ◌≡◌, Some, FitsSigned}
use Rattle.std.specs.Int.{w64}
use Rattle.std.proofs.lemmas.Int.{to_z-of_z}
use Rattle.road_types.specs.RecordFaults.{is_station}
use Rattle.section_tables.specs.Cells.{number_in}
use Rattle.section_tables.specs.inside.Narrow.{is_narrow}
use Rattle.section_tables.proofs.NumbersLemmas.{narrow_first}
use Rattle.section_tables.proofs.cells.station.Goals as goal

pub returns : goal.returns
returns c =
    let said : number_in is_narrow c.args.cell.now ≡ Some c.in_ok-number.number = search rules in
    let fits : FitsSigned w64 c.in_ok-number.number = search rules in
    let test = simp to_z-of_z at c.is_station.ensures in
    rw (narrow_first is_station c.args.cell.now c.in_ok-number.number said, ← test) (simp to_z-of_z at c.keep.ensures)
