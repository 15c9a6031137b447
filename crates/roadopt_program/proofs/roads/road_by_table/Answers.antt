use Rattle.std.proofs.Common.{Some}
use Rattle.roadopt_program.specs.Inputs.{IsGiven, road_limit}
use Rattle.roadopt_program.proofs.RoadsLemmas.{made_by_table}
use Rattle.roadopt_program.proofs.roads.road_by_table.Goals as goal

pub returns-in_ok-make_road-in-Some-clause-made : goal.returns-in_ok-make_road-in-Some-clause-made
returns-in_ok-make_road-in-Some-clause-made g c =
    let told = g.S.Store.files c.args.store.now in
    let csv = c.in-Some.csv.items in
    let given : IsGiven told c.args.name.now road_limit (Some csv) = rw (← c.road_limit.ensures.value) (rw c.in-Some.is at c.in_ok-csv.ensures.given) in
    made_by_table told c.args.bytes.now c.args.name.now csv c.in_ok-make_road-in-Some.field-0 c.requires given (rw c.as_slice.ensures.value at c.in_ok-make_road-in-Some.ensures.makes)
