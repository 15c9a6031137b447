use Rattle.std.proofs.Common.{Some}
use Rattle.roadopt_program.specs.CommandWords.{RoadCommand}
use Rattle.roadopt_program.specs.Inputs.{IsGiven}
use Rattle.roadopt_program.specs.inside.Called.{road_called}
use Rattle.roadopt_program.proofs.CommandLemmas.{made_of_bytes}
use Rattle.roadopt_program.proofs.commands.end_on_road.Goals as goal

pub returns-in_ok-made_over_bytes-in-Some-2-clause-made : goal.returns-in_ok-made_over_bytes-in-Some-2-clause-made
returns-in_ok-made_over_bytes-in-Some-2-clause-made g c =
    let told = g.S.Store.files c.args.store.now in
    let command : RoadCommand = road_called c.args.command.now in
    let bytes = c.in-Some-2.bytes.items in
    let given : IsGiven told command.other c.in-Some.limit (Some bytes) = rw c.in-Some-2.is at c.in_ok-bytes.ensures.given in
    made_of_bytes told command c.args.road.now c.in-Some.limit bytes c.in_ok-made_over_bytes-in-Some-2.field-0
    c.in-Some.ensures.value given (rw c.as_slice.ensures.value at c.in_ok-made_over_bytes-in-Some-2.ensures)
