use Rattle.std.proofs.Common.{rules, Ok, Err}
use Rattle.roadopt_program.specs.CommandWords.{RoadCommand}
use Rattle.roadopt_program.specs.inside.Called.{road_called}
use Rattle.roadopt_program.specs.inside.Outcomes.{IsRoadRead}
use Rattle.roadopt_program.proofs.CommandLemmas.{all_made_on_road, made_early}
use Rattle.roadopt_program.proofs.commands.end_of_command.Goals as goal

pub returns-in-Ok-clause-made : goal.returns-in-Ok-clause-made
returns-in-Ok-clause-made g c =
    let told = g.S.Store.files c.args.store.now in
    let command : RoadCommand = road_called c.args.command.now in
    let before = g.S.Store.read_faults c.args.store.now in
    let between = g.S.Store.read_faults c.find_road.new.store in
    let read : IsRoadRead told command.road before between (Ok c.in-Ok.road) = search rules in
    all_made_on_road told (g.S.Store.files c.find_road.new.store) command before between (g.S.Store.read_faults c.end_on_road.new.store) c.in-Ok.road c.end_on_road.result
    c.find_road.ensures.files read c.end_on_road.ensures.made

pub returns-in-Err-clause-made : goal.returns-in-Err-clause-made
returns-in-Err-clause-made g c =
    let told = g.S.Store.files c.args.store.now in
    let command : RoadCommand = road_called c.args.command.now in
    let before = g.S.Store.read_faults c.args.store.now in
    let now = g.S.Store.read_faults c.find_road.new.store in
    let read : IsRoadRead told command.road before now (Err c.in-Err.ending) = search rules in
    made_early told command before now c.in-Err.ending c.unsearched.result read c.unsearched.ensures.found c.unsearched.ensures.end
