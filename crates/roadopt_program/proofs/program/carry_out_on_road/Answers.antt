use Rattle.roadopt_program.specs.inside.Called.{road_called}
use Rattle.roadopt_program.proofs.RunLaws.{carried_on_road}
use Rattle.roadopt_program.proofs.program.carry_out_on_road.Goals as goal

pub returns-in-Ok-clause-outcome : goal.returns-in-Ok-clause-outcome
returns-in-Ok-clause-outcome g c =
    carried_on_road (g.S.Store.files c.args.store.now) (g.S.Store.files c.end_of_command.new.store) (g.S.Store.files c.finish-status.new.store)
    (road_called c.args.command.now)
    (g.S.Store.read_faults c.args.store.now) (g.S.Store.read_faults c.end_of_command.new.store) (g.S.Store.read_faults c.finish-status.new.store)
    (g.S.Store.write_faults c.args.store.now) (g.S.Store.write_faults c.end_of_command.new.store) (g.S.Store.write_faults c.finish-status.new.store)
    _ _ c.handed_out.result.status c.finish-status.result c.in-Ok.made c.handed_out.result.cert c.handed_out.result.notes
    c.in-Ok.ensures.made c.end_of_command.ensures.files c.finish-status.ensures.reads c.end_of_command.ensures.writes (rw c.name_written.ensures at c.finish-status.ensures.finishes)
    c.handed_out.ensures.status c.handed_out.ensures.cert c.handed_out.ensures.notes
