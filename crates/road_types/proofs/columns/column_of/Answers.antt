use Rattle.road_types.proofs.ColumnPlaces.{kinds_found}
use Rattle.std.proofs.Common.{sym}
use Rattle.road_types.proofs.columns.column_of.Goals as goal

pub returns-clause-kinds : goal.returns-clause-kinds
returns-clause-kinds c = kinds_found c.args.road.now c.args.kind c.number_of.result (sym c.number_of.ensures.value)
