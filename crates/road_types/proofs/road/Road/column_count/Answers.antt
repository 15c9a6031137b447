use Rattle.std.proofs.Common.{arith}
use Rattle.road_types.proofs.ColumnPlaces.{length-columns_of}
use Rattle.road_types.proofs.road.Road.column_count.Goals as goal

pub returns-clause-columns : goal.returns-clause-columns
returns-clause-columns c = omega (arith, length-columns_of c.args.self.now, c.blocks_before.ensures.value, rw c.len.ensures at c.product.ensures.value)
