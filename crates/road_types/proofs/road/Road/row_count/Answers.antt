use Rattle.std.proofs.Common.{arith}
use Rattle.road_types.proofs.FormCounts.{length-forms_of}
use Rattle.road_types.proofs.road.Road.row_count.Goals as goal

pub returns-clause-rows : goal.returns-clause-rows
returns-clause-rows c =
    λ lines. omega (arith, length-forms_of c.args.self.now lines, c.section_row_count.ensures.value, c.haul_row_count.ensures.value)
