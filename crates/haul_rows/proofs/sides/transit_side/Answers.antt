use Rattle.std.proofs.Common.{◌+◌, ◌-◌, ◌/◌, ◌%◌, ◌<◌, ◌≤◌, arith, ap, sym, ◌∙◌}
use Rattle.std.proofs.Math.Nat.{mod-lt}
use Rattle.algebra.specs.Lists.{list_to}
use Rattle.algebra.proofs.ListsLemmas.{length-list_to}
use Rattle.road_types.specs.HaulForms.{transit_form}
use Rattle.road_types.specs.Road.{block_count}
use Rattle.form_rows.specs.FormRows.{asked}
use Rattle.form_rows.proofs.PlaceLemmas.{list_at, flat_at}
use Rattle.haul_rows.proofs.sides.transit_side.Goals as goal

pub returns : goal.returns
returns c =
    let road = c.args.road.now in
    let wide : 1 ≤ road.stages = c.requires.accepted.well_formed.counted.stages_from in
    let here = flat_at (λ k. list_to (transit_form road k) road.stages) (block_count road) (road.stages) c.args.row (λ k low high. length-list_to (transit_form road k) (road.stages)) wide c.requires.row in
    let k = (c.args.row - 1) / (road.stages) + 1 in
    let p = (c.args.row - 1) % (road.stages) + 1 in
    let positive : 0 < road.stages = omega arith in
    let small : (c.args.row - 1) % (road.stages) < road.stages = mod-lt (c.args.row - 1) positive in
    let inside = list_at (transit_form road k) (road.stages) p (record { from_one = omega arith; at_most = omega arith }) in
    sym (ap asked (here ∙ inside))
