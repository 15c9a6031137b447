use Rattle.std.proofs.Common.{◌+◌, ◌-◌, ◌/◌, ◌%◌, ◌<◌, ◌≤◌, arith, ap, sym, ◌∙◌}
use Rattle.std.proofs.Math.Nat.{mod-lt}
use Rattle.algebra.specs.Lists.{list_to}
use Rattle.algebra.proofs.ListsLemmas.{length-list_to}
use Rattle.road_types.specs.HaulForms.{balance_form}
use Rattle.road_types.specs.Road.{section_count}
use Rattle.form_rows.specs.FormRows.{asked}
use Rattle.form_rows.proofs.PlaceLemmas.{list_at, flat_at}
use Rattle.haul_rows.proofs.sides.balance_side.Goals as goal

pub returns : goal.returns
returns c =
    let road = c.args.road.now in
    let wide : 1 ≤ section_count road = c.requires.accepted.well_formed.counted.sections_from in
    let here = flat_at (λ t. list_to (balance_form road t) (section_count road)) (road.stages) (section_count road) c.args.row (λ k low high. length-list_to (balance_form road k) (section_count road)) wide c.requires.row in
    let k = (c.args.row - 1) / (section_count road) + 1 in
    let p = (c.args.row - 1) % (section_count road) + 1 in
    let positive : 0 < section_count road = omega arith in
    let small : (c.args.row - 1) % (section_count road) < section_count road = mod-lt (c.args.row - 1) positive in
    let inside = list_at (balance_form road k) (section_count road) p (record { from_one = omega arith; at_most = omega arith }) in
    sym (ap asked (here ∙ inside))
