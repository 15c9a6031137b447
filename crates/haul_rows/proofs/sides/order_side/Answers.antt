use Rattle.std.proofs.Common.{ℕ, zero, suc, ◌+◌, ◌-◌, ◌*◌, ◌/◌, ◌%◌, ◌<◌, ◌≤◌, arith, ap, sym, ◌∙◌}
use Rattle.std.proofs.Math.Nat.{mod-lt}
use Rattle.algebra.specs.Lists.{list_to}
use Rattle.algebra.proofs.ListsLemmas.{length-list_to}
use Rattle.road_types.specs.HaulForms.{order_form}
use Rattle.road_types.specs.Road.{block_count}
use Rattle.form_rows.specs.FormRows.{asked}
use Rattle.form_rows.proofs.PlaceLemmas.{list_at, flat_at}
use Rattle.haul_rows.proofs.sides.order_side.Goals as goal

-- a product of at least 1 has a factor of at least 1
some_width : (n w at : ℕ) → 1 ≤ at → at ≤ n * w → 1 ≤ w
some_width n zero at low high = absurd (omega arith)
some_width n (suc w) at low high = omega arith

pub returns : goal.returns
returns c =
    let road = c.args.road.now in
    let wide : 1 ≤ (road.stages - 2) = some_width (block_count road) (road.stages - 2) c.args.row c.requires.row.from_one c.requires.row.at_most in
    let here = flat_at (λ k. list_to (λ before. order_form road k (before + 1)) (road.stages - 2)) (block_count road) ((road.stages - 2)) c.args.row (λ k low high. length-list_to (λ before. order_form road k (before + 1)) ((road.stages - 2))) wide c.requires.row in
    let k = (c.args.row - 1) / ((road.stages - 2)) + 1 in
    let p = (c.args.row - 1) % ((road.stages - 2)) + 1 in
    let positive : 0 < (road.stages - 2) = omega arith in
    let small : (c.args.row - 1) % ((road.stages - 2)) < (road.stages - 2) = mod-lt (c.args.row - 1) positive in
    let inside = list_at (λ before. order_form road k (before + 1)) ((road.stages - 2)) p (record { from_one = omega arith; at_most = omega arith }) in
    sym (ap asked (here ∙ inside))
