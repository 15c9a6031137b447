use Rattle.std.proofs.Common.{◌*◌, ◌^◌, ◌<◌, FitsSigned, rules, arith}
use Rattle.std.specs.Prelude.{unsigned_abs}
use Rattle.std.specs.Int.{w128}
use Rattle.std.proofs.lemmas.Int.{ints, to_z-of_z}
use Rattle.algebra.proofs.Magnitudes.{fits_w128_add}
use Rattle.plan_rules.proofs.FitsLemmas.{amounts_of_fits}
use Rattle.plan_rules.proofs.rules.flows.earth_in.Goals as goal

pub plus-requires-2 : goal.plus-requires-2
plus-requires-2 c =
    let own : FitsSigned w128 c.amount_at-cut.result = search rules in
    let hauled : FitsSigned w128 c.hauled_in.result = search rules in
    let first : FitsSigned w128 c.plus.result = search rules in
    let access : FitsSigned w128 c.access_total-borrowed.result = search rules in
    let moderate : unsigned_abs c.amount_at-cut.result < 10 ^ 30 = rw c.amount_at-cut.ensures (c.requires.fits.cut c.args.stage c.args.number) in
    omega (arith, ints, c.hauled_in.ensures.width, c.access_total-borrowed.ensures.width, c.plus.ensures)

pub plus-requires : goal.plus-requires
plus-requires c =
    let own : FitsSigned w128 c.amount_at-cut.result = search rules in
    let hauled : FitsSigned w128 c.hauled_in.result = search rules in
    let moderate : unsigned_abs c.amount_at-cut.result < 10 ^ 30 = rw c.amount_at-cut.ensures (c.requires.fits.cut c.args.stage c.args.number) in
    simp to_z-of_z (fits_w128_add c.amount_at-cut.result c.hauled_in.result (10 ^ 30) (2 * 10 ^ 30) (omega arith) c.hauled_in.ensures.width (omega arith))

pub hauled_in-requires-clause-amounts : goal.hauled_in-requires-clause-amounts
hauled_in-requires-clause-amounts c = amounts_of_fits c.args.road.now c.args.plan.now c.requires.fits

pub returns : goal.returns
returns c =
    let own : FitsSigned w128 c.amount_at-cut.result = search rules in
    let hauled : FitsSigned w128 c.hauled_in.result = search rules in
    let first : FitsSigned w128 c.plus.result = search rules in
    let access : FitsSigned w128 c.access_total-borrowed.result = search rules in
    let whole : FitsSigned w128 c.plus-2.result = search rules in
    simp to_z-of_z (rw (simp to_z-of_z at c.plus.ensures, c.amount_at-cut.ensures, c.hauled_in.ensures.value, c.access_total-borrowed.ensures.value) at (simp to_z-of_z at c.plus-2.ensures))
