use Rattle.std.proofs.Common.{◌+◌, ◌-◌, ◌*◌, ◌/◌, ◌%◌, arith, ap, sym, ◌∙◌, refl, FitsSigned, rules}
use Rattle.std.specs.Prelude.{neg_ℤ}
use Rattle.std.specs.Int.{w64}
use Rattle.std.proofs.lemmas.Int.{ints, to_z-of_z}
use Rattle.algebra.specs.Numbered.{IsNumber}
use Rattle.road_types.specs.Forms.{negated, between_forms}
use Rattle.road_types.specs.Road.{fixed_point, fixed_count}
use Rattle.road_types.specs.SectionForms.{station_entries}
use Rattle.road_types.specs.declared.road.Fixed.{Fixed}
use Rattle.term_store.specs.declared.side.Side.TheVariants.{AtLeast}
use Rattle.form_rows.specs.FormRows.{asked}
use Rattle.form_rows.proofs.PlaceLemmas.{flat_at, pair_first, pair_second, below_two}
use Rattle.section_rows.proofs.sides.fixed_side.Goals as goal

pub opposite-requires : goal.opposite-requires
opposite-requires c =
    let road = c.args.road.now in
    let n : IsNumber ((c.args.row - 1) / 2 + 1) (fixed_count road) = record { from_one = omega arith; at_most = omega (arith, c.requires.row.from_one, c.requires.row.at_most) } in
    let point = c.requires.accepted.well_formed.fixed ((c.args.row - 1) / 2 + 1) n in
    let same = ap (λ (x : Fixed). x.high) c.fixed_point-point.ensures in
    let high : FitsSigned w64 c.fixed_point-point.result.high = search rules in
    simp to_z-of_z (rw same (omega (arith, ints, point.high.at_least, point.high.at_most)))

pub returns-then-row-eq0 : goal.returns-then-row-eq0
returns-then-row-eq0 c =
    let road = c.args.road.now in
    let at : IsNumber c.args.row (fixed_count road * 2) = record { from_one = c.requires.row.from_one; at_most = omega (arith, c.requires.row.at_most) } in
    let g = (c.args.row - 1) / 2 + 1 in
    let here = flat_at (λ f. between_forms (station_entries road (fixed_point road f).station) (fixed_point road f).low (fixed_point road f).high) (fixed_count road) 2 c.args.row (λ k low high. refl) (omega arith) at in
    let form = ap asked (here ∙ pair_first (record { entries = station_entries road (fixed_point road g).station; side = AtLeast; right = (fixed_point road g).low }) (record { entries = negated (station_entries road (fixed_point road g).station); side = AtLeast; right = neg_ℤ (fixed_point road g).high }) ((c.args.row - 1) % 2) (omega arith)) in
    let fits : FitsSigned w64 c.fixed_point-point.result.low = search rules in
    let right = ap (λ (x : Fixed). x.low) c.fixed_point-point.ensures in
    simp to_z-of_z (rw right (sym form))

pub returns-else-row-eq0 : goal.returns-else-row-eq0
returns-else-row-eq0 c =
    let road = c.args.road.now in
    let at : IsNumber c.args.row (fixed_count road * 2) = record { from_one = c.requires.row.from_one; at_most = omega (arith, c.requires.row.at_most) } in
    let g = (c.args.row - 1) / 2 + 1 in
    let here = flat_at (λ f. between_forms (station_entries road (fixed_point road f).station) (fixed_point road f).low (fixed_point road f).high) (fixed_count road) 2 c.args.row (λ k low high. refl) (omega arith) at in
    let form = ap asked (here ∙ pair_second (record { entries = station_entries road (fixed_point road g).station; side = AtLeast; right = (fixed_point road g).low }) (record { entries = negated (station_entries road (fixed_point road g).station); side = AtLeast; right = neg_ℤ (fixed_point road g).high }) ((c.args.row - 1) % 2) (below_two (c.args.row - 1)) (λ e. omega arith)) in
    let fits : FitsSigned w64 c.opposite.result = search rules in
    let high : FitsSigned w64 c.fixed_point-point.result.high = search rules in
    let point = ap (λ (x : Fixed). x.high) c.fixed_point-point.ensures in
    let right = rw point at (simp to_z-of_z at c.opposite.ensures.value) in
    simp to_z-of_z (rw right (sym form))
