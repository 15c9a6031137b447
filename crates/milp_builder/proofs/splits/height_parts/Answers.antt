use Rattle.std.specs.Prelude.{FitsSigned}
use Rattle.std.proofs.Common.{rules, ap, sym, refl, ◌∙◌, length}
use Rattle.std.specs.Int.{w64}
use Rattle.std.proofs.lemmas.Int.{to_z-of_z}
use Rattle.road_types.specs.Road.{section_count}
use Rattle.milp_builder.specs.Parts.{with_height_range}
use Rattle.milp_builder.proofs.Cover.{pair_is, number_along}
use Rattle.milp_builder.proofs.splits.height_parts.Goals as goal

pub with_height_range-requires-2 : goal.with_height_range-requires-2
with_height_range-requires-2 c =
    let splits = c.if-not-splits_offsets.ensures.0 refl in
    number_along c.args.section (section_count c.args.road.now) (length c.args.range.now.heights) (sym c.requires.fits.heights_count) splits.number

pub returns : goal.returns
returns c =
    let box = c.args.range.now in
    let at = c.ranges.at in
    let low : FitsSigned w64 c.height_range-low.result.0 = search rules in
    let high : FitsSigned w64 c.height_range-low.result.1 = search rules in
    let range = c.height_range-low.ensures in
    let splits = simp to_z-of_z at c.if-not-splits_offsets.ensures in
    let first = simp to_z-of_z at c.in_ok-first.ensures in
    let second = simp to_z-of_z at c.in_ok-second.ensures in (
      splits.0 refl,
      pair_is _ _ _ _
          (first ∙ ap (λ r. with_height_range box c.args.section (r.0, c.args.at)) range)
          (second ∙ ap (λ r. with_height_range box c.args.section (c.args.at, r.1)) range),
    )
