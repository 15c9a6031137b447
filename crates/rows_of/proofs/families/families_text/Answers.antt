use Rattle.std.proofs.Common.{◌≡◌, List, subst, sym}
use Rattle.std.specs.Prelude.{ℤ}
use Rattle.road_types.specs.Ranges.{AreHeightRanges}
use Rattle.road_types.proofs.AcceptedRoad.{IsAccepted-from_fault}
use Rattle.milp_builder.proofs.BoxLaws.{height_ranges}
use Rattle.rows_of.proofs.families.families_text.Goals as goal

pub rows_for_sections-requires-clause-accepted : goal.rows_for_sections-requires-clause-accepted
rows_for_sections-requires-clause-accepted c = IsAccepted-from_fault c.args.road.now c.requires.accepted

pub rows_for_hauls-requires-clause-accepted : goal.rows_for_hauls-requires-clause-accepted
rows_for_hauls-requires-clause-accepted c = IsAccepted-from_fault c.args.road.now c.requires.accepted

pub rows_for_sections-requires-clause-ranges : goal.rows_for_sections-requires-clause-ranges
rows_for_sections-requires-clause-ranges c =
    let heights : c.new.result ≡ c.args.range.now.heights = cc (c.new.ensures, c.in_ok-heights.ensures.items, c.as_slice.ensures) in
    subst (λ (h : List (ℤ × ℤ)). AreHeightRanges c.args.road.now h) (sym heights) (height_ranges c.args.road.now c.args.range.now c.requires.fits)
