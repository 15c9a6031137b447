use Rattle.std.proofs.Common.{◌≡◌, length, List, [], ◌∷◌, ◌++◌, ap, FitsSigned, rules}
use Rattle.std.specs.Prelude.{ℤ}
use Rattle.std.specs.Int.{w64}
use Rattle.std.proofs.lemmas.Int.{to_z-of_z}
use Rattle.road_types.specs.Forms.{negated}
use Rattle.road_types.specs.RoadPrograms.{terms_of, lines_in}
use Rattle.road_types.specs.SectionForms.{volume_entries}
use Rattle.term_store.specs.declared.term.Term.{Term}
use Rattle.form_rows.specs.FormRows.{Grew}
use Rattle.form_rows.proofs.GrewLemmas.{grew_by, grew_more}
use Rattle.section_rows.proofs.RoomLemmas.{room_now, room_after, width_after, slope_small}
use Rattle.section_rows.proofs.volumes.lines_rows.Goals as goal

pub above_row-requires-clause-slope : goal.above_row-requires-clause-slope
above_row-requires-clause-slope c = slope_small c.section_slopes-slopes.result.least c.section_slopes-slopes.ensures.least_small

pub above_row-requires-clause-free : goal.above_row-requires-clause-free
above_row-requires-clause-free c = room_now (length c.args.rows.now.rows) 3 c.args.rows.now.room c.requires.free

pub below_row-requires-clause-slope : goal.below_row-requires-clause-slope
below_row-requires-clause-slope c = slope_small c.section_slopes-slopes.result.greatest c.section_slopes-slopes.ensures.greatest_small

pub below_row-requires-clause-free : goal.below_row-requires-clause-free
below_row-requires-clause-free c =
    let first = room_after c.args.rows.now c.above_row.new.rows _ 3 c.above_row.ensures c.requires.free in
    room_now (length c.above_row.new.rows.rows) 2 c.above_row.new.rows.room first

pub below_row-requires-clause-width : goal.below_row-requires-clause-width
below_row-requires-clause-width c = width_after c.args.rows.now c.above_row.new.rows _ _ c.above_row.ensures c.requires.width

pub below_row-requires-2-clause-slope : goal.below_row-requires-2-clause-slope
below_row-requires-2-clause-slope c = slope_small c.section_slopes-slopes.result.least c.section_slopes-slopes.ensures.least_small

pub below_row-requires-2-clause-free : goal.below_row-requires-2-clause-free
below_row-requires-2-clause-free c =
    let first = room_after c.args.rows.now c.above_row.new.rows _ 3 c.above_row.ensures c.requires.free in
    let second = room_after c.above_row.new.rows c.below_row.new.rows _ 2 c.below_row.ensures first in
    room_now (length c.below_row.new.rows.rows) 1 c.below_row.new.rows.room second

pub below_row-requires-2-clause-width : goal.below_row-requires-2-clause-width
below_row-requires-2-clause-width c =
    width_after c.above_row.new.rows c.below_row.new.rows _ _ c.below_row.ensures
    (width_after c.args.rows.now c.above_row.new.rows _ _ c.above_row.ensures c.requires.width)

pub above_row-requires-2-clause-slope : goal.above_row-requires-2-clause-slope
above_row-requires-2-clause-slope c = slope_small c.section_slopes-slopes.result.greatest c.section_slopes-slopes.ensures.greatest_small

pub above_row-requires-2-clause-free : goal.above_row-requires-2-clause-free
above_row-requires-2-clause-free c =
    let first = room_after c.args.rows.now c.above_row.new.rows _ 3 c.above_row.ensures c.requires.free in
    let second = room_after c.above_row.new.rows c.below_row.new.rows _ 2 c.below_row.ensures first in
    let third = room_after c.below_row.new.rows c.below_row-2.new.rows _ 1 c.below_row-2.ensures second in
    room_now (length c.below_row-2.new.rows.rows) 0 c.below_row-2.new.rows.room third

pub above_row-requires-2-clause-width : goal.above_row-requires-2-clause-width
above_row-requires-2-clause-width c =
    width_after c.below_row.new.rows c.below_row-2.new.rows _ _ c.below_row-2.ensures
    (width_after c.above_row.new.rows c.below_row.new.rows _ _ c.below_row.ensures
    (width_after c.args.rows.now c.above_row.new.rows _ _ c.above_row.ensures c.requires.width))

pub returns : goal.returns
returns c =
    let road = c.args.road.now in
    let i = c.args.section in
    let lines = lines_in road c.args.ranges.now.heights i in
    let found = c.section_slopes-slopes.result in
    let l : FitsSigned w64 c.section_slopes-slopes.result.least = search rules in
    let g : FitsSigned w64 c.section_slopes-slopes.result.greatest = search rules in
    let least : found.least ≡ lines.least = c.section_slopes-slopes.ensures.least in
    let greatest : found.greatest ≡ lines.greatest = c.section_slopes-slopes.ensures.greatest in
    let r0 = c.args.rows.now in
    let r1 = c.above_row.new.rows in
    let r2 = c.below_row.new.rows in
    let r3 = c.below_row-2.new.rows in
    let r4 = c.above_row-2.new.rows in
    let above : ℤ → List (List (Term ℤ)) = λ slope. terms_of road (volume_entries road i slope) ∷ [] in
    let below : ℤ → List (List (Term ℤ)) = λ slope. terms_of road (negated (volume_entries road i slope)) ∷ [] in
    let one : Grew r0 r1 (above found.least) = simp to_z-of_z at c.above_row.ensures in
    let two : Grew r1 r2 (below found.greatest) = simp to_z-of_z at c.below_row.ensures in
    let three : Grew r2 r3 (below found.least) = simp to_z-of_z at c.below_row-2.ensures in
    let four : Grew r3 r4 (above found.greatest) = simp to_z-of_z at c.above_row-2.ensures in
    let one' = grew_by r0 r1 (above found.least) (above lines.least) (ap above least) one in
    let two' = grew_by r1 r2 (below found.greatest) (below lines.greatest) (ap below greatest) two in
    let three' = grew_by r2 r3 (below found.least) (below lines.least) (ap below least) three in
    let four' = grew_by r3 r4 (above found.greatest) (above lines.greatest) (ap above greatest) four in
    grew_more r0 r3 r4 ((above lines.least ++ below lines.greatest) ++ below lines.least) (above lines.greatest)
    (grew_more r0 r2 r3 (above lines.least ++ below lines.greatest) (below lines.least)
    (grew_more r0 r1 r2 (above lines.least) (below lines.greatest) one' two') three') four'
