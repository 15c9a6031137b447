use Rattle.std.proofs.Common.{◌≡◌, ◌+◌, [], ◌∷◌, ◌++◌, arith, ap, ◌∙◌}
use Rattle.algebra.specs.Lists.{flat_to}
use Rattle.road_types.specs.RoadPrograms.{terms_of}
use Rattle.road_types.specs.declared.column.Column.TheVariants.{Cut, Fill}
use Rattle.std.proofs.lemmas.Int.{to_z-of_z}
use Rattle.form_rows.proofs.GrewLemmas.{terms_steps}
use Rattle.section_rows.proofs.volumes.add_moved.Goals as goal

pub add_all-requires-clause-room : goal.add_all-requires-clause-room
add_all-requires-clause-room c = omega (arith, c.requires.accepted.well_formed.counted.stages_to)

pub loop-before-preserved : goal.loop-before-preserved
loop-before-preserved c =
    let road = c.args.road.now in
    let cut = c.ranges.cut in
    let fill = c.ranges.fill in
    let at = c.loop-before.before in
    let step : c.add_all.new.self ≡ c.loop-before.row ++ terms_of road ((Cut c.args.section (at + 1), c.args.cut) ∷ (Fill c.args.section (at + 1), c.args.fill) ∷ []) =
    simp to_z-of_z at c.add_all.ensures.terms in
    record {
      terms = simp to_z-of_z (terms_steps road (λ t. (Cut c.args.section t, c.args.cut) ∷ (Fill c.args.section t, c.args.fill) ∷ []) at c.args.row.now c.loop-before.row c.add_all.new.self (simp to_z-of_z at c.loop-before.invariant.terms) step);
      few = omega (arith, c.add_all.ensures.few);
    }

pub returns : goal.returns
returns c =
    let road = c.args.road.now in
    let cut = c.ranges.cut in
    let fill = c.ranges.fill in
    let all : c.loop-before.before ≡ road.stages = omega arith in
    (simp to_z-of_z at c.loop-before.invariant.terms) ∙ ap (λ n. c.args.row.now ++ terms_of road (flat_to (λ t. (Cut c.args.section t, c.args.cut) ∷ (Fill c.args.section t, c.args.fill) ∷ []) n)) all
