use Rattle.std.proofs.Common.{◌≡◌, [], length, arith, ap, ◌∙◌}
use Rattle.algebra.specs.Lists.{list_to, flat_to}
use Rattle.road_types.specs.HaulForms.{taken}
use Rattle.road_types.specs.Road.{access_count}
use Rattle.road_types.specs.RoadPrograms.{terms_of}
use Rattle.road_types.specs.declared.column.Column.TheVariants.{Access}
use Rattle.form_rows.proofs.GrewLemmas.{terms_steps}
use Rattle.haul_rows.proofs.pits.add_all_taken.Goals as goal

pub loop-before-init : goal.loop-before-init
loop-before-init c = record { terms = c.requires.room; few = omega (arith, ap length c.requires.room) }

pub add_taken-requires-clause-room : goal.add_taken-requires-clause-room
add_taken-requires-clause-room c = omega (arith, c.requires.accepted.well_formed.counted.stages_to)

pub loop-before-preserved : goal.loop-before-preserved
loop-before-preserved c =
    let road = c.args.road.now in
    record {
      terms = terms_steps road (λ t. list_to (λ q. (Access q t, taken road c.args.pit q)) (access_count road)) c.loop-before.before [] c.loop-before.row c.add_taken.new.row c.loop-before.invariant.terms c.add_taken.ensures.terms;
      few = omega (arith, c.add_taken.ensures.few);
    }

pub returns : goal.returns
returns c =
    let road = c.args.road.now in
    let all : c.loop-before.before ≡ road.stages = omega arith in
    c.loop-before.invariant.terms ∙ ap (λ n. terms_of road (flat_to (λ t. list_to (λ q. (Access q t, taken road c.args.pit q)) (access_count road)) n)) all
