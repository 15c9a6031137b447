use Rattle.std.proofs.Common.{◌≡◌, ◌+◌, ◌++◌, arith}
use Rattle.road_types.specs.HaulForms.{taken}
use Rattle.road_types.specs.declared.column.Column.TheVariants.{Access}
use Rattle.std.proofs.Common.{FitsSigned, rules}
use Rattle.std.specs.Int.{w64}
use Rattle.std.proofs.lemmas.Int.{to_z-of_z}
use Rattle.road_types.specs.Columns.{column_number}
use Rattle.road_types.specs.RoadPrograms.{term_in}
use Rattle.form_rows.proofs.GrewLemmas.{terms_step}
use Rattle.haul_rows.proofs.pits.add_taken.Goals as goal

pub loop-before-preserved : goal.loop-before-preserved
loop-before-preserved c =
    let road = c.args.road.now in
    let at = c.loop-before.before in
    let fits : FitsSigned w64 c.taken.result = search rules in
    let step : c.add.new.self ≡ c.loop-before.row ++ term_in (column_number road (Access (at + 1) c.args.stage)) (taken road c.args.pit (at + 1)) =
    rw c.taken.ensures at (simp to_z-of_z at c.add.ensures.terms) in
    record {
      terms = terms_step road (λ q. (Access q c.args.stage, taken road c.args.pit q)) at c.args.row.now c.loop-before.row c.add.new.self c.loop-before.invariant.terms step;
      few = omega (arith, c.add.ensures.few);
    }
