use Rattle.algebra.specs.Lists.{list_to, flat_to}
use Rattle.road_types.specs.HaulForms.{taken}
use Rattle.road_types.specs.Road.{access_count}
use Rattle.road_types.specs.declared.column.Column.TheVariants.{Access}
use Rattle.form_rows.proofs.GrewLemmas.{rising_fits}
use Rattle.form_rows.proofs.RisingLemmas.{pit_row_rises}
use Rattle.haul_rows.proofs.pits.pit_row.Goals as goal

pub put-requires-clause-fits : goal.put-requires-clause-fits
put-requires-clause-fits c =
    let road = c.args.road.now in
    rising_fits road (flat_to (λ t. list_to (λ q. (Access q t, taken road c.args.pit q)) (access_count road)) road.stages) c.add_all_taken.new.row c.args.rows.now.width c.add_all_taken.ensures
    (pit_row_rises road (taken road c.args.pit)) c.requires.width
