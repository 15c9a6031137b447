use Rattle.std.proofs.Common.{ap, FitsSigned, rules}
use Rattle.std.specs.Int.{w64}
use Rattle.std.proofs.lemmas.Int.{to_z-of_z}
use Rattle.road_types.specs.declared.road.Pit.{Pit}
use Rattle.haul_rows.proofs.sides.pit_capacity.Goals as goal

pub returns-clause-value : goal.returns-clause-value
returns-clause-value c =
    let fits : FitsSigned w64 c.pit.result.now.capacity = search rules in
    simp to_z-of_z (ap (λ (p : Pit). p.capacity) c.pit.ensures)

pub returns-clause-from : goal.returns-clause-from
returns-clause-from c =
    let fits : FitsSigned w64 c.pit.result.now.capacity = search rules in
    simp to_z-of_z (rw c.pit.ensures (c.requires.accepted.well_formed.pits c.args.number c.requires.number).capacity.at_least)
