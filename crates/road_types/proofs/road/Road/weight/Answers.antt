use Rattle.std.proofs.Common.{arith, ap, ◌∙◌, FitsSigned, rules}
use Rattle.std.specs.Prelude.{pos}
use Rattle.std.specs.Int.{w128}
use Rattle.std.proofs.lemmas.Int.{to_z-of_z}
use Rattle.road_types.proofs.WeightLemmas.{road_weight-load}
use Rattle.road_types.proofs.road.Road.weight.Goals as goal

pub returns-clause-value : goal.returns-clause-value
returns-clause-value c =
    let fits : FitsSigned w128 c.total.result = search rules in
    let load = road_weight-load c.args.self.now c.requires in
    simp to_z-of_z (c.total.ensures ∙ ap pos (omega (
      arith,
      load,
      c.sections_load.ensures.value,
      c.joints_load.ensures.value,
      c.segments_load.ensures.value,
      c.fixed_points_load.ensures.value,
      c.hops_load.ensures.value,
      c.accesses_load.ensures.value,
      c.pits_load.ensures.value,
      c.blocks_load.ensures.value,
    )))

pub returns-clause-small : goal.returns-clause-small
returns-clause-small c =
    let load = road_weight-load c.args.self.now c.requires in
    omega (
      arith,
      load,
      c.sections_load.ensures,
      c.joints_load.ensures,
      c.segments_load.ensures,
      c.fixed_points_load.ensures,
      c.hops_load.ensures,
      c.accesses_load.ensures,
      c.pits_load.ensures,
      c.blocks_load.ensures,
    )
