use Rattle.std.proofs.Common.{refl, ◌∙◌}
use Rattle.std.specs.Prelude.{FitsSigned}
use Rattle.std.specs.Int.{w128}
use Rattle.std.proofs.lemmas.Int.{to_z-of_z}
use Rattle.bound_tools.proofs.ClimbLemmas.{climb_start, climb_more}
use Rattle.bound_tools.proofs.rows.climb_on.Goals as goal

pub loop-turn-init : goal.loop-turn-init
loop-turn-init c =
    let scale : FitsSigned w128 c.args.scale = c.ranges.scale in
    let unit : FitsSigned w128 c.args.unit = c.ranges.unit in
    simp to_z-of_z (climb_start c.args.milp.now c.args.scale c.args.mults.now c.args.value.now c.args.unit c.requires.mults c.requires.value c.requires.unit, refl)

pub loop-turn-preserved : goal.loop-turn-preserved
loop-turn-preserved c =
    let scale : FitsSigned w128 c.args.scale = c.ranges.scale in
    let change : FitsSigned w128 c.doubled-change.result = record { sfits = c.doubled-change.type_inv } in
    let so_far = simp to_z-of_z at c.loop-turn.invariant in
    let tried = simp to_z-of_z at c.try_change.ensures.tried in
    let value = simp to_z-of_z at c.try_change.ensures.value in
    simp to_z-of_z (
      climb_more c.args.milp.now c.args.scale c.args.i c.try_change.result c.args.mults.now c.loop-turn.mults c.try_change.new.mults c.loop-turn.value _ c.try_change.new.value
          c.doubled-change.result so_far.0 c.doubled-change.ensures tried value,
      c.try_change.ensures.scratch ∙ so_far.1,
    )
