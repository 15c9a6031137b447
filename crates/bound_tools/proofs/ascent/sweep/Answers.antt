use Rattle.std.proofs.Common.{◌+◌, sym, subst, ◌∙◌}
use Rattle.std.specs.Prelude.{FitsSigned}
use Rattle.std.specs.Int.{w128}
use Rattle.std.proofs.lemmas.Int.{to_z-of_z}
use Rattle.bound_tools.specs.inside.Climbs.{IsSwept}
use Rattle.bound_tools.proofs.ClimbLemmas.{allowed_raised, swept_more}
use Rattle.bound_tools.proofs.ascent.sweep.Goals as goal

pub loop-place-preserved : goal.loop-place-preserved
loop-place-preserved c =
    let scale : FitsSigned w128 c.args.scale = c.ranges.scale in
    let program = c.args.milp.now in
    let row = c.loop-place.place + 1 in
    let now = c.loop-place.mults in
    let new = c.raise-risen.new.mults in
    let so_far = simp to_z-of_z at c.loop-place.invariant in
    let raised = simp to_z-of_z at c.raise-risen.ensures.raised in
    let value = simp to_z-of_z at c.raise-risen.ensures.value in
    let more = swept_more program c.args.scale c.loop-place.place c.loop-place.raised c.raise-risen.result c.args.mults.now now new so_far.0.1 raised in
    simp to_z-of_z (
      (allowed_raised program c.args.scale row c.raise-risen.result now new so_far.0.0 raised, subst (λ b. IsSwept program c.args.scale row b c.args.mults.now new) (sym c.either-raised.ensures) more),
      (value, c.raise-risen.ensures.scratch ∙ so_far.1.1),
    )
