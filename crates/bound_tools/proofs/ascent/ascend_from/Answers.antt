use Rattle.std.proofs.Common.{arith, false, ◌∙◌}
use Rattle.std.specs.Prelude.{FitsSigned}
use Rattle.std.specs.Int.{w128}
use Rattle.std.proofs.lemmas.Int.{to_z-of_z}
use Rattle.programs.specs.Programs.{row_count}
use Rattle.bound_tools.proofs.ClimbLemmas.{allowed_swept, risen_more, risen_or_best, risen_all, not_fallen_by, not_fallen_end}
use Rattle.bound_tools.proofs.ascent.ascend_from.Goals as goal

pub loop-round-preserved : goal.loop-round-preserved
loop-round-preserved c =
    let scale : FitsSigned w128 c.args.scale = c.ranges.scale in
    let program = c.args.milp.now in
    let so_far = simp to_z-of_z at c.loop-round.invariant in
    let swept = simp to_z-of_z at c.if-not-sweep.ensures.swept in
    let value = simp to_z-of_z at c.sweep.ensures.value in
    let risen = risen_more program c.args.scale c.loop-round._round (row_count program) c.args.mults.now c.loop-round.mults c.sweep.new.mults so_far.0.1 swept in
    simp to_z-of_z ((swept.allowed, risen), (value, c.sweep.ensures.scratch ∙ so_far.1.1))

pub returns-then-not-sweep-clause-mults : goal.returns-then-not-sweep-clause-mults
returns-then-not-sweep-clause-mults c =
    let scale : FitsSigned w128 c.args.scale = c.ranges.scale in
    let program = c.args.milp.now in
    let so_far = simp to_z-of_z at c.loop-round.invariant in
    let swept = simp to_z-of_z at c.if-not-sweep.ensures.swept in
    allowed_swept program c.args.scale (row_count program) false c.loop-round.mults c.sweep.new.mults so_far.0.0 swept

pub returns-then-not-sweep-clause-never_falls : goal.returns-then-not-sweep-clause-never_falls
returns-then-not-sweep-clause-never_falls c =
    let scale : FitsSigned w128 c.args.scale = c.ranges.scale in
    let program = c.args.milp.now in
    let so_far = simp to_z-of_z at c.loop-round.invariant in
    let swept = simp to_z-of_z at c.if-not-sweep.ensures.swept in
    not_fallen_end program c.args.scale c.loop-round._round (row_count program) c.args.mults.now c.loop-round.mults c.sweep.new.mults so_far.0.1 swept

pub returns-then-not-sweep-clause-risen : goal.returns-then-not-sweep-clause-risen
returns-then-not-sweep-clause-risen c = λ some.
    let scale : FitsSigned w128 c.args.scale = c.ranges.scale in
    let program = c.args.milp.now in
    let so_far = simp to_z-of_z at c.loop-round.invariant in
    let swept = simp to_z-of_z at c.if-not-sweep.ensures.swept in
    risen_or_best program c.args.scale c.loop-round._round c.args.mults.now c.loop-round.mults c.sweep.new.mults so_far.0.1 swept

pub returns-clause-never_falls : goal.returns-clause-never_falls
returns-clause-never_falls c =
    let scale : FitsSigned w128 c.args.scale = c.ranges.scale in
    let so_far = simp to_z-of_z at c.loop-round.invariant in
    not_fallen_by c.args.milp.now c.args.scale c.loop-round._round c.args.mults.now c.loop-round.mults so_far.0.1

pub returns-clause-risen : goal.returns-clause-risen
returns-clause-risen c = λ some.
    let scale : FitsSigned w128 c.args.scale = c.ranges.scale in
    let so_far = simp to_z-of_z at c.loop-round.invariant in
    risen_all c.args.milp.now c.args.scale c.loop-round._round c.args.mults.now c.loop-round.mults (omega (arith, some, c.loop-round-test.false)) so_far.0.1
