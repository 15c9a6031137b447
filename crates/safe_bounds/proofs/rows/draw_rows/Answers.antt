use Rattle.std.proofs.Common.{arith, rules, ◌+◌, ◌*◌, ◌^◌, ◌<◌, length, get_or}
use Rattle.std.specs.Prelude.{pos, FitsSigned}
use Rattle.std.specs.Int.{w128}
use Rattle.std.proofs.lemmas.Int.{to_z-of_z}
use Rattle.algebra.specs.Numbered.{numbered}
use Rattle.safe_bounds.proofs.DrawnLemmas.{next_rights, next_combined, wider}
use Rattle.safe_bounds.proofs.StepWidths.{rights_fit, rights_width_more}
use Rattle.safe_bounds.proofs.rows.draw_rows.Goals as goal

pub draw_row-requires-clause-room : goal.draw_row-requires-clause-room
draw_row-requires-clause-room c = wider (c.loop-place.place * 2 ^ 113) (2 ^ 123) c.loop-place.drawn (omega arith) c.loop-place.invariant.1.1

pub plus-value-requires : goal.plus-value-requires
plus-value-requires c =
    let next : FitsSigned w128 c.draw_row.result = search rules in
    simp to_z-of_z (rights_fit _ c.draw_row.result c.loop-place.place c.loop-place.invariant.0.1 c.draw_row.ensures.small (omega arith))

pub loop-place-preserved : goal.loop-place-preserved
loop-place-preserved c =
    let rows : c.loop-place.place < length c.args.milp.now.rows = omega arith in
    let next : FitsSigned w128 c.draw_row.result = search rules in
    let total : FitsSigned w128 c.plus-value.result = search rules in
    let mult : FitsSigned w128 (get_or c.args.mults.now c.loop-place.place (pos 0)) = search rules in
    let sum = simp to_z-of_z at c.plus-value.ensures in
    let value = simp to_z-of_z at c.draw_row.ensures.value in
    let drawn = simp to_z-of_z at c.draw_row.ensures.drawn in
    simp to_z-of_z (
      (
        next_rights c.args.milp.now.rows c.args.mults.now c.loop-place.place _ c.draw_row.result c.plus-value.result rows c.loop-place-test.true c.loop-place.invariant.0.0 value sum,
        rights_width_more _ c.draw_row.result c.plus-value.result c.loop-place.place c.loop-place.invariant.0.1 c.draw_row.ensures.small sum,
      ),
      (
        λ j n.
            next_combined c.args.milp.now.rows c.args.mults.now c.loop-place.place j (numbered (pos 0) c.loop-place.drawn j) (numbered (pos 0) c.draw_row.new.drawn j) rows c.loop-place-test.true
            (c.loop-place.invariant.1.0 j n)
            (drawn.each j (record { from_one = n.from_one; at_most = omega (arith, n.at_most) })),
        wider (c.loop-place.place * 2 ^ 113 + 2 ^ 113) ((c.loop-place.place + 1) * 2 ^ 113) c.draw_row.new.drawn (omega arith) (c.draw_row.ensures.width (c.loop-place.place * 2 ^ 113) c.loop-place.invariant.1.1),
      ),
    )

pub returns-clause-width : goal.returns-clause-width
returns-clause-width c = wider (c.loop-place.place * 2 ^ 113) (2 ^ 123) c.loop-place.drawn (omega arith) c.loop-place.invariant.1.1
