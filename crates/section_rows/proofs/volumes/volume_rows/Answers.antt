use Rattle.std.proofs.Common.{◌≡◌, ◌+◌, ◌≤◌, arith, subst}
use Rattle.std.proofs.Math.Nat.{mul-le-mul_right}
use Rattle.algebra.specs.Lists.{flat_to}
use Rattle.road_types.specs.SectionForms.{lines_forms}
use Rattle.road_types.specs.Road.{section_count}
use Rattle.road_types.specs.RoadPrograms.{lines_in}
use Rattle.form_rows.specs.FormRows.{forms_terms, Grew}
use Rattle.form_rows.proofs.GrewLemmas.{grew_count, grew_flat}
use Rattle.section_rows.proofs.volumes.volume_rows.Goals as goal

pub lines_rows-requires-clause-free : goal.lines_rows-requires-clause-free
lines_rows-requires-clause-free c =
    let more : c.loop-before.before + 1 ≤ section_count c.args.road.now = omega arith in
    omega (arith, c.loop-before.invariant.grew.room, mul-le-mul_right (4) more)

pub lines_rows-requires-clause-width : goal.lines_rows-requires-clause-width
lines_rows-requires-clause-width c = omega (arith, c.loop-before.invariant.grew.width)

pub loop-before-preserved : goal.loop-before-preserved
loop-before-preserved c =
    let step = c.lines_rows.ensures in
    record {
      grew = grew_flat c.args.road.now (λ i. lines_forms c.args.road.now i (lines_in c.args.road.now c.args.ranges.now.heights i)) c.loop-before.before c.args.rows.now c.loop-before.rows c.lines_rows.new.rows c.loop-before.invariant.grew step;
      count = omega (arith, grew_count c.loop-before.rows c.lines_rows.new.rows (forms_terms c.args.road.now (lines_forms c.args.road.now (c.loop-before.before + 1) (lines_in c.args.road.now c.args.ranges.now.heights (c.loop-before.before + 1)))) step);
    }

pub returns : goal.returns
returns c =
    let all : c.loop-before.before ≡ section_count c.args.road.now = omega arith in
    subst (λ k. Grew c.args.rows.now c.loop-before.rows (forms_terms c.args.road.now (flat_to (λ i. lines_forms c.args.road.now i (lines_in c.args.road.now c.args.ranges.now.heights i)) k))) all c.loop-before.invariant.grew
