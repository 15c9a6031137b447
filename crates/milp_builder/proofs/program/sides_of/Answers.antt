use Rattle.std.proofs.Common.{◌≡◌, ℕ, ◌+◌, [], ◌∷◌, ◌++◌, arith, ap, sym, ◌∙◌}
use Rattle.std.specs.Prelude.{ℤ}
use Rattle.term_store.specs.declared.side.Side.{Side}
use Rattle.milp_builder.proofs.PointLemmas.{list_more}
use Rattle.algebra.specs.Lists.{list_to}
use Rattle.road_types.specs.Numbered.{numbered}
use Rattle.road_types.specs.Forms.{no_form}
use Rattle.road_types.specs.RoadPrograms.{forms_of, lines_in, row_count}
use Rattle.milp_builder.proofs.ProgramLemmas.{forms_by_number}
use Rattle.milp_builder.proofs.program.sides_of.Goals as goal

pub returns : goal.returns
returns c =
    let road = c.args.road.now in
    let lines = lines_in road c.args.ranges.now.heights in
    let end : c.loop-before.before ≡ row_count road = omega (arith, c.loop-before-test.false, c.row_count-before-end.ensures.value, c.loop-before.auto.before-end) in
    c.loop-before.invariant ∙ ap (list_to (λ i. (numbered no_form (forms_of road lines) i).side)) end ∙ forms_by_number road lines (λ form. form.side)

pub loop-before-preserved : goal.loop-before-preserved
loop-before-preserved c =
    let road = c.args.road.now in
    let f : ℕ → Side = λ i. (numbered no_form (forms_of road (lines_in road c.args.ranges.now.heights)) i).side in
    let n = c.loop-before.before in
    let made = ap (λ (a : Side × ℤ). a.0) c.row_side-side.ensures in
    c.in_ok-push.ensures.items
    ∙ ap (λ r. c.loop-before.sides.items ++ (r ∷ [])) made
    ∙ ap (λ x. x ++ (f (n + 1) ∷ [])) c.loop-before.invariant
    ∙ sym (list_more f n)
