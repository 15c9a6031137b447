use Rattle.std.proofs.Common.{rules, FitsSigned, get_or, sym, ◌∙◌, ◌-◌}
use Rattle.std.specs.Prelude.{pos}
use Rattle.std.specs.Int.{w128}
use Rattle.std.proofs.lemmas.Int.{to_z-of_z}
use Rattle.std.proofs.Common.{arith}
use Rattle.milp_builder.proofs.ShownLemmas.{shown_in}
use Rattle.milp_builder.proofs.showing.shown.Goals as goal

pub overflow_sub-result : goal.overflow_sub-result
overflow_sub-result c = (shown_in c.args.road.now c.args.point.now c.args.kind c.in-Some.column c.in-Some.ensures.value).from_one

pub bounds-point-column : goal.bounds-point-column
bounds-point-column c =
    let at = shown_in c.args.road.now c.args.point.now c.args.kind c.in-Some.column c.in-Some.ensures.value in
    omega (arith, at.within, c.requires.columns)

pub returns-in-Some : goal.returns-in-Some
returns-in-Some c =
    let fits : FitsSigned w128 (get_or c.args.point.now (c.in-Some.column - 1) (pos 0)) = search rules in
    to_z-of_z w128 _ fits ∙ sym (shown_in c.args.road.now c.args.point.now c.args.kind c.in-Some.column c.in-Some.ensures.value).shown_is
