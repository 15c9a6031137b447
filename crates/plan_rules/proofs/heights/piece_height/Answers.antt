use Rattle.std.proofs.Common.{rules, FitsSigned}
use Rattle.std.specs.Int.{w128}
use Rattle.std.proofs.lemmas.Int.{to_z-of_z}
use Rattle.plan_rules.proofs.heights.piece_height.Goals as goal

pub height_along-requires-clause-a : goal.height_along-requires-clause-a
height_along-requires-clause-a c =
    let number : FitsSigned w128 c.args.piece.a = search rules in
    simp to_z-of_z c.requires.small.a

pub height_along-requires-clause-b : goal.height_along-requires-clause-b
height_along-requires-clause-b c =
    let number : FitsSigned w128 c.args.piece.b = search rules in
    simp to_z-of_z c.requires.small.b

pub height_along-requires-clause-c : goal.height_along-requires-clause-c
height_along-requires-clause-c c =
    let number : FitsSigned w128 c.args.piece.c = search rules in
    simp to_z-of_z c.requires.small.c

pub returns-clause-value : goal.returns-clause-value
returns-clause-value c =
    let a : FitsSigned w128 c.args.piece.a = search rules in
    let b : FitsSigned w128 c.args.piece.b = search rules in
    let d : FitsSigned w128 c.args.piece.c = search rules in
    let along = c.ranges.along in
    let height : FitsSigned w128 c.height_along.result = search rules in
    simp to_z-of_z (simp to_z-of_z at c.height_along.ensures.value)
