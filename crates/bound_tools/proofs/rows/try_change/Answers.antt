use Rattle.std.proofs.Common.{rules, arith, ◌≡◌, ◌-◌, refl, ap, sym, ◌∙◌, get_or, set}
use Rattle.std.specs.Prelude.{pos, ◌+ℤ◌, ◌≤ℤ◌, ◌<ℤ◌, FitsSigned}
use Rattle.std.specs.Int.{w128}
use Rattle.std.proofs.lemmas.Int.{ints, to_z-of_z}
use Rattle.safe_bounds.specs.Values.{value_of}
use Rattle.bound_tools.proofs.ClimbLemmas.{row_place, allowed_with, set_back, not_allowed, not_above, above, told_true, told_false}
use Rattle.bound_tools.proofs.rows.try_change.Goals as goal

pub returns-then-not-can_stand-clause-tried : goal.returns-then-not-can_stand-clause-tried
returns-then-not-can_stand-clause-tried c =
    let own : FitsSigned w128 (get_or c.args.mults.now (c.args.i - 1) (pos 0)) = search rules in
    let by : FitsSigned w128 c.args.by = c.ranges.by in
    let scale : FitsSigned w128 c.args.scale = c.ranges.scale in
    let tried : FitsSigned w128 c.plus-tried.result = record { sfits = c.plus-tried.type_inv } in
    let sum : c.plus-tried.result ≡ get_or c.args.mults.now (c.args.i - 1) (pos 0) +ℤ c.args.by = simp to_z-of_z at c.plus-tried.ensures in
    let none = told_false c.can_stand.result c.if-not-can_stand.true (simp to_z-of_z at c.can_stand.ensures) in
    (not_allowed c.args.milp.now c.args.scale c.args.mults.now c.args.i c.args.by c.plus-tried.result c.requires.number c.requires.mults sum none)

pub leaf_value-risen-requires-clause-mults : goal.leaf_value-risen-requires-clause-mults
leaf_value-risen-requires-clause-mults c =
    let tried : FitsSigned w128 c.plus-tried.result = record { sfits = c.plus-tried.type_inv } in
    let stands = told_true c.can_stand.result c.if-not-can_stand.false (simp to_z-of_z at c.can_stand.ensures) in
    simp to_z-of_z (allowed_with c.args.milp.now c.args.mults.now c.args.i c.plus-tried.result c.requires.number c.requires.mults stands).within

pub returns-then-risen-value-clause-tried : goal.returns-then-risen-value-clause-tried
returns-then-risen-value-clause-tried c =
    let scale : FitsSigned w128 c.args.scale = c.ranges.scale in
    let value : FitsSigned w128 c.args.value.now = search rules in
    let risen : FitsSigned w128 c.leaf_value-risen.result = record { sfits = c.leaf_value-risen.type_inv } in
    let tried : FitsSigned w128 c.plus-tried.result = record { sfits = c.plus-tried.type_inv } in
    let stands = told_true c.can_stand.result c.if-not-can_stand.false (simp to_z-of_z at c.can_stand.ensures) in
    let allowed = allowed_with c.args.milp.now c.args.mults.now c.args.i c.plus-tried.result c.requires.number c.requires.mults stands in
    let is_risen : c.leaf_value-risen.result ≡ value_of c.args.milp.now c.args.scale (set c.args.mults.now (c.args.i - 1) c.plus-tried.result) = simp to_z-of_z at c.leaf_value-risen.ensures.value in
    let more : c.args.value.now <ℤ c.leaf_value-risen.result = let test = simp to_z-of_z at c.if-risen-value.true in omega (arith, ints, test) in
    simp to_z-of_z (above c.args.milp.now c.args.scale c.args.mults.now (set c.args.mults.now (c.args.i - 1) c.plus-tried.result) c.args.value.now c.leaf_value-risen.result allowed c.requires.value is_risen more)

pub returns-clause-tried : goal.returns-clause-tried
returns-clause-tried c =
    let scale : FitsSigned w128 c.args.scale = c.ranges.scale in
    let value : FitsSigned w128 c.args.value.now = search rules in
    let own : FitsSigned w128 (get_or c.args.mults.now (c.args.i - 1) (pos 0)) = search rules in
    let by : FitsSigned w128 c.args.by = c.ranges.by in
    let risen : FitsSigned w128 c.leaf_value-risen.result = record { sfits = c.leaf_value-risen.type_inv } in
    let tried : FitsSigned w128 c.plus-tried.result = record { sfits = c.plus-tried.type_inv } in
    let sum : c.plus-tried.result ≡ get_or c.args.mults.now (c.args.i - 1) (pos 0) +ℤ c.args.by = simp to_z-of_z at c.plus-tried.ensures in
    let is_risen : c.leaf_value-risen.result ≡ value_of c.args.milp.now c.args.scale (set c.args.mults.now (c.args.i - 1) c.plus-tried.result) = simp to_z-of_z at c.leaf_value-risen.ensures.value in
    let no_more : c.leaf_value-risen.result ≤ℤ c.args.value.now = let test = simp to_z-of_z at c.if-risen-value.false in omega (arith, ints, test) in
    let back = set_back c.args.mults.now (c.args.i - 1) c.plus-tried.result (get_or c.args.mults.now (c.args.i - 1) (pos 0)) refl (row_place c.args.milp.now c.args.mults.now c.args.i c.requires.mults c.requires.number) in
    simp to_z-of_z (back, not_above c.args.milp.now c.args.scale c.args.mults.now c.args.i c.args.by c.plus-tried.result c.args.value.now c.leaf_value-risen.result c.requires.number sum c.requires.value is_risen no_more)

pub returns-clause-value : goal.returns-clause-value
returns-clause-value c =
    let scale : FitsSigned w128 c.args.scale = c.ranges.scale in
    let own : FitsSigned w128 (get_or c.args.mults.now (c.args.i - 1) (pos 0)) = search rules in
    let tried : FitsSigned w128 c.plus-tried.result = record { sfits = c.plus-tried.type_inv } in
    let back = set_back c.args.mults.now (c.args.i - 1) c.plus-tried.result (get_or c.args.mults.now (c.args.i - 1) (pos 0)) refl (row_place c.args.milp.now c.args.mults.now c.args.i c.requires.mults c.requires.number) in
    simp to_z-of_z (c.requires.value ∙ ap (value_of c.args.milp.now c.args.scale) (sym back))
