use Rattle.std.proofs.Common.{rules, FitsSigned, ◌≡◌, subst, sym}
use Rattle.std.specs.Prelude.{ℤ, neg_ℤ}
use Rattle.std.specs.Int.{w128}
use Rattle.std.proofs.lemmas.Int.{to_z-of_z}
use Rattle.branch_bound.specs.inside.Splitting.{IsInnerThickness, IsInnerBreakpoint}
use Rattle.branch_bound.proofs.SplittingLemmas.{zero_inside, cut_inside}
use Rattle.branch_bound.proofs.splitting.inner_offset.Goals as goal

pub returns-then-is_between : goal.returns-then-is_between
returns-then-is_between c =
    let low : FitsSigned w128 c.args.low = c.ranges.low in
    let high : FitsSigned w128 c.args.high = c.ranges.high in
    zero_inside c.args.section.now c.args.low c.args.high (simp to_z-of_z at c.is_between.ensures.0 c.if-is_between.true)

pub returns-in-Some-inner_thickness : goal.returns-in-Some-inner_thickness
returns-in-Some-inner_thickness c =
    let low : FitsSigned w128 c.args.low = c.ranges.low in
    let high : FitsSigned w128 c.args.high = c.ranges.high in
    let lower : FitsSigned w128 c.turned.result = record { sfits = c.turned.type_inv } in
    let upper : FitsSigned w128 c.turned-2.result = record { sfits = c.turned-2.type_inv } in
    let thick : FitsSigned w128 c.in-Some-inner_thickness.thickness = search rules in
    let offset : FitsSigned w128 c.turned-in-Some-inner_thickness.result = record { sfits = c.turned-in-Some-inner_thickness.type_inv } in
    let inside : IsInnerThickness c.as_slice-2.result.now c.turned.result c.turned-2.result c.in-Some-inner_thickness.thickness = simp to_z-of_z at c.in-Some-inner_thickness.ensures in
    let from : c.turned.result ≡ neg_ℤ c.args.high = simp to_z-of_z at c.turned.ensures in
    let to : c.turned-2.result ≡ neg_ℤ c.args.low = simp to_z-of_z at c.turned-2.ensures in
    let at : c.turned-in-Some-inner_thickness.result ≡ neg_ℤ c.in-Some-inner_thickness.thickness = simp to_z-of_z at c.turned-in-Some-inner_thickness.ensures in
    let cut : IsInnerThickness c.args.section.now.cut (neg_ℤ c.args.high) (neg_ℤ c.args.low) c.in-Some-inner_thickness.thickness =
    subst (λ (z : ℤ). IsInnerThickness c.args.section.now.cut z (neg_ℤ c.args.low) c.in-Some-inner_thickness.thickness) from
    (subst (λ (z : ℤ). IsInnerThickness c.args.section.now.cut c.turned.result z c.in-Some-inner_thickness.thickness) to
    (subst (λ slabs. IsInnerThickness slabs c.turned.result c.turned-2.result c.in-Some-inner_thickness.thickness) c.as_slice-2.ensures inside)) in
    let found : IsInnerBreakpoint c.args.section.now (c.args.low, c.args.high) c.turned-in-Some-inner_thickness.result =
    subst (λ (z : ℤ). IsInnerBreakpoint c.args.section.now (c.args.low, c.args.high) z) (sym at)
    (cut_inside c.args.section.now c.args.low c.args.high c.in-Some-inner_thickness.thickness cut) in
    simp to_z-of_z found
