use Rattle.std.proofs.Common.{◌≡◌, arith, ap, sym, ◌∙◌, FitsSigned, rules}
use Rattle.std.specs.Prelude.{ℤ, pos, neg_ℤ, fold}
use Rattle.std.specs.Int.{int_min, int_max, w64}
use Rattle.std.proofs.lemmas.Int.{to_z-of_z}
use Rattle.road_types.specs.Lines.{areas_between}
use Rattle.section_rows.proofs.ScanLemmas.{fold_both, breakpoint_span}
use Rattle.section_rows.proofs.lines.slopes.Goals as goal

pub opposite-requires : goal.opposite-requires
opposite-requires c =
    let span = breakpoint_span c.args.section.now c.args.range.1 c.requires.cut c.requires.fill c.requires.range.high in
    let fits : FitsSigned w64 c.args.range.1 = search rules in
    simp to_z-of_z (omega arith)

pub opposite-requires-2 : goal.opposite-requires-2
opposite-requires-2 c =
    let span = breakpoint_span c.args.section.now c.args.range.0 c.requires.cut c.requires.fill c.requires.range.low in
    let fits : FitsSigned w64 c.args.range.0 = search rules in
    simp to_z-of_z (omega arith)

pub returns-clause-least : goal.returns-clause-least
returns-clause-least c =
    let s = c.args.section.now in
    let p : FitsSigned w64 c.args.range.0 = search rules in
    let q : FitsSigned w64 c.args.range.1 = search rules in
    let minus_q : FitsSigned w64 c.opposite.result = search rules in
    let minus_p : FitsSigned w64 c.opposite-2.result = search rules in
    let low : c.opposite.result ≡ neg_ℤ c.args.range.1 = simp to_z-of_z at c.opposite.ensures.value in
    let high : c.opposite-2.result ≡ neg_ℤ c.args.range.0 = simp to_z-of_z at c.opposite-2.ensures.value in
    let cut : c.with_table-cut.result.least ≡ fold int_min (pos 10000000) (areas_between s.cut (pos 0) (neg_ℤ c.args.range.1) (neg_ℤ c.args.range.0)) =
    rw (low, high) at (simp to_z-of_z at (rw c.as_slice.ensures at c.with_table-cut.ensures.least)) in
    let all : c.with_table.result.least ≡ fold int_min c.with_table-cut.result.least (areas_between s.fill (pos 0) c.args.range.0 c.args.range.1) =
    simp to_z-of_z at (rw c.as_slice-2.ensures at c.with_table.ensures.least) in
    all
    ∙ ap (λ (x : ℤ). fold int_min x (areas_between s.fill (pos 0) c.args.range.0 c.args.range.1)) cut
    ∙ sym (fold_both int_min (pos 10000000) (areas_between s.cut (pos 0) (neg_ℤ c.args.range.1) (neg_ℤ c.args.range.0)) (areas_between s.fill (pos 0) c.args.range.0 c.args.range.1))

pub returns-clause-greatest : goal.returns-clause-greatest
returns-clause-greatest c =
    let s = c.args.section.now in
    let p : FitsSigned w64 c.args.range.0 = search rules in
    let q : FitsSigned w64 c.args.range.1 = search rules in
    let minus_q : FitsSigned w64 c.opposite.result = search rules in
    let minus_p : FitsSigned w64 c.opposite-2.result = search rules in
    let low : c.opposite.result ≡ neg_ℤ c.args.range.1 = simp to_z-of_z at c.opposite.ensures.value in
    let high : c.opposite-2.result ≡ neg_ℤ c.args.range.0 = simp to_z-of_z at c.opposite-2.ensures.value in
    let cut : c.with_table-cut.result.greatest ≡ fold int_max (pos 0) (areas_between s.cut (pos 0) (neg_ℤ c.args.range.1) (neg_ℤ c.args.range.0)) =
    rw (low, high) at (simp to_z-of_z at (rw c.as_slice.ensures at c.with_table-cut.ensures.greatest)) in
    let all : c.with_table.result.greatest ≡ fold int_max c.with_table-cut.result.greatest (areas_between s.fill (pos 0) c.args.range.0 c.args.range.1) =
    simp to_z-of_z at (rw c.as_slice-2.ensures at c.with_table.ensures.greatest) in
    all
    ∙ ap (λ (x : ℤ). fold int_max x (areas_between s.fill (pos 0) c.args.range.0 c.args.range.1)) cut
    ∙ sym (fold_both int_max (pos 0) (areas_between s.cut (pos 0) (neg_ℤ c.args.range.1) (neg_ℤ c.args.range.0)) (areas_between s.fill (pos 0) c.args.range.0 c.args.range.1))
