use Rattle.std.proofs.Common.{◌≡◌, Bool, ◌&&◌, cond, [], ◌∷◌, ap, ◌∙◌, FitsSigned, rules}
use Rattle.std.specs.Prelude.{ℤ, ◌+ℤ◌, int_le, fold}
use Rattle.std.specs.Int.{int_min, int_max, w64}
use Rattle.std.proofs.lemmas.Int.{to_z-of_z}
use Rattle.section_rows.proofs.lines.with_slab.Goals as goal

pub returns-clause-least : goal.returns-clause-least
returns-clause-least c =
    let low = c.ranges.low in
    let high = c.ranges.high in
    let top : FitsSigned w64 c.args.scan.top = search rules in
    let bottom : FitsSigned w64 c.bottom_of-bottom.result = search rules in
    let so_far : FitsSigned w64 c.args.scan.least = search rules in
    let area : FitsSigned w64 c.args.slab.area = search rules in
    let found : FitsSigned w64 c.least_with.result = search rules in
    let below : c.bottom_of-bottom.result ≡ c.args.scan.top +ℤ c.args.slab.thick = simp to_z-of_z at c.bottom_of-bottom.ensures.value in
    let test : c.lies_within-counts.result ≡ (int_le c.args.low c.args.scan.top && int_le c.bottom_of-bottom.result c.args.high) = simp to_z-of_z at c.lies_within-counts.ensures in
    let counts = test ∙ ap (λ (x : ℤ). int_le c.args.low c.args.scan.top && int_le x c.args.high) below in
    let value : c.least_with.result ≡ fold int_min c.args.scan.least (cond c.lies_within-counts.result (c.args.slab.area ∷ []) []) = simp to_z-of_z at c.least_with.ensures.value in
    to_z-of_z w64 c.least_with.result found
    ∙ (value ∙ ap (λ (b : Bool). fold int_min c.args.scan.least (cond b (c.args.slab.area ∷ []) [])) counts)

pub returns-clause-greatest : goal.returns-clause-greatest
returns-clause-greatest c =
    let low = c.ranges.low in
    let high = c.ranges.high in
    let top : FitsSigned w64 c.args.scan.top = search rules in
    let bottom : FitsSigned w64 c.bottom_of-bottom.result = search rules in
    let so_far : FitsSigned w64 c.args.scan.greatest = search rules in
    let area : FitsSigned w64 c.args.slab.area = search rules in
    let found : FitsSigned w64 c.greatest_with.result = search rules in
    let below : c.bottom_of-bottom.result ≡ c.args.scan.top +ℤ c.args.slab.thick = simp to_z-of_z at c.bottom_of-bottom.ensures.value in
    let test : c.lies_within-counts.result ≡ (int_le c.args.low c.args.scan.top && int_le c.bottom_of-bottom.result c.args.high) = simp to_z-of_z at c.lies_within-counts.ensures in
    let counts = test ∙ ap (λ (x : ℤ). int_le c.args.low c.args.scan.top && int_le x c.args.high) below in
    let value : c.greatest_with.result ≡ fold int_max c.args.scan.greatest (cond c.lies_within-counts.result (c.args.slab.area ∷ []) []) = simp to_z-of_z at c.greatest_with.ensures.value in
    to_z-of_z w64 c.greatest_with.result found
    ∙ (value ∙ ap (λ (b : Bool). fold int_max c.args.scan.greatest (cond b (c.args.slab.area ∷ []) [])) counts)
