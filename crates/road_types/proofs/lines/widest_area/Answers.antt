use Rattle.std.proofs.Common.{◌≡◌, List, [], ◌∷◌, ◌++◌, map, ◌∙◌, ap, refl, FitsSigned, rules}
use Rattle.std.specs.Prelude.{ℤ, pos, fold}
use Rattle.std.specs.Int.{int_max, w64}
use Rattle.std.proofs.lemmas.Int.{to_z-of_z}
use Rattle.road_types.specs.declared.road.Slab.{Slab}
use Rattle.road_types.proofs.lines.widest_area.Goals as goal

-- the greatest of two tables is that of the second, begun with that of the first
greatest_of_both : (first : ℤ) (slabs more : List Slab)
    → fold int_max (fold int_max first (map (λ (slab : Slab). slab.area) slabs)) (map (λ (slab : Slab). slab.area) more)
    ≡ fold int_max first (map (λ (slab : Slab). slab.area) (slabs ++ more))
greatest_of_both first [] more = refl
greatest_of_both first (slab ∷ slabs) more = greatest_of_both (int_max first slab.area) slabs more

pub returns-clause-value : goal.returns-clause-value
returns-clause-value c =
    let s = c.args.section.now in
    let cut : FitsSigned w64 c.greatest_area.result = search rules in
    let both : FitsSigned w64 c.greatest_area-2.result = search rules in
    let of_table : ℤ → List Slab → ℤ = λ first slabs. fold int_max first (map (λ (slab : Slab). slab.area) slabs) in
    let first : c.greatest_area.result ≡ of_table (pos 0) s.cut = c.greatest_area.ensures.value ∙ ap (of_table (pos 0)) c.as_slice-2.ensures in
    let second : c.greatest_area-2.result ≡ of_table c.greatest_area.result s.fill =
    (simp to_z-of_z at c.greatest_area-2.ensures.value) ∙ ap (of_table c.greatest_area.result) c.as_slice.ensures in
    to_z-of_z w64 c.greatest_area-2.result both
    ∙ (second ∙ ap (λ (x : ℤ). of_table x s.fill) first ∙ greatest_of_both (pos 0) s.cut s.fill)
