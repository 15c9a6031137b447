use Rattle.std.proofs.Common.{FitsSigned, ap, subst, sym, ◌≡◌, ◌∙◌}
use Rattle.std.specs.Prelude.{ℤ, pos, ◌^◌, ◌≤ℤ◌, ◌*ℤ◌}
use Rattle.std.specs.Int.{w64, w128}
use Rattle.std.proofs.lemmas.Int.{to_z-of_z}
use Rattle.wide_products.specs.Naturals.{whole_of}
use Rattle.wide_volumes.proofs.WidthLemmas.{volume_width}
use Rattle.wide_volumes.proofs.volumes.volume_of.Goals as goal

pub returns-clause-to : goal.returns-clause-to
returns-clause-to c =
    let area : FitsSigned w64 c.args.area = c.ranges.area in
    let from : FitsSigned w128 c.from.result = record { sfits = c.from.type_inv } in
    let same : c.from.result ≡ c.args.area = simp to_z-of_z at c.from.ensures in
    let of : whole_of c.of.result ≡ c.from.result = simp to_z-of_z at c.of.ensures in
    let is = c.times.ensures ∙ ap (λ (z : ℤ). z *ℤ whole_of c.args.thickness) (of ∙ same) in
    let width = volume_width c.args.area (whole_of c.args.thickness) c.requires.area_from c.requires.area_to c.requires.thickness_from c.requires.thickness_to in
    subst (λ (z : ℤ). z ≤ℤ pos (2 ^ 176)) (sym is) width
