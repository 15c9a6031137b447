use Rattle.std.proofs.Common.{rules, FitsSigned, ◌≡◌, List, length, refl, subst, ◌∙◌, ap}
use Rattle.std.specs.Prelude.{ℤ}
use Rattle.std.specs.Int.{w128}
use Rattle.std.proofs.lemmas.Int.{to_z-of_z}
use Rattle.safe_bounds.specs.Values.{value_of}
use Rattle.cert_tree.specs.Written.{IsWritten}
use Rattle.branch_bound.proofs.ProvingLemmas.{proved_on}
use Rattle.branch_bound.proofs.proving.prove.Goals as goal

pub returns : goal.returns
returns c =
    let milp = c.args.milp.now in
    let scale = c.args.scale in
    let mults = c.args.mults.items in
    let narrow = c.narrowed-narrow.ensures in
    let narrow_scale = c.narrowed-narrow.result.scale in
    let narrow_mults = c.narrowed-narrow.result.mults.items in
    let pairs = c.in_ok-pairs.pairs in
    let value = c.in_ok-value.value in
    let value_fits : FitsSigned w128 value = search rules in
    let scale_fits : FitsSigned w128 narrow_scale = search rules in
    let own_fits : FitsSigned w128 scale = search rules in
    let one : c.as_slice.result.now ≡ narrow_mults = c.as_slice.ensures.value in
    let two : c.as_slice-2.result.now ≡ narrow_mults = c.as_slice-2.ensures.value in
    let here : value ≡ value_of milp narrow_scale c.as_slice.result.now = simp to_z-of_z at c.in_ok-value.ensures.value in
    let value_is : value ≡ value_of milp narrow_scale narrow_mults = here ∙ ap (value_of milp narrow_scale) one in
    let written : IsWritten narrow_mults (length narrow_mults) pairs =
    subst (λ (ys : List ℤ). IsWritten ys (length ys) pairs) two c.in_ok-pairs.ensures in
    simp to_z-of_z
    (proved_on milp scale mults narrow_scale narrow_mults pairs value (record { value = value; scale = narrow_scale; mults = pairs })
    (simp to_z-of_z at narrow.narrowed) narrow.scale narrow.signs c.requires.signs narrow.count c.requires.rows written value_is c.in_ok-value.ensures.width refl refl refl)
