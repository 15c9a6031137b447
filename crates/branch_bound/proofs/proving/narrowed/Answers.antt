use Rattle.std.proofs.Common.{◌≡◌, ◌++◌, ℕ, FitsSigned, List, length, take, drop, sym, subst, ap, ◌∙◌, arith}
use Rattle.std.specs.Prelude.{ℤ}
use Rattle.std.specs.Int.{w128}
use Rattle.std.specs.List.{All}
use Rattle.std.proofs.lemmas.Int.{ints, to_z-of_z, fits_signed_from_abs}
use Rattle.std.proofs.lemmas.List.{take_all, take-append-le}
use Rattle.algebra.specs.Scale.{IsScale}
use Rattle.safe_bounds.specs.Values.{IsMultiplier, HasRightSigns}
use Rattle.safe_bounds.specs.Narrowing.{AreNarrow, IsNarrowed, AreNearer}
use Rattle.branch_bound.proofs.proving.narrowed.Goals as goal

-- a list that was lent whole ends as what was left in its place
left_behind : (count : ℕ) (old lent new : List ℤ) → count ≡ length old → lent ≡ old → AreNearer lent new → take count (new ++ drop (length new) old) ≡ new
left_behind count old lent new e l n =
    let same = n.count ∙ ap length l in
    take-append-le count new (drop (length new) old) (omega arith) ∙ take_all count new (omega arith)

scale_fits : (scale : ℤ) → IsScale scale → FitsSigned w128 scale
scale_fits scale s = fits_signed_from_abs w128 scale (omega (arith, ints, s.from_one, s.at_most))

pub returns-clause-narrowed : goal.returns-clause-narrowed
returns-clause-narrowed c =
    let scale : FitsSigned w128 c.args.scale = c.ranges.scale in
    let new = scale_fits c.narrow.new.scale c.narrow.ensures.scale in
    let behind = left_behind c.args.mults.len c.args.mults.items c.as_mut_slice.result.now c.narrow.new.mults c.args.mults.ok.0 c.as_mut_slice.ensures.value c.narrow.ensures.nearer in
    let lent : IsNarrowed c.args.scale c.as_mut_slice.result.now c.narrow.new.scale c.narrow.new.mults = simp to_z-of_z at c.narrow.ensures.narrowed in
    let own = subst (λ (ys : List ℤ). IsNarrowed c.args.scale ys c.narrow.new.scale c.narrow.new.mults) c.as_mut_slice.ensures.value lent in
    simp to_z-of_z (subst (λ (ys : List ℤ). IsNarrowed c.args.scale c.args.mults.items c.narrow.new.scale ys) (sym behind) own)

pub returns-clause-unchanged : goal.returns-clause-unchanged
returns-clause-unchanged c =
    let scale : FitsSigned w128 c.args.scale = c.ranges.scale in
    let new = scale_fits c.narrow.new.scale c.narrow.ensures.scale in
    let behind = left_behind c.args.mults.len c.args.mults.items c.as_mut_slice.result.now c.narrow.new.mults c.args.mults.ok.0 c.as_mut_slice.ensures.value c.narrow.ensures.nearer in
    let lent : AreNarrow c.args.scale c.as_mut_slice.result.now → (c.narrow.new.scale ≡ c.args.scale) × (c.narrow.new.mults ≡ c.as_mut_slice.result.now) =
    simp to_z-of_z at c.narrow.ensures.unchanged in
    let own = subst (λ (ys : List ℤ). AreNarrow c.args.scale ys → (c.narrow.new.scale ≡ c.args.scale) × (c.narrow.new.mults ≡ ys)) c.as_mut_slice.ensures.value lent in
    simp to_z-of_z
    (subst (λ (ys : List ℤ). AreNarrow c.args.scale c.args.mults.items → (c.narrow.new.scale ≡ c.args.scale) × (ys ≡ c.args.mults.items)) (sym behind) own)

pub returns-clause-scale : goal.returns-clause-scale
returns-clause-scale c =
    let new = scale_fits c.narrow.new.scale c.narrow.ensures.scale in
    simp to_z-of_z c.narrow.ensures.scale

pub returns-clause-mults : goal.returns-clause-mults
returns-clause-mults c =
    let behind = left_behind c.args.mults.len c.args.mults.items c.as_mut_slice.result.now c.narrow.new.mults c.args.mults.ok.0 c.as_mut_slice.ensures.value c.narrow.ensures.nearer in
    subst (All IsMultiplier) (sym behind) c.narrow.ensures.mults

pub returns-clause-count : goal.returns-clause-count
returns-clause-count c =
    let behind = left_behind c.args.mults.len c.args.mults.items c.as_mut_slice.result.now c.narrow.new.mults c.args.mults.ok.0 c.as_mut_slice.ensures.value c.narrow.ensures.nearer in
    ap length behind ∙ c.narrow.ensures.nearer.count ∙ ap length c.as_mut_slice.ensures.value

pub returns-clause-signs : goal.returns-clause-signs
returns-clause-signs c =
    let behind = left_behind c.args.mults.len c.args.mults.items c.as_mut_slice.result.now c.narrow.new.mults c.args.mults.ok.0 c.as_mut_slice.ensures.value c.narrow.ensures.nearer in
    λ program h.
    let lent = subst (HasRightSigns program) (sym c.as_mut_slice.ensures.value) h in
    subst (HasRightSigns program) (sym behind) (c.narrow.ensures.signs program lent)
