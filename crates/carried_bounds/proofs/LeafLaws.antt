-- The multipliers of a leaf after an ascent, as they are written down.
use Rattle.std.proofs.Common.{◌≡◌, ℕ, List, length, sym, ap, subst, arith, ◌∙◌, inl, inr, ⊎_elim}
use Rattle.std.specs.Prelude.{ℤ, ◌<ℤ◌, Result, Ok, Err, IfOk}
use Rattle.std.proofs.lemmas.List.{take_all}
use Rattle.programs.specs.Programs.{Program, row_count}
use Rattle.safe_bounds.specs.Values.{value_of, HasRightSigns}
use Rattle.safe_bounds.specs.Sparse.{dense}
use Rattle.road_types.specs.declared.road.Road.{Road}
use Rattle.milp_builder.specs.BoxPrograms.{box_program}
use Rattle.milp_builder.specs.declared.boxes.BoxRange.{BoxRange}
use Rattle.cert_tree.specs.Trees.{AreMultipliersBehind}
use Rattle.cert_tree.specs.Written.{IsWritten}
use Rattle.cert_tree.specs.Proving.{AreSigned}
use Rattle.cert_tree.proofs.LeafLemmas.{are_multipliers}
use Rattle.bound_tools.specs.Ascents.{AreAllowed, RoseOrIsBest, IsBestByOnes}
use Rattle.carried_bounds.specs.Carried.{AreCarried}
use Rattle.carried_bounds.specs.inside.Risen.{AreRisen}
use Rattle.carried_bounds.proofs.PairsLemmas.{same_pairs}

pub allowed_spread : (program : Program) (mults : List (ℕ × ℤ)) → AreMultipliersBehind (row_count program) 0 mults → HasRightSigns program (dense (row_count program) mults)
    → AreAllowed program (dense (row_count program) mults)
allowed_spread program mults on signs = record { within = are_multipliers program mults on; signs = signs }

pub risen_written : (program : Program) (scale : ℤ) (given pairs : List (ℕ × ℤ)) (new : List ℤ) → AreMultipliersBehind (row_count program) 0 given → AreAllowed program new
    → RoseOrIsBest program scale (dense (row_count program) given) new → IsWritten new (length new) pairs → AreRisen program scale given pairs
risen_written program scale given pairs new on allowed risen w =
    let n = row_count program in
    let rows : length new ≡ n = allowed.within.each_row in
    let same : dense n pairs ≡ new = ap (λ k. dense k pairs) (sym rows) ∙ w.same ∙ take_all (length new) new (omega arith) in
    let behind = subst (λ k. AreMultipliersBehind k 0 pairs) rows w.on_rows in
    record {
      on_rows = behind;
      right_signs = subst (HasRightSigns program) (sym same) allowed.signs;
      above =
          ⊎_elim
          (λ (r : value_of program scale (dense n given) <ℤ value_of program scale new). inl (subst (λ ys. value_of program scale (dense n given) <ℤ value_of program scale ys) (sym same) r))
          (λ (b : (new ≡ dense n given) × IsBestByOnes program scale (dense n given)). inr (same_pairs n pairs given behind on (same ∙ b.0), b.1))
          risen;
    }

pub carried_on : (road : Road) (box : BoxRange) (program : Program) (scale : ℤ) (given carried : List (ℕ × ℤ)) → program ≡ box_program road box → AreRisen program scale given carried
    → AreCarried road box scale given carried
carried_on road box program scale given carried e h =
    let here = subst (λ p. AreRisen p scale given carried) e h in
    record { sound = record { on_rows = here.on_rows; right_signs = here.right_signs }; risen = here.above }

-- the signs on a box are those on its program
pub signed_on : (road : Road) (box : BoxRange) (program : Program) (mults : List (ℕ × ℤ)) → program ≡ box_program road box → AreSigned road box mults → HasRightSigns program (dense (row_count program) mults)
signed_on road box program mults e h = subst (λ p. HasRightSigns p (dense (row_count p) mults)) (sym e) h

-- ---- where memory was had

pub risen_found : {E : Type 0} (program : Program) (scale : ℤ) (given : List (ℕ × ℤ)) (new last : List ℤ) (result : Result (List (ℕ × ℤ)) E) → AreMultipliersBehind (row_count program) 0 given → AreAllowed program new
    → RoseOrIsBest program scale (dense (row_count program) given) new → last ≡ new → IfOk result (λ (pairs : List (ℕ × ℤ)). IsWritten last (length last) pairs)
    → IfOk result (λ (pairs : List (ℕ × ℤ)). AreRisen program scale given pairs)
risen_found program scale given new last (Ok pairs) on allowed risen e w = risen_written program scale given pairs new on allowed risen (subst (λ ys. IsWritten ys (length ys) pairs) e w)
risen_found program scale given new last (Err error) on allowed risen e w = w

pub carried_found : {E : Type 0} (road : Road) (box : BoxRange) (program : Program) (scale : ℤ) (given : List (ℕ × ℤ)) (result : Result (List (ℕ × ℤ)) E) → program ≡ box_program road box
    → IfOk result (λ (pairs : List (ℕ × ℤ)). AreRisen program scale given pairs) → IfOk result (λ (pairs : List (ℕ × ℤ)). AreCarried road box scale given pairs)
carried_found road box program scale given (Ok pairs) e h = carried_on road box program scale given pairs e h
carried_found road box program scale given (Err error) e h = h
