use Rattle.std.proofs.Common.{◌≡◌, ◌++◌, ℕ, List, length, take, drop, arith, ap, subst, ◌∙◌}
use Rattle.std.specs.Prelude.{FitsSigned, ℤ}
use Rattle.std.specs.Int.{w128}
use Rattle.std.proofs.lemmas.Int.{to_z-of_z}
use Rattle.std.proofs.lemmas.List.{take_all, take-append-le}
use Rattle.programs.specs.Programs.{row_count}
use Rattle.safe_bounds.specs.Sparse.{dense}
use Rattle.cert_tree.proofs.LeafLemmas.{rises_by_row}
use Rattle.bound_tools.specs.Ascents.{RoseOrIsBest}
use Rattle.carried_bounds.proofs.LeafLaws.{allowed_spread, risen_found}
use Rattle.carried_bounds.proofs.leaves.raised_mults.Goals as goal

-- a list that was lent whole ends as what was left in its place
left_behind : (count n : ℕ) (old new : List ℤ) → count ≡ length old → length old ≡ n → length new ≡ n → take count (new ++ drop (length new) old) ≡ new
left_behind count n old new e l m = take-append-le count new (drop (length new) old) (omega arith) ∙ take_all count new (omega arith)

pub spread-requires : goal.spread-requires
spread-requires c = rw c.rows.ensures.count (rises_by_row (row_count c.args.milp.now) 0 c.args.mults.now (omega arith) c.requires.mults)

pub ascend-requires-clause-mults : goal.ascend-requires-clause-mults
ascend-requires-clause-mults c =
    rw (c.as_mut_slice.ensures.value, c.in_ok-spread.ensures, c.rows.ensures.count) (allowed_spread c.args.milp.now c.args.mults.now c.requires.mults c.requires.signs)

pub returns : goal.returns
returns c =
    let program = c.args.milp.now in
    let given = c.args.mults.now in
    let scale : FitsSigned w128 c.args.scale = c.ranges.scale in
    let start : c.as_mut_slice.result.now ≡ dense (row_count program) given =
    c.as_mut_slice.ensures.value ∙ c.in_ok-spread.ensures ∙ ap (λ n. dense n given) c.rows.ensures.count in
    let rounds = simp to_z-of_z at c.ascend.ensures.risen in
    let risen = subst (λ ys. RoseOrIsBest program c.args.scale ys c.ascend.new.mults) start (rounds (omega arith)) in
    let items = c.in_ok-spread.ensures ∙ ap (λ n. dense n given) c.rows.ensures.count in
    let rows = ap length items ∙ (allowed_spread program given c.requires.mults c.requires.signs).within.each_row in
    let behind =
    left_behind c.in_ok-spread.spread.len (row_count program) c.in_ok-spread.spread.items c.ascend.new.mults c.in_ok-spread.spread.ok.0 rows c.ascend.ensures.mults.within.each_row in
    risen_found program c.args.scale given c.ascend.new.mults c.as_slice.result.now c.written.result c.requires.mults c.ascend.ensures.mults risen (c.as_slice.ensures.value ∙ behind) c.written.ensures
