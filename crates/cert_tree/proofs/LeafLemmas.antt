-- Multipliers as they are written down, one by one, and on the rows of a box.
use Rattle.std.proofs.Common.{◌≡◌, ℕ, ℤ, pos, ◌+◌, ◌-◌, ◌≤◌, ◌<◌, List, [], ◌∷◌, All, length, take, get_or, set, replicate, sym, ap, subst, ◌∙◌, arith}
use Rattle.std.proofs.lemmas.List.{length-map, take_more}
use Rattle.std.proofs.lemmas.List.Elements.{All-nil, All-cons}
use Rattle.algebra.specs.Numbered.{IsNumber}
use Rattle.programs.specs.Programs.{Program, row_count}
use Rattle.safe_bounds.specs.Values.{IsMultiplier, AreMultipliers}
use Rattle.safe_bounds.specs.Sparse.{dense, RisesByRow}
use Rattle.safe_bounds.proofs.SparseLemmas.{are_multipliers-dense, pair_number, rising_before, dense_more, dense_none, length-dense}
use Rattle.road_types.specs.declared.road.Road.{Road}
use Rattle.road_types.specs.RoadPrograms.{row_of, forms_of, lines_in, row_count as road_row_count}
use Rattle.road_types.proofs.FormCounts.{length-forms_of}
use Rattle.milp_builder.specs.BoxPrograms.{box_program}
use Rattle.milp_builder.specs.declared.boxes.BoxRange.{BoxRange}
use Rattle.cert_tree.specs.Trees.{AreMultipliersBehind}

pub rises_by_row : (rows before : ℕ) (mults : List (ℕ × ℤ)) → before ≤ rows → AreMultipliersBehind rows before mults → RisesByRow before rows mults
rises_by_row rows before [] b h = b
rises_by_row rows before (mult ∷ mults) b h = (h.0.behind, rises_by_row rows mult.0 mults h.0.row h.1)

within : (rows before : ℕ) (mults : List (ℕ × ℤ)) → AreMultipliersBehind rows before mults → All (λ p. IsMultiplier p.1) mults
within rows before [] h = let P : ℕ × ℤ → Type 0 = λ p. IsMultiplier p.1 in All-nil P
within rows before (mult ∷ mults) h =
    let P : ℕ × ℤ → Type 0 = λ p. IsMultiplier p.1 in All-cons P mult mults h.0.within (within rows mult.0 mults h.1)

pub are_multipliers : (program : Program) (mults : List (ℕ × ℤ)) → AreMultipliersBehind (row_count program) 0 mults → AreMultipliers program (dense (row_count program) mults)
are_multipliers program mults h = are_multipliers-dense program mults (within (row_count program) 0 mults h)

pub mult_number : (rows k : ℕ) (mults : List (ℕ × ℤ)) (other : ℕ × ℤ) → AreMultipliersBehind rows 0 mults → k < length mults → IsNumber (get_or mults k other).0 rows
mult_number rows k mults other h l = pair_number 0 rows mults k other (rises_by_row rows 0 mults (omega arith) h) l

pub spread_start : (rows : ℕ) (items : List ℤ) → items ≡ replicate rows (pos 0) → items ≡ dense rows []
spread_start rows items e = e ∙ sym (dense_none rows)

pub spread_row : (rows place : ℕ) (mults : List (ℕ × ℤ)) (items : List ℤ) → RisesByRow 0 rows mults → place < length mults → items ≡ dense rows (take place mults) → IsNumber (get_or mults place (0, pos 0)).0 (length items)
spread_row rows place mults items h l e =
    let n = pair_number 0 rows mults place (0, pos 0) h l in
    let size = ap length e ∙ length-dense rows (take place mults) in
    subst (IsNumber (get_or mults place (0, pos 0)).0) (sym size) n

pub spread_more : (rows place : ℕ) (mults : List (ℕ × ℤ)) (items : List ℤ) → RisesByRow 0 rows mults → place < length mults → items ≡ dense rows (take place mults) → set items ((get_or mults place (0, pos 0)).0 - 1) (get_or mults place (0, pos 0)).1 ≡ dense rows (take (place + 1) mults)
spread_more rows place mults items h l e =
    let q = get_or mults place (0, pos 0) in
    let n = pair_number 0 rows mults place (0, pos 0) h l in
    let later = rising_before 0 rows mults place (0, pos 0) h l in
    ap (λ (xs : List ℤ). set xs (q.0 - 1) q.1) e ∙ sym (dense_more rows (take place mults) q later n) ∙ ap (dense rows) (sym (take_more mults place (0, pos 0) l))

-- the program of a box has the road's rows
pub box_rows : (road : Road) (box : BoxRange) → row_count (box_program road box) ≡ road_row_count road
box_rows road box =
    length-map (forms_of road (lines_in road box.heights)) (row_of road) ∙ length-forms_of road (lines_in road box.heights)

pub on_rows : (road : Road) (box : BoxRange) (program : Program) (mults : List (ℕ × ℤ)) → program ≡ box_program road box → AreMultipliersBehind (road_row_count road) 0 mults → AreMultipliersBehind (row_count program) 0 mults
on_rows road box program mults e h = subst (λ n. AreMultipliersBehind n 0 mults) (sym (ap row_count e ∙ box_rows road box)) h
