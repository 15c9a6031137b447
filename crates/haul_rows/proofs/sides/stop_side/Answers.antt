use Rattle.std.proofs.Common.{◌≡◌, ℕ, zero, suc, ◌+◌, ◌-◌, ◌*◌, ◌/◌, ◌%◌, ◌<◌, ◌≤◌, [], ◌∷◌, length, arith, ap, sym, ◌∙◌, refl, FitsSigned, rules}
use Rattle.std.specs.Int.{w64}
use Rattle.std.proofs.lemmas.Int.{to_z-of_z}
use Rattle.std.proofs.Math.Nat.{mod-lt}
use Rattle.algebra.specs.Lists.{flat_to}
use Rattle.algebra.specs.Numbered.{numbered, IsNumber}
use Rattle.algebra.proofs.ListsLemmas.{length-flat_to}
use Rattle.road_types.specs.Forms.{no_form}
use Rattle.road_types.specs.HaulForms.{cut_stop_form, fill_stop_form}
use Rattle.road_types.specs.Road.{block_count}
use Rattle.form_rows.specs.FormRows.{asked}
use Rattle.form_rows.proofs.PlaceLemmas.{few_lists, flat_at, pair_first, pair_second, below_two}
use Rattle.road_types.specs.declared.road.Road.{Road}
use Rattle.haul_rows.proofs.sides.stop_side.Goals as goal

-- a product of at least 1 has a factor of at least 1
some_width : (n w at : ℕ) → 1 ≤ at → at ≤ n * w → 1 ≤ w
some_width n zero at low high = absurd (omega arith)
some_width n (suc w) at low high = omega arith

-- the block of a row
block_place : (row n w : ℕ) → IsNumber row (n * w) → IsNumber ((row - 1) / w + 1) n
block_place row n w h = record { from_one = omega arith; at_most = few_lists row n w h.from_one h.at_most (some_width n w row h.from_one h.at_most) }

-- a block has two stop rows for each stage but the first
stop_width : (road : Road) (k : ℕ) → length (flat_to (λ before. cut_stop_form road k (before + 1) ∷ fill_stop_form road k (before + 1) ∷ []) (road.stages - 1)) ≡ 2 * (road.stages - 1)
stop_width road k = omega (arith, length-flat_to (λ before. cut_stop_form road k (before + 1) ∷ fill_stop_form road k (before + 1) ∷ []) (road.stages - 1) 2 (λ j low high. refl))

pub returns-then-row-width-eq0 : goal.returns-then-row-width-eq0
returns-then-row-width-eq0 c =
    let road = c.args.road.now in
    let w = 2 * (road.stages - 1) in
    let wide : 1 ≤ w = some_width (block_count road) w c.args.row c.requires.row.from_one c.requires.row.at_most in
    let n : IsNumber c.args.row (block_count road * w) = c.requires.row in
    let k = (c.args.row - 1) / w + 1 in
    let inner = (c.args.row - 1) % w in
    let here = flat_at (λ k. flat_to (λ before. cut_stop_form road k (before + 1) ∷ fill_stop_form road k (before + 1) ∷ []) (road.stages - 1)) (block_count road) w c.args.row
    (λ j low high. stop_width road j) wide n in
    let positive : 0 < w = omega arith in
    let small : inner < w = mod-lt (c.args.row - 1) positive in
    let m : IsNumber (inner + 1) ((road.stages - 1) * 2) = record { from_one = omega arith; at_most = omega arith } in
    let inside = flat_at (λ before. cut_stop_form road k (before + 1) ∷ fill_stop_form road k (before + 1) ∷ []) (road.stages - 1) 2 (inner + 1) (λ j low high. refl) (omega arith) m in
    let same : inner + 1 - 1 ≡ inner = omega arith in
    let stage = inner / 2 + 1 + 1 in
    let there = ap (λ (x : ℕ). numbered no_form (cut_stop_form road k (x / 2 + 1 + 1) ∷ fill_stop_form road k (x / 2 + 1 + 1) ∷ []) (x % 2 + 1)) same in
    let form = ap asked (here ∙ inside ∙ there ∙ pair_first (cut_stop_form road k stage) (fill_stop_form road k stage) (inner % 2) c.if-row-width-eq0.true) in
    let fits : FitsSigned w64 c.opposite.result = search rules in
    let cap : FitsSigned w64 c.cut_cap.result = search rules in
    let right = rw c.cut_cap.ensures.value at (simp to_z-of_z at c.opposite.ensures) in
    simp to_z-of_z (rw right (sym form))

pub returns-else-row-width-eq0 : goal.returns-else-row-width-eq0
returns-else-row-width-eq0 c =
    let road = c.args.road.now in
    let w = 2 * (road.stages - 1) in
    let wide : 1 ≤ w = some_width (block_count road) w c.args.row c.requires.row.from_one c.requires.row.at_most in
    let n : IsNumber c.args.row (block_count road * w) = c.requires.row in
    let k = (c.args.row - 1) / w + 1 in
    let inner = (c.args.row - 1) % w in
    let here = flat_at (λ k. flat_to (λ before. cut_stop_form road k (before + 1) ∷ fill_stop_form road k (before + 1) ∷ []) (road.stages - 1)) (block_count road) w c.args.row
    (λ j low high. stop_width road j) wide n in
    let positive : 0 < w = omega arith in
    let small : inner < w = mod-lt (c.args.row - 1) positive in
    let m : IsNumber (inner + 1) ((road.stages - 1) * 2) = record { from_one = omega arith; at_most = omega arith } in
    let inside = flat_at (λ before. cut_stop_form road k (before + 1) ∷ fill_stop_form road k (before + 1) ∷ []) (road.stages - 1) 2 (inner + 1) (λ j low high. refl) (omega arith) m in
    let same : inner + 1 - 1 ≡ inner = omega arith in
    let stage = inner / 2 + 1 + 1 in
    let there = ap (λ (x : ℕ). numbered no_form (cut_stop_form road k (x / 2 + 1 + 1) ∷ fill_stop_form road k (x / 2 + 1 + 1) ∷ []) (x % 2 + 1)) same in
    let form = ap asked (here ∙ inside ∙ there ∙ pair_second (cut_stop_form road k stage) (fill_stop_form road k stage) (inner % 2) (below_two inner) (λ e. omega arith)) in
    let fits : FitsSigned w64 c.opposite-else-row-width-eq0.result = search rules in
    let cap : FitsSigned w64 c.fill_cap.result = search rules in
    let right = rw c.fill_cap.ensures.value at (simp to_z-of_z at c.opposite-else-row-width-eq0.ensures) in
    simp to_z-of_z (rw right (sym form))

pub cut_cap-requires-clause-block : goal.cut_cap-requires-clause-block
cut_cap-requires-clause-block c = block_place c.args.row (block_count c.args.road.now) (2 * (c.args.road.now.stages - 1)) c.requires.row

pub fill_cap-requires-clause-block : goal.fill_cap-requires-clause-block
fill_cap-requires-clause-block c = block_place c.args.row (block_count c.args.road.now) (2 * (c.args.road.now.stages - 1)) c.requires.row

pub opposite-requires : goal.opposite-requires
opposite-requires c =
    let cap : FitsSigned w64 c.cut_cap.result = search rules in
    simp to_z-of_z c.cut_cap.ensures.from

pub opposite-requires-else-row-width-eq0 : goal.opposite-requires-else-row-width-eq0
opposite-requires-else-row-width-eq0 c =
    let cap : FitsSigned w64 c.fill_cap.result = search rules in
    simp to_z-of_z c.fill_cap.ensures.from
