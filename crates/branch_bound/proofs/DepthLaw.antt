-- No leaf of a tree of an accepted road's boxes stands under more than 432 splits: four blocks of four openings, and sixty sections of eight
-- slabs.
use Rattle.std.proofs.Common.{◌≡◌, ℕ, zero, suc, ◌+◌, ◌-◌, ◌*◌, ◌≤◌, ◌<◌, max, List, [], ◌∷◌, length, map, get_or, set, Some, arith, sym, subst, refl, ◌∙◌}
use Rattle.std.specs.Prelude.{ℤ, pos}
use Rattle.std.proofs.lemmas.Int.{ints}
use Rattle.std.proofs.lemmas.List.{get_or-set_same}
use Rattle.road_types.specs.Numbered.{IsNumber}
use Rattle.road_types.specs.WellFormed.{IsWellFormed}
use Rattle.road_types.specs.Ranges.{height_range, IsHeightRange, whole_range, whole_opening}
use Rattle.road_types.specs.Road.{section, section_count, block_count, no_section, no_block}
use Rattle.road_types.specs.declared.road.Road.{Road}
use Rattle.road_types.specs.declared.road.Block.{Block}
use Rattle.road_points.proofs.FormsHold.{tables_of}
use Rattle.milp_builder.specs.Boxes.{opening_range, IsBoxOf, root_box}
use Rattle.milp_builder.specs.Parts.{IsSplitOf, first_part, second_part}
use Rattle.milp_builder.specs.declared.boxes.BoxRange.{BoxRange}
use Rattle.milp_builder.specs.declared.boxes.Split.{Split}
use Rattle.milp_builder.specs.declared.boxes.Split.TheVariants.{Removal, Height}
use Rattle.milp_builder.proofs.Cover.{found_parts_cover}
use Rattle.milp_builder.proofs.RootBox.{root_box_fits}
use Rattle.cert_tree.specs.Trees.{BoxTree, low, dead, fork}
use Rattle.cert_tree.specs.Soundness.{SplitsFit}
use Rattle.branch_bound.specs.inside.Depths.{depth, sum_from, opening_splits, height_splits, box_splits}
use Rattle.branch_bound.proofs.LeavesLaw.{entry_before, number_before, whole_slabs}
use Rattle.branch_bound.proofs.SlabLemmas.{slabs_of_parts, some_slabs}

-- one entry replaced by another whose value is less
set_less : {A : Type 0} (f : ℕ → A → ℕ) (xs : List A) (n i : ℕ) (a other : A) → i < length xs
    → ((m : ℕ) → m ≡ n + i → f m a + 1 ≤ f m (get_or xs i other)) → sum_from f n (set xs i a) + 1 ≤ sum_from f n xs
set_less f [] n i a other l h = absurd (omega arith)
set_less f (x ∷ xs) n zero a other l h = let here = h n (omega arith) in omega arith
set_less f (x ∷ xs) n (suc i) a other l h =
    let more = set_less f xs (suc n) i a other (omega arith) (λ m e. h m (omega arith)) in omega arith

sum_within : {A : Type 0} (f : ℕ → A → ℕ) (xs : List A) (n most : ℕ) (other : A)
    → ((i m : ℕ) → i < length xs → m ≡ n + i → f m (get_or xs i other) ≤ most) → sum_from f n xs ≤ length xs * most
sum_within f [] n most other h = omega arith
sum_within f (x ∷ xs) n most other h =
    let here = h 0 n (omega arith) (omega arith) in
    let more = sum_within f xs (suc n) most other (λ i m l e. h (suc i) m (omega arith) (omega arith)) in
    omega arith

max_within : (a b most : ℕ) → a + 1 ≤ most → b + 1 ≤ most → 1 + max a b ≤ most
max_within a b most h k = grind arith

mapped : {A B : Type 0} (f : A → B) (xs : List A) (i : ℕ) (d : A) → get_or (map f xs) i (f d) ≡ f (get_or xs i d)
mapped f [] i d = refl
mapped f (x ∷ xs) zero d = refl
mapped f (x ∷ xs) (suc i) d = mapped f xs i d

mapped_length : {A B : Type 0} (f : A → B) (xs : List A) → length (map f xs) ≡ length xs
mapped_length f [] = refl
mapped_length f (x ∷ xs) = omega (arith, mapped_length f xs)

module _ (road : Road) (well : IsWellFormed road) where
  abbrev IsRange : ℕ → ℤ × ℤ → Type 0
  IsRange i range = IsHeightRange (section road i) range

  opening_less : (box : BoxRange) (k : ℕ) (range : ℕ × ℕ) → IsBoxOf road box → IsNumber k (block_count road)
      → ((range.1 - range.0) + 1) ≤ ((opening_range box k).1 - (opening_range box k).0)
      → sum_from opening_splits 1 (set box.opens (k - 1) range) + 1 ≤ sum_from opening_splits 1 box.opens
  opening_less box k range fits n h =
      set_less opening_splits box.opens 1 (k - 1) range (0, 0)
      (let count = fits.opens_count in omega (arith, n.from_one, n.at_most))
      (λ m e. subst (λ (r : ℕ × ℕ). ((range.1 - range.0) + 1) ≤ (r.1 - r.0)) (sym (entry_before (0, 0) box.opens k n.from_one)) h)

  height_less : (box : BoxRange) (i : ℕ) (range : ℤ × ℤ) → IsBoxOf road box → IsNumber i (section_count road)
      → height_splits road i range + 1 ≤ height_splits road i (height_range box.heights i)
      → sum_from (height_splits road) 1 (set box.heights (i - 1) range) + 1 ≤ sum_from (height_splits road) 1 box.heights
  height_less box i range fits n h =
      set_less (height_splits road) box.heights 1 (i - 1) range (pos 0, pos 0)
      (let count = fits.heights_count in omega (arith, n.from_one, n.at_most))
      (λ m e.
      subst (λ (r : ℤ × ℤ). height_splits road m range + 1 ≤ height_splits road m r) (sym (entry_before (pos 0, pos 0) box.heights i n.from_one))
      (subst (λ (j : ℕ). height_splits road j range + 1 ≤ height_splits road j (height_range box.heights i)) (number_before i n.from_one ∙ sym e) h))

  -- a range of a box after one entry was set
  set_range : (box : BoxRange) (i : ℕ) (range : ℤ × ℤ) → IsBoxOf road box → IsNumber i (section_count road)
      → height_range (set box.heights (i - 1) range) i ≡ range
  set_range box i range fits n =
      sym (entry_before (pos 0, pos 0) (set box.heights (i - 1) range) i n.from_one)
      ∙ get_or-set_same box.heights (i - 1) range (pos 0, pos 0) (let count = fits.heights_count in omega (arith, n.from_one, n.at_most))

  record Splits (box : BoxRange) (split : Split) : Type 0 where
    first : box_splits road (first_part box split) + 1 ≤ box_splits road box
    second : box_splits road (second_part box split) + 1 ≤ box_splits road box

  one_less : (box : BoxRange) (split : Split) → IsBoxOf road box → IsSplitOf road box split → Splits box split
  one_less box (Removal k stage) fits s =
      let from = (opening_range box k).0 in
      let to = (opening_range box k).1 in
      let up = s.up_to in
      let after = s.after in
      let one = opening_less box k (from, stage) fits s.number (omega arith) in
      let two = opening_less box k (stage + 1, to) fits s.number (omega arith) in
      record { first = omega (arith, one); second = omega (arith, two) }
  one_less box (Height i at) fits s =
      let low = (height_range box.heights i).0 in
      let high = (height_range box.heights i).1 in
      let n = s.number in
      let tables = tables_of road well i n in
      let cover = found_parts_cover road box fits (Height i at) (Some (first_part box (Height i at), second_part box (Height i at))) (s, refl) in
      let both = slabs_of_parts (section road i) tables low at high (omega (arith, ints, s.above)) (omega (arith, ints, s.below)) in
      let below = some_slabs (section road i) tables (low, at) (subst (IsRange i) (set_range box i (low, at) fits n) (cover.first_fits.heights i n)) in
      let above = some_slabs (section road i) tables (at, high) (subst (IsRange i) (set_range box i (at, high) fits n) (cover.second_fits.heights i n)) in
      let one = height_less box i (low, at) fits n (omega (arith, both, below, above)) in
      let two = height_less box i (at, high) fits n (omega (arith, both, below, above)) in
      record { first = omega (arith, one); second = omega (arith, two) }

  deep : (tree : BoxTree) (box : BoxRange) → IsBoxOf road box → SplitsFit road tree box → depth tree ≤ box_splits road box
  deep (low scale mults cause) box fits h = omega arith
  deep (dead mults) box fits h = omega arith
  deep (fork split first second) box fits h =
      let cover = found_parts_cover road box fits split (Some (first_part box split, second_part box split)) (h.0, refl) in
      let one = deep first (first_part box split) cover.first_fits h.1 in
      let two = deep second (second_part box split) cover.second_fits h.2 in
      let less = one_less box split fits h.0 in
      let a = less.first in
      let b = less.second in
      max_within (depth first) (depth second) (box_splits road box) (omega (arith, one, a)) (omega (arith, two, b))

  opening_at : (i : ℕ) → i < length (root_box road).opens → opening_splits (1 + i) (get_or (root_box road).opens i (whole_opening road)) ≤ 3
  opening_at i l =
      subst (λ (r : ℕ × ℕ). (r.1 - r.0) ≤ 3) (sym (mapped (λ (b : Block). whole_opening road) road.blocks i no_block))
      (let few = well.counted.stages_to in omega (arith, few))

  height_at : (i m : ℕ) → i < length (root_box road).heights → m ≡ 1 + i → height_splits road m (get_or (root_box road).heights i (whole_range no_section)) ≤ 7
  height_at i m l e =
      let inside : i < length road.sections = let size = mapped_length whole_range road.sections in omega (arith, size, l) in
      let whole = whole_slabs road well i m inside e in
      let number : IsNumber (suc i) (section_count road) = record { from_one = omega arith; at_most = omega arith } in
      let s = (well.sections (suc i) number) in
      let same : get_or road.sections i no_section ≡ section road (suc i) = refl in
      let cut = s.cut.few in
      let fill = s.fill.few in
      subst (λ (r : ℤ × ℤ). height_splits road m r ≤ 7) (sym (mapped whole_range road.sections i no_section))
      (omega (arith, whole, cut, fill))

  root_opens : sum_from opening_splits 1 (root_box road).opens ≤ 12
  root_opens =
      let each = sum_within opening_splits (root_box road).opens 1 3 (whole_opening road) (λ i m l e. opening_at i l) in
      let count = (root_box_fits road well).opens_count in
      let few = well.counted.blocks_to in
      omega (arith, each, count, few)

  root_heights : sum_from (height_splits road) 1 (root_box road).heights ≤ 420
  root_heights =
      let each = sum_within (height_splits road) (root_box road).heights 1 7 (whole_range no_section) (λ i m l e. height_at i m l e) in
      let count = (root_box_fits road well).heights_count in
      let few = well.counted.sections_to in
      omega (arith, each, count, few)

  pub few_splits : (tree : BoxTree) → SplitsFit road tree (root_box road) → depth tree ≤ 432
  few_splits tree h =
      let within = deep tree (root_box road) (root_box_fits road well) h in
      omega (arith, within, root_opens, root_heights)
