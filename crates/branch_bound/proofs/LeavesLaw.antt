-- A tree has no more leaves than its box has choices, and the root box has no more choices than the road.
use Rattle.std.proofs.Common.{◌≡◌, ℕ, zero, suc, ◌+◌, ◌-◌, ◌^◌, ◌≤◌, ◌<◌, List, [], ◌∷◌, length, map, get_or, set, Some, arith, sym, ap, subst, refl, ◌∙◌}
use Rattle.std.specs.Prelude.{ℤ, pos}
use Rattle.std.proofs.lemmas.Int.{ints}
use Rattle.std.proofs.Math.Nat.{mul-le-mul_left, mul-le-mul_right}
use native.Mathlib.Numerals.{unary_clauses}
use Rattle.std.proofs.Common.{mul_comm}
use Rattle.road_types.specs.Numbered.{numbered, IsNumber}
use Rattle.road_types.specs.Accepted.{IsAccepted}
use Rattle.road_types.specs.WellFormed.{IsWellFormed}
use Rattle.road_types.specs.Ranges.{height_range, whole_range, whole_opening}
use Rattle.road_types.specs.Road.{section, section_count, no_section}
use Rattle.road_types.specs.declared.road.Road.{Road}
use Rattle.road_types.specs.declared.road.Section.{Section}
use Rattle.road_types.specs.declared.road.Block.{Block}
use Rattle.road_points.proofs.FormsHold.{tables_of}
use Rattle.milp_builder.specs.Boxes.{opening_range, IsBoxOf, root_box}
use Rattle.milp_builder.specs.Parts.{IsSplitOf, SplitsOpenings, SplitsOffsets, first_part, second_part}
use Rattle.milp_builder.specs.declared.boxes.BoxRange.{BoxRange}
use Rattle.milp_builder.specs.declared.boxes.Split.{Split}
use Rattle.milp_builder.specs.declared.boxes.Split.TheVariants.{Removal, Height}
use Rattle.milp_builder.proofs.Cover.{found_parts_cover}
use Rattle.milp_builder.proofs.RootBox.{root_box_fits}
use Rattle.cert_tree.specs.Trees.{BoxTree, low, dead, fork}
use Rattle.cert_tree.specs.Soundness.{SplitsFit}
use Rattle.branch_bound.specs.Leaves.{leaf_count, slab_count, slab_choices, most_leaves, HasFewLeaves}
use Rattle.branch_bound.specs.inside.Choices.{opening_choices, slab_choices_in, product_from, opens_product, heights_product, box_choices}
use Rattle.branch_bound.proofs.ProductLemmas.{set_twice, product_from_one, times_at_most}
use Rattle.branch_bound.proofs.SlabLemmas.{slabs_of_parts, slabs_of_all, some_slabs}

openings_of_parts : (from stage to : ℕ) → from ≤ stage → stage < to
    → opening_choices (from, stage) + opening_choices (stage + 1, to) ≤ opening_choices (from, to)
openings_of_parts from stage to h k = omega arith

-- the one before a number and its place behind 1
pub number_before : (k : ℕ) → 1 ≤ k → k ≡ 1 + (k - 1)
number_before k h = omega arith

-- an entry by its number is the one at the place before
pub entry_before : {A : Type 0} (other : A) (xs : List A) (k : ℕ) → 1 ≤ k → get_or xs (k - 1) other ≡ numbered other xs k
entry_before other xs zero h = absurd (omega arith)
entry_before other xs (suc k) h = ap (λ (i : ℕ). get_or xs i other) (omega arith)

module _ (road : Road) (well : IsWellFormed road) where
  -- both parts have no more choices together than the box
  opening_parts : (box : BoxRange) (k stage : ℕ) → IsBoxOf road box → SplitsOpenings road box k stage
      → opens_product (set box.opens (k - 1) ((opening_range box k).0, stage)) + opens_product (set box.opens (k - 1) (stage + 1, (opening_range box k).1))
      ≤ opens_product box.opens
  opening_parts box k stage fits s =
      set_twice (λ (n : ℕ) (range : ℕ × ℕ). opening_choices range) box.opens 1 (k - 1)
      ((opening_range box k).0, stage) (stage + 1, (opening_range box k).1) (0, 0)
      (let n = s.number in let count = fits.opens_count in omega (arith, n.from_one, n.at_most))
      (λ m e.
      subst (λ (r : ℕ × ℕ). opening_choices ((opening_range box k).0, stage) + opening_choices (stage + 1, (opening_range box k).1) ≤ opening_choices r)
      (sym (entry_before (0, 0) box.opens k s.number.from_one))
      (openings_of_parts (opening_range box k).0 stage (opening_range box k).1 s.up_to s.after))

  height_parts : (box : BoxRange) (i : ℕ) (at : ℤ) → IsBoxOf road box → SplitsOffsets road box i at
      → heights_product road (set box.heights (i - 1) ((height_range box.heights i).0, at)) + heights_product road (set box.heights (i - 1) (at, (height_range box.heights i).1))
      ≤ heights_product road box.heights
  height_parts box i at fits s =
      let low = (height_range box.heights i).0 in
      let high = (height_range box.heights i).1 in
      let here = slabs_of_parts (section road i) (tables_of road well i s.number) low at high (omega (arith, ints, s.above)) (omega (arith, ints, s.below)) in
      set_twice (λ (n : ℕ) (range : ℤ × ℤ). slab_choices_in (section road n) range) box.heights 1 (i - 1)
      (low, at) (at, high) (pos 0, pos 0)
      (let n = s.number in let count = fits.heights_count in omega (arith, n.from_one, n.at_most))
      (λ m e.
      subst (λ (r : ℤ × ℤ). slab_choices_in (section road m) (low, at) + slab_choices_in (section road m) (at, high) ≤ slab_choices_in (section road m) r)
      (sym (entry_before (pos 0, pos 0) box.heights i s.number.from_one))
      (subst (λ (j : ℕ). slab_choices_in (section road j) (low, at) + slab_choices_in (section road j) (at, high) ≤ slab_choices_in (section road j) (low, high))
      (number_before i s.number.from_one ∙ sym e) here))

  choices_of_parts : (box : BoxRange) (split : Split) → IsBoxOf road box → IsSplitOf road box split
      → box_choices road (first_part box split) + box_choices road (second_part box split) ≤ box_choices road box
  choices_of_parts box (Removal k stage) fits s =
      let both = opening_parts box k stage fits s in
      let m = mul-le-mul_right (heights_product road box.heights) both in
      omega (arith, m)
  choices_of_parts box (Height i at) fits s =
      let both = height_parts box i at fits s in
      let m = mul-le-mul_left (opens_product box.opens) both in
      omega (arith, m)

  some_choices : (box : BoxRange) → IsBoxOf road box → 1 ≤ box_choices road box
  some_choices box fits =
      times_at_most 1 (opens_product box.opens) 1 (heights_product road box.heights)
      (product_from_one (λ (n : ℕ) (range : ℕ × ℕ). opening_choices range) box.opens 1 (0, 0)
      (λ i m l e. let r = fits.opens (suc i) (record { from_one = omega arith; at_most = let count = fits.opens_count in omega arith }) in omega (arith, r.some)))
      (product_from_one (λ (n : ℕ) (range : ℤ × ℤ). slab_choices_in (section road n) range) box.heights 1 (pos 0, pos 0)
      (λ i m l e.
      let number : IsNumber (suc i) (section_count road) = record { from_one = omega arith; at_most = let count = fits.heights_count in omega arith } in
      let same : suc i ≡ m = omega arith in
      subst (λ (j : ℕ). 1 ≤ slab_choices_in (section road j) (get_or box.heights i (pos 0, pos 0))) same
      (some_slabs (section road (suc i)) (tables_of road well (suc i) number) (height_range box.heights (suc i)) (fits.heights (suc i) number))))

  -- a tree has no more leaves than its box has choices
  leaves_within : (tree : BoxTree) (box : BoxRange) → IsBoxOf road box → SplitsFit road tree box → leaf_count tree ≤ box_choices road box
  leaves_within (low scale mults cause) box fits h = some_choices box fits
  leaves_within (dead mults) box fits h = some_choices box fits
  leaves_within (fork split first second) box fits h =
      let cover = found_parts_cover road box fits split (Some (first_part box split, second_part box split)) (h.0, refl) in
      let one = leaves_within first (first_part box split) cover.first_fits h.1 in
      let two = leaves_within second (second_part box split) cover.second_fits h.2 in
      let both = choices_of_parts box split fits h.0 in
      omega (arith, one, two, both)

  -- the root box

  root_opens : (blocks : List Block) (n : ℕ)
      → product_from (λ (k : ℕ) (range : ℕ × ℕ). opening_choices range) n (map (λ (block : Block). whole_opening road) blocks) ≡ road.stages ^ length blocks
  root_opens [] n = simp unary_clauses
  root_opens (block ∷ blocks) n =
      let more = root_opens blocks (suc n) in
      let stages : (road.stages + 1 + 1) - 2 ≡ road.stages = omega arith in
      rw (more, stages) (simp unary_clauses (mul_comm road.stages (road.stages ^ length blocks)))

  root_heights : (sections : List Section) (n : ℕ)
      → ((i m : ℕ) → i < length sections → m ≡ n + i → slab_choices_in (section road m) (whole_range (get_or sections i no_section)) ≤ slab_count (get_or sections i no_section))
      → product_from (λ (i : ℕ) (range : ℤ × ℤ). slab_choices_in (section road i) range) n (map whole_range sections) ≤ slab_choices sections
  root_heights [] n h = omega arith
  root_heights (s ∷ sections) n h =
      times_at_most (slab_choices_in (section road n) (whole_range s)) (slab_count s)
      (product_from (λ (i : ℕ) (range : ℤ × ℤ). slab_choices_in (section road i) range) (suc n) (map whole_range sections)) (slab_choices sections)
      (h 0 n (omega arith) (omega arith))
      (root_heights sections (suc n) (λ i m l e. h (suc i) m (omega arith) (omega arith)))

  pub whole_slabs : (i m : ℕ) → i < length road.sections → m ≡ 1 + i
      → slab_choices_in (section road m) (whole_range (get_or road.sections i no_section)) ≤ slab_count (get_or road.sections i no_section)
  whole_slabs i m l e =
      let number : IsNumber (suc i) (section_count road) = record { from_one = omega arith; at_most = omega arith } in
      let same : suc i ≡ m = omega arith in
      let s = get_or road.sections i no_section in
      subst (λ (j : ℕ). slab_choices_in (section road j) (whole_range s) ≤ slab_count s) same
      (slabs_of_all (section road (suc i)) (tables_of road well (suc i) number) (whole_range s))

  root_choices : box_choices road (root_box road) ≤ most_leaves road
  root_choices =
      let opens : opens_product (root_box road).opens ≤ road.stages ^ length road.blocks = let e = root_opens road.blocks 1 in omega arith in
      times_at_most (opens_product (root_box road).opens) (road.stages ^ length road.blocks) (heights_product road (root_box road).heights) (slab_choices road.sections)
      opens (root_heights road.sections 1 whole_slabs)

  few_leaves : HasFewLeaves road
  few_leaves = record {
    each = λ tree h.
        let within = leaves_within tree (root_box road) (root_box_fits road well) h in
        let root = root_choices in
        omega (arith, within, root);
  }

-- no tree of an accepted road's boxes has more leaves than the road has choices
pub has_few_leaves : (road : Road) → IsAccepted road → HasFewLeaves road
has_few_leaves road a = few_leaves road a.well_formed
