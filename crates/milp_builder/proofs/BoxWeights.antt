-- The program of a box that fits its road weighs no more than the road.
use Rattle.std.proofs.Common.{◌≡◌, ℕ, zero, suc, ◌+◌, ◌≤◌, ◌<◌, Bool, true, false, cond, Option, Some, None, List, [], ◌∷◌, ◌++◌, map, length, get_or, arith, ap, sym, ◌∙◌, refl, subst}
use Rattle.std.specs.Prelude.{ℤ, pos, neg_ℤ, unsigned_abs, ◌==◌, nat_lt, nat_le, if◌then◌else◌}
use Rattle.std.specs.Ordering.{int_eq}
use Rattle.std.proofs.lemmas.Int.{ints}
use Rattle.std.proofs.lemmas.Bool.Decides.{nat_tests}
use Rattle.std.proofs.lemmas.List.{length-map, get_or-map}
use Rattle.std.proofs.Math.Nat.{mul-le-mul}
use Rattle.algebra.specs.Lists.{flat_to}
use Rattle.algebra.specs.Totals.{total_to}
use Rattle.algebra.proofs.TotalsLemmas.{total_to_le}
use Rattle.term_store.specs.declared.term.Term.{Term}
use Rattle.programs.specs.Programs.{Program, column_count, bounds_at, cost_at, entry}
use Rattle.programs.specs.Weights.{load_of_terms, load_of_rows, reach, column_weight, load_of_rights, weight}
use Rattle.road_types.specs.Numbered.{numbered, IsNumber}
use Rattle.road_types.specs.Road.{section, section_count}
use Rattle.road_types.specs.WellFormed.{IsWellFormed}
use Rattle.road_types.specs.Ranges.{height_range, AreHeightRanges, whole_opening, whole_ranges, whole_openings}
use Rattle.road_types.specs.Columns.{columns_of, column_number, bounds_of, opened_bounds}
use Rattle.road_types.specs.Forms.{Form, negated}
use Rattle.road_types.specs.Lines.{Lines, heaviest_lines}
use Rattle.road_types.specs.SectionForms.{offset_forms, continuity_forms, grade_end_forms, fixed_forms, above_form, below_form, lines_forms, volume_forms, section_forms}
use Rattle.road_types.specs.HaulForms.{haul_forms}
use Rattle.road_types.specs.RoadPrograms.{term_in, terms_of, row_of, forms_of, lines_in, program_with, road_program, road_weight}
use Rattle.road_types.specs.declared.road.Road.{Road}
use Rattle.road_types.specs.declared.column.Column.{Column}
use Rattle.road_types.specs.declared.column.Column.TheVariants.{A, B, C, Offset, Cut, Fill, Right, Left, Access, Opened}
use Rattle.volume_lines.proofs.HeavyLines.{IsNoHeavier, lines_no_heavier, breakpoint_depth, deepest_from}
use Rattle.road_points.proofs.FormsHold.{tables_of}
use Rattle.road_points.specs.ColumnKinds.{IsKindOf}
use Rattle.road_points.proofs.RoadKinds.{all_kinds}
use Rattle.milp_builder.proofs.RootBox.{root_heights, root_openings}

-- ---- rows

load_in : ℕ → Option ℕ → ℤ → ℕ
load_in j None c = 0
load_in j (Some m) c = unsigned_abs (entry j (let t : Term ℤ = record { column = m; value = c } in t))

load_of_term : (j : ℕ) (o : Option ℕ) (c : ℤ) (rest : List (Term ℤ)) → load_of_terms j (term_in o c ++ rest) ≡ load_in j o c + load_of_terms j rest
unfolding load_in
load_of_term j None c rest = omega arith
load_of_term j (Some m) c rest = by_test (int_eq c (pos 0)) refl
  where
    none : (b : Bool) → c ≡ pos 0 → unsigned_abs (if b then c else pos 0) ≡ 0
    none true e = omega (arith, ints)
    none false e = omega (arith, ints)

    by_test : (b : Bool) → int_eq c (pos 0) ≡ b → load_of_terms j (cond b [] (record { column = m; value = c } ∷ []) ++ rest) ≡ unsigned_abs (if m == j then c else pos 0) + load_of_terms j rest
    by_test true e = let z : c ≡ pos 0 = grind (arith, ints) in omega (arith, none (m == j) z)
    by_test false e = refl

load_in_mono : (j : ℕ) (o : Option ℕ) (c d : ℤ) → unsigned_abs c ≤ unsigned_abs d → load_in j o c ≤ load_in j o d
unfolding load_in
load_in_mono j None c d h = omega arith
load_in_mono j (Some m) c d h = by_test (m == j)
  where
    by_test : (b : Bool) → unsigned_abs (if b then c else pos 0) ≤ unsigned_abs (if b then d else pos 0)
    by_test true = h
    by_test false = omega arith

-- a form whose row loads no column more, and whose right side is no heavier
pub record IsLighter (road : Road) (a b : Form) : Type 0 where
  pub loads : (j : ℕ) → load_of_terms j (terms_of road a.entries) ≤ load_of_terms j (terms_of road b.entries)
  pub right : unsigned_abs a.right ≤ unsigned_abs b.right

-- so it is form by form
abbrev AreLighter : Road → List Form → List Form → Type 0
AreLighter road [] [] = Unit {0}
AreLighter road [] (b ∷ us) = ⊥
AreLighter road (a ∷ xs) [] = ⊥
AreLighter road (a ∷ xs) (b ∷ us) = IsLighter road a b × AreLighter road xs us

module _ (road : Road) where
  same_forms : (xs : List Form) → AreLighter road xs xs
  same_forms [] = tt
  same_forms (x ∷ xs) = (record { loads = λ j. omega arith; right = omega arith }, same_forms xs)

  lighter-append : (xs ys us vs : List Form) → AreLighter road xs us → AreLighter road ys vs → AreLighter road (xs ++ ys) (us ++ vs)
  lighter-append [] ys [] vs p q = q
  lighter-append [] ys (u ∷ us) vs p q = absurd p
  lighter-append (x ∷ xs) ys [] vs p q = absurd p
  lighter-append (x ∷ xs) ys (u ∷ us) vs p q = (p.0, lighter-append xs ys us vs p.1 q)

  lighter-flat_to : (f g : ℕ → List Form) (n : ℕ) → ((k : ℕ) → IsNumber k n → AreLighter road (f k) (g k)) → AreLighter road (flat_to f n) (flat_to g n)
  lighter-flat_to f g zero h = tt
  lighter-flat_to f g (suc n) h =
      lighter-append (flat_to f n) (f (suc n)) (flat_to g n) (g (suc n))
      (lighter-flat_to f g n (λ k m. h k (record { from_one = m.from_one; at_most = omega (arith, m.at_most) })))
      (h (suc n) (record { from_one = omega arith; at_most = omega arith }))

  loads_of : (j : ℕ) (xs us : List Form) → AreLighter road xs us → load_of_rows j (map (row_of road) xs) ≤ load_of_rows j (map (row_of road) us)
  loads_of j [] [] p = omega arith
  loads_of j [] (u ∷ us) p = absurd p
  loads_of j (x ∷ xs) [] p = absurd p
  loads_of j (x ∷ xs) (u ∷ us) p = let rest = loads_of j xs us p.1 in let here = p.0.loads j in omega arith

  rights_of : (xs us : List Form) → AreLighter road xs us → load_of_rights (map (row_of road) xs) ≤ load_of_rights (map (row_of road) us)
  rights_of [] [] p = omega arith
  rights_of [] (u ∷ us) p = absurd p
  rights_of (x ∷ xs) [] p = absurd p
  rights_of (x ∷ xs) (u ∷ us) p = let rest = rights_of xs us p.1 in let here = p.0.right in omega arith

  -- ---- the volume rows

  first_lighter : (j : ℕ) (kind : Column) (c d : ℤ) (rest : List (Column × ℤ)) → unsigned_abs c ≤ unsigned_abs d
      → load_of_terms j (terms_of road ((kind, c) ∷ rest)) ≤ load_of_terms j (terms_of road ((kind, d) ∷ rest))
  first_lighter j kind c d rest h =
      omega (arith, load_of_term j (column_number road kind) c (terms_of road rest), load_of_term j (column_number road kind) d (terms_of road rest), load_in_mono j (column_number road kind) c d h)

  abbrev moved : ℕ → List (Column × ℤ)
  moved i = flat_to (λ t. (Cut i t, neg_ℤ (pos 1)) ∷ (Fill i t, pos 1) ∷ []) road.stages

  above_lighter : (i : ℕ) (slope other right heavy : ℤ) → unsigned_abs slope ≤ unsigned_abs other → unsigned_abs right ≤ unsigned_abs heavy → IsLighter road (above_form road i slope right) (above_form road i other heavy)
  above_lighter i slope other right heavy p q = record {
    loads = λ j. first_lighter j (Offset i) (neg_ℤ slope) (neg_ℤ other) (moved i) (omega (arith, ints));
    right = q;
  }

  below_lighter : (i : ℕ) (slope other right heavy : ℤ) → unsigned_abs slope ≤ unsigned_abs other → unsigned_abs right ≤ unsigned_abs heavy → IsLighter road (below_form road i slope right) (below_form road i other heavy)
  below_lighter i slope other right heavy p q = record {
    loads = λ j. first_lighter j (Offset i) (neg_ℤ (neg_ℤ slope)) (neg_ℤ (neg_ℤ other)) (negated (moved i)) (omega (arith, ints));
    right = q;
  }

  lines_lighter : (i : ℕ) (l h : Lines) → IsNoHeavier l h → AreLighter road (lines_forms road i l) (lines_forms road i h)
  lines_lighter i l h n = (
    above_lighter i l.least h.least l.above_least h.above_least n.least n.above_least,
    (
      below_lighter i l.greatest h.greatest l.below_greatest h.below_greatest n.greatest n.below_greatest,
      (below_lighter i l.least h.least l.below_least h.below_least n.least n.below_least, (above_lighter i l.greatest h.greatest l.above_greatest h.above_greatest n.greatest n.above_greatest, tt)),
    ),
  )

  forms_lighter : (lines heavy : ℕ → Lines) → ((i : ℕ) → IsNumber i (section_count road) → IsNoHeavier (lines i) (heavy i)) → AreLighter road (forms_of road lines) (forms_of road heavy)
  forms_lighter lines heavy each =
      let volumes = lighter-flat_to (λ i. lines_forms road i (lines i)) (λ i. lines_forms road i (heavy i)) (section_count road) (λ i n. lines_lighter i (lines i) (heavy i) (each i n)) in
      lighter-append (section_forms road lines) (haul_forms road) (section_forms road heavy) (haul_forms road)
      (lighter-append (offset_forms road) (continuity_forms road ++ (grade_end_forms road ++ (fixed_forms road ++ volume_forms road lines)))
      (offset_forms road) (continuity_forms road ++ (grade_end_forms road ++ (fixed_forms road ++ volume_forms road heavy)))
      (same_forms (offset_forms road))
      (lighter-append (continuity_forms road) (grade_end_forms road ++ (fixed_forms road ++ volume_forms road lines)) (continuity_forms road) (grade_end_forms road ++ (fixed_forms road ++ volume_forms road heavy))
      (same_forms (continuity_forms road))
      (lighter-append (grade_end_forms road) (fixed_forms road ++ volume_forms road lines) (grade_end_forms road) (fixed_forms road ++ volume_forms road heavy)
      (same_forms (grade_end_forms road))
      (lighter-append (fixed_forms road) (volume_forms road lines) (fixed_forms road) (volume_forms road heavy) (same_forms (fixed_forms road)) volumes))))
      (same_forms (haul_forms road))

-- ---- columns

module _ (road : Road) (well : IsWellFormed road) (heights : List (ℤ × ℤ)) (openings : List (ℕ × ℕ)) (ranges : AreHeightRanges road heights) where
  opened_reach : (range : ℕ × ℕ) (t : ℕ) → reach (opened_bounds range t) ≤ 1
  opened_reach range t = by_tests (nat_lt t range.0) (nat_le range.1 t)
    where
      by_tests : (a b : Bool) → reach (if a then (let z : ℤ × ℤ = (pos 0, pos 0) in z) else if b then (pos 1, pos 1) else (pos 0, pos 1)) ≤ 1
      by_tests true b = omega arith
      by_tests false true = omega arith
      by_tests false false = omega arith

  whole_reach : (t : ℕ) → 2 ≤ t → t ≤ road.stages → reach (opened_bounds (whole_opening road) t) ≡ 1
  whole_reach t low high =
      let first : nat_lt t 2 ≡ false = grind (arith, nat_tests) in
      let second : nat_le (road.stages + 1) t ≡ false = grind (arith, nat_tests) in
      ap (λ a. reach (if a then (let z : ℤ × ℤ = (pos 0, pos 0) in z) else if nat_le (road.stages + 1) t then (pos 1, pos 1) else (pos 0, pos 1))) first
      ∙ ap (λ b. reach (if b then (let z : ℤ × ℤ = (pos 1, pos 1) in z) else (pos 0, pos 1))) second

  kind_reach : (kind : Column) → IsKindOf road kind → reach (bounds_of road heights openings kind) ≤ reach (bounds_of road (whole_ranges road) (whole_openings road) kind)
  kind_reach (A g) n = omega arith
  kind_reach (B g) n = omega arith
  kind_reach (C g) n = omega arith
  kind_reach (Offset i) n =
      let range = height_range heights i in
      let is_range = ranges.each i n in
      let s = section road i in
      let tables = tables_of road well i n in
      let low = breakpoint_depth s tables range.0 is_range.low in
      let high = breakpoint_depth s tables range.1 is_range.high in
      subst (λ (r : ℤ × ℤ). reach range ≤ reach r) (sym (root_heights road i n)) (omega (arith, low, high, deepest_from s tables))
  kind_reach (Cut i t) n = omega arith
  kind_reach (Fill i t) n = omega arith
  kind_reach (Right h t) n = omega arith
  kind_reach (Left h t) n = omega arith
  kind_reach (Access q t) n = omega arith
  kind_reach (Opened k t) n =
      let range = numbered (0, 0) openings k in
      subst (λ (r : ℕ × ℕ). reach (opened_bounds range t) ≤ reach (opened_bounds r t)) (sym (root_openings road k n.0))
      (omega (arith, opened_reach range t, whole_reach t n.1.0 n.1.1))

  abbrev light : Program
  light = road_program road heights openings

  abbrev heavy : Program
  heavy = program_with road (whole_ranges road) (whole_openings road) (λ i. heaviest_lines (section road i))

  lines_here : (i : ℕ) → IsNumber i (section_count road) → IsNoHeavier (lines_in road heights i) (heaviest_lines (section road i))
  lines_here i n = lines_no_heavier (section road i) (tables_of road well i n) (height_range heights i) (ranges.each i n)

  lighter_forms : AreLighter road (forms_of road (lines_in road heights)) (forms_of road (λ i. heaviest_lines (section road i)))
  lighter_forms = forms_lighter road (lines_in road heights) (λ i. heaviest_lines (section road i)) lines_here

  lighter_column : (j : ℕ) → IsNumber j (column_count light) → column_weight light j ≤ column_weight heavy j
  lighter_column zero n = absurd (omega (arith, n.from_one))
  lighter_column (suc k) n =
      let columns = columns_of road in
      let l : k < length columns = omega (arith, n.at_most, length-map columns (bounds_of road heights openings)) in
      let mine = get_or-map (bounds_of road heights openings) columns k (A 0) (pos 0, pos 0) l in
      let whole = get_or-map (bounds_of road (whole_ranges road) (whole_openings road)) columns k (A 0) (pos 0, pos 0) l in
      let reaches : reach (bounds_at light (suc k)) ≤ reach (bounds_at heavy (suc k)) =
      subst (λ (b : ℤ × ℤ). reach b ≤ reach (bounds_at heavy (suc k))) (sym mine)
      (subst (λ (b : ℤ × ℤ). reach (bounds_of road heights openings (get_or columns k (A 0))) ≤ reach b) (sym whole)
      (all_kinds road (λ c. reach (bounds_of road heights openings c) ≤ reach (bounds_of road (whole_ranges road) (whole_openings road) c)) kind_reach k (A 0) l)) in
      let loads = loads_of road (suc k) (forms_of road (lines_in road heights)) (forms_of road (λ i. heaviest_lines (section road i))) lighter_forms in
      let sum : load_of_rows (suc k) light.rows + unsigned_abs (cost_at light (suc k)) ≤ load_of_rows (suc k) heavy.rows + unsigned_abs (cost_at heavy (suc k)) = omega arith in
      mul-le-mul sum reaches

  -- the program weighs no more than the road
  pub program_is_light : weight light ≤ road_weight road
  unfolding road_weight
  program_is_light =
      let rights = rights_of road (forms_of road (lines_in road heights)) (forms_of road (λ i. heaviest_lines (section road i))) lighter_forms in
      let columns = total_to_le (column_weight light) (column_weight heavy) (column_count light) (λ j low high. lighter_column j (record { from_one = low; at_most = high })) in
      let same : column_count light ≡ column_count heavy = length-map (columns_of road) (bounds_of road heights openings) ∙ sym (length-map (columns_of road) (bounds_of road (whole_ranges road) (whole_openings road))) in
      omega (arith, ap (total_to (column_weight heavy)) same)
