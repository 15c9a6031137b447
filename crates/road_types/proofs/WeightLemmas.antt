-- The weight of a well-formed road is the load of what stands on it: group by group of rows, and by costs.
use Rattle.std.proofs.Common.{◌≡◌, ℕ, zero, suc, ◌+◌, ◌-◌, ◌*◌, ◌≤◌, Bool, true, false, ◌&&◌, cond, List, [], ◌∷◌, ◌++◌, arith, ap, sym, ◌∙◌, refl, subst, ⊎_elim, max}
use Rattle.std.specs.Prelude.{ℤ, pos, neg_ℤ, ◌+ℤ◌, ◌*ℤ◌, ◌≤ℤ◌, unsigned_abs, nat_le, ◌==◌}
use Rattle.std.proofs.lemmas.Int.{ints, unsigned_abs-mul}
use Rattle.std.proofs.lemmas.List.{length-map}
use Rattle.algebra.specs.Lists.{list_to, flat_to, total_of}
use Rattle.algebra.specs.Totals.{total_to}
use Rattle.algebra.specs.Numbered.{numbered, IsNumber}
use Rattle.algebra.proofs.ListsLemmas.{total_of-append, total_of-list_to, total_of-flat_to, total_to_of, numbered-map_entry}
use Rattle.algebra.proofs.TotalsLemmas.{total_to_ext, total_to_zero, total_to_add, total_to_same, total_to_mul_left, total_to_swap, total_to_only, total_to_front, total_to_neighbours}
use Rattle.programs.specs.Programs.{Program}
use Rattle.programs.specs.Weights.{reach}
use Rattle.programs.proofs.WeightsLemmas.{costs_weight, weight_by_rows}
use Rattle.road_types.specs.Columns.{segment_columns, stage_columns, block_columns, columns_of, bounds_of, unit_cost}
use Rattle.road_types.specs.Forms.{negated, between_forms}
use Rattle.road_types.specs.HaulForms.{brought, balance_form, balance_forms, taken, pit_form, pit_forms, greatest_haul_out, transit_form, transit_forms, cut_stop_form, fill_stop_form, stop_forms, order_form, order_forms, haul_forms}
use Rattle.road_types.specs.Heights.{segment_at, segment_length, steps_along}
use Rattle.road_types.specs.Lines.{Lines, heaviest_lines, widest_area, deepest}
use Rattle.road_types.specs.Ranges.{whole_ranges, whole_openings}
use Rattle.road_types.specs.Road.{section, hop, fixed_point, pit, access, block, no_hop, section_count, segment_count, hop_count, fixed_count, pit_count, access_count, block_count, access_unit_cost, same_kind}
use Rattle.road_types.specs.RoadPrograms.{forms_of, program_with, road_weight}
use Rattle.road_types.specs.SectionForms.{height_entries, grade_entries, station_entries, offset_form, offset_forms, next_height_form, next_grade_form, continuity_forms, grade_end_forms, fixed_forms, volume_entries, lines_forms, volume_forms, section_forms}
use Rattle.road_types.specs.WellFormed.{IsWellFormed, IsOnKnots}
use Rattle.road_types.specs.inside.Loads.{curve_reach, height_load, grade_load, earth_cap, earth_cost, line_load, section_load, joint_load, segment_load, fixed_load, hop_load, access_load, pit_load, haul_cap, block_load, load_of}
use Rattle.road_types.specs.declared.road.Road.{Road}
use Rattle.road_types.specs.declared.road.Section.{Section}
use Rattle.road_types.specs.declared.road.Hop.{Hop}
use Rattle.road_types.specs.declared.road.PitKind.{PitKind}
use Rattle.road_types.specs.declared.road.PitKind.TheVariants.{Borrow, Waste}
use Rattle.road_types.specs.declared.column.Column.{Column}
use Rattle.road_types.specs.declared.column.Column.TheVariants.{A, B, Offset, Cut, Fill, Right, Left, Access, Opened}
use Rattle.road_types.proofs.Acceptance.{test_of_nat_eq, nat_eq_of_test, test_of_nat_le, number_of_test}
use Rattle.road_types.proofs.SegmentLemmas.{in_segment}
use Rattle.road_types.proofs.WeightReaches.{kind_reach, reach_in, entry_weight, form_weight, rows_weight-forms, reach-A, reach-B, reach-C, reach-Offset, reach-Cut, reach-Fill, reach-Right, reach-Left, reach-Access, reach-Opened, reach-Opened-first, kind_reach-Opened, bool_cases, hop-none}
use Rattle.road_types.specs.RecordFaults.{is_number}
use Rattle.algebra.proofs.NumberedLemmas.{numbered_past}

-- ---- numbers

-- what an access road brings to its section is one of its litres each, whatever its pit is
brought_load : (b : Bool) (kind : PitKind) → unsigned_abs (cond (b && same_kind Borrow kind) (pos 1) (cond (b && same_kind Waste kind) (neg_ℤ (pos 1)) (pos 0))) ≡ cond b 1 0
brought_load true Borrow = refl
brought_load true Waste = refl
brought_load false Borrow = refl
brought_load false Waste = refl

taken_load : (b : Bool) → unsigned_abs (cond b (neg_ℤ (pos 1)) (pos 0)) ≡ cond b 1 0
taken_load true = refl
taken_load false = refl

elsewhere : (own k c : ℕ) → (k ≡ own → ⊥) → cond (own == k) 1 0 * c ≡ 0
elsewhere own k c differs =
    ⊎_elim
    (λ (e : (own == k) ≡ true). absurd (differs (sym (nat_eq_of_test own k e))))
    (λ (e : (own == k) ≡ false). ap (λ b. cond b 1 0 * c) e ∙ omega arith)
    (bool_cases (own == k))

-- values that count where a test finds the entry's own number, over all numbers
only_there : (own count : ℕ) (c : ℕ) → IsNumber own count → total_to (λ i. cond (own == i) 1 0 * c) count ≡ c
only_there own count c n =
    let here : (own == own) ≡ true = test_of_nat_eq own own refl in
    total_to_only (λ i. cond (own == i) 1 0 * c) own count n.from_one n.at_most (λ k low high differs. elsewhere own k c differs)
    ∙ (ap (λ b. cond b 1 0 * c) here ∙ omega arith)

-- the total over all numbers of what each entry brings to its own
shared_out : (own load : ℕ → ℕ) (entries count : ℕ) → ((q : ℕ) → IsNumber q entries → IsNumber (own q) count)
    → total_to (λ i. total_to (λ q. cond (own q == i) 1 0 * load q) entries) count ≡ total_to load entries
shared_out own load entries count h =
    total_to_swap (λ i q. cond (own q == i) 1 0 * load q) count entries
    ∙ total_to_ext (λ q. total_to (λ i. cond (own q == i) 1 0 * load q) count) load entries
    (λ q low high. only_there (own q) count (load q) (h q (record { from_one = low; at_most = high })))

-- nothing at the first stage, and c at each later one
from_second : (f : ℕ → ℕ) (c stages : ℕ) → 1 ≤ stages → f 1 ≡ 0 → ((t : ℕ) → 2 ≤ t → t ≤ stages → f t ≡ c) → total_to f stages ≡ (stages - 1) * c
from_second f c zero some first later = absurd (omega arith)
from_second f c (suc n) some first later =
    let rest = total_to_same (λ k. f (suc k)) c n (λ k low high. later (suc k) (omega arith) (omega arith)) in
    let less : suc n - 1 ≡ n = omega arith in
    omega (arith, total_to_front f n, ap (λ k. k * c) less)

not_last : (k stages c : ℕ) → (k + 1 ≡ stages → ⊥) → cond (k + 1 == stages) c 0 ≡ 0
not_last k stages c differs =
    ⊎_elim
    (λ (e : (k + 1 == stages) ≡ true). absurd (differs (nat_eq_of_test (k + 1) stages e)))
    (λ (e : (k + 1 == stages) ≡ false). ap (λ b. cond b c 0) e)
    (bool_cases (k + 1 == stages))

paid_load : (b : Bool) (cost : ℤ) → unsigned_abs (cond b cost (pos 0)) * 1 ≡ cond b (unsigned_abs cost) 0
paid_load true cost = omega arith
paid_load false cost = refl

-- what is paid at the last of so many stages alone, and at none where there is but one
paid_last : (c stages : ℕ) → 1 ≤ stages → total_to (λ before. cond (before + 1 == stages) c 0) (stages - 1) ≡ cond (nat_le 2 stages) c 0
paid_last c zero some = absurd (omega arith)
paid_last c (suc zero) some = refl
paid_last c (suc (suc n)) some =
    let less : suc (suc n) - 1 ≡ suc n = omega arith in
    let here : (suc n + 1 == suc (suc n)) ≡ true = test_of_nat_eq (suc n + 1) (suc (suc n)) (omega arith) in
    let many : nat_le 2 (suc (suc n)) ≡ true = test_of_nat_le 2 (suc (suc n)) (omega arith) in
    ap (total_to (λ before. cond (before + 1 == suc (suc n)) c 0)) less
    ∙ total_to_only (λ before. cond (before + 1 == suc (suc n)) c 0) (suc n) (suc n) (omega arith) (omega arith)
    (λ k low high differs. not_last k (suc (suc n)) c (λ e. differs (omega arith)))
    ∙ ap (λ b. cond b c 0) here
    ∙ sym (ap (λ b. cond b c 0) many)

double : (x : ℤ) → unsigned_abs (pos 2 *ℤ x) ≡ 2 * unsigned_abs x
double x = unsigned_abs-mul (pos 2) x

opposite_load : (x : ℤ) → unsigned_abs (neg_ℤ x) ≡ unsigned_abs x
opposite_load x = omega (arith, ints)

sum_load : (a b : ℤ) → pos 0 ≤ℤ a → pos 0 ≤ℤ b → unsigned_abs (a +ℤ b) ≡ unsigned_abs a + unsigned_abs b
sum_load a b p q = omega (arith, ints)

module _ (road : Road) (w : IsWellFormed road) where
  -- ---- the rows for heights and volumes

  -- the other sign weighs the same
  negated_weight : (entries : List (Column × ℤ)) → total_of (entry_weight road) (negated entries) ≡ total_of (entry_weight road) entries
  negated_weight [] = refl
  negated_weight (e ∷ es) = omega (arith, ap (λ n. n * reach_in road e.0) (opposite_load e.1), negated_weight es)

  between_weight : (entries : List (Column × ℤ)) (low high : ℤ)
      → total_of (form_weight road) (between_forms entries low high) ≡ 2 * total_of (entry_weight road) entries + (unsigned_abs low + unsigned_abs high)
  between_weight entries low high = omega (arith, negated_weight entries, opposite_load high)

  height_weight : (g : ℕ) (s : ℤ) → IsNumber g (segment_count road) → total_of (entry_weight road) (height_entries g s) ≡ height_load road (unsigned_abs s)
  height_weight g s n =
      let b = ap (λ r. unsigned_abs s * r) (reach-B road g n) in
      let c = ap (λ r. unsigned_abs (s *ℤ s) * r) (reach-C road g n) in
      let square = ap (λ x. x * curve_reach road) (unsigned_abs-mul s s) in
      omega (arith, reach-A road g n, b, c, square)

  grade_weight : (g : ℕ) (s : ℤ) → IsNumber g (segment_count road) → total_of (entry_weight road) (grade_entries g s) ≡ grade_load road (unsigned_abs s)
  grade_weight g s n =
      let c = ap (λ r. unsigned_abs (pos 2 *ℤ s) * r) (reach-C road g n) in
      let twice = ap (λ x. x * curve_reach road) (double s) in
      omega (arith, reach-B road g n, c, twice)

  -- a station between the first and the last knot has a segment
  segment_of : (station : ℤ) → IsOnKnots road station → IsNumber (segment_at road.knots station) (segment_count road)
  segment_of station on =
      let inside = in_segment road.knots station w.counted.knots_from on.after_first on.before_last in
      record { from_one = inside.number.from_one; at_most = inside.number.at_most }

  station_weight : (station : ℤ) → IsOnKnots road station
      → total_of (entry_weight road) (station_entries road station) ≡ height_load road (unsigned_abs (steps_along road.knots station))
  station_weight station on = height_weight (segment_at road.knots station) (steps_along road.knots station) (segment_of station on)

  abbrev offset_part : Section → ℕ
  offset_part s = height_load road (unsigned_abs (steps_along road.knots s.station)) + (unsigned_abs (deepest s) + unsigned_abs s.ground)

  offset_weight : (i : ℕ) → IsNumber i (section_count road) → form_weight road (offset_form road i) ≡ offset_part (section road i)
  offset_weight i n =
      let s = w.sections i n in
      let last : List (Column × ℤ) = (Offset i, neg_ℤ (pos 1)) ∷ [] in
      let both = total_of-append (entry_weight road) (station_entries road (section road i).station) last in
      omega (arith, both, station_weight (section road i).station s.on_knots, reach-Offset road i n s.cut s.fill)

  offsets_weight : total_of (form_weight road) (offset_forms road) ≡ total_to (λ i. offset_part (section road i)) (section_count road)
  offsets_weight =
      total_of-list_to (form_weight road) (offset_form road) (section_count road)
      ∙ total_to_ext (λ i. form_weight road (offset_form road i)) (λ i. offset_part (section road i)) (section_count road)
      (λ i low high. offset_weight i (record { from_one = low; at_most = high }))

  joint_weight : (g : ℕ) → 1 ≤ g → g + 1 ≤ segment_count road
      → total_of (form_weight road) (next_height_form road g ∷ next_grade_form road g ∷ []) ≡ joint_load road g
  joint_weight g low high =
      let n : IsNumber g (segment_count road) = record { from_one = low; at_most = omega arith } in
      let m : IsNumber (g + 1) (segment_count road) = record { from_one = omega arith; at_most = high } in
      let s = segment_length road.knots g in
      let next_height : List (Column × ℤ) = (A (g + 1), neg_ℤ (pos 1)) ∷ [] in
      let next_grade : List (Column × ℤ) = (B (g + 1), neg_ℤ (pos 1)) ∷ [] in
      let heights = total_of-append (entry_weight road) (height_entries g s) next_height in
      let grades = total_of-append (entry_weight road) (grade_entries g s) next_grade in
      omega (arith, heights, grades, height_weight g s n, grade_weight g s n, reach-A road (g + 1) m, reach-B road (g + 1) m)

  joints_weight : total_of (form_weight road) (continuity_forms road) ≡ total_to (joint_load road) (segment_count road - 1)
  joints_weight =
      total_of-flat_to (form_weight road) (λ g. next_height_form road g ∷ next_grade_form road g ∷ []) (segment_count road - 1)
      ∙ total_to_ext (λ g. total_of (form_weight road) (next_height_form road g ∷ next_grade_form road g ∷ [])) (joint_load road) (segment_count road - 1)
      (λ g low high. joint_weight g low (omega arith))

  ends_weight : total_of (form_weight road) (grade_end_forms road) ≡ total_to (segment_load road) (segment_count road)
  ends_weight =
      total_of-flat_to (form_weight road) (λ g. between_forms (grade_entries g (segment_length road.knots g)) road.grade.0 road.grade.1) (segment_count road)
      ∙ total_to_ext (λ g. total_of (form_weight road) (between_forms (grade_entries g (segment_length road.knots g)) road.grade.0 road.grade.1))
      (segment_load road) (segment_count road)
      (λ g low high. omega (
        arith,
        between_weight (grade_entries g (segment_length road.knots g)) road.grade.0 road.grade.1,
        grade_weight g (segment_length road.knots g) (record { from_one = low; at_most = high }),
      ))

  fixed_weight : total_of (form_weight road) (fixed_forms road) ≡ total_to (fixed_load road) (fixed_count road)
  fixed_weight =
      total_of-flat_to (form_weight road)
      (λ f. between_forms (station_entries road (fixed_point road f).station) (fixed_point road f).low (fixed_point road f).high) (fixed_count road)
      ∙ total_to_ext
      (λ f. total_of (form_weight road) (between_forms (station_entries road (fixed_point road f).station) (fixed_point road f).low (fixed_point road f).high))
      (fixed_load road) (fixed_count road)
      (λ f low high. omega (
        arith,
        between_weight (station_entries road (fixed_point road f).station) (fixed_point road f).low (fixed_point road f).high,
        station_weight (fixed_point road f).station (w.fixed f (record { from_one = low; at_most = high })).on_knots,
      ))

  -- fill less cut of a section, over all stages
  moved_weight : (i : ℕ) → IsNumber i (section_count road)
      → total_of (entry_weight road) (flat_to (λ t. (Cut i t, neg_ℤ (pos 1)) ∷ (Fill i t, pos 1) ∷ []) road.stages) ≡ road.stages * earth_cap (section road i)
  moved_weight i n =
      total_of-flat_to (entry_weight road) (λ t. (Cut i t, neg_ℤ (pos 1)) ∷ (Fill i t, pos 1) ∷ []) road.stages
      ∙ total_to_same (λ t. total_of (entry_weight road) ((Cut i t, neg_ℤ (pos 1)) ∷ (Fill i t, pos 1) ∷ [])) (earth_cap (section road i)) road.stages
      (λ t low high.
      let m : IsNumber t road.stages = record { from_one = low; at_most = high } in
      omega (arith, reach-Cut road i t m n, reach-Fill road i t m n))

  -- one of the four lines
  line_weight : (i : ℕ) → IsNumber i (section_count road)
      → total_of (entry_weight road) (volume_entries road i (widest_area (section road i))) ≡ line_load (section road i) + road.stages * earth_cap (section road i)
  line_weight i n =
      let s = w.sections i n in
      let area = widest_area (section road i) in
      let sign = ap (λ x. x * reach_in road (Offset i)) (opposite_load area) in
      let there = ap (λ r. unsigned_abs area * r) (reach-Offset road i n s.cut s.fill) in
      omega (arith, sign, there, moved_weight i n)

  abbrev volume_part : Section → ℕ
  volume_part s = 4 * (3 * line_load s + road.stages * earth_cap s)

  volume_weight : (i : ℕ) → IsNumber i (section_count road)
      → total_of (form_weight road) (lines_forms road i (heaviest_lines (section road i))) ≡ volume_part (section road i)
  volume_weight i n =
      let s = section road i in
      let right : unsigned_abs (pos 2 *ℤ (widest_area s *ℤ deepest s)) ≡ 2 * line_load s =
      double (widest_area s *ℤ deepest s) ∙ ap (λ x. 2 * x) (unsigned_abs-mul (widest_area s) (deepest s)) in
      omega (arith, right, line_weight i n, negated_weight (volume_entries road i (widest_area s)))

  volumes_weight : total_of (form_weight road) (volume_forms road (λ i. heaviest_lines (section road i))) ≡ total_to (λ i. volume_part (section road i)) (section_count road)
  volumes_weight =
      total_of-flat_to (form_weight road) (λ i. lines_forms road i (heaviest_lines (section road i))) (section_count road)
      ∙ total_to_ext (λ i. total_of (form_weight road) (lines_forms road i (heaviest_lines (section road i)))) (λ i. volume_part (section road i)) (section_count road)
      (λ i low high. volume_weight i (record { from_one = low; at_most = high }))

  pub section_rows_weight : total_of (form_weight road) (section_forms road (λ i. heaviest_lines (section road i)))
      ≡ (total_to (λ i. offset_part (section road i)) (section_count road) + total_to (λ i. volume_part (section road i)) (section_count road))
      + ((total_to (joint_load road) (segment_count road - 1) + total_to (segment_load road) (segment_count road)) + total_to (fixed_load road) (fixed_count road))
  section_rows_weight =
      let lines : ℕ → Lines = λ i. heaviest_lines (section road i) in
      omega (
        arith,
        total_of-append (form_weight road) (offset_forms road) (continuity_forms road ++ (grade_end_forms road ++ (fixed_forms road ++ volume_forms road lines))),
        total_of-append (form_weight road) (continuity_forms road) (grade_end_forms road ++ (fixed_forms road ++ volume_forms road lines)),
        total_of-append (form_weight road) (grade_end_forms road) (fixed_forms road ++ volume_forms road lines),
        total_of-append (form_weight road) (fixed_forms road) (volume_forms road lines),
        offsets_weight,
        joints_weight,
        ends_weight,
        fixed_weight,
        volumes_weight,
      )

  -- ---- the rows for what is moved

  abbrev right_cap : ℕ → ℕ
  right_cap h = unsigned_abs (hop road h).right_max

  abbrev left_cap : ℕ → ℕ
  left_cap h = unsigned_abs (hop road h).left_max

  abbrev access_cap : ℕ → ℕ
  access_cap q = unsigned_abs (access road q).max

  -- what access roads bring to section i
  abbrev shared : ℕ → ℕ
  shared i = total_to (λ q. cond ((access road q).section == i) 1 0 * access_cap q) (access_count road)

  abbrev balance_part : ℕ → ℕ
  balance_part i = (earth_cap (section road i) + ((right_cap (i - 1) + right_cap i) + (left_cap (i - 1) + left_cap i))) + shared i

  accesses_weight : (i t : ℕ) → IsNumber t road.stages
      → total_of (entry_weight road) (list_to (λ q. (Access q t, brought road i q)) (access_count road)) ≡ shared i
  accesses_weight i t m =
      total_of-list_to (entry_weight road) (λ q. (Access q t, brought road i q)) (access_count road)
      ∙ total_to_ext (λ q. unsigned_abs (brought road i q) * reach_in road (Access q t)) (λ q. cond ((access road q).section == i) 1 0 * access_cap q) (access_count road)
      (λ q low high.
      let n : IsNumber q (access_count road) = record { from_one = low; at_most = high } in
      ap (λ x. x * reach_in road (Access q t)) (brought_load ((access road q).section == i) (pit road (access road q).pit).kind)
      ∙ ap (λ r. cond ((access road q).section == i) 1 0 * r) (reach-Access road q t m n))

  balance_weight : (t i : ℕ) → IsNumber t road.stages → IsNumber i (section_count road) → form_weight road (balance_form road t i) ≡ balance_part i
  balance_weight t i m n =
      let hauled : List (Column × ℤ) =
      (Cut i t, pos 1) ∷ (Fill i t, neg_ℤ (pos 1)) ∷ (Right (i - 1) t, pos 1) ∷ (Right i t, neg_ℤ (pos 1)) ∷ (Left (i - 1) t, neg_ℤ (pos 1)) ∷ (Left i t, pos 1) ∷ [] in
      let both = total_of-append (entry_weight road) hauled (list_to (λ q. (Access q t, brought road i q)) (access_count road)) in
      omega (
        arith,
        both,
        accesses_weight i t m,
        reach-Cut road i t m n,
        reach-Fill road i t m n,
        reach-Right road (i - 1) t m,
        reach-Right road i t m,
        reach-Left road (i - 1) t m,
        reach-Left road i t m,
      )

  -- hops stand at both of their sections, and none past an end

  past_hops : (count : ℕ) → count ≡ hop_count road → hop road (suc count) ≡ no_hop
  past_hops count e = numbered_past no_hop road.hops (suc count) (omega arith)

  hops_twice : (f : Hop → ℕ) → f no_hop ≡ 0 → total_to (λ i. f (hop road (i - 1)) + f (hop road i)) (section_count road) ≡ 2 * total_to (λ h. f (hop road h)) (hop_count road)
  hops_twice f none =
      let size : section_count road ≡ suc (hop_count road) = omega (arith, w.counted.hops_count, w.counted.sections_from) in
      let last : f (hop road (suc (hop_count road))) ≡ 0 = ap f (past_hops (hop_count road) refl) ∙ none in
      ap (total_to (λ i. f (hop road (i - 1)) + f (hop road i))) size ∙ total_to_neighbours (λ h. f (hop road h)) (hop_count road) none last

  abbrev hop_cap : Hop → ℕ
  hop_cap h = 2 * (unsigned_abs h.right_max + unsigned_abs h.left_max)

  balances_at_stage : total_to balance_part (section_count road)
      ≡ total_to (λ i. earth_cap (section road i)) (section_count road) + (total_to (λ h. hop_cap (hop road h)) (hop_count road) + total_to access_cap (access_count road))
  balances_at_stage =
      let n = section_count road in
      let rights = hops_twice (λ h. unsigned_abs h.right_max) refl in
      let lefts = hops_twice (λ h. unsigned_abs h.left_max) refl in
      let roads = shared_out (λ q. (access road q).section) access_cap (access_count road) n (λ q m. (w.roads q m).section) in
      let apart = total_to_add (λ i. earth_cap (section road i) + ((right_cap (i - 1) + right_cap i) + (left_cap (i - 1) + left_cap i))) shared n in
      let first = total_to_add (λ i. earth_cap (section road i)) (λ i. (right_cap (i - 1) + right_cap i) + (left_cap (i - 1) + left_cap i)) n in
      let second = total_to_add (λ i. right_cap (i - 1) + right_cap i) (λ i. left_cap (i - 1) + left_cap i) n in
      let twice = total_to_mul_left 2 (λ h. unsigned_abs (hop road h).right_max + unsigned_abs (hop road h).left_max) (hop_count road) in
      let sum = total_to_add right_cap left_cap (hop_count road) in
      omega arith

  balances_weight : total_of (form_weight road) (balance_forms road) ≡ road.stages * total_to balance_part (section_count road)
  balances_weight =
      total_of-flat_to (form_weight road) (λ t. list_to (balance_form road t) (section_count road)) road.stages
      ∙ total_to_same (λ t. total_of (form_weight road) (list_to (balance_form road t) (section_count road))) (total_to balance_part (section_count road)) road.stages
      (λ t low high.
      total_of-list_to (form_weight road) (balance_form road t) (section_count road)
      ∙ total_to_ext (λ i. form_weight road (balance_form road t i)) balance_part (section_count road)
      (λ i a b. balance_weight t i (record { from_one = low; at_most = high }) (record { from_one = a; at_most = b })))

  -- what access roads take of pit p
  abbrev taken_share : ℕ → ℕ
  taken_share p = total_to (λ q. cond ((access road q).pit == p) 1 0 * access_cap q) (access_count road)

  taken_weight : (p t : ℕ) → IsNumber t road.stages
      → total_of (entry_weight road) (list_to (λ q. (Access q t, taken road p q)) (access_count road)) ≡ taken_share p
  taken_weight p t m =
      total_of-list_to (entry_weight road) (λ q. (Access q t, taken road p q)) (access_count road)
      ∙ total_to_ext (λ q. unsigned_abs (taken road p q) * reach_in road (Access q t)) (λ q. cond ((access road q).pit == p) 1 0 * access_cap q) (access_count road)
      (λ q low high.
      let n : IsNumber q (access_count road) = record { from_one = low; at_most = high } in
      ap (λ x. x * reach_in road (Access q t)) (taken_load ((access road q).pit == p))
      ∙ ap (λ r. cond ((access road q).pit == p) 1 0 * r) (reach-Access road q t m n))

  pit_weight : (p : ℕ) → form_weight road (pit_form road p) ≡ road.stages * taken_share p + pit_load road p
  pit_weight p =
      let amounts =
      total_of-flat_to (entry_weight road) (λ t. list_to (λ q. (Access q t, taken road p q)) (access_count road)) road.stages
      ∙ total_to_same (λ t. total_of (entry_weight road) (list_to (λ q. (Access q t, taken road p q)) (access_count road))) (taken_share p) road.stages
      (λ t low high. taken_weight p t (record { from_one = low; at_most = high })) in
      omega (arith, amounts, opposite_load (pit road p).capacity)

  pits_weight : total_of (form_weight road) (pit_forms road) ≡ road.stages * total_to access_cap (access_count road) + total_to (pit_load road) (pit_count road)
  pits_weight =
      let each =
      total_of-list_to (form_weight road) (pit_form road) (pit_count road)
      ∙ total_to_ext (λ p. form_weight road (pit_form road p)) (λ p. road.stages * taken_share p + pit_load road p) (pit_count road) (λ p low high. pit_weight p)
      ∙ total_to_add (λ p. road.stages * taken_share p) (pit_load road) (pit_count road) in
      let stages = total_to_mul_left road.stages taken_share (pit_count road) in
      let roads = shared_out (λ q. (access road q).pit) access_cap (access_count road) (pit_count road) (λ q m. (w.roads q m).pit) in
      let product = ap (λ x. road.stages * x) roads in
      omega (arith, each, stages, product)

  -- ---- the rows of blocks

  -- a hop's caps aren't below 0, nor are those past an end

  hop_from : (f : Hop → ℤ) (h : ℕ) → pos 0 ≤ℤ f no_hop → (IsNumber h (hop_count road) → pos 0 ≤ℤ f (hop road h)) → pos 0 ≤ℤ f (hop road h)
  hop_from f h none there =
      ⊎_elim
      (λ (e : is_number h (hop_count road) ≡ true). there (number_of_test h (hop_count road) e))
      (λ (e : is_number h (hop_count road) ≡ false). subst (λ x. pos 0 ≤ℤ f x) (sym (hop-none road h e)) none)
      (bool_cases (is_number h (hop_count road)))

  right_from : (h : ℕ) → pos 0 ≤ℤ (hop road h).right_max
  right_from h = hop_from (λ x. x.right_max) h (omega (arith, ints)) (λ n. (w.hops h n).right_max.at_least)

  left_from : (h : ℕ) → pos 0 ≤ℤ (hop road h).left_max
  left_from h = hop_from (λ x. x.left_max) h (omega (arith, ints)) (λ n. (w.hops h n).left_max.at_least)

  haul_out_load : (i : ℕ) → unsigned_abs (greatest_haul_out road i) ≡ haul_cap road i
  haul_out_load i = sum_load (hop road i).right_max (hop road (i - 1)).left_max (right_from i) (left_from (i - 1))

  abbrev transit_part : ℕ → ℕ
  transit_part k =
      let i = (block road k).section in
      road.stages * (unsigned_abs (section road i).cut_max + haul_cap road i) + (road.stages - 1) * haul_cap road i

  transit_weight : (k t : ℕ) → IsNumber k (block_count road) → IsNumber t road.stages
      → form_weight road (transit_form road k t)
      ≡ (unsigned_abs (section road (block road k).section).cut_max + haul_cap road (block road k).section) + haul_cap road (block road k).section * reach_in road (Opened k t)
  transit_weight k t n m =
      let i = (block road k).section in
      let at = (w.blocks k n).section in
      let hauls = ap (λ x. x * reach_in road (Opened k t)) (haul_out_load i) in
      omega (arith, reach-Cut road i t m at, reach-Right road i t m, reach-Left road (i - 1) t m, hauls)

  transit_of_block : (k : ℕ) → IsNumber k (block_count road) → total_of (form_weight road) (list_to (transit_form road k) road.stages) ≡ transit_part k
  transit_of_block k n =
      let i = (block road k).section in
      let hauls = haul_cap road i in
      let cap = unsigned_abs (section road i).cut_max + hauls in
      let opened : ℕ → ℕ = λ t. hauls * reach_in road (Opened k t) in
      let each =
      total_of-list_to (form_weight road) (transit_form road k) road.stages
      ∙ total_to_ext (λ t. form_weight road (transit_form road k t)) (λ t. cap + opened t) road.stages
      (λ t low high. transit_weight k t n (record { from_one = low; at_most = high }))
      ∙ total_to_add (λ t. cap) opened road.stages in
      let caps = total_to_same (λ t. cap) cap road.stages (λ t low high. refl) in
      let later = from_second opened hauls road.stages w.counted.stages_from
      (ap (λ r. hauls * r) (reach-Opened-first road k) ∙ omega arith)
      (λ t low high. ap (λ r. hauls * r) (reach-Opened road k t n low high) ∙ omega arith) in
      omega (arith, each, caps, later)

  transits_weight : total_of (form_weight road) (transit_forms road) ≡ total_to transit_part (block_count road)
  transits_weight =
      total_of-flat_to (form_weight road) (λ k. list_to (transit_form road k) road.stages) (block_count road)
      ∙ total_to_ext (λ k. total_of (form_weight road) (list_to (transit_form road k) road.stages)) transit_part (block_count road)
      (λ k low high. transit_of_block k (record { from_one = low; at_most = high }))

  abbrev stop_part : ℕ → ℕ
  stop_part k = (road.stages - 1) * (3 * earth_cap (section road (block road k).section))

  stop_weight : (k t : ℕ) → IsNumber k (block_count road) → 2 ≤ t → t ≤ road.stages
      → total_of (form_weight road) (cut_stop_form road k t ∷ fill_stop_form road k t ∷ []) ≡ 3 * earth_cap (section road (block road k).section)
  stop_weight k t n low high =
      let i = (block road k).section in
      let at = (w.blocks k n).section in
      let m : IsNumber t road.stages = record { from_one = omega arith; at_most = high } in
      let s = section road i in
      let cut = ap (λ r. unsigned_abs (neg_ℤ s.cut_max) * r) (reach-Opened road k t n low high) in
      let fill = ap (λ r. unsigned_abs (neg_ℤ s.fill_max) * r) (reach-Opened road k t n low high) in
      omega (arith, cut, fill, reach-Cut road i t m at, reach-Fill road i t m at, opposite_load s.cut_max, opposite_load s.fill_max)

  stops_weight : total_of (form_weight road) (stop_forms road) ≡ total_to stop_part (block_count road)
  stops_weight =
      total_of-flat_to (form_weight road)
      (λ k. flat_to (λ before. cut_stop_form road k (before + 1) ∷ fill_stop_form road k (before + 1) ∷ []) (road.stages - 1)) (block_count road)
      ∙ total_to_ext
      (λ k. total_of (form_weight road) (flat_to (λ before. cut_stop_form road k (before + 1) ∷ fill_stop_form road k (before + 1) ∷ []) (road.stages - 1)))
      stop_part (block_count road)
      (λ k low high.
      total_of-flat_to (form_weight road) (λ before. cut_stop_form road k (before + 1) ∷ fill_stop_form road k (before + 1) ∷ []) (road.stages - 1)
      ∙ total_to_same
      (λ before. total_of (form_weight road) (cut_stop_form road k (before + 1) ∷ fill_stop_form road k (before + 1) ∷ []))
      (3 * earth_cap (section road (block road k).section)) (road.stages - 1)
      (λ before a b. stop_weight k (before + 1) (record { from_one = low; at_most = high }) (omega arith) (omega arith)))

  order_weight : (k t : ℕ) → IsNumber k (block_count road) → 2 ≤ t → t + 1 ≤ road.stages → form_weight road (order_form road k t) ≡ 2
  order_weight k t n low high = omega (arith, reach-Opened road k t n low (omega arith), reach-Opened road k (t + 1) n (omega arith) high)

  orders_weight : total_of (form_weight road) (order_forms road) ≡ total_to (λ k. 2 * (road.stages - 2)) (block_count road)
  orders_weight =
      total_of-flat_to (form_weight road) (λ k. list_to (λ before. order_form road k (before + 1)) (road.stages - 2)) (block_count road)
      ∙ total_to_ext (λ k. total_of (form_weight road) (list_to (λ before. order_form road k (before + 1)) (road.stages - 2)))
      (λ k. 2 * (road.stages - 2)) (block_count road)
      (λ k low high.
      total_of-list_to (form_weight road) (λ before. order_form road k (before + 1)) (road.stages - 2)
      ∙ total_to_same (λ before. form_weight road (order_form road k (before + 1))) 2 (road.stages - 2)
      (λ before a b. order_weight k (before + 1) (record { from_one = low; at_most = high }) (omega arith) (omega arith))
      ∙ omega arith)

  pub haul_rows_weight : total_of (form_weight road) (haul_forms road)
      ≡ (road.stages * total_to balance_part (section_count road)
      + (road.stages * total_to access_cap (access_count road) + total_to (pit_load road) (pit_count road)))
      + (total_to transit_part (block_count road) + (total_to stop_part (block_count road) + total_to (λ k. 2 * (road.stages - 2)) (block_count road)))
  haul_rows_weight =
      omega (
        arith,
        total_of-append (form_weight road) (balance_forms road) (pit_forms road ++ (transit_forms road ++ (stop_forms road ++ order_forms road))),
        total_of-append (form_weight road) (pit_forms road) (transit_forms road ++ (stop_forms road ++ order_forms road)),
        total_of-append (form_weight road) (transit_forms road) (stop_forms road ++ order_forms road),
        total_of-append (form_weight road) (stop_forms road) (order_forms road),
        balances_weight,
        pits_weight,
        transits_weight,
        stops_weight,
        orders_weight,
      )

  -- ---- costs

  abbrev cost_weight : Column → ℕ
  cost_weight kind = unsigned_abs (unit_cost road kind) * kind_reach road kind

  segment_costs : (g : ℕ) → total_of cost_weight (segment_columns g) ≡ 0
  segment_costs g = omega arith

  abbrev hop_cost : Hop → ℕ
  hop_cost h = unsigned_abs h.right_cost * unsigned_abs h.right_max + unsigned_abs h.left_cost * unsigned_abs h.left_max

  abbrev access_cost : ℕ → ℕ
  access_cost q = unsigned_abs (access_unit_cost road q) * access_cap q

  -- the costs of amounts, of which each has the bounds 0 and its cap
  capped_costs : (kind : ℕ → Column) (cost cap : ℕ → ℤ) (count : ℕ)
      → ((k : ℕ) → cost_weight (kind k) ≡ unsigned_abs (cost k) * max 0 (unsigned_abs (cap k)))
      → total_of cost_weight (list_to kind count) ≡ total_to (λ k. unsigned_abs (cost k) * unsigned_abs (cap k)) count
  capped_costs kind cost cap count h =
      total_of-list_to cost_weight kind count
      ∙ total_to_ext (λ k. cost_weight (kind k)) (λ k. unsigned_abs (cost k) * unsigned_abs (cap k)) count
      (λ k low high. h k ∙ ap (λ r. unsigned_abs (cost k) * r) (omega arith))

  stage_costs : (t : ℕ) → total_of cost_weight (stage_columns road t)
      ≡ total_to (λ i. earth_cost (section road i)) (section_count road) + (total_to (λ h. hop_cost (hop road h)) (hop_count road) + total_to access_cost (access_count road))
  stage_costs t =
      let n = section_count road in
      let cuts : List Column = list_to (λ i. Cut i t) n in
      let fills : List Column = list_to (λ i. Fill i t) n in
      let rights : List Column = list_to (λ h. Right h t) (hop_count road) in
      let lefts : List Column = list_to (λ h. Left h t) (hop_count road) in
      let roads : List Column = list_to (λ q. Access q t) (access_count road) in
      let cut = capped_costs (λ i. Cut i t) (λ i. (section road i).cut_cost) (λ i. (section road i).cut_max) n (λ i. refl) in
      let fill = capped_costs (λ i. Fill i t) (λ i. (section road i).fill_cost) (λ i. (section road i).fill_max) n (λ i. refl) in
      let right = capped_costs (λ h. Right h t) (λ h. (hop road h).right_cost) (λ h. (hop road h).right_max) (hop_count road) (λ h. refl) in
      let left = capped_costs (λ h. Left h t) (λ h. (hop road h).left_cost) (λ h. (hop road h).left_max) (hop_count road) (λ h. refl) in
      let across = capped_costs (λ q. Access q t) (access_unit_cost road) (λ q. (access road q).max) (access_count road) (λ q. refl) in
      let earth = total_to_add
      (λ i. unsigned_abs (section road i).cut_cost * unsigned_abs (section road i).cut_max)
      (λ i. unsigned_abs (section road i).fill_cost * unsigned_abs (section road i).fill_max) n in
      let hauls = total_to_add
      (λ h. unsigned_abs (hop road h).right_cost * unsigned_abs (hop road h).right_max)
      (λ h. unsigned_abs (hop road h).left_cost * unsigned_abs (hop road h).left_max) (hop_count road) in
      omega (
        arith,
        total_of-append cost_weight cuts (fills ++ (rights ++ (lefts ++ roads))),
        total_of-append cost_weight fills (rights ++ (lefts ++ roads)),
        total_of-append cost_weight rights (lefts ++ roads),
        total_of-append cost_weight lefts roads,
        cut,
        fill,
        right,
        left,
        across,
        earth,
        hauls,
      )

  abbrev removal_part : ℕ → ℕ
  removal_part k = cond (nat_le 2 road.stages) (unsigned_abs (block road k).cost) 0

  -- a removal is paid at the last stage
  removal_weight : (k before : ℕ) → IsNumber k (block_count road) → 1 ≤ before → before ≤ road.stages - 1
      → cost_weight (Opened k (before + 1)) ≡ cond (before + 1 == road.stages) (unsigned_abs (block road k).cost) 0
  removal_weight k before n low high =
      let reach_one = kind_reach-Opened road k (before + 1) n (omega arith) (omega arith) in
      ap (λ r. unsigned_abs (unit_cost road (Opened k (before + 1))) * r) reach_one
      ∙ paid_load (before + 1 == road.stages) (block road k).cost

  block_costs : (k : ℕ) → IsNumber k (block_count road) → total_of cost_weight (block_columns road k) ≡ removal_part k
  block_costs k n =
      total_of-list_to cost_weight (λ before. Opened k (before + 1)) (road.stages - 1)
      ∙ total_to_ext (λ before. cost_weight (Opened k (before + 1))) (λ before. cond (before + 1 == road.stages) (unsigned_abs (block road k).cost) 0) (road.stages - 1)
      (λ before low high. removal_weight k before n low high)
      ∙ paid_last (unsigned_abs (block road k).cost) road.stages w.counted.stages_from

  columns_cost : total_of cost_weight (columns_of road)
      ≡ road.stages * (total_to (λ i. earth_cost (section road i)) (section_count road) + (total_to (λ h. hop_cost (hop road h)) (hop_count road) + total_to access_cost (access_count road)))
      + total_to removal_part (block_count road)
  unfolding columns_of
  columns_cost =
      let segments : List Column = flat_to segment_columns (segment_count road) in
      let offsets : List Column = list_to (λ i. Offset i) (section_count road) in
      let stages : List Column = flat_to (stage_columns road) road.stages in
      let blocks : List Column = flat_to (block_columns road) (block_count road) in
      let of_segments =
      total_of-flat_to cost_weight segment_columns (segment_count road)
      ∙ total_to_zero (λ g. total_of cost_weight (segment_columns g)) (segment_count road) (λ g low high. segment_costs g) in
      let of_offsets =
      total_of-list_to cost_weight (λ i. Offset i) (section_count road)
      ∙ total_to_zero (λ i. cost_weight (Offset i)) (section_count road) (λ i low high. omega arith) in
      let of_stages =
      total_of-flat_to cost_weight (stage_columns road) road.stages
      ∙ total_to_same (λ t. total_of cost_weight (stage_columns road t))
      (total_to (λ i. earth_cost (section road i)) (section_count road) + (total_to (λ h. hop_cost (hop road h)) (hop_count road) + total_to access_cost (access_count road)))
      road.stages (λ t low high. stage_costs t) in
      let of_blocks =
      total_of-flat_to cost_weight (block_columns road) (block_count road)
      ∙ total_to_ext (λ k. total_of cost_weight (block_columns road k)) removal_part (block_count road)
      (λ k low high. block_costs k (record { from_one = low; at_most = high })) in
      omega (
        arith,
        total_of-append cost_weight segments (offsets ++ (stages ++ blocks)),
        total_of-append cost_weight offsets (stages ++ blocks),
        total_of-append cost_weight stages blocks,
        of_segments,
        of_offsets,
        of_stages,
        of_blocks,
      )

  abbrev weighed : Program
  weighed = program_with road (whole_ranges road) (whole_openings road) (λ i. heaviest_lines (section road i))

  costs_by_kind : costs_weight weighed ≡ total_of cost_weight (columns_of road)
  costs_by_kind =
      let bounds = bounds_of road (whole_ranges road) (whole_openings road) in
      let by_number : ℕ → ℕ = λ j. unsigned_abs (numbered (pos 0) weighed.costs j) * reach (numbered (pos 0, pos 0) weighed.bounds j) in
      ap (total_to by_number) (length-map (columns_of road) bounds)
      ∙ total_to_of by_number cost_weight (columns_of road)
      (λ j kind e.
      let cost = numbered-map_entry (unit_cost road) (pos 0) (columns_of road) j kind e in
      let bound = numbered-map_entry bounds (pos 0, pos 0) (columns_of road) j kind e in
      ap (λ x. unsigned_abs x * reach (numbered (pos 0, pos 0) weighed.bounds j)) cost
      ∙ ap (λ b. unsigned_abs (unit_cost road kind) * reach b) bound)

  -- ---- all of it

  weight_by_groups : road_weight road
      ≡ (total_of (form_weight road) (section_forms road (λ i. heaviest_lines (section road i))) + total_of (form_weight road) (haul_forms road))
      + total_of cost_weight (columns_of road)
  unfolding road_weight
  weight_by_groups =
      let lines : ℕ → Lines = λ i. heaviest_lines (section road i) in
      let both = total_of-append (form_weight road) (section_forms road lines) (haul_forms road) in
      omega (arith, weight_by_rows weighed, rows_weight-forms road (forms_of road lines), both, costs_by_kind)

  -- loads by what stands on the road

  sections_load : total_to (λ i. section_load road (section road i)) (section_count road)
      ≡ (total_to (λ i. offset_part (section road i)) (section_count road) + total_to (λ i. volume_part (section road i)) (section_count road))
      + (road.stages * total_to (λ i. earth_cap (section road i)) (section_count road) + road.stages * total_to (λ i. earth_cost (section road i)) (section_count road))
  sections_load =
      let n = section_count road in
      omega (
        arith,
        total_to_add (λ i. offset_part (section road i)) (λ i. volume_part (section road i) + (road.stages * earth_cap (section road i) + road.stages * earth_cost (section road i))) n,
        total_to_add (λ i. volume_part (section road i)) (λ i. road.stages * earth_cap (section road i) + road.stages * earth_cost (section road i)) n,
        total_to_add (λ i. road.stages * earth_cap (section road i)) (λ i. road.stages * earth_cost (section road i)) n,
        total_to_mul_left road.stages (λ i. earth_cap (section road i)) n,
        total_to_mul_left road.stages (λ i. earth_cost (section road i)) n,
      )

  hops_load : total_to (λ h. hop_load road (hop road h)) (hop_count road)
      ≡ road.stages * total_to (λ h. hop_cap (hop road h)) (hop_count road) + road.stages * total_to (λ h. hop_cost (hop road h)) (hop_count road)
  hops_load =
      omega (
        arith,
        total_to_add (λ h. road.stages * hop_cap (hop road h)) (λ h. road.stages * hop_cost (hop road h)) (hop_count road),
        total_to_mul_left road.stages (λ h. hop_cap (hop road h)) (hop_count road),
        total_to_mul_left road.stages (λ h. hop_cost (hop road h)) (hop_count road),
      )

  roads_load : total_to (access_load road) (access_count road)
      ≡ road.stages * (2 * total_to access_cap (access_count road)) + road.stages * total_to access_cost (access_count road)
  roads_load =
      omega (
        arith,
        total_to_add (λ q. road.stages * (2 * access_cap q)) (λ q. road.stages * access_cost q) (access_count road),
        total_to_mul_left road.stages (λ q. 2 * access_cap q) (access_count road),
        ap (λ x. road.stages * x) (total_to_mul_left 2 access_cap (access_count road)),
        total_to_mul_left road.stages access_cost (access_count road),
      )

  blocks_load : total_to (block_load road) (block_count road)
      ≡ (total_to transit_part (block_count road) + total_to stop_part (block_count road))
      + (total_to (λ k. 2 * (road.stages - 2)) (block_count road) + total_to removal_part (block_count road))
  blocks_load =
      omega (
        arith,
        total_to_add transit_part (λ k. stop_part k + (2 * (road.stages - 2) + removal_part k)) (block_count road),
        total_to_add stop_part (λ k. 2 * (road.stages - 2) + removal_part k) (block_count road),
        total_to_add (λ k. 2 * (road.stages - 2)) removal_part (block_count road),
      )

  -- the weight of a well-formed road is the load of what stands on it
  pub road_weight-load : road_weight road ≡ load_of road
  road_weight-load =
      let stage_balance = ap (λ x. road.stages * x) balances_at_stage in
      omega (arith, weight_by_groups, section_rows_weight, haul_rows_weight, columns_cost, stage_balance, sections_load, hops_load, roads_load, blocks_load)
