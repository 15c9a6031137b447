-- The program of a box that fits an accepted road is within all limits of a program in memory.
use Rattle.std.proofs.Common.{ℕ, ◌+◌, ◌-◌, Bool, true, false, List, [], ◌∷◌, arith, sym, ◌∙◌, subst}
use Rattle.std.specs.Prelude.{ℤ, pos, neg_ℤ, ◌*ℤ◌, ◌≤ℤ◌, ◌<ℤ◌, nat_lt, nat_le, ◌==◌, if◌then◌else◌}
use Rattle.std.specs.List.{All}
use Rattle.std.proofs.lemmas.Int.{ints}
use Rattle.std.proofs.lemmas.List.{length-map}
use Rattle.std.proofs.lemmas.List.Elements.{All-append, All-map}
use Rattle.algebra.proofs.ListsLemmas.{map-flat_to}
use Rattle.programs.specs.Programs.{ProgramRow, column_count}
use Rattle.programs.specs.Limits.{Rises, IsWithinLimits}
use Rattle.road_types.specs.Numbered.{numbered, IsNumber}
use Rattle.road_types.specs.Heights.{segment_at, segment_length, steps_along}
use Rattle.road_types.specs.Road.{section, fixed_point, block, section_count, segment_count, access}
use Rattle.road_types.specs.WellFormed.{IsWellFormed, IsOnKnots}
use Rattle.road_types.specs.Accepted.{IsAccepted}
use Rattle.road_types.specs.Columns.{columns_of, bounds_of, unit_cost, opened_bounds}
use Rattle.road_types.specs.Forms.{Form, negated}
use Rattle.road_types.specs.Lines.{Lines}
use Rattle.road_types.specs.SectionForms.{volume_entries, section_forms}
use Rattle.road_types.specs.HaulForms.{brought, taken, greatest_haul_out, haul_forms}
use Rattle.road_types.specs.RoadPrograms.{terms_of, row_of, forms_of, lines_in}
use Rattle.road_types.specs.declared.road.Road.{Road}
use Rattle.road_types.specs.declared.column.Column.{Column}
use Rattle.road_types.specs.declared.column.Column.TheVariants.{A, B, C, Offset, Cut, Fill, Right, Left, Access, Opened}
use Rattle.road_types.proofs.SegmentLemmas.{in_segment}
use Rattle.road_types.proofs.ColumnPlaces.{length-columns_of}
use Rattle.road_types.proofs.FormCounts.{length-forms_of}
use Rattle.form_rows.proofs.RisingLemmas.{RisesAll, height_row_rises, grade_row_rises, offset_row_rises, next_height_row_rises, next_grade_row_rises, volume_row_rises, balance_row_rises, pit_row_rises, transit_row_rises, cut_stop_row_rises, fill_stop_row_rises, order_row_rises}
use Rattle.road_points.proofs.FormGroups.{SectionFormsAre, HaulFormsAre, section_forms_all, haul_forms_all}
use Rattle.road_points.specs.ColumnKinds.{IsKindOf}
use Rattle.road_points.proofs.RoadKinds.{all_kinds}
use Rattle.milp_builder.specs.Boxes.{IsBoxOf}
use Rattle.milp_builder.specs.BoxPrograms.{box_program}
use Rattle.milp_builder.specs.declared.boxes.BoxRange.{BoxRange}
use Rattle.milp_builder.proofs.BoxLaws.{height_ranges}
use Rattle.milp_builder.proofs.BoxWeights.{program_is_light}

-- ---- every row rises

module _ (road : Road) (well : IsWellFormed road) where
  FormRises : Form → Type 0
  FormRises form = RisesAll road form.entries

  segment_number : (station : ℤ) → IsOnKnots road station → IsNumber (segment_at road.knots station) (segment_count road)
  segment_number station on = (in_segment road.knots station well.counted.knots_from on.after_first on.before_last).number

  -- a volume row, and the same turned round
  volume_rises : (i : ℕ) (slope : ℤ) → RisesAll road (volume_entries road i slope)
  volume_rises i slope = volume_row_rises road i (neg_ℤ slope) (neg_ℤ (pos 1)) (pos 1)

  turned_volume_rises : (i : ℕ) (slope : ℤ) → RisesAll road (negated (volume_entries road i slope))
  turned_volume_rises i slope =
      subst (λ (rest : List (Column × ℤ)). RisesAll road ((Offset i, neg_ℤ (neg_ℤ slope)) ∷ rest))
      (sym (map-flat_to (λ (e : Column × ℤ). (e.0, neg_ℤ e.1)) (λ t. (Cut i t, neg_ℤ (pos 1)) ∷ (Fill i t, pos 1) ∷ []) road.stages))
      (volume_row_rises road i (neg_ℤ (neg_ℤ slope)) (neg_ℤ (neg_ℤ (pos 1))) (neg_ℤ (pos 1)))

  section_forms_rise : (lines : ℕ → Lines) → SectionFormsAre road lines FormRises
  unfolding FormRises
  section_forms_rise lines = record {
    offset = λ i n.
        let station = (section road i).station in
        let s = steps_along road.knots station in
        offset_row_rises road (segment_at road.knots station) i (pos 1) s (s *ℤ s) (neg_ℤ (pos 1)) (segment_number station (well.sections i n).on_knots);
    next_height = λ g n.
        let s = segment_length road.knots g in
        next_height_row_rises road g (pos 1) s (s *ℤ s) (neg_ℤ (pos 1)) (before_last g n);
    next_grade = λ g n.
        let s = segment_length road.knots g in
        next_grade_row_rises road g (pos 1) (pos 2 *ℤ s) (neg_ℤ (pos 1)) (before_last g n);
    grade_from = λ g n. grade_row_rises road g (pos 1) (pos 2 *ℤ segment_length road.knots g) n;
    grade_to = λ g n. grade_row_rises road g (neg_ℤ (pos 1)) (neg_ℤ (pos 2 *ℤ segment_length road.knots g)) n;
    fixed_from = λ p n.
        let station = (fixed_point road p).station in
        let s = steps_along road.knots station in
        height_row_rises road (segment_at road.knots station) (pos 1) s (s *ℤ s) (segment_number station (well.fixed p n).on_knots);
    fixed_to = λ p n.
        let station = (fixed_point road p).station in
        let s = steps_along road.knots station in
        height_row_rises road (segment_at road.knots station) (neg_ℤ (pos 1)) (neg_ℤ s) (neg_ℤ (s *ℤ s)) (segment_number station (well.fixed p n).on_knots);
    above_least = λ i n. volume_rises i (lines i).least;
    below_greatest = λ i n. turned_volume_rises i (lines i).greatest;
    below_least = λ i n. turned_volume_rises i (lines i).least;
    above_greatest = λ i n. volume_rises i (lines i).greatest;
  }
    where
      before_last : (g : ℕ) → IsNumber g (segment_count road - 1) → IsNumber g (segment_count road)
      before_last g n = record { from_one = n.from_one; at_most = omega (arith, n.at_most) }

  haul_forms_rise : HaulFormsAre road FormRises
  unfolding FormRises
  haul_forms_rise = record {
    balance = λ t i m n. balance_row_rises road t i (pos 1) (neg_ℤ (pos 1)) (pos 1) (neg_ℤ (pos 1)) (neg_ℤ (pos 1)) (pos 1) (brought road i) well.counted m n;
    pit = λ p n. pit_row_rises road (taken road p);
    transit = λ k t n m. transit_row_rises road k (block road k).section t (pos 1) (neg_ℤ (pos 1)) (neg_ℤ (pos 1)) (greatest_haul_out road (block road k).section) m;
    cut_stop = λ k b n m. cut_stop_row_rises road k (block road k).section (b + 1) (neg_ℤ (pos 1)) (neg_ℤ (section road (block road k).section).cut_max) (stage_of b m);
    fill_stop = λ k b n m. fill_stop_row_rises road k (block road k).section (b + 1) (neg_ℤ (pos 1)) (neg_ℤ (section road (block road k).section).fill_max) (stage_of b m);
    order = λ k b n m. order_row_rises road k (b + 1) (neg_ℤ (pos 1)) (pos 1) n (omega arith) (omega (arith, m.from_one, m.at_most));
  }
    where
      stage_of : (b : ℕ) → IsNumber b (road.stages - 1) → IsNumber (b + 1) road.stages
      stage_of b m = record { from_one = omega arith; at_most = omega (arith, m.from_one, m.at_most) }

  forms_rise : (lines : ℕ → Lines) → All FormRises (forms_of road lines)
  forms_rise lines =
      All-append FormRises (section_forms road lines) (haul_forms road)
      (section_forms_all road lines FormRises (section_forms_rise lines))
      (haul_forms_all road lines FormRises haul_forms_rise)

  -- ---- bounds and costs

  opened_ordered : (range : ℕ × ℕ) (t : ℕ) → (opened_bounds range t).0 ≤ℤ (opened_bounds range t).1
  opened_ordered range t = by_tests (nat_lt t range.0) (nat_le range.1 t)
    where
      chosen : Bool → Bool → ℤ × ℤ
      chosen a b = if a then (pos 0, pos 0) else if b then (pos 1, pos 1) else (pos 0, pos 1)

      by_tests : (a b : Bool) → (chosen a b).0 ≤ℤ (chosen a b).1
      by_tests true b = omega (arith, ints)
      by_tests false true = omega (arith, ints)
      by_tests false false = omega (arith, ints)

  module _ (heights : List (ℤ × ℤ)) (openings : List (ℕ × ℕ)) (ordered : (i : ℕ) → IsNumber i (section_count road) → (numbered (pos 0, pos 0) heights i).0 ≤ℤ (numbered (pos 0, pos 0) heights i).1) where
    kind_ordered : (kind : Column) → IsKindOf road kind → (bounds_of road heights openings kind).0 ≤ℤ (bounds_of road heights openings kind).1
    kind_ordered (A g) n = well.low_high
    kind_ordered (B g) n = well.grade_ordered
    kind_ordered (C g) n = omega (arith, ints, well.curve.at_least)
    kind_ordered (Offset i) n = ordered i n
    kind_ordered (Cut i t) n = (well.sections i n.0).cut_max.at_least
    kind_ordered (Fill i t) n = (well.sections i n.0).fill_max.at_least
    kind_ordered (Right h t) n = (well.hops h n.0).right_max.at_least
    kind_ordered (Left h t) n = (well.hops h n.0).left_max.at_least
    kind_ordered (Access q t) n = (well.roads q n.0).max.at_least
    kind_ordered (Opened k t) n = opened_ordered (numbered (0, 0) openings k) t

  kind_cost : (kind : Column) → IsKindOf road kind → pos 0 ≤ℤ unit_cost road kind
  kind_cost (A g) n = omega (arith, ints)
  kind_cost (B g) n = omega (arith, ints)
  kind_cost (C g) n = omega (arith, ints)
  kind_cost (Offset i) n = omega (arith, ints)
  kind_cost (Cut i t) n = (well.sections i n.0).cut_cost.at_least
  kind_cost (Fill i t) n = (well.sections i n.0).fill_cost.at_least
  kind_cost (Right h t) n = (well.hops h n.0).right_cost.at_least
  kind_cost (Left h t) n = (well.hops h n.0).left_cost.at_least
  kind_cost (Access q t) n = let a = well.roads q n.0 in omega (arith, ints, a.cost.at_least, (well.pits (access road q).pit a.pit).cost.at_least)
  kind_cost (Opened k t) n = by_test (t == road.stages)
    where
      by_test : (b : Bool) → pos 0 ≤ℤ (if b then (block road k).cost else pos 0)
      by_test true = (well.blocks k n.0).cost.at_least
      by_test false = omega (arith, ints)

-- ---- all limits

pub box_within_limits : (road : Road) → IsAccepted road → (box : BoxRange) → IsBoxOf road box → IsWithinLimits (box_program road box)
unfolding FormRises
box_within_limits road accepted box fits =
    let well = accepted.well_formed in
    let columns = columns_of road in
    let lines = lines_in road box.heights in
    let bounds = bounds_of road box.heights box.opens in
    let width = length-map columns bounds in
    record {
      rows = omega (arith, length-map (forms_of road lines) (row_of road), length-forms_of road lines, accepted.rows);
      columns = omega (arith, width, length-columns_of road, accepted.columns);
      costs = length-map columns (unit_cost road) ∙ sym width;
      rising =
          All-map (λ (row : ProgramRow). Rises 0 (column_count (box_program road box)) row.terms) (row_of road) (forms_of road lines)
          (subst (λ (n : ℕ). All (λ (form : Form). Rises 0 n (terms_of road form.entries)) (forms_of road lines)) (sym (width ∙ length-columns_of road)) (forms_rise road well lines));
      ordered = All-map (λ (b : ℤ × ℤ). b.0 ≤ℤ b.1) bounds columns (all_kinds road (λ kind. (bounds kind).0 ≤ℤ (bounds kind).1) (kind_ordered road well box.heights box.opens (λ i n. in_order (fits.heights i n).ordered)));
      costs_from_zero = All-map (λ (c : ℤ). pos 0 ≤ℤ c) (unit_cost road) columns (all_kinds road (λ kind. pos 0 ≤ℤ unit_cost road kind) (kind_cost road well));
      light = omega (arith, program_is_light road well box.heights box.opens (height_ranges road box fits), accepted.light);
    }
  where
    in_order : {a b : ℤ} → a <ℤ b → a ≤ℤ b
    in_order h = omega (arith, ints)
