-- Where values of kinds show a plan that keeps the rules, inside ranges of offsets, every form holds.
use Rattle.std.proofs.Common.{◌≡◌, ℕ, ◌+◌, ◌-◌, ◌≤◌, ◌<◌, List, arith, ap, sym, ◌∙◌, subst, ⊎_elim, ◌⊎◌, inl, inr}
use Rattle.std.specs.Prelude.{ℤ, pos, ◌*ℤ◌, ◌≤ℤ◌}
use Rattle.std.proofs.lemmas.Int.{ints}
use Rattle.std.proofs.lemmas.Bool.{cases_lt}
use Rattle.algebra.specs.Sums.{sum_to}
use Rattle.algebra.proofs.Products.{int_mul_comm, int_mul_neg, int_mul_zero, int_add_mul}
use Rattle.road_types.specs.Numbered.{IsNumber}
use Rattle.road_types.specs.Heights.{segment_length}
use Rattle.road_types.specs.Road.{section, hop, fixed_point, pit, block, no_hop, section_count, hop_count}
use Rattle.road_types.specs.Ranges.{height_range, AreHeightRanges}
use Rattle.road_types.specs.WellFormed.{IsWellFormed}
use Rattle.road_types.specs.SectionForms.{grade_entries, station_entries, volume_entries}
use Rattle.road_types.specs.HaulForms.{greatest_haul_out}
use Rattle.road_types.specs.RoadPrograms.{lines_in}
use Rattle.road_types.specs.declared.road.Road.{Road}
use Rattle.road_types.specs.declared.column.Column.{Column}
use Rattle.road_types.specs.declared.column.Column.TheVariants.{Offset, Opened}
use Rattle.plan_rules.specs.declared.plan.Plan.{Plan}
use Rattle.plan_rules.specs.Plans.{amount, opening, IsPlanOf}
use Rattle.plan_rules.specs.Rules.{IsWithin, IsCapped, offset_of, fill_less_cut}
use Rattle.volume_lines.specs.SlabTables.{HasSlabTables}
use Rattle.volume_lines.proofs.LinesLaws.{KeepsLines, volume_keeps_lines}
use Rattle.road_points.proofs.FormValues.{form_value-negated}
use Rattle.road_points.proofs.FormGroups.{SectionFormsHold, HaulFormsHold}
use Rattle.road_points.proofs.Shows.{ShowsPieces, ShowsOffsets, ShowsAmounts, ShowsOpenings, opened_by}
use Rattle.road_points.proofs.RowValues.{grade_value, station_value, offset_value, next_height_value, next_grade_value, volume_value, balance_value, pit_value, transit_value, cut_stop_value, fill_stop_value, order_value}
use Rattle.road_points.proofs.PlanFacts.{PlanFacts}
use Rattle.road_points.proofs.PointShows.{is_number_or_not, numbered_none, number_along, amount_none, opened_before, opened_from}

pub tables_of : (road : Road) → IsWellFormed road → (i : ℕ) → IsNumber i (section_count road) → HasSlabTables (section road i)
tables_of road w i n = record { cut = (w.sections i n).cut; fill = (w.sections i n).fill }

-- every offset lies in its range
pub record OffsetsInside (road : Road) (plan : Plan) (heights : List (ℤ × ℤ)) : Type 0 where
  pub each : (i : ℕ) → IsNumber i (section_count road) → IsWithin (height_range heights i).0 (height_range heights i).1 plan.den (offset_of road plan i)

module _ (road : Road) (well : IsWellFormed road) (plan : Plan) (is_plan : IsPlanOf road plan) (facts : PlanFacts road plan) (f : Column → ℤ) where
  pub section_forms_hold : (heights : List (ℤ × ℤ)) → AreHeightRanges road heights → OffsetsInside road plan heights
      → ShowsPieces plan f → ShowsOffsets road plan f → ShowsAmounts plan f → SectionFormsHold road (lines_in road heights) f plan.den
  section_forms_hold heights ranges inside pieces offsets amounts = record {
    offset = λ i n. omega (arith, ints, offset_value plan f pieces road i, offsets.each i n);
    next_height = λ g n. omega (arith, ints, next_height_value plan f pieces road g, (facts.continuous g n).height, int_mul_zero plan.den);
    next_grade = λ g n. omega (arith, ints, next_grade_value plan f pieces road g, (facts.continuous g n).grade, int_mul_zero plan.den);
    grade_from = λ g n. omega (arith, ints, grade_value plan f pieces g (segment_length road.knots g), (facts.grade_end g n).at_least, int_mul_comm plan.den road.grade.0);
    grade_to = λ g n.
        let s = segment_length road.knots g in
        omega (arith, ints, form_value-negated f (grade_entries g s), grade_value plan f pieces g s, (facts.grade_end g n).at_most, int_mul_neg plan.den road.grade.1, int_mul_comm plan.den road.grade.1);
    fixed_from = λ p n. omega (arith, ints, station_value plan f pieces road (fixed_point road p).station, (facts.fixed p n).at_least, int_mul_comm plan.den (fixed_point road p).low);
    fixed_to = λ p n.
        let point = fixed_point road p in
        omega (arith, ints, form_value-negated f (station_entries road point.station), station_value plan f pieces road point.station, (facts.fixed p n).at_most, int_mul_neg plan.den point.high, int_mul_comm plan.den point.high);
    above_least = λ i n.
        let k = keeps i n in
        let l = lines_in road heights i in
        omega (arith, ints, volume_value road plan f amounts i l.least, k.above_least);
    below_greatest = λ i n.
        let k = keeps i n in
        let l = lines_in road heights i in
        omega (arith, ints, form_value-negated f (volume_entries road i l.greatest), volume_value road plan f amounts i l.greatest, k.below_greatest);
    below_least = λ i n.
        let k = keeps i n in
        let l = lines_in road heights i in
        omega (arith, ints, form_value-negated f (volume_entries road i l.least), volume_value road plan f amounts i l.least, k.below_least);
    above_greatest = λ i n.
        let k = keeps i n in
        let l = lines_in road heights i in
        omega (arith, ints, volume_value road plan f amounts i l.greatest, k.above_greatest);
  }
    where
      positive : pos 1 ≤ℤ plan.den
      positive = is_plan.den

      keeps : (i : ℕ) → IsNumber i (section_count road) → KeepsLines (lines_in road heights i) plan.den (f (Offset i)) (sum_to (fill_less_cut plan i) road.stages)
      keeps i n =
          let s = section road i in
          let within = inside.each i n in
          let at = volume_keeps_lines s (tables_of road well i n) (height_range heights i) (ranges.each i n) plan.den (offset_of road plan i) (omega (arith, ints, is_plan.den)) within.at_least within.at_most in
          subst (λ (u : ℤ). KeepsLines (lines_in road heights i) plan.den u (sum_to (fill_less_cut plan i) road.stages)) (sym (offsets.each i n))
          (subst (λ (v : ℤ). KeepsLines (lines_in road heights i) plan.den (offset_of road plan i) v) (sym (facts.volume i n).volume) at)

  -- ---- hauls past an end carry nothing

  no_hop_at : (h : ℕ) → (IsNumber h (hop_count road) → ⊥) → hop road h ≡ no_hop
  no_hop_at h none = numbered_none no_hop road.hops h none

  pub right_capped : (t h : ℕ) → IsNumber t road.stages → IsCapped (hop road h).right_max plan.den (amount plan.right t h)
  right_capped t h s =
      ⊎_elim
      (λ (n : IsNumber h (section_count road - 1)). facts.right t h s n)
      (λ (n : IsNumber h (section_count road - 1) → ⊥).
      let none = amount_none road.stages (section_count road - 1) t h plan.right is_plan.right (λ m. n m.0) in
      let cap = ap (λ x. x.right_max *ℤ plan.den) (no_hop_at h (λ m. n (number_along h (hop_count road) (section_count road - 1) well.counted.hops_count m))) in
      record { at_least = omega (arith, ints); at_most = omega (arith, ints, cap) })
      (is_number_or_not h (section_count road - 1))

  pub left_capped : (t h : ℕ) → IsNumber t road.stages → IsCapped (hop road h).left_max plan.den (amount plan.left t h)
  left_capped t h s =
      ⊎_elim
      (λ (n : IsNumber h (section_count road - 1)). facts.left t h s n)
      (λ (n : IsNumber h (section_count road - 1) → ⊥).
      let none = amount_none road.stages (section_count road - 1) t h plan.left is_plan.left (λ m. n m.0) in
      let cap = ap (λ x. x.left_max *ℤ plan.den) (no_hop_at h (λ m. n (number_along h (hop_count road) (section_count road - 1) well.counted.hops_count m))) in
      record { at_least = omega (arith, ints); at_most = omega (arith, ints, cap) })
      (is_number_or_not h (section_count road - 1))

  -- ---- blocks

  -- before or after a block's opening
  pub opening_cases : (k t : ℕ) → ((t < opening plan k) × (opened_by plan k t ≡ pos 0)) ⊎ ((opening plan k ≤ t) × (opened_by plan k t ≡ plan.den))
  opening_cases k t =
      ⊎_elim
      (λ (l : t < opening plan k). inl (l, opened_before plan k t l))
      (λ (l : opening plan k ≤ t). inr (l, opened_from plan k t l))
      (cases_lt t (opening plan k))

  pub haul_forms_hold : ShowsAmounts plan f → ShowsOpenings road plan f → HaulFormsHold road f plan.den
  haul_forms_hold amounts openings = record {
    balance = λ t i s n. omega (arith, ints, balance_value road plan f amounts t i, facts.balance t i s n, int_mul_zero plan.den);
    pit = λ p n. let capped = facts.pit p n in omega (arith, ints, pit_value road plan f amounts p, capped, int_mul_neg plan.den (pit road p).capacity, int_mul_comm plan.den (pit road p).capacity);
    transit = λ k t n s.
        let i = (block road k).section in
        let at = (well.blocks k n).section in
        let m = greatest_haul_out road i in
        let value = transit_value road plan f amounts k t in
        let y = openings.each k t n s.at_most in
        let rules = facts.block t k s n in
        let none = int_mul_zero plan.den in
        ⊎_elim
        (λ (c : (t < opening plan k) × (opened_by plan k t ≡ pos 0)).
        let m_y : m *ℤ f (Opened k t) ≡ pos 0 = ap (λ x. m *ℤ x) (y ∙ c.1) ∙ int_mul_zero m in
        omega (arith, ints, value, m_y, rules.standing c.0, none))
        (λ (c : (opening plan k ≤ t) × (opened_by plan k t ≡ plan.den)).
        let m_y : m *ℤ f (Opened k t) ≡ m *ℤ plan.den = ap (λ x. m *ℤ x) (y ∙ c.1) in
        omega (arith, ints, value, m_y, int_add_mul (hop road i).right_max (hop road (i - 1)).left_max plan.den, (right_capped t i s).at_most, (left_capped t (i - 1) s).at_most, (facts.cut t i s at).at_least, none))
        (opening_cases k t);
    cut_stop = λ k before n b.
        let t = before + 1 in
        let i = (block road k).section in
        let at = (well.blocks k n).section in
        let s = stage_of before b in
        let cap = (section road i).cut_max in
        let value = cut_stop_value road plan f amounts k t in
        let y = openings.each k t n s.at_most in
        let rules = facts.block t k s n in
        let right = int_mul_neg plan.den cap in
        let turned = int_mul_comm plan.den cap in
        ⊎_elim
        (λ (c : (t < opening plan k) × (opened_by plan k t ≡ pos 0)).
        let c_y : cap *ℤ f (Opened k t) ≡ pos 0 = ap (λ x. cap *ℤ x) (y ∙ c.1) ∙ int_mul_zero cap in
        omega (arith, ints, value, c_y, (facts.cut t i s at).at_most, right, turned))
        (λ (c : (opening plan k ≤ t) × (opened_by plan k t ≡ plan.den)).
        let c_y : cap *ℤ f (Opened k t) ≡ cap *ℤ plan.den = ap (λ x. cap *ℤ x) (y ∙ c.1) in
        omega (arith, ints, value, c_y, rules.no_cut c.0, right, turned))
        (opening_cases k t);
    fill_stop = λ k before n b.
        let t = before + 1 in
        let i = (block road k).section in
        let at = (well.blocks k n).section in
        let s = stage_of before b in
        let cap = (section road i).fill_max in
        let value = fill_stop_value road plan f amounts k t in
        let y = openings.each k t n s.at_most in
        let rules = facts.block t k s n in
        let right = int_mul_neg plan.den cap in
        let turned = int_mul_comm plan.den cap in
        ⊎_elim
        (λ (c : (t < opening plan k) × (opened_by plan k t ≡ pos 0)).
        let c_y : cap *ℤ f (Opened k t) ≡ pos 0 = ap (λ x. cap *ℤ x) (y ∙ c.1) ∙ int_mul_zero cap in
        omega (arith, ints, value, c_y, (facts.fill t i s at).at_most, right, turned))
        (λ (c : (opening plan k ≤ t) × (opened_by plan k t ≡ plan.den)).
        let c_y : cap *ℤ f (Opened k t) ≡ cap *ℤ plan.den = ap (λ x. cap *ℤ x) (y ∙ c.1) in
        omega (arith, ints, value, c_y, rules.no_fill c.0, right, turned))
        (opening_cases k t);
    order = λ k before n b.
        let t = before + 1 in
        let y = openings.each k t n (omega (arith, b.from_one, b.at_most)) in
        let next = openings.each k (t + 1) n (omega (arith, b.from_one, b.at_most)) in
        let none = int_mul_zero plan.den in
        ⊎_elim
        (λ (c : (t < opening plan k) × (opened_by plan k t ≡ pos 0)).
        ⊎_elim
        (λ (e : (t + 1 < opening plan k) × (opened_by plan k (t + 1) ≡ pos 0)). omega (arith, ints, order_value road f k t, y, next, c.1, e.1, none))
        (λ (e : (opening plan k ≤ t + 1) × (opened_by plan k (t + 1) ≡ plan.den)). omega (arith, ints, order_value road f k t, y, next, c.1, e.1, none, is_plan.den))
        (opening_cases k (t + 1)))
        (λ (c : (opening plan k ≤ t) × (opened_by plan k t ≡ plan.den)).
        omega (arith, ints, order_value road f k t, y, next, c.1, opened_from plan k (t + 1) (omega arith), none))
        (opening_cases k t);
  }
    where
      stage_of : (before : ℕ) → IsNumber before (road.stages - 1) → IsNumber (before + 1) road.stages
      stage_of before b = record { from_one = omega arith; at_most = omega (arith, b.from_one, b.at_most) }
