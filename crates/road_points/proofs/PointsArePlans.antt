-- Points are plans: a point that meets the rows of a program over ranges, in the bounds, with whole removals and exact volumes, is
-- the point of one admissible plan, which keeps to the ranges. Volumes are exact where no breakpoint lies strictly inside a range.
use Rattle.std.proofs.Common.{◌≡◌, ℕ, zero, suc, ◌+◌, ◌-◌, ◌≤◌, ◌<◌, List, [], ◌∷◌, length, get_or, arith, ap, sym, ◌∙◌, refl, subst, ⊎_elim, ◌⊎◌, inl, inr, Bool, true, false}
use Rattle.std.specs.Prelude.{nat_lt, nat_le, if◌then◌else◌, ℤ, pos, neg_ℤ, ◌-ℤ◌, ◌*ℤ◌, ◌≤ℤ◌}
use Rattle.std.proofs.lemmas.Int.{ints}
use Rattle.std.proofs.lemmas.Bool.{cases_lt}
use Rattle.std.proofs.lemmas.Bool.Decides.{nat_tests}
use Rattle.std.proofs.lemmas.List.{length-map, get_or-map, same_lists}
use Rattle.algebra.specs.Sums.{sum_to}
use Rattle.algebra.proofs.Products.{int_zero_mul, int_one_mul, int_mul_zero, int_mul_comm, int_mul_neg}
use Rattle.algebra.proofs.Order.{int_mul_le_right}
use Rattle.algebra.proofs.SumsLemmas.{sum_to_ext}
use Rattle.road_types.specs.Numbered.{numbered, IsNumber}
use Rattle.programs.specs.Programs.{bounds_at}
use Rattle.programs.specs.Points.{IsPoint, numerator_at}
use Rattle.road_types.specs.Heights.{segment_length}
use Rattle.road_types.specs.Road.{section, hop, fixed_point, pit, block, section_count, hop_count, block_count}
use Rattle.road_types.specs.Columns.{columns_of, bounds_of, opened_bounds}
use Rattle.road_types.specs.Ranges.{height_range, AreHeightRanges}
use Rattle.road_types.specs.WellFormed.{IsWellFormed}
use Rattle.road_types.specs.Volumes.{thickness_of, net_volume}
use Rattle.road_types.specs.SectionForms.{grade_entries, station_entries, volume_entries}
use Rattle.road_types.specs.HaulForms.{greatest_haul_out, cut_stop_form, fill_stop_form}
use Rattle.road_types.specs.RoadPrograms.{road_program, lines_in}
use Rattle.road_types.specs.declared.road.Road.{Road}
use Rattle.road_types.specs.declared.column.Column.{Column}
use Rattle.road_types.specs.declared.column.Column.TheVariants.{A, B, C, Offset, Cut, Fill, Right, Left, Access, Opened}
use Rattle.plan_rules.specs.declared.plan.Plan.{Plan}
use Rattle.plan_rules.specs.Plans.{piece_of, amount, opening}
use Rattle.plan_rules.specs.Rules.{IsWithin, IsCapped, IsAdmissible, IsOpening, RespectsBlock, offset_of, fill_less_cut}
use Rattle.volume_lines.specs.InnerBreakpoints.{HasBreakpointInside}
use Rattle.volume_lines.proofs.LinesLaws.{KeepsLines, volume_is_exact, breakpoint_inside, breakpoint_from_bottom, breakpoint_to_top}
use Rattle.road_points.specs.PlanPoints.{value_in, point_of}
use Rattle.road_points.specs.Shown.{shown_at, shown, HasWholeRemovals, moved_volume, IsExactAt, HasExactVolumes}
use Rattle.road_points.proofs.FormValues.{form_value-negated, FormHolds}
use Rattle.road_points.proofs.FormGroups.{SectionFormsHold, HaulFormsHold, section_groups_from_rows, haul_groups_from_rows}
use Rattle.road_points.proofs.Shows.{ShowsPieces, ShowsOffsets, ShowsAmounts, ShowsOpenings}
use Rattle.road_points.proofs.RowValues.{grade_value, station_value, offset_value, next_height_value, next_grade_value, volume_value, balance_value, pit_value, transit_value, cut_stop_value, fill_stop_value, order_value}
use Rattle.road_points.proofs.PlanFacts.{PlanFacts, admissible_of_facts}
use Rattle.road_points.specs.ColumnKinds.{IsKindOf}
use Rattle.road_points.proofs.RoadKinds.{all_kinds, kinds_all, number_at}
use Rattle.road_points.proofs.PointShows.{number_along, shown_none, opened_before, opened_from}
use Rattle.road_points.proofs.FormsHold.{OffsetsInside, tables_of}
use Rattle.road_points.proofs.PlansArePoints.{OpeningsInside}
use Rattle.road_points.specs.ShownPlan.{zeros_to, plan_at}
use Rattle.road_points.proofs.OpenedStages.{IsStep, is_step}
use Rattle.road_points.proofs.PlanAt.{plan_at_is_plan, plan_at_shows_pieces, plan_at_shows_amounts, opening_of_plan_at}

-- some stages from 2 to one more than the road has, for each block
pub record AreOpeningRanges (road : Road) (openings : List (ℕ × ℕ)) : Type 0 where
  pub from_two : (k : ℕ) → IsNumber k (block_count road) → 2 ≤ (numbered (0, 0) openings k).0
  pub some : (k : ℕ) → IsNumber k (block_count road) → (numbered (0, 0) openings k).0 ≤ (numbered (0, 0) openings k).1
  pub at_most : (k : ℕ) → IsNumber k (block_count road) → (numbered (0, 0) openings k).1 ≤ road.stages + 1

within_as : (low high den x y : ℤ) → x ≡ y → IsWithin low high den x → IsWithin low high den y
within_as low high den x y e w = subst (λ (v : ℤ). IsWithin low high den v) e w

pub other_default : {A : Type 0} (d e : A) (xs : List A) (i : ℕ) → i < length xs → get_or xs i d ≡ get_or xs i e
other_default d e [] i l = absurd (omega arith)
other_default d e (x ∷ xs) zero l = refl
other_default d e (x ∷ xs) (suc i) l = other_default d e xs i (omega arith)

-- the bounds of an opened block by two tests
abbrev chosen : Bool → Bool → ℤ × ℤ
chosen shut open_now = if shut then (pos 0, pos 0) else if open_now then (pos 1, pos 1) else (pos 0, pos 1)

module _ (road : Road) (well : IsWellFormed road) (heights : List (ℤ × ℤ)) (openings : List (ℕ × ℕ)) (ranges : AreHeightRanges road heights)
    (den : ℤ) (positive : pos 1 ≤ℤ den) (point : List ℤ) (is_point : IsPoint (road_program road heights openings) den point) where
  abbrev f : Column → ℤ
  f = shown road point

  abbrev plan : Plan
  plan = plan_at road den f

  pieces : ShowsPieces plan f
  pieces = plan_at_shows_pieces road den point well.counted.hops_count

  amounts : ShowsAmounts plan f
  amounts = plan_at_shows_amounts road den point well.counted.hops_count

  along : SectionFormsHold road (lines_in road heights) f den
  along = section_groups_from_rows road (lines_in road heights) den point is_point.meets

  hauls : HaulFormsHold road f den
  hauls = haul_groups_from_rows road (lines_in road heights) den point is_point.meets

  -- ---- bounds by kind

  number_is : (k : ℕ) (d : Column) → k < length (columns_of road) → f (get_or (columns_of road) k d) ≡ numerator_at point (suc k)
  number_is k d l = ap (shown_at point) (number_at road k d l)

  pub kind_within : (kind : Column) → IsKindOf road kind → IsWithin (bounds_of road heights openings kind).0 (bounds_of road heights openings kind).1 den (f kind)
  kind_within =
      kinds_all road (λ c. IsWithin (bounds_of road heights openings c).0 (bounds_of road heights openings c).1 den (f c))
      (λ k d l.
      let at = is_point.in_bounds.each (suc k) (record { from_one = omega arith; at_most = omega (arith, l, length-map (columns_of road) (bounds_of road heights openings)) }) in
      let kind = get_or (columns_of road) k d in
      let bounds = get_or-map (bounds_of road heights openings) (columns_of road) k d (pos 0, pos 0) l in
      let here = number_is k d l in
      subst (λ (b : ℤ × ℤ). IsWithin b.0 b.1 den (f kind)) bounds
      (subst (λ (x : ℤ). IsWithin (bounds_at (road_program road heights openings) (suc k)).0 (bounds_at (road_program road heights openings) (suc k)).1 den x) (sym here)
      (record { at_least = at.at_least; at_most = at.at_most })))

  -- ---- offsets and volumes

  pub offset_shown : (i : ℕ) → IsNumber i (section_count road) → f (Offset i) ≡ offset_of road plan i
  offset_shown i n = omega (arith, ints, offset_value plan f pieces road i, along.offset i n)

  moved_is : (i : ℕ) → moved_volume road point i ≡ sum_to (fill_less_cut plan i) road.stages
  moved_is i =
      sum_to_ext (λ t. f (Fill i t) -ℤ f (Cut i t)) (fill_less_cut plan i) road.stages
      (λ t low high. omega (arith, ints, amounts.fill i t, amounts.cut i t))

  keeps_lines : (i : ℕ) → IsNumber i (section_count road) → KeepsLines (lines_in road heights i) den (f (Offset i)) (moved_volume road point i)
  keeps_lines i n =
      let l = lines_in road heights i in
      let v = moved_is i in
      record {
        above_least = omega (arith, ints, v, volume_value road plan f amounts i l.least, along.above_least i n);
        below_greatest = omega (arith, ints, v, form_value-negated f (volume_entries road i l.greatest), volume_value road plan f amounts i l.greatest, along.below_greatest i n);
        below_least = omega (arith, ints, v, form_value-negated f (volume_entries road i l.least), volume_value road plan f amounts i l.least, along.below_least i n);
        above_greatest = omega (arith, ints, v, volume_value road plan f amounts i l.greatest, along.above_greatest i n);
      }

  -- where no breakpoint lies strictly inside the range, the volume is exact
  exact_between : (i : ℕ) → IsNumber i (section_count road) → (HasBreakpointInside (section road i) (height_range heights i) → ⊥) → IsExactAt road den point i
  exact_between i n none =
      let within = kind_within (Offset i) n in
      volume_is_exact (section road i) (tables_of road well i n) (height_range heights i) (ranges.each i n) none den (f (Offset i)) (moved_volume road point i)
      (omega (arith, ints)) within.at_least within.at_most (keeps_lines i n)

  pub exact_or_inside : (i : ℕ) → IsNumber i (section_count road) → IsExactAt road den point i ⊎ HasBreakpointInside (section road i) (height_range heights i)
  exact_or_inside i n =
      ⊎_elim
      (λ (b : HasBreakpointInside (section road i) (height_range heights i)). inr b)
      (λ (none : HasBreakpointInside (section road i) (height_range heights i) → ⊥). inl (exact_between i n none))
      (breakpoint_inside (section road i) (tables_of road well i n) (height_range heights i) (ranges.each i n))

  -- ---- openings

  module _ (opens : AreOpeningRanges road openings) (whole : HasWholeRemovals road den point) where
    abbrev opened : ℕ → ℕ → ℤ
    opened k t = f (Opened k t)

    not_yet : (k t : ℕ) → t < 2 → opened k t ≡ pos 0
    not_yet k t l = shown_none road point (Opened k t) (λ h. omega (arith, h.1.0))

    whole_at : (k : ℕ) → IsNumber k (block_count road) → (t : ℕ) → 1 ≤ t → t ≤ road.stages → (opened k t ≡ pos 0) ⊎ (opened k t ≡ den)
    whole_at k n t low high =
        ⊎_elim
        (λ (l : t < 2). inl (not_yet k t l))
        (λ (l : 2 ≤ t). whole.each k t n l high)
        (cases_lt t 2)

    never_falls : (k : ℕ) → IsNumber k (block_count road) → (t : ℕ) → 1 ≤ t → suc t ≤ road.stages → opened k t ≤ℤ opened k (suc t)
    never_falls k n zero low high = absurd (omega arith)
    never_falls k n (suc b) low high =
        ⊎_elim
        (λ (l : suc b < 2).
        let before = not_yet k (suc b) l in
        ⊎_elim
        (λ (e : opened k (suc (suc b)) ≡ pos 0). omega (arith, ints))
        (λ (e : opened k (suc (suc b)) ≡ den). omega (arith, ints))
        (whole_at k n (suc (suc b)) (omega arith) high))
        (λ (l : 2 ≤ suc b).
        let row = hauls.order k b n (record { from_one = omega arith; at_most = omega arith }) in
        let this : b + 1 ≡ suc b = omega arith in
        let next : b + 1 + 1 ≡ suc (suc b) = omega arith in
        omega (arith, ints, row, order_value road f k (b + 1), ap (opened k) this, ap (opened k) next, int_mul_zero den))
        (cases_lt (suc b) 2)

    step : (k : ℕ) → IsNumber k (block_count road) → IsStep (opened k) den (zeros_to (opened k) road.stages) road.stages
    step k n = is_step (opened k) den (omega (arith, ints)) road.stages (whole_at k n) (never_falls k n)

    opening_is : (k : ℕ) → IsNumber k (block_count road) → opening plan k ≡ zeros_to (opened k) road.stages + 1
    opening_is k n = opening_of_plan_at road den point well.counted.hops_count k n

    openings_shown : ShowsOpenings road plan f
    openings_shown = record {
      each = λ k t n high.
          let s = step k n in
          let o = opening_is k n in
          ⊎_elim
          (λ (l : zeros_to (opened k) road.stages < t). s.after t l high ∙ sym (opened_from plan k t (omega arith)))
          (λ (l : t ≤ zeros_to (opened k) road.stages).
          ⊎_elim
          (λ (z : t < 1). not_yet k t (omega arith) ∙ sym (opened_before plan k t (omega arith)))
          (λ (z : 1 ≤ t). s.before t z l ∙ sym (opened_before plan k t (omega arith)))
          (cases_lt t 1))
          (cases_lt (zeros_to (opened k) road.stages) t);
    }

    is_opening : (k : ℕ) → IsNumber k (block_count road) → IsOpening road (opening plan k)
    is_opening k n =
        let s = step k n in
        let o = opening_is k n in
        let some : 1 ≤ zeros_to (opened k) road.stages =
        ⊎_elim
        (λ (l : zeros_to (opened k) road.stages < 1). let first = s.after 1 l well.counted.stages_from in let closed = not_yet k 1 (omega arith) in absurd (omega (arith, ints)))
        (λ (l : 1 ≤ zeros_to (opened k) road.stages). l)
        (cases_lt (zeros_to (opened k) road.stages) 1) in
        record { from_two = omega arith; at_most = omega (arith, s.most) }

    -- ---- the openings lie in their ranges

    bounds_before : (range : ℕ × ℕ) (t : ℕ) (x : ℤ) → t < range.0 → IsWithin (opened_bounds range t).0 (opened_bounds range t).1 den x → x ≡ pos 0
    bounds_before range t x l w =
        let test : nat_lt t range.0 ≡ true = grind (arith, nat_tests) in
        let v = subst (λ (b : Bool). IsWithin (chosen b (nat_le range.1 t)).0 (chosen b (nat_le range.1 t)).1 den x) test w in
        omega (arith, ints, v.at_least, v.at_most, int_zero_mul den)

    bounds_from : (range : ℕ × ℕ) (t : ℕ) (x : ℤ) → range.0 ≤ range.1 → range.1 ≤ t → IsWithin (opened_bounds range t).0 (opened_bounds range t).1 den x → x ≡ den
    bounds_from range t x o l w =
        let first : nat_lt t range.0 ≡ false = grind (arith, nat_tests) in
        let second : nat_le range.1 t ≡ true = grind (arith, nat_tests) in
        let v = subst (λ (b : Bool). IsWithin (chosen b (nat_le range.1 t)).0 (chosen b (nat_le range.1 t)).1 den x) first w in
        let u = subst (λ (b : Bool). IsWithin (chosen false b).0 (chosen false b).1 den x) second v in
        omega (arith, ints, u.at_least, u.at_most, int_one_mul den)

    pub openings_inside : OpeningsInside road plan openings
    openings_inside = record {
      from = λ k n.
          let s = step k n in
          let o = opening_is k n in
          let range = numbered (0, 0) openings k in
          let z = is_opening k n in
          ⊎_elim
          (λ (l : opening plan k < range.0).
          let high : opening plan k ≤ road.stages = omega (arith, opens.some k n, opens.at_most k n) in
          let closed = bounds_before range (opening plan k) (opened k (opening plan k)) l (kind_within (Opened k (opening plan k)) (n, (z.from_two, high))) in
          let open_now = s.after (opening plan k) (omega arith) high in
          absurd (omega (arith, ints)))
          (λ (l : range.0 ≤ opening plan k). l)
          (cases_lt (opening plan k) range.0);
      to = λ k n.
          let s = step k n in
          let o = opening_is k n in
          let range = numbered (0, 0) openings k in
          let ordered = opens.some k n in
          ⊎_elim
          (λ (l : range.1 < opening plan k).
          let two : 2 ≤ range.1 = omega (arith, opens.from_two k n) in
          let high : range.1 ≤ road.stages = omega (arith, s.most) in
          let open_now = bounds_from range range.1 (opened k range.1) ordered (omega arith) (kind_within (Opened k range.1) (n, (two, high))) in
          let closed = s.before range.1 (omega arith) (omega arith) in
          absurd (omega (arith, ints)))
          (λ (l : opening plan k ≤ range.1). l)
          (cases_lt range.1 (opening plan k));
    }

    -- ---- the plan keeps every rule

    offsets_shown : ShowsOffsets road plan f
    offsets_shown = record { each = offset_shown }

    amount_capped : (cap x y : ℤ) → x ≡ y → IsWithin (pos 0) cap den x → IsCapped cap den y
    amount_capped cap x y e w = within_as (pos 0) cap den x y e w

    block_kept : (t k : ℕ) → IsNumber t road.stages → IsNumber k (block_count road) → RespectsBlock road plan t k
    block_kept zero k s n = absurd (omega (arith, s.from_one))
    block_kept (suc b) k s n =
        let t = suc b in
        let i = (block road k).section in
        let at = (well.blocks k n).section in
        let this : b + 1 ≡ t = omega arith in
        let y = openings_shown.each k t n s.at_most in
        let two = (is_opening k n).from_two in
        record {
          standing = λ l.
              let closed = y ∙ opened_before plan k t l in
              let m = greatest_haul_out road i in
              omega (arith, ints, transit_value road plan f amounts k t, hauls.transit k t n s, ap (λ x. m *ℤ x) closed, int_mul_zero m, int_mul_zero den);
          no_cut = λ l.
              let cap = (section road i).cut_max in
              let open_now = y ∙ opened_from plan k t l in
              let row : FormHolds f den (cut_stop_form road k t) = subst (λ (x : ℕ). FormHolds f den (cut_stop_form road k x)) this (hauls.cut_stop k b n (record { from_one = omega arith; at_most = omega (arith, s.at_most) })) in
              let least = (amount_capped cap (f (Cut i t)) (amount plan.cut t i) (amounts.cut i t) (kind_within (Cut i t) (at, s))).at_least in
              omega (arith, ints, cut_stop_value road plan f amounts k t, row, ap (λ x. cap *ℤ x) open_now, int_mul_neg den cap, int_mul_comm den cap, least, int_zero_mul den);
          no_fill = λ l.
              let cap = (section road i).fill_max in
              let open_now = y ∙ opened_from plan k t l in
              let row : FormHolds f den (fill_stop_form road k t) = subst (λ (x : ℕ). FormHolds f den (fill_stop_form road k x)) this (hauls.fill_stop k b n (record { from_one = omega arith; at_most = omega (arith, s.at_most) })) in
              let least = (amount_capped cap (f (Fill i t)) (amount plan.fill t i) (amounts.fill i t) (kind_within (Fill i t) (at, s))).at_least in
              omega (arith, ints, fill_stop_value road plan f amounts k t, row, ap (λ x. cap *ℤ x) open_now, int_mul_neg den cap, int_mul_comm den cap, least, int_zero_mul den);
        }

    to_hop : (h : ℕ) → IsNumber h (section_count road - 1) → IsNumber h (hop_count road)
    to_hop h n = number_along h (section_count road - 1) (hop_count road) (sym well.counted.hops_count) n

    pub offsets_inside : OffsetsInside road plan heights
    offsets_inside = record {
      each = λ i n. within_as (height_range heights i).0 (height_range heights i).1 den (f (Offset i)) (offset_of road plan i) (offset_shown i n) (kind_within (Offset i) n);
    }

    module _ (exact : HasExactVolumes road den point) where
      facts : PlanFacts road plan
      facts = record {
        limits = λ g n. record {
          height = within_as road.low road.high den (f (A g)) (piece_of plan g).a (pieces.a g) (kind_within (A g) n);
          grade = within_as road.grade.0 road.grade.1 den (f (B g)) (piece_of plan g).b (pieces.b g) (kind_within (B g) n);
          curve = within_as (neg_ℤ road.curve) road.curve den (f (C g)) (piece_of plan g).c (pieces.c g) (kind_within (C g) n);
        };
        continuous = λ g n. record {
          height = omega (arith, ints, next_height_value plan f pieces road g, along.next_height g n, int_mul_zero den);
          grade = omega (arith, ints, next_grade_value plan f pieces road g, along.next_grade g n, int_mul_zero den);
        };
        grade_end = λ g n.
            let s = segment_length road.knots g in
            record {
              at_least = omega (arith, ints, grade_value plan f pieces g s, along.grade_from g n, int_mul_comm den road.grade.0);
              at_most = omega (arith, ints, form_value-negated f (grade_entries g s), grade_value plan f pieces g s, along.grade_to g n, int_mul_neg den road.grade.1, int_mul_comm den road.grade.1);
            };
        fixed = λ p n.
            let at = fixed_point road p in
            record {
              at_least = omega (arith, ints, station_value plan f pieces road at.station, along.fixed_from p n, int_mul_comm den at.low);
              at_most = omega (arith, ints, form_value-negated f (station_entries road at.station), station_value plan f pieces road at.station, along.fixed_to p n, int_mul_neg den at.high, int_mul_comm den at.high);
            };
        volume = λ i n.
            let s = section road i in
            let range = height_range heights i in
            let is_range = ranges.each i n in
            let within = offsets_inside.each i n in
            let bottom = int_mul_le_right (neg_ℤ (thickness_of s.cut)) range.0 den (omega (arith, ints)) (breakpoint_from_bottom s (tables_of road well i n) range.0 is_range.low) in
            let top = int_mul_le_right range.1 (thickness_of s.fill) den (omega (arith, ints)) (breakpoint_to_top s (tables_of road well i n) range.1 is_range.high) in
            record {
              range = record { at_least = omega (arith, ints, bottom, within.at_least); at_most = omega (arith, ints, top, within.at_most) };
              volume = sym (moved_is i) ∙ exact.each i n ∙ ap (λ u. net_volume s.cut s.fill u den) (offset_shown i n);
            };
        cut = λ t i s n. amount_capped (section road i).cut_max (f (Cut i t)) (amount plan.cut t i) (amounts.cut i t) (kind_within (Cut i t) (n, s));
        fill = λ t i s n. amount_capped (section road i).fill_max (f (Fill i t)) (amount plan.fill t i) (amounts.fill i t) (kind_within (Fill i t) (n, s));
        right = λ t h s n. amount_capped (hop road h).right_max (f (Right h t)) (amount plan.right t h) (amounts.right h t) (kind_within (Right h t) (to_hop h n, s));
        left = λ t h s n. amount_capped (hop road h).left_max (f (Left h t)) (amount plan.left t h) (amounts.left h t) (kind_within (Left h t) (to_hop h n, s));
        roads = λ t q s n. within_as (pos 0) _ den (f (Access q t)) (amount plan.roads t q) (amounts.access q t) (kind_within (Access q t) (n, s));
        pit = λ p n. omega (arith, ints, pit_value road plan f amounts p, hauls.pit p n, int_mul_neg den (pit road p).capacity, int_mul_comm den (pit road p).capacity);
        balance = λ t i s n. omega (arith, ints, balance_value road plan f amounts t i, hauls.balance t i s n, int_mul_zero den);
        opening = is_opening;
        block = block_kept;
      }

      pub plan_is_admissible : IsAdmissible road plan
      plan_is_admissible = admissible_of_facts road plan (plan_at_is_plan road den f positive) facts

    -- ---- its point is the given one

    kinds_agree : (kind : Column) → IsKindOf road kind → f kind ≡ value_in road plan kind
    kinds_agree (A g) n = pieces.a g
    kinds_agree (B g) n = pieces.b g
    kinds_agree (C g) n = pieces.c g
    kinds_agree (Offset i) n = offset_shown i n
    kinds_agree (Cut i t) n = amounts.cut i t
    kinds_agree (Fill i t) n = amounts.fill i t
    kinds_agree (Right h t) n = amounts.right h t
    kinds_agree (Left h t) n = amounts.left h t
    kinds_agree (Access q t) n = amounts.access q t
    kinds_agree (Opened k t) n = openings_shown.each k t n.0 n.1.1

    pub same_point : point_of road plan ≡ point
    same_point =
        same_lists (point_of road plan) point
        (length-map (columns_of road) (value_in road plan) ∙ sym (is_point.in_bounds.columns ∙ length-map (columns_of road) (bounds_of road heights openings)))
        (λ k d l.
        let within : k < length (columns_of road) = omega (arith, l, length-map (columns_of road) (value_in road plan)) in
        let here = get_or-map (value_in road plan) (columns_of road) k (A 0) d within in
        let agree = all_kinds road (λ c. f c ≡ value_in road plan c) kinds_agree k (A 0) within in
        let long : k < length point = omega (arith, within, is_point.in_bounds.columns, length-map (columns_of road) (bounds_of road heights openings)) in
        here ∙ sym agree ∙ number_is k (A 0) within ∙ other_default (pos 0) d point k long)
