-- A road's record has no fault exactly where it is well formed, and a road has none exactly where it is accepted.
use Rattle.std.specs.Prelude.{ℕ, suc, ◌+◌, ◌-◌, ◌≤◌, ◌<◌, Bool, true, false, not, ◌&&◌, Option, Some, ◌==◌, nat_le, None, List, [], ◌∷◌, length, ℤ, pos, neg_ℤ, ◌≤ℤ◌, ◌<ℤ◌, int_le, int_lt}
use Rattle.std.specs.List.{list_all}
use Rattle.std.proofs.Common.{◌≡◌, ◌∙◌, ◌^◌, refl, sym, ap, subst, arith}
use Rattle.std.proofs.lemmas.Int.{ints}
use Rattle.std.proofs.lemmas.Slice.Eq.{bytes_eq-Decides}
use Rattle.std.specs.Str.{bytes_eq}
use Rattle.road_types.specs.declared.fault.Fault.{Fault}
use Rattle.road_types.specs.declared.fault.Fault.TheVariants.{F6, F7, F8, F9, F10, F11, F12, F13, F14, F15, F17, F18}
use Rattle.road_types.specs.Columns.{column_count}
use Rattle.road_types.specs.RoadPrograms.{row_count, road_weight}
use Rattle.road_types.specs.declared.road.Road.{Road}
use Rattle.road_types.specs.declared.road.Section.{Section}
use Rattle.road_types.specs.declared.road.Slab.{Slab}
use Rattle.road_types.specs.declared.road.Hop.{Hop}
use Rattle.road_types.specs.declared.road.Fixed.{Fixed}
use Rattle.road_types.specs.declared.road.Access.{Access}
use Rattle.road_types.specs.declared.road.Pit.{Pit}
use Rattle.road_types.specs.declared.road.Block.{Block}
use Rattle.road_types.specs.Numbered.{numbered, IsNumber}
use Rattle.road_types.specs.Heights.{segment_start, segment_end}
use Rattle.road_types.specs.Road.{section, hop, fixed_point, pit, access, block, no_section, no_hop, no_fixed, no_pit, no_access, no_block, section_count, hop_count, fixed_count, pit_count, access_count}
use Rattle.road_types.specs.RecordFaults.{differs_from, stands_elsewhere, is_between, is_name_byte, is_measure, is_station, is_height, is_cost, is_cap, is_grade, is_curve, is_step, is_stages, is_name, is_solid, is_table, has_tables, has_few_slabs, slab_in_range, section_in_range, prices_in_range, hop_in_range, fixed_in_range, pit_in_range, access_in_range, block_in_range, scales_in_range, limits_in_range, grades_in_range, lists_in_range, is_in_range, rises, comes_before, stations_rise, first_of, last_of, is_on_knots, section_on_knots, sections_on_knots, low_holds, has_pit, stands_at_section, block_at_section, point_on_knots, names_differ, blocks_differ, stretch_counts_hold, record_fault, knots_hold, lows_hold, pits_hold, places_hold, counts_hold, budgets_hold}
use Rattle.road_types.specs.Faults.{fault_or, is_sized, is_light, size_fault, road_fault}
use Rattle.road_types.specs.WellFormed.{IsBetween, IsStation, IsHeight, IsGrade, IsCurve, IsCost, IsCap, IsName, IsSolidSlab, IsSlabTable, IsOnKnots, IsWellFormedSection, IsWellFormedHop, IsWellFormedFixed, IsWellFormedPit, IsWellFormedAccess, IsWellFormedBlock, IsWellFormed}
use Rattle.road_types.specs.Accepted.{IsAccepted}
use Rattle.road_types.proofs.Acceptance.{one_of_key, key_of_one, Three, three_true, true_three, Four, four_true, true_four, kept_first, none_first, both_true, true_both, test_numbered, numbered_test, at_neighbours, test_of_le, test_of_lt, test_of_nat_le, test_of_nat_eq, test_of_between, test_of_number, neighbours_at, le_of_test, lt_of_test, nat_le_of_test, nat_eq_of_test, between_of_test, number_of_test}

-- every rule of the record is kept
pub record KeepsRules (road : Road) : Type 0 where
  pub ranges : is_in_range road ≡ true
  pub stations : stations_rise road.sections ≡ true
  pub knots : knots_hold road ≡ true
  pub tables : list_all has_tables road.sections ≡ true
  pub lows : lows_hold road ≡ true
  pub pits : pits_hold road ≡ true
  pub places : places_hold road ≡ true
  pub blocks : blocks_differ road.blocks ≡ true
  pub counts : counts_hold road ≡ true
  pub budgets : budgets_hold road ≡ true

pub KeepsRules-from_fault : (road : Road) → record_fault road ≡ None → KeepsRules road
unfolding record_fault
KeepsRules-from_fault road h =
    let r15 : List (Bool × Fault) = (budgets_hold road, F15) ∷ [] in
    let r14 : List (Bool × Fault) = (counts_hold road, F14) ∷ r15 in
    let r13 : List (Bool × Fault) = (blocks_differ road.blocks, F13) ∷ r14 in
    let r12 : List (Bool × Fault) = (places_hold road, F12) ∷ r13 in
    let r11 : List (Bool × Fault) = (pits_hold road, F11) ∷ r12 in
    let r10 : List (Bool × Fault) = (lows_hold road, F10) ∷ r11 in
    let r9 : List (Bool × Fault) = (list_all has_tables road.sections, F9) ∷ r10 in
    let r8 : List (Bool × Fault) = (knots_hold road, F8) ∷ r9 in
    let r7 : List (Bool × Fault) = (stations_rise road.sections, F7) ∷ r8 in
    let k6 = kept_first (is_in_range road) F6 r7 h in
    let k7 = kept_first (stations_rise road.sections) F7 r8 k6.others in
    let k8 = kept_first (knots_hold road) F8 r9 k7.others in
    let k9 = kept_first (list_all has_tables road.sections) F9 r10 k8.others in
    let k10 = kept_first (lows_hold road) F10 r11 k9.others in
    let k11 = kept_first (pits_hold road) F11 r12 k10.others in
    let k12 = kept_first (places_hold road) F12 r13 k11.others in
    let k13 = kept_first (blocks_differ road.blocks) F13 r14 k12.others in
    let k14 = kept_first (counts_hold road) F14 r15 k13.others in
    let k15 = kept_first (budgets_hold road) F15 [] k14.others in
    record {
      ranges = k6.kept;
      stations = k7.kept;
      knots = k8.kept;
      tables = k9.kept;
      lows = k10.kept;
      pits = k11.kept;
      places = k12.kept;
      blocks = k13.kept;
      counts = k14.kept;
      budgets = k15.kept;
    }

-- the ranges

pub height_of_test : (x : ℤ) → is_height x ≡ true → IsHeight x
height_of_test x h = between_of_test (neg_ℤ (pos 10000000)) (pos 10000000) x h

pub measure_of_test : (x : ℤ) → is_measure x ≡ true → IsBetween (neg_ℤ (pos 10000000)) (pos 10000000) x
measure_of_test x h = between_of_test (neg_ℤ (pos 10000000)) (pos 10000000) x h

pub cost_of_test : (x : ℤ) → is_cost x ≡ true → IsCost x
cost_of_test x h = between_of_test (pos 0) (pos 1000000) x h

pub cap_of_test : (x : ℤ) → is_cap x ≡ true → IsCap x
cap_of_test x h = between_of_test (pos 0) (pos 100000000000000) x h

pub grade_of_test : (x : ℤ) → is_grade x ≡ true → IsGrade x
grade_of_test x h = between_of_test (neg_ℤ (pos 1000000)) (pos 1000000) x h

pub curve_of_test : (x : ℤ) → is_curve x ≡ true → IsCurve x
curve_of_test x h = between_of_test (pos 0) (pos 1000000) x h

pub station_of_test : (x : ℤ) → is_station x ≡ true → IsStation x
station_of_test x h = between_of_test (pos 0) (pos 100000) x h

-- slabs that are in range and solid, at most four

pub solid_slab : (s : Slab) → slab_in_range s ≡ true → is_solid s ≡ true → IsSolidSlab s
solid_slab s r h =
    let x = both_true (is_measure s.thick) (is_measure s.area) r in
    let y = both_true (int_le (pos 1) s.thick) (int_le (pos 1) s.area) h in
    record {
      thick = record { at_least = le_of_test (pos 1) s.thick y.0; at_most = (measure_of_test s.thick x.0).at_most };
      area = record { at_least = le_of_test (pos 1) s.area y.1; at_most = (measure_of_test s.area x.1).at_most };
    }

pub slab_table : (slabs : List Slab) → list_all slab_in_range slabs ≡ true → is_table slabs ≡ true → nat_le (length slabs) 4 ≡ true → IsSlabTable slabs
slab_table slabs r t few =
    let x = both_true (nat_le 1 (length slabs)) (list_all is_solid slabs) t in
    record {
      some = nat_le_of_test 1 (length slabs) x.0;
      few = nat_le_of_test (length slabs) 4 few;
      solid = λ k other n. solid_slab (numbered other slabs k) (test_numbered slab_in_range slabs r other k n) (test_numbered is_solid slabs x.1 other k n);
    }

-- the last knot ends the last segment
pub on_knots : (road : Road) → 2 ≤ length road.knots → (x : ℤ) → is_on_knots road.knots x ≡ true → IsOnKnots road x
on_knots road two x h =
    let b = between_of_test (first_of road.knots) (last_of road.knots) x h in
    let last : length road.knots ≡ suc (length road.knots - 1) = omega arith in
    record { after_first = b.at_least; before_last = subst (λ (n : ℕ). x ≤ℤ numbered (pos 0) road.knots n) last b.at_most }

pub section_of_tests : (road : Road) → 2 ≤ length road.knots → (s : Section) → section_in_range s ≡ true → has_tables s ≡ true → has_few_slabs s ≡ true → section_on_knots road.knots s ≡ true → IsWellFormedSection road s
section_of_tests road two s r t f k =
    let x = both_true (is_station s.station && is_height s.ground && list_all slab_in_range s.cut && list_all slab_in_range s.fill) (prices_in_range s) r in
    let y = four_true (is_station s.station) (is_height s.ground) (list_all slab_in_range s.cut) (list_all slab_in_range s.fill) x.0 in
    let p = four_true (is_cost s.cut_cost) (is_cost s.fill_cost) (is_cap s.cut_max) (is_cap s.fill_max) x.1 in
    let tables = both_true (is_table s.cut) (is_table s.fill) t in
    let few = both_true (nat_le (length s.cut) 4) (nat_le (length s.fill) 4) f in
    record {
      station = station_of_test s.station y.first;
      on_knots = on_knots road two s.station k;
      height_of_ground = height_of_test s.ground y.second;
      cut = slab_table s.cut y.third tables.0 few.0;
      fill = slab_table s.fill y.fourth tables.1 few.1;
      cut_cost = cost_of_test s.cut_cost p.first;
      fill_cost = cost_of_test s.fill_cost p.second;
      cut_max = cap_of_test s.cut_max p.third;
      fill_max = cap_of_test s.fill_max p.fourth;
    }

pub hop_of_tests : (h : Hop) → hop_in_range h ≡ true → IsWellFormedHop h
hop_of_tests h r =
    let p = four_true (is_cost h.right_cost) (is_cap h.right_max) (is_cost h.left_cost) (is_cap h.left_max) r in
    record {
      right_cost = cost_of_test h.right_cost p.first;
      right_max = cap_of_test h.right_max p.second;
      left_cost = cost_of_test h.left_cost p.third;
      left_max = cap_of_test h.left_max p.fourth;
    }

pub fixed_of_tests : (road : Road) → 2 ≤ length road.knots → (f : Fixed) → fixed_in_range f ≡ true → low_holds f ≡ true → point_on_knots road.knots f ≡ true → IsWellFormedFixed road f
fixed_of_tests road two f r l k =
    let p = three_true (is_station f.station) (is_height f.low) (is_height f.high) r in
    record {
      station = station_of_test f.station p.first;
      on_knots = on_knots road two f.station k;
      low = height_of_test f.low p.second;
      high = height_of_test f.high p.third;
      ordered = le_of_test f.low f.high l;
    }

pub access_of_tests : (road : Road) (a : Access) → access_in_range a ≡ true → has_pit (pit_count road) a ≡ true → stands_at_section (section_count road) a ≡ true → IsWellFormedAccess road a
access_of_tests road a r p s =
    let x = both_true (is_cost a.cost) (is_cap a.max) r in
    record {
      pit = number_of_test a.pit (pit_count road) p;
      section = number_of_test a.section (section_count road) s;
      cost = cost_of_test a.cost x.0;
      max = cap_of_test a.max x.1;
    }

pub name_of_test : (name : List ℕ) → is_name name ≡ true → IsName name
name_of_test name h =
    let t = three_true (nat_le 1 (length name)) (nat_le (length name) 32) (list_all is_name_byte name) h in
    record {
      some = nat_le_of_test 1 (length name) t.first;
      few = nat_le_of_test (length name) 32 t.second;
      each = test_numbered is_name_byte name t.third 0;
    }

pub pit_of_tests : (p : Pit) → pit_in_range p ≡ true → IsWellFormedPit p
pit_of_tests p h =
    let t = three_true (is_name p.name) (is_cap p.capacity) (is_cost p.cost) h in
    record { name = name_of_test p.name t.first; capacity = cap_of_test p.capacity t.second; cost = cost_of_test p.cost t.third }

pub block_of_tests : (road : Road) (b : Block) → block_in_range b ≡ true → block_at_section (section_count road) b ≡ true → IsWellFormedBlock road b
block_of_tests road b r s = record { section = number_of_test b.section (section_count road) s; cost = cost_of_test b.cost r }

true_not : (b : Bool) → not b ≡ true → b ≡ true → ⊥
true_not true h e = cc
true_not false h e = cc

not_true : (b : Bool) → ¬ (b ≡ true) → not b ≡ true
not_true true h = absurd (h refl)
not_true false h = refl

-- two pits' names, and two blocks' sections

names_apart : (p q : Pit) → differs_from p q ≡ true → ¬ (p.name ≡ q.name)
names_apart p q h same = true_not (bytes_eq p.name q.name) h ((bytes_eq-Decides p.name q.name).1 same)

apart_names : (p q : Pit) → ¬ (p.name ≡ q.name) → differs_from p q ≡ true
apart_names p q h = not_true (bytes_eq p.name q.name) (λ e. h ((bytes_eq-Decides p.name q.name).0 e))

sections_apart : (b c : Block) → stands_elsewhere b c ≡ true → ¬ (b.section ≡ c.section)
sections_apart b c h same = true_not (b.section == c.section) h (test_of_nat_eq b.section c.section same)

apart_sections : (b c : Block) → ¬ (b.section ≡ c.section) → stands_elsewhere b c ≡ true
apart_sections b c h = not_true (b.section == c.section) (λ e. h (nat_eq_of_test b.section c.section e))

-- a road whose record keeps every rule is well formed
pub IsWellFormed-from_rules : (road : Road) → KeepsRules road → IsWellFormed road
unfolding is_in_range knots_hold lows_hold pits_hold places_hold counts_hold budgets_hold
IsWellFormed-from_rules road r =
    let ranges = three_true (scales_in_range road) (limits_in_range road) (lists_in_range road) r.ranges in
    let scales = three_true (is_step road.step) (is_stages road.stages) (list_all is_station road.knots) ranges.first in
    let stages = both_true (nat_le 1 road.stages) (nat_le road.stages 4) scales.second in
    let limits = four_true (is_height road.low) (is_height road.high) (grades_in_range road.grade) (is_curve road.curve) ranges.second in
    let grades = both_true (is_grade road.grade.0) (is_grade road.grade.1) limits.third in
    let entries = three_true
    (list_all section_in_range road.sections && list_all hop_in_range road.hops && list_all fixed_in_range road.fixed && list_all pit_in_range road.pits)
    (list_all access_in_range road.roads)
    (list_all block_in_range road.blocks)
    ranges.third in
    let stretch = four_true (list_all section_in_range road.sections) (list_all hop_in_range road.hops) (list_all fixed_in_range road.fixed) (list_all pit_in_range road.pits) entries.first in
    let knots = three_true (nat_le 2 (length road.knots)) (rises road.knots) (sections_on_knots road.knots road.sections) r.knots in
    let two : 2 ≤ length road.knots = nat_le_of_test 2 (length road.knots) knots.first in
    let lows = three_true (int_le road.low road.high) (int_le road.grade.0 road.grade.1) (list_all low_holds road.fixed) r.lows in
    let pits = both_true (names_differ road.pits) (list_all (has_pit (length road.pits)) road.roads) r.pits in
    let places = three_true (list_all (stands_at_section (length road.sections)) road.roads) (list_all (block_at_section (length road.sections)) road.blocks) (list_all (point_on_knots road.knots) road.fixed) r.places in
    let counts = both_true (stretch_counts_hold road && nat_le (length road.pits) 8 && nat_le (length road.roads) 16 && nat_le (length road.fixed) 20) (nat_le (length road.blocks) 4) r.counts in
    let most = four_true (stretch_counts_hold road) (nat_le (length road.pits) 8) (nat_le (length road.roads) 16) (nat_le (length road.fixed) 20) counts.0 in
    let along = both_true (nat_le 1 (length road.sections) && nat_le (length road.sections) 60 && nat_le (length road.knots) 9 && list_all has_few_slabs road.sections) (length road.hops == length road.sections - 1) most.first in
    let sections = four_true (nat_le 1 (length road.sections)) (nat_le (length road.sections) 60) (nat_le (length road.knots) 9) (list_all has_few_slabs road.sections) along.0 in
    let hops_are : length road.hops ≡ length road.sections - 1 = nat_eq_of_test (length road.hops) (length road.sections - 1) along.1 in
    let budgets = both_true (is_between (pos 1) (pos 4999) road.nodes) (is_between (pos 1) (pos 20000) road.pivots) r.budgets in
    record {
      counted = record {
        stages_from = nat_le_of_test 1 road.stages stages.0;
        stages_to = nat_le_of_test road.stages 4 stages.1;
        knots_from = two;
        knots_to = nat_le_of_test (length road.knots) 9 sections.third;
        sections_from = nat_le_of_test 1 (length road.sections) sections.first;
        sections_to = nat_le_of_test (length road.sections) 60 sections.second;
        hops_count = hops_are;
        fixed_to = nat_le_of_test (length road.fixed) 20 most.fourth;
        pits_to = nat_le_of_test (length road.pits) 8 most.second;
        roads_to = nat_le_of_test (length road.roads) 16 most.third;
        blocks_to = nat_le_of_test (length road.blocks) 4 counts.1;
      };
      step = between_of_test (pos 1) (pos 1000) road.step scales.first;
      low = height_of_test road.low limits.first;
      high = height_of_test road.high limits.second;
      low_high = le_of_test road.low road.high lows.first;
      grade_low = grade_of_test road.grade.0 grades.0;
      grade_high = grade_of_test road.grade.1 grades.1;
      grade_ordered = le_of_test road.grade.0 road.grade.1 lows.second;
      curve = curve_of_test road.curve limits.fourth;
      knots_in_range = λ k n. station_of_test (numbered (pos 0) road.knots k) (test_numbered is_station road.knots scales.third (pos 0) k n);
      knots_rise = λ g n. lt_of_test (segment_start road.knots g) (segment_end road.knots g) (neighbours_at int_lt road.knots knots.second (pos 0) g n.from_one (omega (arith, n.at_most)));
      sections = λ i n.
          section_of_tests
          road
          two
          (section road i)
          (test_numbered section_in_range road.sections stretch.first no_section i n)
          (test_numbered has_tables road.sections r.tables no_section i n)
          (test_numbered has_few_slabs road.sections sections.fourth no_section i n)
          (test_numbered (section_on_knots road.knots) road.sections knots.third no_section i n);
      stations_rise = λ i n.
          lt_of_test
          (section road i).station
          (section road (i + 1)).station
          (let next : i + 1 ≡ suc i = omega arith in
          subst (λ (j : ℕ). int_lt (section road i).station (section road j).station ≡ true) (sym next)
          (neighbours_at comes_before road.sections r.stations no_section i n.from_one (omega (arith, n.at_most, hops_are))));
      hops = λ h n. hop_of_tests (hop road h) (test_numbered hop_in_range road.hops stretch.second no_hop h n);
      fixed = λ f n.
          fixed_of_tests
          road
          two
          (fixed_point road f)
          (test_numbered fixed_in_range road.fixed stretch.third no_fixed f n)
          (test_numbered low_holds road.fixed lows.third no_fixed f n)
          (test_numbered (point_on_knots road.knots) road.fixed places.third no_fixed f n);
      pits = λ p n. pit_of_tests (pit road p) (test_numbered pit_in_range road.pits stretch.fourth no_pit p n);
      pits_differ = one_of_key differs_from (λ (p : Pit). p.name) no_pit road.pits names_apart pits.0;
      roads = λ q n.
          access_of_tests
          road
          (access road q)
          (test_numbered access_in_range road.roads entries.second no_access q n)
          (test_numbered (has_pit (length road.pits)) road.roads pits.1 no_access q n)
          (test_numbered (stands_at_section (length road.sections)) road.roads places.first no_access q n);
      blocks = λ k n.
          block_of_tests
          road
          (block road k)
          (test_numbered block_in_range road.blocks entries.third no_block k n)
          (test_numbered (block_at_section (length road.sections)) road.blocks places.second no_block k n);
      blocks_differ = one_of_key stands_elsewhere (λ (b : Block). b.section) no_block road.blocks sections_apart r.blocks;
      nodes = between_of_test (pos 1) (pos 4999) road.nodes budgets.0;
      pivots = between_of_test (pos 1) (pos 20000) road.pivots budgets.1;
    }

-- ---- from facts to tests

tests_of_slab : (s : Slab) → IsSolidSlab s → (slab_in_range s ≡ true) × (is_solid s ≡ true)
tests_of_slab s h =
    let thick : is_measure s.thick ≡ true = test_of_between (neg_ℤ (pos 10000000)) (pos 10000000) s.thick (record { at_least = omega (arith, ints, h.thick.at_least); at_most = h.thick.at_most }) in
    let area : is_measure s.area ≡ true = test_of_between (neg_ℤ (pos 10000000)) (pos 10000000) s.area (record { at_least = omega (arith, ints, h.area.at_least); at_most = h.area.at_most }) in (
      true_both (is_measure s.thick) (is_measure s.area) thick area,
      true_both (int_le (pos 1) s.thick) (int_le (pos 1) s.area) (test_of_le (pos 1) s.thick h.thick.at_least) (test_of_le (pos 1) s.area h.area.at_least),
    )

no_slab : Slab
no_slab = record { thick = pos 0; area = pos 0 }

-- the slabs are in range, a table, and few
tests_of_table : (slabs : List Slab) → IsSlabTable slabs → Three (list_all slab_in_range slabs) (is_table slabs) (nat_le (length slabs) 4)
tests_of_table slabs h =
    record {
      first = numbered_test slab_in_range slabs no_slab (λ k n. (tests_of_slab (numbered no_slab slabs k) (h.solid k no_slab n)).0);
      second = true_both (nat_le 1 (length slabs)) (list_all is_solid slabs) (test_of_nat_le 1 (length slabs) h.some) (numbered_test is_solid slabs no_slab (λ k n. (tests_of_slab (numbered no_slab slabs k) (h.solid k no_slab n)).1));
      third = test_of_nat_le (length slabs) 4 h.few;
    }

knots_on : (road : Road) → 2 ≤ length road.knots → (x : ℤ) → IsOnKnots road x → is_on_knots road.knots x ≡ true
knots_on road two x h =
    let last : suc (length road.knots - 1) ≡ length road.knots = omega arith in
    test_of_between (first_of road.knots) (last_of road.knots) x
    (record { at_least = h.after_first; at_most = subst (λ (n : ℕ). x ≤ℤ numbered (pos 0) road.knots n) last h.before_last })

height_test : (x : ℤ) → IsHeight x → is_height x ≡ true
height_test x h = test_of_between (neg_ℤ (pos 10000000)) (pos 10000000) x h

cost_test : (x : ℤ) → IsCost x → is_cost x ≡ true
cost_test x h = test_of_between (pos 0) (pos 1000000) x h

cap_test : (x : ℤ) → IsCap x → is_cap x ≡ true
cap_test x h = test_of_between (pos 0) (pos 100000000000000) x h

grade_test : (x : ℤ) → IsGrade x → is_grade x ≡ true
grade_test x h = test_of_between (neg_ℤ (pos 1000000)) (pos 1000000) x h

curve_test : (x : ℤ) → IsCurve x → is_curve x ≡ true
curve_test x h = test_of_between (pos 0) (pos 1000000) x h

station_test : (x : ℤ) → IsStation x → is_station x ≡ true
station_test x h = test_of_between (pos 0) (pos 100000) x h

tests_of_section : (road : Road) → 2 ≤ length road.knots → (s : Section) → IsWellFormedSection road s
    → Four (section_in_range s) (has_tables s) (has_few_slabs s) (section_on_knots road.knots s)
tests_of_section road two s h =
    let cut = tests_of_table s.cut h.cut in
    let fill = tests_of_table s.fill h.fill in
    let prices = true_four (is_cost s.cut_cost) (is_cost s.fill_cost) (is_cap s.cut_max) (is_cap s.fill_max)
    (record { first = cost_test s.cut_cost h.cut_cost; second = cost_test s.fill_cost h.fill_cost; third = cap_test s.cut_max h.cut_max; fourth = cap_test s.fill_max h.fill_max }) in
    let ranges = true_four (is_station s.station) (is_height s.ground) (list_all slab_in_range s.cut) (list_all slab_in_range s.fill)
    (record { first = station_test s.station h.station; second = height_test s.ground h.height_of_ground; third = cut.first; fourth = fill.first }) in
    record {
      first = true_both (is_station s.station && is_height s.ground && list_all slab_in_range s.cut && list_all slab_in_range s.fill) (prices_in_range s) ranges prices;
      second = true_both (is_table s.cut) (is_table s.fill) cut.second fill.second;
      third = true_both (nat_le (length s.cut) 4) (nat_le (length s.fill) 4) cut.third fill.third;
      fourth = knots_on road two s.station h.on_knots;
    }

test_of_hop : (h : Hop) → IsWellFormedHop h → hop_in_range h ≡ true
test_of_hop h w = true_four (is_cost h.right_cost) (is_cap h.right_max) (is_cost h.left_cost) (is_cap h.left_max)
    (record { first = cost_test h.right_cost w.right_cost; second = cap_test h.right_max w.right_max; third = cost_test h.left_cost w.left_cost; fourth = cap_test h.left_max w.left_max })

tests_of_fixed : (road : Road) → 2 ≤ length road.knots → (f : Fixed) → IsWellFormedFixed road f
    → Three (fixed_in_range f) (low_holds f) (point_on_knots road.knots f)
tests_of_fixed road two f h =
    record {
      first = true_three (is_station f.station) (is_height f.low) (is_height f.high)
          (record { first = station_test f.station h.station; second = height_test f.low h.low; third = height_test f.high h.high });
      second = test_of_le f.low f.high h.ordered;
      third = knots_on road two f.station h.on_knots;
    }

tests_of_access : (road : Road) (a : Access) → IsWellFormedAccess road a
    → Three (access_in_range a) (has_pit (pit_count road) a) (stands_at_section (section_count road) a)
tests_of_access road a h =
    record {
      first = true_both (is_cost a.cost) (is_cap a.max) (cost_test a.cost h.cost) (cap_test a.max h.max);
      second = test_of_number a.pit (pit_count road) h.pit;
      third = test_of_number a.section (section_count road) h.section;
    }

test_of_name : (name : List ℕ) → IsName name → is_name name ≡ true
test_of_name name h = true_three (nat_le 1 (length name)) (nat_le (length name) 32) (list_all is_name_byte name)
    (record { first = test_of_nat_le 1 (length name) h.some; second = test_of_nat_le (length name) 32 h.few; third = numbered_test is_name_byte name 0 h.each })

test_of_pit : (p : Pit) → IsWellFormedPit p → pit_in_range p ≡ true
test_of_pit p h = true_three (is_name p.name) (is_cap p.capacity) (is_cost p.cost)
    (record { first = test_of_name p.name h.name; second = cap_test p.capacity h.capacity; third = cost_test p.cost h.cost })

stations_tests : (road : Road) → IsWellFormed road → (i : ℕ) → 1 ≤ i → i < length road.sections → comes_before (section road i) (section road (suc i)) ≡ true
stations_tests road w i from to =
    let n : IsNumber i (hop_count road) = record { from_one = from; at_most = omega (arith, w.counted.hops_count) } in
    let next : i + 1 ≡ suc i = omega arith in
    test_of_lt (section road i).station (section road (suc i)).station
    (subst (λ (j : ℕ). (section road i).station <ℤ (section road j).station) next (w.stations_rise i n))

knots_tests : (road : Road) → IsWellFormed road → (g : ℕ) → 1 ≤ g → g < length road.knots → int_lt (numbered (pos 0) road.knots g) (numbered (pos 0) road.knots (suc g)) ≡ true
knots_tests road w g from to =
    test_of_lt (segment_start road.knots g) (segment_end road.knots g) (w.knots_rise g (record { from_one = from; at_most = omega arith }))

-- a well-formed road's record keeps every rule
pub KeepsRules-from_facts : (road : Road) → IsWellFormed road → KeepsRules road
unfolding is_in_range knots_hold lows_hold pits_hold places_hold counts_hold budgets_hold
KeepsRules-from_facts road w =
    let c = w.counted in
    let two = c.knots_from in
    let sections = λ (i : ℕ) (n : IsNumber i (section_count road)). tests_of_section road two (section road i) (w.sections i n) in
    let fixed = λ (f : ℕ) (n : IsNumber f (fixed_count road)). tests_of_fixed road two (fixed_point road f) (w.fixed f n) in
    let roads = λ (q : ℕ) (n : IsNumber q (access_count road)). tests_of_access road (access road q) (w.roads q n) in
    let scales = true_three (is_step road.step) (is_stages road.stages) (list_all is_station road.knots)
    (record {
      first = test_of_between (pos 1) (pos 1000) road.step w.step;
      second = true_both (nat_le 1 road.stages) (nat_le road.stages 4) (test_of_nat_le 1 road.stages c.stages_from) (test_of_nat_le road.stages 4 c.stages_to);
      third = numbered_test is_station road.knots (pos 0) (λ k n. station_test (numbered (pos 0) road.knots k) (w.knots_in_range k n));
    }) in
    let limits = true_four (is_height road.low) (is_height road.high) (grades_in_range road.grade) (is_curve road.curve)
    (record {
      first = height_test road.low w.low;
      second = height_test road.high w.high;
      third = true_both (is_grade road.grade.0) (is_grade road.grade.1) (grade_test road.grade.0 w.grade_low) (grade_test road.grade.1 w.grade_high);
      fourth = curve_test road.curve w.curve;
    }) in
    let stretch = true_four (list_all section_in_range road.sections) (list_all hop_in_range road.hops) (list_all fixed_in_range road.fixed) (list_all pit_in_range road.pits)
    (record {
      first = numbered_test section_in_range road.sections no_section (λ i n. (sections i n).first);
      second = numbered_test hop_in_range road.hops no_hop (λ h n. test_of_hop (hop road h) (w.hops h n));
      third = numbered_test fixed_in_range road.fixed no_fixed (λ f n. (fixed f n).first);
      fourth = numbered_test pit_in_range road.pits no_pit (λ p n. test_of_pit (pit road p) (w.pits p n));
    }) in
    let lists = true_three
    (list_all section_in_range road.sections && list_all hop_in_range road.hops && list_all fixed_in_range road.fixed && list_all pit_in_range road.pits)
    (list_all access_in_range road.roads)
    (list_all block_in_range road.blocks)
    (record {
      first = stretch;
      second = numbered_test access_in_range road.roads no_access (λ q n. (roads q n).first);
      third = numbered_test block_in_range road.blocks no_block (λ k n. cost_test (block road k).cost (w.blocks k n).cost);
    }) in
    let along = true_four (nat_le 1 (length road.sections)) (nat_le (length road.sections) 60) (nat_le (length road.knots) 9) (list_all has_few_slabs road.sections)
    (record {
      first = test_of_nat_le 1 (length road.sections) c.sections_from;
      second = test_of_nat_le (length road.sections) 60 c.sections_to;
      third = test_of_nat_le (length road.knots) 9 c.knots_to;
      fourth = numbered_test has_few_slabs road.sections no_section (λ i n. (sections i n).third);
    }) in
    let most = true_four (stretch_counts_hold road) (nat_le (length road.pits) 8) (nat_le (length road.roads) 16) (nat_le (length road.fixed) 20)
    (record {
      first = true_both
          (nat_le 1 (length road.sections) && nat_le (length road.sections) 60 && nat_le (length road.knots) 9 && list_all has_few_slabs road.sections)
          (length road.hops == length road.sections - 1)
          along
          (test_of_nat_eq (length road.hops) (length road.sections - 1) c.hops_count);
      second = test_of_nat_le (length road.pits) 8 c.pits_to;
      third = test_of_nat_le (length road.roads) 16 c.roads_to;
      fourth = test_of_nat_le (length road.fixed) 20 c.fixed_to;
    }) in
    record {
      ranges = true_three (scales_in_range road) (limits_in_range road) (lists_in_range road) (record { first = scales; second = limits; third = lists });
      stations = at_neighbours comes_before road.sections no_section (stations_tests road w);
      knots = true_three (nat_le 2 (length road.knots)) (rises road.knots) (sections_on_knots road.knots road.sections)
          (record {
            first = test_of_nat_le 2 (length road.knots) two;
            second = at_neighbours int_lt road.knots (pos 0) (knots_tests road w);
            third = numbered_test (section_on_knots road.knots) road.sections no_section (λ i n. (sections i n).fourth);
          });
      tables = numbered_test has_tables road.sections no_section (λ i n. (sections i n).second);
      lows = true_three (int_le road.low road.high) (int_le road.grade.0 road.grade.1) (list_all low_holds road.fixed)
          (record {
            first = test_of_le road.low road.high w.low_high;
            second = test_of_le road.grade.0 road.grade.1 w.grade_ordered;
            third = numbered_test low_holds road.fixed no_fixed (λ f n. (fixed f n).second);
          });
      pits = true_both (names_differ road.pits) (list_all (has_pit (length road.pits)) road.roads)
          (key_of_one differs_from (λ (p : Pit). p.name) no_pit road.pits apart_names w.pits_differ)
          (numbered_test (has_pit (length road.pits)) road.roads no_access (λ q n. (roads q n).second));
      places = true_three (list_all (stands_at_section (length road.sections)) road.roads) (list_all (block_at_section (length road.sections)) road.blocks) (list_all (point_on_knots road.knots) road.fixed)
          (record {
            first = numbered_test (stands_at_section (length road.sections)) road.roads no_access (λ q n. (roads q n).third);
            second = numbered_test (block_at_section (length road.sections)) road.blocks no_block (λ k n. test_of_number (block road k).section (section_count road) (w.blocks k n).section);
            third = numbered_test (point_on_knots road.knots) road.fixed no_fixed (λ f n. (fixed f n).third);
          });
      blocks = key_of_one stands_elsewhere (λ (b : Block). b.section) no_block road.blocks apart_sections w.blocks_differ;
      counts = true_both
          (stretch_counts_hold road && nat_le (length road.pits) 8 && nat_le (length road.roads) 16 && nat_le (length road.fixed) 20)
          (nat_le (length road.blocks) 4)
          most
          (test_of_nat_le (length road.blocks) 4 c.blocks_to);
      budgets = true_both (is_between (pos 1) (pos 4999) road.nodes) (is_between (pos 1) (pos 20000) road.pivots)
          (test_of_between (pos 1) (pos 4999) road.nodes w.nodes)
          (test_of_between (pos 1) (pos 20000) road.pivots w.pivots);
    }

-- a record whose rules are all kept has no fault
none-from_rules : (road : Road) → KeepsRules road → record_fault road ≡ None
unfolding record_fault
none-from_rules road k =
    let r15 : List (Bool × Fault) = (budgets_hold road, F15) ∷ [] in
    let r14 : List (Bool × Fault) = (counts_hold road, F14) ∷ r15 in
    let r13 : List (Bool × Fault) = (blocks_differ road.blocks, F13) ∷ r14 in
    let r12 : List (Bool × Fault) = (places_hold road, F12) ∷ r13 in
    let r11 : List (Bool × Fault) = (pits_hold road, F11) ∷ r12 in
    let r10 : List (Bool × Fault) = (lows_hold road, F10) ∷ r11 in
    let r9 : List (Bool × Fault) = (list_all has_tables road.sections, F9) ∷ r10 in
    let r8 : List (Bool × Fault) = (knots_hold road, F8) ∷ r9 in
    let r7 : List (Bool × Fault) = (stations_rise road.sections, F7) ∷ r8 in
    none_first (is_in_range road) F6 r7 k.ranges
    (none_first (stations_rise road.sections) F7 r8 k.stations
    (none_first (knots_hold road) F8 r9 k.knots
    (none_first (list_all has_tables road.sections) F9 r10 k.tables
    (none_first (lows_hold road) F10 r11 k.lows
    (none_first (pits_hold road) F11 r12 k.pits
    (none_first (places_hold road) F12 r13 k.places
    (none_first (blocks_differ road.blocks) F13 r14 k.blocks
    (none_first (counts_hold road) F14 r15 k.counts
    (none_first (budgets_hold road) F15 [] k.budgets refl)))))))))

-- ---- the laws

-- a road's record has no fault exactly where it is well formed

pub IsWellFormed-from_fault : (road : Road) → record_fault road ≡ None → IsWellFormed road
IsWellFormed-from_fault road h = IsWellFormed-from_rules road (KeepsRules-from_fault road h)

pub record_fault-none : (road : Road) → IsWellFormed road → record_fault road ≡ None
record_fault-none road w = none-from_rules road (KeepsRules-from_facts road w)

-- a road has no fault exactly where it is accepted

no_first : (first later : Option Fault) → fault_or first later ≡ None → first ≡ None
no_first None later h = refl
no_first (Some fault) later h = cc

no_later : (first later : Option Fault) → fault_or first later ≡ None → later ≡ None
no_later None later h = h
no_later (Some fault) later h = cc

-- a road's size and weight have no fault exactly where they are within their limits

pub record IsWithinSize (road : Road) : Type 0 where
  pub rows : row_count road ≤ 600
  pub columns : column_count road ≤ 1000
  pub light : road_weight road ≤ 2 ^ 46

size_from_fault : (road : Road) → size_fault road ≡ None → IsWithinSize road
unfolding size_fault
size_from_fault road h =
    let r18 : List (Bool × Fault) = (is_light road, F18) ∷ [] in
    let f17 = kept_first (is_sized road) F17 r18 h in
    let f18 = kept_first (is_light road) F18 [] f17.others in
    let sizes = both_true (nat_le (row_count road) 600) (nat_le (column_count road) 1000) f17.kept in
    record {
      rows = nat_le_of_test (row_count road) 600 sizes.0;
      columns = nat_le_of_test (column_count road) 1000 sizes.1;
      light = nat_le_of_test (road_weight road) (2 ^ 46) f18.kept;
    }

fault_from_size : (road : Road) → IsWithinSize road → size_fault road ≡ None
unfolding size_fault
fault_from_size road s =
    let r18 : List (Bool × Fault) = (is_light road, F18) ∷ [] in
    none_first (is_sized road) F17 r18
    (true_both (nat_le (row_count road) 600) (nat_le (column_count road) 1000) (test_of_nat_le (row_count road) 600 s.rows) (test_of_nat_le (column_count road) 1000 s.columns))
    (none_first (is_light road) F18 [] (test_of_nat_le (road_weight road) (2 ^ 46) s.light) refl)

pub IsAccepted-from_fault : (road : Road) → road_fault road ≡ None → IsAccepted road
unfolding road_fault
IsAccepted-from_fault road h =
    let size = size_from_fault road (no_later (record_fault road) (size_fault road) h) in
    record {
      well_formed = IsWellFormed-from_fault road (no_first (record_fault road) (size_fault road) h);
      rows = size.rows;
      columns = size.columns;
      light = size.light;
    }

pub road_fault-none : (road : Road) → IsAccepted road → road_fault road ≡ None
unfolding road_fault
road_fault-none road a =
    ap (λ (f : Option Fault). fault_or f (size_fault road)) (record_fault-none road a.well_formed)
    ∙ fault_from_size road (record { rows = a.rows; columns = a.columns; light = a.light })
