-- The amounts and offsets of a point are small enough that its volumes can be compared in 128 bits.
use Rattle.std.proofs.Common.{◌≡◌, ℕ, ◌*◌, ◌^◌, ◌≤◌, None, List, [], ◌∷◌, length, arith, ⊎_elim}
use Rattle.std.specs.Prelude.{ℤ, pos, neg_ℤ, ◌-ℤ◌, ◌*ℤ◌, ◌≤ℤ◌, unsigned_abs}
use Rattle.std.proofs.lemmas.Int.{ints}
use Rattle.algebra.specs.Scale.{IsScale}
use Rattle.algebra.proofs.Magnitudes.{unsigned_abs_sub_le}
use Rattle.algebra.proofs.Order.{int_mul_le_mul, int_mul_le_right}
use Rattle.programs.specs.Points.{IsPoint}
use Rattle.road_types.specs.Numbered.{IsNumber}
use Rattle.road_types.specs.Faults.{road_fault}
use Rattle.road_types.specs.Road.{section, section_count}
use Rattle.road_types.specs.Ranges.{height_range}
use Rattle.road_types.specs.Volumes.{thickness_of}
use Rattle.road_types.specs.WellFormed.{IsWellFormed, IsSlabTable, IsSolidSlab, IsCap}
use Rattle.road_types.specs.declared.road.Road.{Road}
use Rattle.road_types.specs.declared.road.Slab.{Slab}
use Rattle.road_types.specs.declared.column.Column.TheVariants.{Offset, Cut, Fill}
use Rattle.road_types.proofs.AcceptedRoad.{IsAccepted-from_fault}
use Rattle.plan_rules.specs.Rules.{IsWithin}
use Rattle.volume_lines.proofs.LinesLaws.{breakpoint_from_bottom, breakpoint_to_top}
use Rattle.road_points.specs.Shown.{shown}
use Rattle.road_points.proofs.FormsHold.{tables_of}
use Rattle.road_points.proofs.PointShows.{is_number_or_not, both_or_not, shown_none}
use Rattle.road_points.proofs.PointsArePlans.{kind_within}
use Rattle.milp_builder.specs.Boxes.{IsBoxOf}
use Rattle.milp_builder.specs.BoxPrograms.{box_program}
use Rattle.milp_builder.specs.declared.boxes.BoxRange.{BoxRange}
use Rattle.milp_builder.proofs.LeadingSlabs.{AreSolid, first_solid, rest_solid}
use Rattle.milp_builder.proofs.BoxLaws.{height_ranges}
use Rattle.milp_builder.specs.Comparing.{IsComparable, HasComparableVolumes}

-- the denominators of plans are among them
pub scale_comparable : (den : ℤ) → IsScale den → IsComparable den
scale_comparable den s = record { from_one = s.from_one; at_most = omega (arith, ints, s.at_most) }

-- a slab's thickness over such a denominator
pub thickness_width : (slab : Slab) (den : ℤ) → IsSolidSlab slab → IsComparable den → (slab.thick *ℤ den) ≤ℤ pos (2 ^ 96)
thickness_width slab den s d =
    int_mul_le_mul slab.thick (pos (2 ^ 24)) den (pos (2 ^ 72)) (omega (arith, ints, s.thick.at_least)) (omega (arith, ints, s.thick.at_most)) (omega (arith, ints, d.from_one)) d.at_most

pub thickness_from : (slab : Slab) (den : ℤ) → IsSolidSlab slab → IsComparable den → pos 0 ≤ℤ (slab.thick *ℤ den)
thickness_from slab den s d =
    let product = int_mul_le_right (pos 0) slab.thick den (omega (arith, ints, d.from_one)) (omega (arith, ints, s.thick.at_least)) in
    omega (arith, ints, product)

-- so many slabs are at most so thick
thickness_to : (slabs : List Slab) → AreSolid slabs → thickness_of slabs ≤ℤ pos (length slabs * 10000000)
unfolding thickness_of
thickness_to [] h = omega (arith, ints)
thickness_to (s ∷ rest) h =
    let first = first_solid s rest h in
    let others = thickness_to rest (rest_solid s rest h) in
    omega (arith, ints, first.thick.at_most)

table_to_limit : (slabs : List Slab) → IsSlabTable slabs → thickness_of slabs ≤ℤ pos 40000000
table_to_limit slabs h = let t = thickness_to slabs h.solid in omega (arith, ints, h.few)

capped_amount : (cap den x : ℤ) → IsCap cap → IsComparable den → IsWithin (pos 0) cap den x → unsigned_abs x ≤ 2 ^ 119
capped_amount cap den x c d w =
    let from_one = d.from_one in
    let cap_from = c.at_least in
    let product = int_mul_le_mul cap (pos 100000000000000) den (pos (2 ^ 72)) cap_from c.at_most (omega (arith, ints)) d.at_most in
    omega (arith, ints, w.at_least, w.at_most, product)

ranged_offset : (low high bottom top den x : ℤ) → neg_ℤ bottom ≤ℤ low → high ≤ℤ top → bottom ≤ℤ pos 40000000 → top ≤ℤ pos 40000000 → IsComparable den
    → IsWithin low high den x → unsigned_abs x ≤ 2 ^ 98
ranged_offset low high bottom top den x l h b t d w =
    let from_one = d.from_one in
    let positive : pos 0 ≤ℤ den = omega (arith, ints) in
    let lower = int_mul_le_right (neg_ℤ (pos 40000000)) low den positive (omega (arith, ints)) in
    let upper = int_mul_le_right high (pos 40000000) den positive (omega (arith, ints)) in
    omega (arith, ints, lower, upper, w.at_least, w.at_most, d.at_most)

none_is_small : (x : ℤ) (n : ℕ) → x ≡ pos 0 → unsigned_abs x ≤ n
none_is_small x n e = omega (arith, ints)

pub comparable_volumes : (road : Road) → IsWellFormed road → (box : BoxRange) → IsBoxOf road box → (den : ℤ) → IsComparable den → (point : List ℤ)
    → IsPoint (box_program road box) den point → HasComparableVolumes road point
comparable_volumes road well box fits den d point is_point =
    let within = kind_within road well box.heights box.opens (height_ranges road box fits) den d.from_one point is_point in
    record {
      cut = λ i t.
          ⊎_elim
          (λ (n : IsNumber i (section_count road) × IsNumber t road.stages). capped_amount (section road i).cut_max den (shown road point (Cut i t)) (well.sections i n.0).cut_max d (within (Cut i t) n))
          (λ (n : (IsNumber i (section_count road) × IsNumber t road.stages) → ⊥). none_is_small (shown road point (Cut i t)) (2 ^ 119) (shown_none road point (Cut i t) n))
          (both_or_not i (section_count road) t road.stages);
      fill = λ i t.
          ⊎_elim
          (λ (n : IsNumber i (section_count road) × IsNumber t road.stages). capped_amount (section road i).fill_max den (shown road point (Fill i t)) (well.sections i n.0).fill_max d (within (Fill i t) n))
          (λ (n : (IsNumber i (section_count road) × IsNumber t road.stages) → ⊥). none_is_small (shown road point (Fill i t)) (2 ^ 119) (shown_none road point (Fill i t) n))
          (both_or_not i (section_count road) t road.stages);
      offset = λ i.
          ⊎_elim
          (λ (n : IsNumber i (section_count road)).
          let s = section road i in
          let range = height_range box.heights i in
          let tables = tables_of road well i n in
          let is_range = fits.heights i n in
          ranged_offset range.0 range.1 (thickness_of s.cut) (thickness_of s.fill) den (shown road point (Offset i))
          (breakpoint_from_bottom s tables range.0 is_range.low) (breakpoint_to_top s tables range.1 is_range.high)
          (table_to_limit s.cut tables.cut) (table_to_limit s.fill tables.fill) d (within (Offset i) n))
          (λ (n : IsNumber i (section_count road) → ⊥). none_is_small (shown road point (Offset i)) (2 ^ 98) (shown_none road point (Offset i) n))
          (is_number_or_not i (section_count road));
    }

pub comparable_of : (road : Road) (box : BoxRange) (den : ℤ) (point : List ℤ) → road_fault road ≡ None → IsBoxOf road box → IsComparable den
    → IsPoint (box_program road box) den point → HasComparableVolumes road point
comparable_of road box den point h fits d p = comparable_volumes road (IsAccepted-from_fault road h).well_formed box fits den d point p

-- what is filled in a stage less what is cut
pub moved_width : (road : Road) (point : List ℤ) → HasComparableVolumes road point → (i t : ℕ)
    → unsigned_abs (shown road point (Fill i t) -ℤ shown road point (Cut i t)) ≤ 2 ^ 120
moved_width road point h i t = unsigned_abs_sub_le (shown road point (Fill i t)) (shown road point (Cut i t)) (2 ^ 119) (2 ^ 119) (h.fill i t) (h.cut i t)
