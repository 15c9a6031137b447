-- The splits for which a point of a box's program asks can be made: a block opened in part at a stage can be opened by it or not, and a
-- section whose volume isn't exact has a breakpoint strictly inside its range.
use Rattle.std.proofs.Common.{◌≡◌, ℕ, suc, ◌≤◌, ◌<◌, Bool, true, false, nat_lt, nat_le, List, get_or, sym, ap, subst, arith, inl, inr, ⊎_elim}
use Rattle.std.specs.Prelude.{ℤ, pos, ◌≤ℤ◌, if◌then◌else◌}
use Rattle.std.proofs.lemmas.Int.{ints}
use Rattle.std.proofs.lemmas.Bool.{cases_lt}
use Rattle.std.proofs.lemmas.Bool.Decides.{nat_tests}
use Rattle.std.proofs.lemmas.List.{get_or-map, length-map}
use Rattle.algebra.proofs.Products.{int_zero_mul, int_one_mul}
use Rattle.programs.specs.Programs.{bounds_at}
use Rattle.programs.specs.Points.{IsPoint}
use Rattle.road_types.specs.Accepted.{IsAccepted}
use Rattle.road_types.specs.Ranges.{height_range}
use Rattle.road_types.specs.Road.{section}
use Rattle.road_types.specs.Columns.{columns_of, bounds_of, opened_bounds}
use Rattle.road_types.specs.declared.road.Road.{Road}
use Rattle.road_types.specs.declared.column.Column.{Column}
use Rattle.road_types.specs.declared.column.Column.TheVariants.{Opened}
use Rattle.plan_rules.specs.Rules.{IsWithin}
use Rattle.volume_lines.specs.InnerBreakpoints.{HasBreakpointInside}
use Rattle.road_points.specs.Shown.{shown, shown_at}
use Rattle.road_points.specs.ColumnKinds.{IsKindOf}
use Rattle.road_points.proofs.RoadKinds.{kinds_all, number_at}
use Rattle.milp_builder.specs.Boxes.{opening_range, IsBoxOf}
use Rattle.milp_builder.specs.BoxPrograms.{box_program}
use Rattle.milp_builder.specs.Parts.{IsSplitOf, SplitsOpenings, SplitsOffsets}
use Rattle.milp_builder.specs.FoundPlans.{IsPartRemoval, IsOtherVolume}
use Rattle.milp_builder.specs.declared.boxes.BoxRange.{BoxRange}
use Rattle.milp_builder.specs.declared.boxes.Split.{Split}
use Rattle.milp_builder.specs.declared.boxes.Split.TheVariants.{Removal, Height}
use Rattle.milp_builder.proofs.BoxLaws.{points_are_plans}
use Rattle.branch_bound.specs.Optima.{AsksFor, AsksForSplit}
use Rattle.branch_bound.specs.inside.Splitting.{IsInnerBreakpoint}
use Rattle.branch_bound.specs.inside.Asking.{IsAsked}

-- the bounds of an opened block by two tests
abbrev chosen : Bool → Bool → ℤ × ℤ
chosen shut open_now = if shut then (pos 0, pos 0) else if open_now then (pos 1, pos 1) else (pos 0, pos 1)

before_opening : (range : ℕ × ℕ) (t : ℕ) (den x : ℤ) → t < range.0 → IsWithin (opened_bounds range t).0 (opened_bounds range t).1 den x → x ≡ pos 0
before_opening range t den x l w =
    let test : nat_lt t range.0 ≡ true = grind (arith, nat_tests) in
    let v = subst (λ (b : Bool). IsWithin (chosen b (nat_le range.1 t)).0 (chosen b (nat_le range.1 t)).1 den x) test w in
    omega (arith, ints, v.at_least, v.at_most, int_zero_mul den)

from_opening : (range : ℕ × ℕ) (t : ℕ) (den x : ℤ) → range.0 ≤ range.1 → range.1 ≤ t → IsWithin (opened_bounds range t).0 (opened_bounds range t).1 den x → x ≡ den
from_opening range t den x o l w =
    let first : nat_lt t range.0 ≡ false = grind (arith, nat_tests) in
    let second : nat_le range.1 t ≡ true = grind (arith, nat_tests) in
    let v = subst (λ (b : Bool). IsWithin (chosen b (nat_le range.1 t)).0 (chosen b (nat_le range.1 t)).1 den x) first w in
    let u = subst (λ (b : Bool). IsWithin (chosen false b).0 (chosen false b).1 den x) second v in
    omega (arith, ints, u.at_least, u.at_most, int_one_mul den)

module _ (road : Road) (a : IsAccepted road) (box : BoxRange) (fits : IsBoxOf road box) (den : ℤ) (positive : pos 1 ≤ℤ den) (point : List ℤ)
    (is_point : IsPoint (box_program road box) den point) where
  -- the point's number in a column is within the column's bounds
  kind_within : (kind : Column) → IsKindOf road kind
      → IsWithin (bounds_of road box.heights box.opens kind).0 (bounds_of road box.heights box.opens kind).1 den (shown road point kind)
  kind_within =
      kinds_all road (λ c. IsWithin (bounds_of road box.heights box.opens c).0 (bounds_of road box.heights box.opens c).1 den (shown road point c))
      (λ k d l.
      let at = is_point.in_bounds.each (suc k) (record { from_one = omega arith; at_most = omega (arith, l, length-map (columns_of road) (bounds_of road box.heights box.opens)) }) in
      let kind = get_or (columns_of road) k d in
      let bounds = get_or-map (bounds_of road box.heights box.opens) (columns_of road) k d (pos 0, pos 0) l in
      let here = ap (shown_at point) (number_at road k d l) in
      subst (λ (b : ℤ × ℤ). IsWithin b.0 b.1 den (shown road point kind)) bounds
      (subst (λ (x : ℤ). IsWithin (bounds_at (box_program road box) (suc k)).0 (bounds_at (box_program road box) (suc k)).1 den x) (sym here)
      (record { at_least = at.at_least; at_most = at.at_most })))

  -- a removal in part can be decided at its stage
  pub part_splits : (k t : ℕ) → IsPartRemoval road den point k t → SplitsOpenings road box k t
  part_splits k t h =
      let within = kind_within (Opened k t) (h.block, (h.from_two, h.at_most)) in
      let x = shown road point (Opened k t) in
      record {
        number = h.block;
        up_to = ⊎_elim
            (λ (l : t < (opening_range box k).0). absurd (h.not_whole (inl (before_opening (opening_range box k) t den x l within))))
            (λ (l : (opening_range box k).0 ≤ t). l)
            (cases_lt t (opening_range box k).0);
        after = ⊎_elim
            (λ (l : t < (opening_range box k).1). l)
            (λ (l : (opening_range box k).1 ≤ t).
            absurd (h.not_whole (inr (from_opening (opening_range box k) t den x (fits.opens k h.block).some l within))))
            (cases_lt t (opening_range box k).1);
      }

  -- another volume can be decided at a breakpoint
  volume_splits : (i : ℕ) → IsOtherVolume road den point i → (at : ℤ) × SplitsOffsets road box i at
  volume_splits i h =
      ⊎_elim
      (λ exact. absurd (h.not_exact exact))
      (λ (b : HasBreakpointInside (section road i) (height_range box.heights i)).
      (b.0, record { number = h.number; breakpoint = b.1.0; above = b.1.1.0; below = b.1.1.1 }))
      ((points_are_plans road a).volumes box den point fits positive is_point i h.number)

  asked_of : (split : Split) → AsksFor road den point split → (found : Split) × (IsSplitOf road box found × AsksFor road den point found)
  asked_of (Removal k t) h = (Removal k t, (part_splits k t h, h))
  asked_of (Height i at) h = let s = volume_splits i h in (Height i s.0, (s.1, h))

  -- a removal in part is a split that is asked for and can be made
  pub removal_asked : (k t : ℕ) → IsPartRemoval road den point k t → IsAsked road box den point (Removal k t)
  removal_asked k t h = record { splits = part_splits k t h; asks = h }

  -- so is another volume at a breakpoint strictly inside the section's range
  pub height_asked : (i : ℕ) (at : ℤ) → IsOtherVolume road den point i → IsInnerBreakpoint (section road i) (height_range box.heights i) at
      → IsAsked road box den point (Height i at)
  height_asked i at h b = record {
    splits = record { number = h.number; breakpoint = b.breakpoint; above = b.above; below = b.below };
    asks = h;
  }

  -- and such a breakpoint there is
  pub inside_of : (i : ℕ) → IsOtherVolume road den point i → HasBreakpointInside (section road i) (height_range box.heights i)
  inside_of i h =
      ⊎_elim (λ exact. absurd (h.not_exact exact)) (λ b. b)
      ((points_are_plans road a).volumes box den point fits positive is_point i h.number)

  -- a point that asks for a split asks for one that can be made
  pub asked_splits : AsksForSplit road den point → (split : Split) × (IsSplitOf road box split × AsksFor road den point split)
  asked_splits h = asked_of h.0 h.1
