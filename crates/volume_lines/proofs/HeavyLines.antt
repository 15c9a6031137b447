-- The lines of a section over any range are no heavier than its heaviest lines: slopes lie between 0 and the widest area, ends
-- within the deepest slabs, and right sides within twice the product of the two.
use Rattle.std.proofs.Common.{◌≡◌, max, ◌≤◌, List, [], ◌∷◌, ◌++◌, map, Bool, true, false, cond, arith, ap, sym, subst, ◌∙◌, ⊎_elim}
use Rattle.std.specs.Prelude.{ℤ, pos, neg_ℤ, ◌+ℤ◌, ◌-ℤ◌, ◌*ℤ◌, ◌≤ℤ◌, ◌<ℤ◌, int_le, ◌&&◌, fold, unsigned_abs}
use Rattle.std.specs.Int.{int_min, int_max}
use Rattle.std.specs.List.{All}
use Rattle.std.proofs.lemmas.Int.{ints, clamps}
use Rattle.std.proofs.lemmas.List.Elements.{All-nil, All-cons, All-head, All-tail, All-append, All-weaker}
use Rattle.algebra.proofs.Magnitudes.{unsigned_abs_mul, unsigned_abs_mul_le}
use Rattle.algebra.proofs.Products.{int_mul_one, int_zero_mul, int_mul_zero, int_mul_sub}
use Rattle.algebra.proofs.Order.{int_lt_or_le}
use Rattle.road_types.specs.declared.road.Section.{Section}
use Rattle.road_types.specs.declared.road.Slab.{Slab}
use Rattle.road_types.specs.Volumes.{thickness_of, net_volume}
use Rattle.road_types.specs.Breakpoints.{IsBreakpoint}
use Rattle.road_types.specs.Ranges.{IsHeightRange}
use Rattle.road_types.specs.Lines.{areas_between, slopes_between, least_area, greatest_area, volume_at, widest_area, deepest, Lines, lines_over, heaviest_lines}
use Rattle.volume_lines.specs.SlabTables.{HasSlabTables}
use Rattle.volume_lines.proofs.SlabRises.{AreThick, AreSlopesWithin, IsSlopeWithin, IsRise, volume_of_none}
use Rattle.volume_lines.proofs.NetRises.{net_rises}
use Rattle.volume_lines.proofs.Slopes.{IsBetweenSlabs, thickness_from_zero}
use Rattle.volume_lines.proofs.OneSlope.{HaveAreas}
use Rattle.volume_lines.proofs.LinesLaws.{thick_table, area_table, breakpoint_to_top, breakpoint_from_bottom, between_fill, between_cut}

-- ---- the least and the greatest of areas

least_below : (start : ℤ) (xs : List ℤ) (low : ℤ) → low ≤ℤ start → All (λ x. low ≤ℤ x) xs → low ≤ℤ fold int_min start xs
least_below start [] low h a = h
least_below start (x ∷ xs) low h a =
    let here = All-head (λ y. low ≤ℤ y) x xs a in
    least_below (int_min start x) xs low (omega (arith, ints, clamps)) (All-tail (λ y. low ≤ℤ y) x xs a)

greatest_above : (start : ℤ) (xs : List ℤ) (high : ℤ) → start ≤ℤ high → All (λ x. x ≤ℤ high) xs → fold int_max start xs ≤ℤ high
greatest_above start [] high h a = h
greatest_above start (x ∷ xs) high h a =
    let here = All-head (λ y. y ≤ℤ high) x xs a in
    greatest_above (int_max start x) xs high (omega (arith, ints, clamps)) (All-tail (λ y. y ≤ℤ high) x xs a)

-- ---- areas between depths are areas of slabs

-- every slab has an area from 0 to high
abbrev pub AreWithin : List Slab → ℤ → Type 0
AreWithin [] high = Unit {0}
AreWithin (slab ∷ slabs) high = IsSlopeWithin (pos 0) high slab.area × AreWithin slabs high

areas_are_within : (slabs : List Slab) (top low high most : ℤ) → AreWithin slabs most → All (IsSlopeWithin (pos 0) most) (areas_between slabs top low high)
unfolding areas_between
areas_are_within [] top low high most a = All-nil (IsSlopeWithin (pos 0) most)
areas_are_within (slab ∷ slabs) top low high most a =
    maybe (int_le low top && int_le (top +ℤ slab.thick) high) (areas_are_within slabs (top +ℤ slab.thick) low high most a.1)
  where
    maybe : (b : Bool) → All (IsSlopeWithin (pos 0) most) (areas_between slabs (top +ℤ slab.thick) low high)
        → All (IsSlopeWithin (pos 0) most) (cond b (slab.area ∷ []) [] ++ areas_between slabs (top +ℤ slab.thick) low high)
    maybe true rest = All-cons (IsSlopeWithin (pos 0) most) slab.area (areas_between slabs (top +ℤ slab.thick) low high) a.0 rest
    maybe false rest = rest

-- any slopes within bounds serve any range
any_slopes : (slabs : List Slab) (top low high most : ℤ) → AreWithin slabs most → AreSlopesWithin slabs top low high (pos 0) most
any_slopes [] top low high most a = tt
any_slopes (slab ∷ slabs) top low high most a = (λ p q. a.0, any_slopes slabs (top +ℤ slab.thick) low high most a.1)

-- the areas of some slabs are at most their greatest
within_greatest : (slabs : List Slab) (start : ℤ) → HaveAreas slabs → pos 0 ≤ℤ start → AreWithin slabs (fold int_max start (map (λ slab. slab.area) slabs))
within_greatest [] start h p = tt
within_greatest (slab ∷ slabs) start h p =
    let rest = within_greatest slabs (int_max start slab.area) h.1 (omega (arith, ints, clamps)) in
    let grows = start_below (int_max start slab.area) slabs in
    (record { at_least = h.0.at_least; at_most = omega (arith, ints, clamps, grows) }, rest)
  where
    start_below : (s : ℤ) (xs : List Slab) → s ≤ℤ fold int_max s (map (λ slab. slab.area) xs)
    start_below s xs = fold_from s (map (λ slab. slab.area) xs)
      where
        fold_from : (s : ℤ) (xs : List ℤ) → s ≤ℤ fold int_max s xs
        fold_from s [] = omega (arith, ints)
        fold_from s (x ∷ xs) = let more = fold_from (int_max s x) xs in omega (arith, ints, clamps)

have_areas-append : (xs ys : List Slab) → HaveAreas xs → HaveAreas ys → HaveAreas (xs ++ ys)
have_areas-append [] ys a b = b
have_areas-append (x ∷ xs) ys a b = (a.0, have_areas-append xs ys a.1 b)

within_left : (xs ys : List Slab) (most : ℤ) → AreWithin (xs ++ ys) most → AreWithin xs most
within_left [] ys most a = tt
within_left (x ∷ xs) ys most a = (a.0, within_left xs ys most a.1)

within_right : (xs ys : List Slab) (most : ℤ) → AreWithin (xs ++ ys) most → AreWithin ys most
within_right [] ys most a = a
within_right (x ∷ xs) ys most a = within_right xs ys most a.1

-- ---- some slab lies between

-- the least of the areas between two depths is at most so much
some_area : (slabs : List Slab) (top low high most : ℤ) → AreThick slabs → AreWithin slabs most → IsBetweenSlabs slabs top low → IsBetweenSlabs slabs top high
    → top <ℤ high → low <ℤ high → high ≤ℤ (top +ℤ thickness_of slabs) → (a : ℤ) × ((rest : List ℤ) × ((areas_between slabs top low high ≡ a ∷ rest) × (a ≤ℤ most)))
unfolding areas_between thickness_of
some_area [] top low high most t w l h x y z = absurd (omega (arith, ints))
some_area (slab ∷ slabs) top low high most t w l h x y z =
    let bottom = top +ℤ slab.thick in
    let rest = areas_between slabs bottom low high in
    ⊎_elim
    (λ (p : low <ℤ bottom).
    let begins : low ≤ℤ top = ⊎_elim (λ (q : low ≤ℤ top). q) (λ (q : bottom ≤ℤ low). absurd (omega (arith, ints))) l.0 in
    let ends : bottom ≤ℤ high = ⊎_elim (λ (q : high ≤ℤ top). absurd (omega (arith, ints))) (λ (q : bottom ≤ℤ high). q) h.0 in
    let first : int_le low top ≡ true = grind (arith, ints) in
    let second : int_le bottom high ≡ true = grind (arith, ints) in
    (slab.area, (rest, (ap (λ b. cond (b && int_le bottom high) (slab.area ∷ []) [] ++ rest) first ∙ ap (λ b. cond b (slab.area ∷ []) [] ++ rest) second, w.0.at_most))))
    (λ (p : bottom ≤ℤ low).
    let o = some_area slabs bottom low high most t.1 w.1 l.1 h.1 (omega (arith, ints)) y (omega (arith, ints)) in
    let first : int_le low top ≡ false = (let thick = t.0 in grind (arith, ints)) in
    (o.0, (o.1.0, (ap (λ b. cond (b && int_le bottom high) (slab.area ∷ []) [] ++ rest) first ∙ o.1.1.0, o.1.1.1))))
    (int_lt_or_le low bottom)

least_to : (start a most : ℤ) (rest : List ℤ) → a ≤ℤ most → fold int_min start (a ∷ rest) ≤ℤ most
least_to start a most rest h = let l = fold_to (int_min start a) rest in omega (arith, ints, clamps)
  where
    fold_to : (s : ℤ) (xs : List ℤ) → fold int_min s xs ≤ℤ s
    fold_to s [] = omega (arith, ints)
    fold_to s (x ∷ xs) = let more = fold_to (int_min s x) xs in omega (arith, ints, clamps)

least_member : (start a most : ℤ) (xs rest : List ℤ) → a ≤ℤ most → fold int_min start (xs ++ (a ∷ rest)) ≤ℤ most
least_member start a most [] rest h = least_to start a most rest h
least_member start a most (x ∷ xs) rest h = least_member (int_min start x) a most xs rest h

-- ---- lines over plain numbers

-- slopes and right sides of no greater magnitude
pub record IsNoHeavier (l h : Lines) : Type 0 where
  pub least : unsigned_abs l.least ≤ unsigned_abs h.least
  pub greatest : unsigned_abs l.greatest ≤ unsigned_abs h.greatest
  pub above_least : unsigned_abs l.above_least ≤ unsigned_abs h.above_least
  pub below_greatest : unsigned_abs l.below_greatest ≤ unsigned_abs h.below_greatest
  pub below_least : unsigned_abs l.below_least ≤ unsigned_abs h.below_least
  pub above_greatest : unsigned_abs l.above_greatest ≤ unsigned_abs h.above_greatest

slope_width : (x area : ℤ) → pos 0 ≤ℤ x → x ≤ℤ area → unsigned_abs x ≤ unsigned_abs area
slope_width x area p q = omega (arith, ints)

right_width : (area slope p at deep : ℤ) → unsigned_abs slope ≤ unsigned_abs area → unsigned_abs p ≤ unsigned_abs deep → unsigned_abs at ≤ unsigned_abs (area *ℤ p)
    → unsigned_abs (at -ℤ slope *ℤ p) ≤ unsigned_abs (pos 2 *ℤ (area *ℤ deep))
right_width area slope p at deep x y z =
    let line = unsigned_abs_mul_le slope p (unsigned_abs area) (unsigned_abs deep) x y in
    let volume = unsigned_abs_mul_le area p (unsigned_abs area) (unsigned_abs deep) (omega arith) y in
    omega (arith, ints, line, volume, unsigned_abs_mul area deep)

turned_width : (area slope p at deep : ℤ) → unsigned_abs slope ≤ unsigned_abs area → unsigned_abs p ≤ unsigned_abs deep → unsigned_abs at ≤ unsigned_abs (area *ℤ p)
    → unsigned_abs (slope *ℤ p -ℤ at) ≤ unsigned_abs (pos 2 *ℤ (area *ℤ deep))
turned_width area slope p at deep x y z = let w = right_width area slope p at deep x y z in omega (arith, ints)

width_below : (area x v none : ℤ) → none ≡ pos 0 → IsRise (pos 0) area (pos 0 -ℤ x) (none -ℤ v) → unsigned_abs v ≤ unsigned_abs (area *ℤ x)
width_below area x v none e r =
    omega (arith, ints, e, r.at_least, r.at_most, int_zero_mul (pos 0 -ℤ x), int_mul_sub area (pos 0) x, int_mul_zero area)

width_above : (area x v none : ℤ) → none ≡ pos 0 → IsRise (pos 0) area (x -ℤ pos 0) (v -ℤ none) → unsigned_abs v ≤ unsigned_abs (area *ℤ x)
width_above area x v none e r =
    omega (arith, ints, e, r.at_least, r.at_most, int_zero_mul (x -ℤ pos 0), int_mul_sub area x (pos 0), int_mul_zero area)

-- ---- a section

module _ (s : Section) (tables : HasSlabTables s) where
  all_within : AreWithin (s.cut ++ s.fill) (widest_area s)
  all_within = within_greatest (s.cut ++ s.fill) (pos 0) (have_areas-append s.cut s.fill (area_table s.cut tables.cut) (area_table s.fill tables.fill)) (omega (arith, ints))

  cut_within : AreWithin s.cut (widest_area s)
  cut_within = within_left s.cut s.fill (widest_area s) all_within

  fill_within : AreWithin s.fill (widest_area s)
  fill_within = within_right s.cut s.fill (widest_area s) all_within

  pub widest_from : pos 0 ≤ℤ widest_area s
  widest_from = fold_from (pos 0) (map (λ slab. slab.area) (s.cut ++ s.fill))
    where
      fold_from : (start : ℤ) (xs : List ℤ) → start ≤ℤ fold int_max start xs
      fold_from start [] = omega (arith, ints)
      fold_from start (x ∷ xs) = let more = fold_from (int_max start x) xs in omega (arith, ints, clamps)

  -- a breakpoint is no deeper than the deepest slabs
  pub breakpoint_depth : (x : ℤ) → IsBreakpoint s x → unsigned_abs x ≤ unsigned_abs (deepest s)
  breakpoint_depth x b = omega (arith, ints, clamps, breakpoint_to_top s tables x b, breakpoint_from_bottom s tables x b)

  no_volume : net_volume s.cut s.fill (pos 0) (pos 1) ≡ pos 0
  no_volume = omega (arith, ints, volume_of_none s.fill (pos 1) (omega (arith, ints)) (thick_table s.fill tables.fill), volume_of_none s.cut (pos 1) (omega (arith, ints)) (thick_table s.cut tables.cut))

  -- the volume at a breakpoint is within the widest area times its depth
  volume_width : (x : ℤ) → IsBreakpoint s x → unsigned_abs (volume_at s x) ≤ unsigned_abs (widest_area s *ℤ x)
  volume_width x b =
      let area = widest_area s in
      let top = breakpoint_to_top s tables x b in
      let bottom = breakpoint_from_bottom s tables x b in
      let wide = widest_from in
      let one = int_mul_one in
      ⊎_elim
      (λ (l : x <ℤ pos 0).
      let rise = net_rises s.cut s.fill x (pos 0) (pos 0) area (pos 1) x (pos 0) (omega (arith, ints)) (thick_table s.cut tables.cut) (thick_table s.fill tables.fill)
      (any_slopes s.cut (pos 0) (pos 0) (neg_ℤ x) area cut_within) (any_slopes s.fill (pos 0) x (pos 0) area fill_within)
      (omega (arith, ints, one x)) (omega (arith, ints)) (omega (arith, ints)) (omega (arith, ints, one (thickness_of s.fill), thickness_from_zero s.fill (thick_table s.fill tables.fill))) (omega (arith, ints, one (thickness_of s.cut))) in
      width_below area x (volume_at s x) (net_volume s.cut s.fill (pos 0) (pos 1)) no_volume rise)
      (λ (l : pos 0 ≤ℤ x).
      let rise = net_rises s.cut s.fill (pos 0) x (pos 0) area (pos 1) (pos 0) x (omega (arith, ints)) (thick_table s.cut tables.cut) (thick_table s.fill tables.fill)
      (any_slopes s.cut (pos 0) (neg_ℤ x) (pos 0) area cut_within) (any_slopes s.fill (pos 0) (pos 0) x area fill_within)
      (omega (arith, ints)) (omega (arith, ints)) (omega (arith, ints, one x)) (omega (arith, ints, one (thickness_of s.fill))) (omega (arith, ints, one (thickness_of s.cut), thickness_from_zero s.cut (thick_table s.cut tables.cut))) in
      width_above area x (volume_at s x) (net_volume s.cut s.fill (pos 0) (pos 1)) no_volume rise)
      (int_lt_or_le x (pos 0))

  -- ---- over a range

  module _ (range : ℤ × ℤ) (is_range : IsHeightRange s range) where
    abbrev slopes : List ℤ
    slopes = slopes_between s range

    slopes_are : All (IsSlopeWithin (pos 0) (widest_area s)) slopes
    slopes_are =
        All-append (IsSlopeWithin (pos 0) (widest_area s)) (areas_between s.cut (pos 0) (neg_ℤ range.1) (neg_ℤ range.0)) (areas_between s.fill (pos 0) range.0 range.1)
        (areas_are_within s.cut (pos 0) (neg_ℤ range.1) (neg_ℤ range.0) (widest_area s) cut_within)
        (areas_are_within s.fill (pos 0) range.0 range.1 (widest_area s) fill_within)

    least_from_zero : pos 0 ≤ℤ least_area slopes
    least_from_zero = least_below (pos 10000000) slopes (pos 0) (omega (arith, ints)) (All-weaker (IsSlopeWithin (pos 0) (widest_area s)) (λ x. pos 0 ≤ℤ x) (λ x w. w.at_least) slopes slopes_are)

    greatest_from_zero : pos 0 ≤ℤ greatest_area slopes
    greatest_from_zero = fold_from (pos 0) slopes
      where
        fold_from : (start : ℤ) (xs : List ℤ) → start ≤ℤ fold int_max start xs
        fold_from start [] = omega (arith, ints)
        fold_from start (x ∷ xs) = let more = fold_from (int_max start x) xs in omega (arith, ints, clamps)

    greatest_to_widest : greatest_area slopes ≤ℤ widest_area s
    greatest_to_widest = greatest_above (pos 0) slopes (widest_area s) widest_from (All-weaker (IsSlopeWithin (pos 0) (widest_area s)) (λ x. x ≤ℤ widest_area s) (λ x w. w.at_most) slopes slopes_are)

    least_to_widest : least_area slopes ≤ℤ widest_area s
    least_to_widest =
        let cuts = areas_between s.cut (pos 0) (neg_ℤ range.1) (neg_ℤ range.0) in
        let fills = areas_between s.fill (pos 0) range.0 range.1 in
        ⊎_elim
        (λ (l : pos 0 <ℤ range.1).
        let o = some_area s.fill (pos 0) range.0 range.1 (widest_area s) (thick_table s.fill tables.fill) fill_within
        (between_fill s tables range.0 is_range.low) (between_fill s tables range.1 is_range.high) l is_range.ordered (omega (arith, ints, breakpoint_to_top s tables range.1 is_range.high)) in
        subst (λ (xs : List ℤ). least_area xs ≤ℤ widest_area s) (ap (λ xs. cuts ++ xs) (sym o.1.1.0)) (least_member (pos 10000000) o.0 (widest_area s) cuts o.1.0 o.1.1.1))
        (λ (l : range.1 ≤ℤ pos 0).
        let o = some_area s.cut (pos 0) (neg_ℤ range.1) (neg_ℤ range.0) (widest_area s) (thick_table s.cut tables.cut) cut_within
        (between_cut s tables range.1 is_range.high) (between_cut s tables range.0 is_range.low) (omega (arith, ints, is_range.ordered)) (omega (arith, ints, is_range.ordered)) (omega (arith, ints, breakpoint_from_bottom s tables range.0 is_range.low)) in
        subst (λ (xs : List ℤ). least_area xs ≤ℤ widest_area s) (ap (λ xs. xs ++ fills) (sym o.1.1.0)) (least_to (pos 10000000) o.0 (widest_area s) (o.1.0 ++ fills) o.1.1.1))
        (int_lt_or_le (pos 0) range.1)

    -- no slope and no right side of the range's lines is heavier than that of the heaviest lines
    pub lines_no_heavier : IsNoHeavier (lines_over s range) (heaviest_lines s)
    lines_no_heavier =
        let area = widest_area s in
        let wide = widest_from in
        let least = slope_width (least_area slopes) area least_from_zero least_to_widest in
        let greatest = slope_width (greatest_area slopes) area greatest_from_zero greatest_to_widest in
        let low = breakpoint_depth range.0 is_range.low in
        let high = breakpoint_depth range.1 is_range.high in
        let at_low = volume_width range.0 is_range.low in
        let at_high = volume_width range.1 is_range.high in
        record {
          least = least;
          greatest = greatest;
          above_least = right_width area (least_area slopes) range.0 (volume_at s range.0) (deepest s) least low at_low;
          below_greatest = turned_width area (greatest_area slopes) range.0 (volume_at s range.0) (deepest s) greatest low at_low;
          below_least = turned_width area (least_area slopes) range.1 (volume_at s range.1) (deepest s) least high at_high;
          above_greatest = right_width area (greatest_area slopes) range.1 (volume_at s range.1) (deepest s) greatest high at_high;
        }

-- the deepest slabs are the thicker side
pub deepest_from : (s : Section) → HasSlabTables s → unsigned_abs (deepest s) ≤ max (unsigned_abs (neg_ℤ (thickness_of s.cut))) (unsigned_abs (thickness_of s.fill))
deepest_from s tables =
    omega (arith, ints, clamps, thickness_from_zero s.cut (thick_table s.cut tables.cut), thickness_from_zero s.fill (thick_table s.fill tables.fill))
