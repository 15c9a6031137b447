-- The volume at every offset of a range between breakpoints keeps to the range's four lines, and where no breakpoint lies
-- strictly inside, it is the only one that does.
use Rattle.std.proofs.Common.{◌≡◌, ℕ, zero, suc, List, [], ◌∷◌, ◌++◌, length, arith, ap, subst, ◌∙◌, refl, ⊎_elim, ◌⊎◌, inl, inr}
use Rattle.std.specs.Prelude.{ℤ, pos, neg_ℤ, ◌+ℤ◌, ◌-ℤ◌, ◌*ℤ◌, ◌≤ℤ◌, ◌<ℤ◌}
use Rattle.std.specs.List.{All}
use Rattle.std.proofs.lemmas.Int.{ints, clamps}
use Rattle.std.proofs.lemmas.List.Elements.{All-nil, All-cons, All-head, All-tail}
use Rattle.algebra.proofs.Products.{mults, int_mul_sub, int_neg_mul}
use Rattle.algebra.proofs.Order.{int_lt_or_le, int_mul_le_right}
use Rattle.road_types.specs.Numbered.{numbered, IsNumber}
use Rattle.road_types.specs.declared.road.Section.{Section}
use Rattle.road_types.specs.declared.road.Slab.{Slab}
use Rattle.road_types.specs.WellFormed.{IsSlabTable, IsSolidSlab}
use Rattle.road_types.specs.Volumes.{thickness_of, net_volume}
use Rattle.road_types.specs.Breakpoints.{IsBreakpoint, leading_thickness}
use Rattle.road_types.specs.Ranges.{IsHeightRange}
use Rattle.road_types.specs.Lines.{areas_between, slopes_between, least_area, greatest_area, volume_at, Lines, lines_through, lines_over}
use Rattle.volume_lines.specs.InnerBreakpoints.{HasBreakpointInside}
use Rattle.volume_lines.specs.SlabTables.{HasSlabTables}
use Rattle.volume_lines.proofs.SlabRises.{AreThick, AreSlopesWithin, IsSlopeWithin, IsRise}
use Rattle.volume_lines.proofs.NetRises.{net_rises, net_scales}
use Rattle.volume_lines.proofs.Slopes.{IsBetweenSlabs, areas_within, above_slabs, leading_between, leading_from_zero, leading_to_thickness, slopes_within}
use Rattle.volume_lines.proofs.OneSlope.{HaveAreas, EndsOutside, IsOneSlope, one_slope, no_slopes, ends_outside, HasEndInside, HasNoEndInside, end_inside}

-- ---- tables

each_thick : (slabs : List Slab) → ((k : ℕ) (other : Slab) → IsNumber k (length slabs) → IsSolidSlab (numbered other slabs k)) → AreThick slabs
each_thick [] h = tt
each_thick (slab ∷ slabs) h = ((h 1 slab (record { from_one = omega arith; at_most = omega arith })).thick.at_least, each_thick slabs rest)
  where
    rest : (k : ℕ) (other : Slab) → IsNumber k (length slabs) → IsSolidSlab (numbered other slabs k)
    rest zero other n = absurd (omega (arith, n.from_one))
    rest (suc k) other n = h (suc (suc k)) other (record { from_one = omega arith; at_most = omega (arith, n.at_most) })

each_area : (slabs : List Slab) → ((k : ℕ) (other : Slab) → IsNumber k (length slabs) → IsSolidSlab (numbered other slabs k)) → HaveAreas slabs
each_area [] h = tt
each_area (slab ∷ slabs) h =
    let solid = h 1 slab (record { from_one = omega arith; at_most = omega arith }) in
    (record { at_least = omega (arith, ints, solid.area.at_least); at_most = solid.area.at_most }, each_area slabs rest)
  where
    rest : (k : ℕ) (other : Slab) → IsNumber k (length slabs) → IsSolidSlab (numbered other slabs k)
    rest zero other n = absurd (omega (arith, n.from_one))
    rest (suc k) other n = h (suc (suc k)) other (record { from_one = omega arith; at_most = omega (arith, n.at_most) })

pub thick_table : (slabs : List Slab) → IsSlabTable slabs → AreThick slabs
thick_table slabs h = each_thick slabs h.solid

pub area_table : (slabs : List Slab) → IsSlabTable slabs → HaveAreas slabs
area_table slabs h = each_area slabs h.solid

-- ---- lines over plain numbers

-- the volume v at an offset u over den keeps to four lines
pub record KeepsLines (lines : Lines) (den u v : ℤ) : Type 0 where
  pub above_least : (den *ℤ lines.above_least) ≤ℤ (v -ℤ lines.least *ℤ u)
  pub below_greatest : (den *ℤ lines.below_greatest) ≤ℤ (lines.greatest *ℤ u -ℤ v)
  pub below_least : (den *ℤ lines.below_least) ≤ℤ (lines.least *ℤ u -ℤ v)
  pub above_greatest : (den *ℤ lines.above_greatest) ≤ℤ (v -ℤ lines.greatest *ℤ u)

-- a line with slope r through the point (p, at), at the offset u over den
line_at : (r p at den : ℤ) → den *ℤ (at -ℤ r *ℤ p) ≡ den *ℤ at -ℤ r *ℤ (p *ℤ den)
line_at r p at den = simp mults (omega (arith, ints))

line_turned : (r p at den : ℤ) → den *ℤ (r *ℤ p -ℤ at) ≡ r *ℤ (p *ℤ den) -ℤ den *ℤ at
line_turned r p at den = simp mults (omega (arith, ints))

-- a volume that rises by the slopes from one end of the range, and to the other, keeps to the lines
pub keeps_by_rises : (lo hi p q at_p at_q den u v : ℤ) → IsRise lo hi (u -ℤ p *ℤ den) (v -ℤ den *ℤ at_p) → IsRise lo hi (q *ℤ den -ℤ u) (den *ℤ at_q -ℤ v)
    → KeepsLines (lines_through lo hi (p, at_p) (q, at_q)) den u v
keeps_by_rises lo hi p q at_p at_q den u v r s = record {
  above_least = omega (arith, ints, line_at lo p at_p den, int_mul_sub lo u (p *ℤ den), r.at_least);
  below_greatest = omega (arith, ints, line_turned hi p at_p den, int_mul_sub hi u (p *ℤ den), r.at_most);
  below_least = omega (arith, ints, line_turned lo q at_q den, int_mul_sub lo (q *ℤ den) u, s.at_least);
  above_greatest = omega (arith, ints, line_at hi q at_q den, int_mul_sub hi (q *ℤ den) u, s.at_most);
}

-- with one slope the lines leave one volume
pub one_volume : (r p q at_p at_q den u v w : ℤ) → KeepsLines (lines_through r r (p, at_p) (q, at_q)) den u v → KeepsLines (lines_through r r (p, at_p) (q, at_q)) den u w → v ≡ w
one_volume r p q at_p at_q den u v w k l =
    omega (arith, ints, line_at r p at_p den, line_turned r p at_p den, k.above_least, k.below_greatest, l.above_least, l.below_greatest)

-- ---- a section over a range

-- the ground itself
zero_is_breakpoint : (s : Section) → IsBreakpoint s (pos 0)
unfolding thickness_of
zero_is_breakpoint s = (0, inl refl)

all_left : (P : ℤ → Type 0) (xs ys : List ℤ) → All P (xs ++ ys) → All P xs
all_left P [] ys a = All-nil P
all_left P (x ∷ xs) ys a = All-cons P x xs (All-head P x (xs ++ ys) a) (all_left P xs ys (All-tail P x (xs ++ ys) a))

all_right : (P : ℤ → Type 0) (xs ys : List ℤ) → All P (xs ++ ys) → All P ys
all_right P [] ys a = a
all_right P (x ∷ xs) ys a = all_right P xs ys (All-tail P x (xs ++ ys) a)

module _ (s : Section) (tables : HasSlabTables s) where
  thick_cut : AreThick s.cut
  thick_cut = thick_table s.cut tables.cut

  thick_fill : AreThick s.fill
  thick_fill = thick_table s.fill tables.fill

  -- no breakpoint lies above the fill or below the cut
  pub breakpoint_to_top : (x : ℤ) → IsBreakpoint s x → x ≤ℤ thickness_of s.fill
  breakpoint_to_top x b =
      ⊎_elim
      (λ (e : x ≡ leading_thickness s.fill b.0). omega (arith, ints, e, leading_to_thickness s.fill b.0 thick_fill))
      (λ (e : x ≡ neg_ℤ (leading_thickness s.cut b.0)). omega (arith, ints, e, leading_from_zero s.cut b.0 thick_cut, leading_from_zero s.fill b.0 thick_fill, leading_to_thickness s.fill b.0 thick_fill))
      b.1

  pub breakpoint_from_bottom : (x : ℤ) → IsBreakpoint s x → neg_ℤ (thickness_of s.cut) ≤ℤ x
  breakpoint_from_bottom x b =
      ⊎_elim
      (λ (e : x ≡ leading_thickness s.fill b.0). omega (arith, ints, e, leading_from_zero s.fill b.0 thick_fill, leading_from_zero s.cut b.0 thick_cut, leading_to_thickness s.cut b.0 thick_cut))
      (λ (e : x ≡ neg_ℤ (leading_thickness s.cut b.0)). omega (arith, ints, e, leading_to_thickness s.cut b.0 thick_cut))
      b.1

  pub between_fill : (x : ℤ) → IsBreakpoint s x → IsBetweenSlabs s.fill (pos 0) x
  between_fill x b =
      ⊎_elim
      (λ (e : x ≡ leading_thickness s.fill b.0). leading_between s.fill (pos 0) x b.0 thick_fill (omega (arith, ints, e)))
      (λ (e : x ≡ neg_ℤ (leading_thickness s.cut b.0)). above_slabs s.fill (pos 0) x thick_fill (omega (arith, ints, e, leading_from_zero s.cut b.0 thick_cut)))
      b.1

  pub between_cut : (x : ℤ) → IsBreakpoint s x → IsBetweenSlabs s.cut (pos 0) (neg_ℤ x)
  between_cut x b =
      ⊎_elim
      (λ (e : x ≡ leading_thickness s.fill b.0). above_slabs s.cut (pos 0) (neg_ℤ x) thick_cut (omega (arith, ints, e, leading_from_zero s.fill b.0 thick_fill)))
      (λ (e : x ≡ neg_ℤ (leading_thickness s.cut b.0)). leading_between s.cut (pos 0) (neg_ℤ x) b.0 thick_cut (omega (arith, ints, e)))
      b.1

  module _ (range : ℤ × ℤ) (is_range : IsHeightRange s range) where
    cut_slopes : AreSlopesWithin s.cut (pos 0) (neg_ℤ range.1) (neg_ℤ range.0) (least_area (slopes_between s range)) (greatest_area (slopes_between s range))
    cut_slopes =
        slopes_within s.cut (pos 0) (neg_ℤ range.1) (neg_ℤ range.0) (least_area (slopes_between s range)) (greatest_area (slopes_between s range))
        (between_cut range.1 is_range.high) (between_cut range.0 is_range.low)
        (all_left (IsSlopeWithin (least_area (slopes_between s range)) (greatest_area (slopes_between s range)))
        (areas_between s.cut (pos 0) (neg_ℤ range.1) (neg_ℤ range.0)) (areas_between s.fill (pos 0) range.0 range.1) (areas_within (slopes_between s range)))

    fill_slopes : AreSlopesWithin s.fill (pos 0) range.0 range.1 (least_area (slopes_between s range)) (greatest_area (slopes_between s range))
    fill_slopes =
        slopes_within s.fill (pos 0) range.0 range.1 (least_area (slopes_between s range)) (greatest_area (slopes_between s range))
        (between_fill range.0 is_range.low) (between_fill range.1 is_range.high)
        (all_right (IsSlopeWithin (least_area (slopes_between s range)) (greatest_area (slopes_between s range)))
        (areas_between s.cut (pos 0) (neg_ℤ range.1) (neg_ℤ range.0)) (areas_between s.fill (pos 0) range.0 range.1) (areas_within (slopes_between s range)))

    rises_between : (den a b : ℤ) → pos 0 <ℤ den → (range.0 *ℤ den) ≤ℤ a → a ≤ℤ b → b ≤ℤ (range.1 *ℤ den)
        → IsRise (least_area (slopes_between s range)) (greatest_area (slopes_between s range)) (b -ℤ a) (net_volume s.cut s.fill b den -ℤ net_volume s.cut s.fill a den)
    rises_between den a b d x y z =
        let top = int_mul_le_right range.1 (thickness_of s.fill) den (omega (arith, ints)) (breakpoint_to_top range.1 is_range.high) in
        let bottom = int_mul_le_right (neg_ℤ (thickness_of s.cut)) range.0 den (omega (arith, ints)) (breakpoint_from_bottom range.0 is_range.low) in
        net_rises s.cut s.fill range.0 range.1 (least_area (slopes_between s range)) (greatest_area (slopes_between s range)) den a b d
        thick_cut thick_fill cut_slopes fill_slopes x y z
        (omega (arith, ints, top))
        (omega (arith, ints, bottom, int_neg_mul (thickness_of s.cut) den))

    -- the volume at an offset of the range keeps to the lines
    pub volume_keeps_lines : (den u : ℤ) → pos 0 <ℤ den → (range.0 *ℤ den) ≤ℤ u → u ≤ℤ (range.1 *ℤ den)
        → KeepsLines (lines_over s range) den u (net_volume s.cut s.fill u den)
    volume_keeps_lines den u d x y =
        let lo = least_area (slopes_between s range) in
        let hi = greatest_area (slopes_between s range) in
        let v = net_volume s.cut s.fill u den in
        let positive : pos 0 ≤ℤ den = omega (arith, ints) in
        let at_low = net_scales s.cut s.fill range.0 den positive in
        let at_high = net_scales s.cut s.fill range.1 den positive in
        let from_low = rises_between den (range.0 *ℤ den) u d (omega (arith, ints)) x y in
        let to_high = rises_between den u (range.1 *ℤ den) d x y (omega (arith, ints)) in
        keeps_by_rises lo hi range.0 range.1 (volume_at s range.0) (volume_at s range.1) den u v
        (subst (λ (w : ℤ). IsRise lo hi (u -ℤ range.0 *ℤ den) (v -ℤ w)) at_low from_low)
        (subst (λ (w : ℤ). IsRise lo hi (range.1 *ℤ den -ℤ u) (w -ℤ v)) at_high to_high)

    -- ---- without a breakpoint strictly inside

    no_fill_end : (HasBreakpointInside s range → ⊥) → EndsOutside s.fill (pos 0) range.0 range.1
    no_fill_end none =
        ends_outside s.fill (pos 0) range.0 range.1
        (λ k.
        let x = leading_thickness s.fill k in
        ⊎_elim
        (λ (l : range.0 <ℤ x).
        ⊎_elim
        (λ (h : x <ℤ range.1). absurd (none (x, ((k, inl refl), (l, h)))))
        (λ (h : range.1 ≤ℤ x). inr (omega (arith, ints)))
        (int_lt_or_le x range.1))
        (λ (l : x ≤ℤ range.0). inl (omega (arith, ints)))
        (int_lt_or_le range.0 x))

    no_cut_end : (HasBreakpointInside s range → ⊥) → EndsOutside s.cut (pos 0) (neg_ℤ range.1) (neg_ℤ range.0)
    no_cut_end none =
        ends_outside s.cut (pos 0) (neg_ℤ range.1) (neg_ℤ range.0)
        (λ k.
        let x = neg_ℤ (leading_thickness s.cut k) in
        ⊎_elim
        (λ (l : range.0 <ℤ x).
        ⊎_elim
        (λ (h : x <ℤ range.1). absurd (none (x, ((k, inr refl), (l, h)))))
        (λ (h : range.1 ≤ℤ x). inl (omega (arith, ints)))
        (int_lt_or_le x range.1))
        (λ (l : x ≤ℤ range.0). inr (omega (arith, ints)))
        (int_lt_or_le range.0 x))

    only_slope : (HasBreakpointInside s range → ⊥) → IsOneSlope (slopes_between s range)
    only_slope none =
        ⊎_elim
        (λ (l : range.0 <ℤ pos 0).
        let below : range.1 ≤ℤ pos 0 =
        ⊎_elim
        (λ (h : pos 0 <ℤ range.1). absurd (none (pos 0, (zero_is_breakpoint s, (l, h)))))
        (λ (h : range.1 ≤ℤ pos 0). h)
        (int_lt_or_le (pos 0) range.1) in
        let o = one_slope s.cut (pos 0) (neg_ℤ range.1) (neg_ℤ range.0) thick_cut (area_table s.cut tables.cut) (no_cut_end none)
        (between_cut range.1 is_range.high) (between_cut range.0 is_range.low) (omega (arith, ints)) (omega (arith, ints, is_range.ordered))
        (omega (arith, ints, breakpoint_from_bottom range.0 is_range.low)) in
        let fills = no_slopes s.fill (pos 0) range.0 range.1 thick_fill below in
        record { area = o.area; only = ap (λ xs. xs ++ areas_between s.fill (pos 0) range.0 range.1) o.only ∙ ap (λ xs. o.area ∷ xs) fills; within = o.within })
        (λ (l : pos 0 ≤ℤ range.0).
        let o = one_slope s.fill (pos 0) range.0 range.1 thick_fill (area_table s.fill tables.fill) (no_fill_end none)
        (between_fill range.0 is_range.low) (between_fill range.1 is_range.high) l is_range.ordered
        (omega (arith, ints, breakpoint_to_top range.1 is_range.high)) in
        let cuts = no_slopes s.cut (pos 0) (neg_ℤ range.1) (neg_ℤ range.0) thick_cut (omega (arith, ints)) in
        record { area = o.area; only = ap (λ xs. xs ++ areas_between s.fill (pos 0) range.0 range.1) cuts ∙ o.only; within = o.within })
        (int_lt_or_le range.0 (pos 0))

    one_least : (o : IsOneSlope (slopes_between s range)) → least_area (slopes_between s range) ≡ o.area
    one_least o = let w = o.within in ap least_area o.only ∙ omega (arith, ints, clamps, w.at_least, w.at_most)

    one_greatest : (o : IsOneSlope (slopes_between s range)) → greatest_area (slopes_between s range) ≡ o.area
    one_greatest o = let w = o.within in ap greatest_area o.only ∙ omega (arith, ints, clamps, w.at_least, w.at_most)

    -- a volume that keeps to the lines is that of the offset
    pub volume_is_exact : (HasBreakpointInside s range → ⊥) → (den u v : ℤ) → pos 0 <ℤ den → (range.0 *ℤ den) ≤ℤ u → u ≤ℤ (range.1 *ℤ den)
        → KeepsLines (lines_over s range) den u v → v ≡ net_volume s.cut s.fill u den
    volume_is_exact none den u v d x y k =
        let o = only_slope none in
        let at_p = volume_at s range.0 in
        let at_q = volume_at s range.1 in
        let one : lines_over s range ≡ lines_through o.area o.area (range.0, at_p) (range.1, at_q) =
        ap (λ r. lines_through r (greatest_area (slopes_between s range)) (range.0, at_p) (range.1, at_q)) (one_least o)
        ∙ ap (λ r. lines_through o.area r (range.0, at_p) (range.1, at_q)) (one_greatest o) in
        one_volume o.area range.0 range.1 at_p at_q den u v (net_volume s.cut s.fill u den)
        (subst (λ (l : Lines). KeepsLines l den u v) one k)
        (subst (λ (l : Lines). KeepsLines l den u (net_volume s.cut s.fill u den)) one (volume_keeps_lines den u d x y))

    -- a breakpoint lies strictly inside, or none does
    pub breakpoint_inside : HasBreakpointInside s range ⊎ (HasBreakpointInside s range → ⊥)
    breakpoint_inside =
        ⊎_elim
        (λ (f : HasEndInside s.fill (pos 0) range.0 range.1). inl (leading_thickness s.fill f.0, ((f.0, inl refl), (omega (arith, ints, f.1.0), omega (arith, ints, f.1.1)))))
        (λ (f : HasNoEndInside s.fill (pos 0) range.0 range.1).
        ⊎_elim
        (λ (c : HasEndInside s.cut (pos 0) (neg_ℤ range.1) (neg_ℤ range.0)).
        inl (neg_ℤ (leading_thickness s.cut c.0), ((c.0, inr refl), (omega (arith, ints, c.1.1), omega (arith, ints, c.1.0)))))
        (λ (c : HasNoEndInside s.cut (pos 0) (neg_ℤ range.1) (neg_ℤ range.0)). inr (nowhere f c))
        (end_inside s.cut (pos 0) (neg_ℤ range.1) (neg_ℤ range.0)))
        (end_inside s.fill (pos 0) range.0 range.1)
      where
        nowhere : HasNoEndInside s.fill (pos 0) range.0 range.1 → HasNoEndInside s.cut (pos 0) (neg_ℤ range.1) (neg_ℤ range.0) → HasBreakpointInside s range → ⊥
        nowhere f c h =
            ⊎_elim
            (λ (e : h.0 ≡ leading_thickness s.fill h.1.0.0).
            ⊎_elim
            (λ (l : (pos 0 +ℤ leading_thickness s.fill h.1.0.0) ≤ℤ range.0). omega (arith, ints, e, h.1.1.0))
            (λ (l : range.1 ≤ℤ (pos 0 +ℤ leading_thickness s.fill h.1.0.0)). omega (arith, ints, e, h.1.1.1))
            (f h.1.0.0))
            (λ (e : h.0 ≡ neg_ℤ (leading_thickness s.cut h.1.0.0)).
            ⊎_elim
            (λ (l : (pos 0 +ℤ leading_thickness s.cut h.1.0.0) ≤ℤ neg_ℤ range.1). omega (arith, ints, e, h.1.1.1))
            (λ (l : neg_ℤ range.0 ≤ℤ (pos 0 +ℤ leading_thickness s.cut h.1.0.0)). omega (arith, ints, e, h.1.1.0))
            (c h.1.0.0))
            h.1.0.1
