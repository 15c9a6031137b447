-- Breakpoints strictly inside a range, from thicknesses of leading slabs.
use Rattle.std.proofs.Common.{◌≡◌, sym, ap, arith, inl, inr, ⊎_elim}
use Rattle.std.specs.Prelude.{ℤ, pos, neg_ℤ, ◌<ℤ◌, FitsSigned}
use Rattle.std.specs.Int.{w64}
use Rattle.std.proofs.lemmas.Int.{ints}
use Rattle.road_types.specs.Breakpoints.{leading_thickness}
use Rattle.road_types.specs.declared.road.Section.{Section}
use Rattle.volume_lines.specs.InnerBreakpoints.{HasBreakpointInside}
use Rattle.milp_builder.proofs.LeadingSlabs.{leading_none}
use Rattle.branch_bound.specs.inside.Splitting.{IsInnerBreakpoint, IsInnerThickness, HasNoInnerThickness}

pub zero_inside : (s : Section) (low high : ℤ) → (low <ℤ pos 0) × (pos 0 <ℤ high) → IsInnerBreakpoint s (low, high) (pos 0)
zero_inside s low high h = record { breakpoint = (0, inl (sym (leading_none s.fill))); above = h.0; below = h.1 }

pub fill_inside : (s : Section) (low high t : ℤ) → IsInnerThickness s.fill low high t → IsInnerBreakpoint s (low, high) t
fill_inside s low high t h = record { breakpoint = (h.count, inl h.same); above = h.above; below = h.below }

pub cut_inside : (s : Section) (low high t : ℤ) → IsInnerThickness s.cut (neg_ℤ high) (neg_ℤ low) t → IsInnerBreakpoint s (low, high) (neg_ℤ t)
cut_inside s low high t h = record {
  breakpoint = (h.count, inr (ap neg_ℤ h.same));
  above = omega (arith, ints, h.below);
  below = omega (arith, ints, h.above);
}

pub none_inside : (s : Section) (low high : ℤ) → HasNoInnerThickness s.fill low high → HasNoInnerThickness s.cut (neg_ℤ high) (neg_ℤ low)
    → HasBreakpointInside s (low, high) → ⊥
none_inside s low high f c h =
    let k = h.1.0.0 in
    let above = h.1.1.0 in
    let below = h.1.1.1 in
    ⊎_elim
    (λ (e : h.0 ≡ leading_thickness s.fill k). f.none k (omega (arith, ints, e, above)) (omega (arith, ints, e, below)))
    (λ (e : h.0 ≡ neg_ℤ (leading_thickness s.cut k)). c.none k (omega (arith, ints, e, below)) (omega (arith, ints, e, above)))
    h.1.0.1

-- what lies strictly between two numbers of 64 bits, and its opposite
pub between_fits : (low high x : ℤ) → FitsSigned w64 low → FitsSigned w64 high → low <ℤ x → x <ℤ high → FitsSigned w64 x
between_fits low high x l h a b = grind (arith, ints)
