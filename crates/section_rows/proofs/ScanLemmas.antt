-- Slopes found slab by slab, and how far breakpoints lie from the ground.
use Rattle.std.proofs.Common.{◌≡◌, ℕ, zero, suc, ◌+◌, ◌*◌, ◌<◌, ◌≤◌, List, [], ◌∷◌, ◌++◌, length, get_or, take, drop, arith, ◌∙◌, refl, ⊎_elim}
use Rattle.std.specs.Prelude.{ℤ, pos, neg_ℤ, ◌+ℤ◌, ◌-ℤ◌, ◌*ℤ◌, ◌≤ℤ◌, fold, unsigned_abs}
use Rattle.std.proofs.lemmas.Int.{ints, clamps}
use Rattle.std.proofs.lemmas.List.{at_drop_more, at_drop_all}
use Rattle.std.specs.Int.{int_min, int_max}
use Rattle.algebra.proofs.Order.{int_mul_le_right}
use Rattle.algebra.specs.Numbered.{numbered, IsNumber}
use Rattle.road_types.specs.Breakpoints.{IsBreakpoint, leading_thickness}
use Rattle.road_types.specs.Lines.{areas_between}
use Rattle.road_types.specs.Volumes.{thickness_of, volume_to, net_volume}
use Rattle.road_types.specs.WellFormed.{IsSolidSlab, IsSlabTable}
use Rattle.road_types.specs.declared.road.Slab.{Slab}
use Rattle.road_types.specs.declared.road.Section.{Section}
use Rattle.section_rows.specs.inside.Scans.{area_within}

pub fold_both : (f : ℤ → ℤ → ℤ) (first : ℤ) (xs ys : List ℤ) → fold f first (xs ++ ys) ≡ fold f (fold f first xs) ys
fold_both f first [] ys = refl
fold_both f first (x ∷ xs) ys = fold_both f (f first x) xs ys

-- the areas of a table from a slab on: its own, and those behind it
pub scan_more : (f : ℤ → ℤ → ℤ) (first top low high : ℤ) (slabs : List Slab) (i : ℕ) (other : Slab) → i < length slabs
    → fold f first (areas_between (drop i slabs) top low high)
    ≡ fold f (fold f first (area_within (get_or slabs i other) top low high)) (areas_between (drop (i + 1) slabs) (top +ℤ (get_or slabs i other).thick) low high)
unfolding areas_between
scan_more f first top low high slabs i other l =
    at_drop_more (λ (xs : List Slab). fold f first (areas_between xs top low high)) slabs i other l
    ∙ fold_both f first (area_within (get_or slabs i other) top low high) (areas_between (drop (i + 1) slabs) (top +ℤ (get_or slabs i other).thick) low high)

pub scan_none : (f : ℤ → ℤ → ℤ) (first top low high : ℤ) (slabs : List Slab) (i : ℕ) → length slabs ≤ i → fold f first (areas_between (drop i slabs) top low high) ≡ first
unfolding areas_between
scan_none f first top low high slabs i l = at_drop_all (λ (xs : List Slab). fold f first (areas_between xs top low high)) slabs i l

later_solid : (slab : Slab) (slabs : List Slab) → ((k : ℕ) (other : Slab) → IsNumber k (length (slab ∷ slabs)) → IsSolidSlab (numbered other (slab ∷ slabs) k))
    → (k : ℕ) (other : Slab) → IsNumber k (length slabs) → IsSolidSlab (numbered other slabs k)
later_solid slab slabs h zero other n = absurd (omega (arith, n.from_one))
later_solid slab slabs h (suc k) other n = h (suc (suc k)) other (record { from_one = omega arith; at_most = omega (arith, n.at_most) })

-- leading slabs are at most ten million millimetres thick each
leading_span : (slabs : List Slab) (k : ℕ) → ((j : ℕ) (other : Slab) → IsNumber j (length slabs) → IsSolidSlab (numbered other slabs j))
    → (pos 0 ≤ℤ thickness_of (take k slabs)) × (thickness_of (take k slabs) ≤ℤ pos (length slabs * 10000000))
unfolding thickness_of
leading_span slabs zero h = (omega (arith, ints), omega (arith, ints))
leading_span [] (suc k) h = (omega (arith, ints), omega (arith, ints))
leading_span (slab ∷ slabs) (suc k) h =
    let first = h 1 slab (record { from_one = omega arith; at_most = omega arith }) in
    let rest = leading_span slabs k (later_solid slab slabs h) in
    (omega (arith, ints, first.thick.at_least, rest.0), omega (arith, ints, first.thick.at_most, rest.1))

pub breakpoint_span : (s : Section) (x : ℤ) → IsSlabTable s.cut → IsSlabTable s.fill → IsBreakpoint s x → unsigned_abs x ≤ 40000000
breakpoint_span s x cut fill b =
    ⊎_elim
    (λ (e : x ≡ leading_thickness s.fill b.0). let span = leading_span s.fill b.0 fill.solid in omega (arith, ints, e, span.0, span.1, fill.few))
    (λ (e : x ≡ neg_ℤ (leading_thickness s.cut b.0)). let span = leading_span s.cut b.0 cut.solid in omega (arith, ints, e, span.0, span.1, cut.few))
    b.1

-- a table's volume at any depth is at most ten million times its thickness
volume_span : (slabs : List Slab) (depth : ℤ) → ((j : ℕ) (other : Slab) → IsNumber j (length slabs) → IsSolidSlab (numbered other slabs j)) → pos 0 ≤ℤ depth
    → (pos 0 ≤ℤ volume_to slabs depth (pos 1)) × (volume_to slabs depth (pos 1) ≤ℤ pos (length slabs * 100000000000000))
unfolding volume_to
volume_span [] depth h p = (omega (arith, ints), omega (arith, ints))
volume_span (slab ∷ slabs) depth h p =
    let first = h 1 slab (record { from_one = omega arith; at_most = omega arith }) in
    let taken = int_min depth (slab.thick *ℤ pos 1) in
    let left = int_max (depth -ℤ slab.thick *ℤ pos 1) (pos 0) in
    let from : pos 0 ≤ℤ taken = omega (arith, ints, clamps, p, first.thick.at_least) in
    let to : taken ≤ℤ pos 10000000 = omega (arith, ints, clamps, first.thick.at_most) in
    let rest = volume_span slabs left (later_solid slab slabs h) (omega (arith, ints, clamps)) in
    let low = int_mul_le_right (pos 0) slab.area taken from (omega (arith, ints, first.area.at_least)) in
    let high = int_mul_le_right slab.area (pos 10000000) taken from first.area.at_most in
    (omega (arith, ints, low, rest.0), omega (arith, ints, high, to, rest.1))

pub net_span : (s : Section) (x : ℤ) → IsSlabTable s.cut → IsSlabTable s.fill → unsigned_abs (net_volume s.cut s.fill x (pos 1)) ≤ 400000000000000
net_span s x cut fill =
    let above = volume_span s.fill (int_max x (pos 0)) fill.solid (omega (arith, ints, clamps)) in
    let below = volume_span s.cut (int_max (neg_ℤ x) (pos 0)) cut.solid (omega (arith, ints, clamps)) in
    omega (arith, ints, above.0, above.1, below.0, below.1, cut.few, fill.few)
