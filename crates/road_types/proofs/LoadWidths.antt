-- The loads of what stands on a road, from the magnitudes of its numbers as the code has them.
use Rattle.std.proofs.Common.{◌≡◌, ℕ, ◌+◌, ◌*◌, ◌^◌, ◌≤◌, ap, ap₂, sym, subst, ◌∙◌, to_z, of_z, FitsSigned, arith}
use Rattle.std.specs.Prelude.{ℤ, unsigned_abs}
use Rattle.std.specs.Int.{w64}
use Rattle.std.proofs.lemmas.Int.{ints, to_z-of_z}
use Rattle.algebra.specs.Numbered.{IsNumber}
use Rattle.road_types.specs.Heights.{steps_along}
use Rattle.road_types.specs.Road.{fixed_point, access, block, section_count, fixed_count, access_count, block_count, access_unit_cost}
use Rattle.road_types.specs.WellFormed.{IsHeight, IsCost, IsCap, IsOnKnots, IsWellFormed, IsWellFormedFixed, IsWellFormedAccess}
use Rattle.road_types.specs.declared.road.Road.{Road}
use Rattle.road_types.specs.declared.road.Fixed.{Fixed}
use Rattle.road_types.specs.declared.road.Access.{Access}
use Rattle.road_types.specs.declared.road.Block.{Block}
use Rattle.road_types.specs.inside.Loads.{height_load, fixed_load, access_load}

-- ---- magnitudes

pub cost_is : (x : ℤ) (m : ℕ) → IsCost x → m ≡ unsigned_abs (to_z w64 (of_z w64 x)) → m ≡ unsigned_abs x
cost_is x m h e =
    let fits : FitsSigned w64 x = omega (arith, ints) in
    simp to_z-of_z at e

pub cost_width : (x : ℤ) (m : ℕ) → IsCost x → m ≡ unsigned_abs (to_z w64 (of_z w64 x)) → m ≤ 2 ^ 50
cost_width x m h e =
    let is = cost_is x m h e in
    omega (arith, ints)

pub cap_is : (x : ℤ) (m : ℕ) → IsCap x → m ≡ unsigned_abs (to_z w64 (of_z w64 x)) → m ≡ unsigned_abs x
cap_is x m h e =
    let fits : FitsSigned w64 x = omega (arith, ints) in
    simp to_z-of_z at e

pub cap_width : (x : ℤ) (m : ℕ) → IsCap x → m ≡ unsigned_abs (to_z w64 (of_z w64 x)) → m ≤ 2 ^ 47
cap_width x m h e =
    let is = cap_is x m h e in
    omega (arith, ints)

height_is : (x : ℤ) (m : ℕ) → IsHeight x → m ≡ unsigned_abs (to_z w64 (of_z w64 x)) → m ≡ unsigned_abs x
height_is x m h e =
    let fits : FitsSigned w64 x = omega (arith, ints) in
    simp to_z-of_z at e

pub height_width : (x : ℤ) (m : ℕ) → IsHeight x → m ≡ unsigned_abs (to_z w64 (of_z w64 x)) → m ≤ 2 ^ 24
height_width x m h e =
    let is = height_is x m h e in
    omega (arith, ints)

fits_small : (x : ℤ) → unsigned_abs x ≤ 2 ^ 50 → FitsSigned w64 x
fits_small x h = omega (arith, ints)

pub wider : (m : ℕ) → m ≤ 2 ^ 47 → m ≤ 2 ^ 50
wider m h = omega arith

pub two_caps : (m n : ℕ) → m ≤ 2 ^ 47 → n ≤ 2 ^ 47 → 2 * (m + n) ≤ 2 ^ 104
two_caps m n h k = omega arith

pub one_cap : (m : ℕ) → m ≤ 2 ^ 47 → 2 * m ≤ 2 ^ 104
one_cap m h = omega arith

-- ---- hops

-- what a hop's hauls add, from the magnitudes of its caps and costs
pub hauls_add : (stages r l rc lc mr ml mrc mlc p q s t : ℕ) → mr ≡ r → ml ≡ l → mrc ≡ rc → mlc ≡ lc → p ≡ mrc * mr → q ≡ mlc * ml
    → s ≡ stages * (2 * (mr + ml)) → t ≡ stages * (p + q) → s + t ≡ stages * (2 * (r + l)) + stages * (rc * r + lc * l)
hauls_add stages r l rc lc mr ml mrc mlc p q s t a b c d e f g h = cc

-- ---- fixed points

pub fixed_kept : (road : Road) (number : ℕ) (f : Fixed) → IsWellFormed road → IsNumber number (fixed_count road) → f ≡ fixed_point road number → IsWellFormedFixed road f
fixed_kept road number f w n e = subst (IsWellFormedFixed road) (sym e) (w.fixed number n)

pub station_kept : (road : Road) (f : Fixed) → IsWellFormedFixed road f → IsOnKnots road (to_z w64 (of_z w64 f.station))
station_kept road f w =
    let fits : FitsSigned w64 f.station = omega (arith, ints, w.station) in
    simp to_z-of_z w.on_knots

pub fixed_adds : (road : Road) (number : ℕ) (f : Fixed) (s m n : ℕ) → IsWellFormedFixed road f → f ≡ fixed_point road number
    → s ≡ height_load road (unsigned_abs (steps_along road.knots (to_z w64 (of_z w64 f.station))))
    → m ≡ unsigned_abs (to_z w64 (of_z w64 f.low)) → n ≡ unsigned_abs (to_z w64 (of_z w64 f.high)) → 2 * s + (m + n) ≡ fixed_load road number
fixed_adds road number f s m n w e of_station of_low of_high =
    let fits : FitsSigned w64 f.station = omega (arith, ints, w.station) in
    let height : s ≡ height_load road (unsigned_abs (steps_along road.knots f.station)) = simp to_z-of_z at of_station in
    ap₂ (λ (x y : ℕ). 2 * x + y) height (ap₂ (λ (x y : ℕ). x + y) (height_is f.low m w.low of_low) (height_is f.high n w.high of_high))
    ∙ ap (λ (x : Fixed). 2 * height_load road (unsigned_abs (steps_along road.knots x.station)) + (unsigned_abs x.low + unsigned_abs x.high)) e

pub fixed_width : (s m n : ℕ) → s ≤ 2 ^ 102 → m ≤ 2 ^ 24 → n ≤ 2 ^ 24 → 2 * s + (m + n) ≤ 2 ^ 110
fixed_width s m n a b c = omega arith

-- ---- access roads

pub access_kept : (road : Road) (number : ℕ) (a : Access) → IsWellFormed road → IsNumber number (access_count road) → a ≡ access road number → IsWellFormedAccess road a
access_kept road number a w n e = subst (IsWellFormedAccess road) (sym e) (w.roads number n)

unit_cost_size : (road : Road) (number : ℕ) → IsWellFormed road → IsNumber number (access_count road) → unsigned_abs (access_unit_cost road number) ≤ 2 ^ 50
unit_cost_size road number w n =
    let a = w.roads number n in
    let p = w.pits (access road number).pit a.pit in
    omega (arith, ints, a.cost, p.cost)

unit_cost_is : (road : Road) (number m : ℕ) (cost : ℤ) → IsWellFormed road → IsNumber number (access_count road) → cost ≡ access_unit_cost road number
    → m ≡ unsigned_abs (to_z w64 (of_z w64 cost)) → m ≡ unsigned_abs (access_unit_cost road number)
unit_cost_is road number m cost w n e is =
    let small : unsigned_abs cost ≤ 2 ^ 50 = rw e (unit_cost_size road number w n) in
    let fits : FitsSigned w64 cost = fits_small cost small in
    simp to_z-of_z at is ∙ ap unsigned_abs e

pub unit_cost_width : (road : Road) (number m : ℕ) (cost : ℤ) → IsWellFormed road → IsNumber number (access_count road) → cost ≡ access_unit_cost road number
    → m ≡ unsigned_abs (to_z w64 (of_z w64 cost)) → m ≤ 2 ^ 50
unit_cost_width road number m cost w n e is = rw (unit_cost_is road number m cost w n e is) (unit_cost_size road number w n)

pub access_adds : (road : Road) (number : ℕ) (a : Access) (cost : ℤ) (m k p s t : ℕ) → IsWellFormed road → IsNumber number (access_count road)
    → a ≡ access road number → cost ≡ access_unit_cost road number → m ≡ unsigned_abs (to_z w64 (of_z w64 a.max)) → k ≡ unsigned_abs (to_z w64 (of_z w64 cost))
    → p ≡ k * m → s ≡ road.stages * (2 * m) → t ≡ road.stages * p → s + t ≡ access_load road number
access_adds road number a cost m k p s t w n e of_unit of_max of_cost of_product first second =
    let cap : m ≡ unsigned_abs (access road number).max = cap_is a.max m (access_kept road number a w n e).max of_max ∙ ap (λ (x : Access). unsigned_abs x.max) e in
    let unit = unit_cost_is road number k cost w n of_unit of_cost in
    ap₂ (λ (x y : ℕ). x + y) (first ∙ ap (λ x. road.stages * (2 * x)) cap)
    (second ∙ ap (λ x. road.stages * x) (of_product ∙ ap₂ (λ (x y : ℕ). x * y) unit cap))

-- ---- blocks

pub block_stands : (road : Road) (number : ℕ) (b : Block) → IsWellFormed road → IsNumber number (block_count road) → b ≡ block road number → IsNumber b.section (section_count road)
block_stands road number b w n e = subst (λ (x : Block). IsNumber x.section (section_count road)) (sym e) (w.blocks number n).section
