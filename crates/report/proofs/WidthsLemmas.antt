-- Heights, offsets and volumes of an admissible plan fit the numbers of the code.
use Rattle.std.proofs.Common.{ℕ, zero, suc, ◌*◌, ◌^◌, ◌<◌, ◌≤◌, List, [], ◌∷◌, length, FitsSigned, arith}
use Rattle.std.specs.Prelude.{ℤ, pos, ◌*ℤ◌, unsigned_abs, neg_ℤ}
use Rattle.std.specs.Int.{w64}
use Rattle.std.proofs.lemmas.Int.{ints}
use Rattle.algebra.specs.Sums.{sum_to}
use Rattle.algebra.proofs.SumsLemmas.{unsigned_abs_sum_to}
use Rattle.algebra.proofs.Magnitudes.{unsigned_abs_mul_le, fits_w64}
use Rattle.road_types.specs.Numbered.{numbered, IsNumber}
use Rattle.road_types.specs.Road.{section, section_count, hop_count}
use Rattle.road_types.specs.Volumes.{thickness_of, net_volume}
use Rattle.road_types.specs.WellFormed.{IsBetween, IsStation, IsWellFormed, IsSolidSlab, IsSlabTable}
use Rattle.road_types.specs.declared.road.Road.{Road}
use Rattle.road_types.specs.declared.road.Slab.{Slab}
use Rattle.plan_rules.specs.Fits.{Fits}
use Rattle.plan_rules.specs.Rules.{Keeps, place_count, IsAdmissible, IsLimited, HasItsVolume, height_at, offset_of, fill_less_cut}
use Rattle.plan_rules.specs.declared.plan.Plan.{Plan}
use Rattle.plan_rules.specs.declared.verdict.Rule.TheVariants.{P1, P5}
use Rattle.plan_rules.proofs.HeightWidths.{within_width}

later_solid : (slab : Slab) (slabs : List Slab) → ((k : ℕ) (other : Slab) → IsNumber k (length (slab ∷ slabs)) → IsSolidSlab (numbered other (slab ∷ slabs) k))
    → (k : ℕ) (other : Slab) → IsNumber k (length slabs) → IsSolidSlab (numbered other slabs k)
later_solid slab slabs h zero other n = absurd (omega (arith, n.from_one))
later_solid slab slabs h (suc k) other n = h (suc (suc k)) other (record { from_one = omega arith; at_most = omega (arith, n.at_most) })

thickness_small : (slabs : List Slab) (n : ℕ) → length slabs ≤ n → ((k : ℕ) (other : Slab) → IsNumber k (length slabs) → IsSolidSlab (numbered other slabs k))
    → unsigned_abs (thickness_of slabs) ≤ n * 10000000
unfolding thickness_of
thickness_small [] n few h = omega (arith, ints)
thickness_small (slab ∷ slabs) zero few h = absurd (omega (arith, few))
thickness_small (slab ∷ slabs) (suc n) few h =
    let first = h 1 slab (record { from_one = omega arith; at_most = omega arith }) in
    let rest = thickness_small slabs n (omega (arith, few)) (later_solid slab slabs h) in
    omega (arith, ints, first.thick.at_least, first.thick.at_most, rest)

table_small : (slabs : List Slab) → IsSlabTable slabs → unsigned_abs (thickness_of slabs) ≤ 40000000
table_small slabs t = thickness_small slabs 4 t.few t.solid

its_volume : (road : Road) (plan : Plan) → IsAdmissible road plan → (i : ℕ) → IsNumber i (section_count road) → HasItsVolume road plan i
unfolding Keeps place_count
its_volume road plan a i n = a.keeps P5 0 i n

pub limited : (road : Road) (plan : Plan) → IsAdmissible road plan → IsLimited road plan
unfolding Keeps place_count
limited road plan a = record { each = λ g n. a.keeps P1 0 g n }

pub offset_small : (road : Road) (plan : Plan) → IsWellFormed road → Fits road plan → IsAdmissible road plan → (i : ℕ) → IsNumber i (section_count road) → unsigned_abs (offset_of road plan i) ≤ 2 ^ 66
offset_small road plan ok f a i n =
    let v = its_volume road plan a i n in
    let s = ok.sections i n in
    let cut = table_small (section road i).cut s.cut in
    let fill = table_small (section road i).fill s.fill in
    let below : unsigned_abs (neg_ℤ (thickness_of (section road i).cut)) ≤ 40000000 = omega (arith, ints, cut) in
    omega (arith, within_width _ _ plan.den (offset_of road plan i) 40000000 f.den below fill v.range)

pub offset_wider : (n : ℕ) → n ≤ 2 ^ 66 → n ≤ 2 ^ 86
offset_wider n h = omega arith

pub height_small : (road : Road) (plan : Plan) → IsWellFormed road → Fits road plan → IsAdmissible road plan → (i : ℕ) → IsNumber i (section_count road)
    → unsigned_abs (height_at road plan (section road i).station) < 2 ^ 127
height_small road plan ok f a i n =
    let above = offset_small road plan ok f a i n in
    let s = ok.sections i n in
    let wide : unsigned_abs plan.den ≤ 2 ^ 40 = omega (arith, ints, f.den.from_one, f.den.at_most) in
    let low : unsigned_abs (section road i).ground ≤ 10000000 = omega (arith, ints, s.height_of_ground.at_least, s.height_of_ground.at_most) in
    let under = unsigned_abs_mul_le plan.den (section road i).ground (2 ^ 40) 10000000 wide low in
    omega (arith, ints, above, under)

moved_small : (road : Road) (plan : Plan) → Fits road plan → (i t : ℕ) → unsigned_abs (fill_less_cut plan i t) ≤ 2 * 10 ^ 30
moved_small road plan f i t = omega (arith, ints, f.fill t i, f.cut t i)

pub net_small : (road : Road) (plan : Plan) → IsWellFormed road → Fits road plan → IsAdmissible road plan → (i : ℕ) → IsNumber i (section_count road)
    → unsigned_abs (net_volume (section road i).cut (section road i).fill (offset_of road plan i) plan.den) < 2 ^ 127
net_small road plan ok f a i n =
    let v = its_volume road plan a i n in
    let sum = unsigned_abs_sum_to (fill_less_cut plan i) (2 * 10 ^ 30) road.stages (λ t low high. moved_small road plan f i t) in
    let small : unsigned_abs (sum_to (fill_less_cut plan i) road.stages) < 2 ^ 127 = omega (arith, sum, ok.counted.stages_to) in
    rw (← v.volume) small

pub few_hops : (road : Road) → IsWellFormed road → (h : ℕ) → IsNumber h (hop_count road) → h < 60
few_hops road ok h n = omega (arith, n.at_most, ok.counted.hops_count, ok.counted.sections_to)

-- a station in metres
pub metres_fit : (station step : ℤ) → IsStation station → IsBetween (pos 1) (pos 1000) step → FitsSigned w64 (station *ℤ step)
metres_fit station step p q =
    let along : unsigned_abs station ≤ 100000 = omega (arith, ints) in
    let by : unsigned_abs step ≤ 1000 = omega (arith, ints) in
    let width = unsigned_abs_mul_le station step 100000 1000 along by in
    fits_w64 (station *ℤ step) (omega (arith, width))
