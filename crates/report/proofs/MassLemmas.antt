-- Ordinates and moments of an admissible plan: what the sections before a hop give, how wide they are, and the rows of their tables.
use Rattle.std.proofs.Common.{◌≡◌, ℕ, zero, suc, ◌+◌, ◌-◌, ◌*◌, ◌^◌, ◌<◌, ◌≤◌, List, [], ◌∷◌, ◌++◌, map, FitsSigned, arith, refl, sym, ap, ap₂, ◌∙◌}
use Rattle.std.specs.Prelude.{Bool, true, false, if◌then◌else◌, max, Option, Some, None, IfSome, ℤ, pos, ◌+ℤ◌, ◌-ℤ◌, ◌*ℤ◌, unsigned_abs}
use Rattle.std.specs.Int.{w128}
use Rattle.std.proofs.lemmas.Bool.Decides.{nat_tests}
use Rattle.std.proofs.lemmas.Int.{ints}
use Rattle.algebra.specs.Lists.{flat_to}
use Rattle.algebra.specs.Scale.{IsScale}
use Rattle.algebra.specs.Sums.{sum_to}
use Rattle.algebra.proofs.Magnitudes.{unsigned_abs_mul_le, fits_w128}
use Rattle.algebra.proofs.NumberedLemmas.{numbered_past}
use Rattle.csv.specs.Writing.{default_writer, row_text}
use Rattle.road_types.specs.Numbered.{numbered, IsNumber}
use Rattle.road_types.specs.Road.{section, hop, section_count, hop_count, pit_count}
use Rattle.road_types.specs.WellFormed.{IsWellFormed, IsCap}
use Rattle.road_types.specs.declared.road.Road.{Road}
use Rattle.plan_rules.specs.Fits.{Fits, IsModerate}
use Rattle.plan_rules.specs.Plans.{amount, IsTableOf}
use Rattle.plan_rules.specs.Rules.{Keeps, place_count, at_no_stage, at_each_stage, amount_count, right_before, left_before, IsCapped, IsAmountCapped, IsAdmissible, IsBalanced}
use Rattle.plan_rules.specs.declared.plan.Plan.{Plan}
use Rattle.plan_rules.specs.declared.verdict.Rule.TheVariants.{P6, P7}
use Rattle.plan_rules.proofs.HeightWidths.{within_width}
use Rattle.report.specs.Lines.{Cell, Line, row, IsWrittenAs, Adds}
use Rattle.report.specs.Mass.{ordinate, surplus, hop_moment, moment, first_of, peak_of, same_way, direction_of, Zone, zone_in, zones_at, zones_of, AreZones}
use Rattle.report.specs.Reports.{IsReportable}
use Rattle.report.specs.inside.Hauls.{HasModerateHauls, HasPayableHauls}
use Rattle.report.proofs.LinesLemmas.{nothing_added, both_added, row_added}
use Rattle.report.proofs.ZoneLaws.{are_zones}

pub moderate_hauls : (road : Road) (plan : Plan) → Fits road plan → HasModerateHauls plan
moderate_hauls road plan f = record { right = f.right; left = f.left }

-- the amounts of a stage are places of the sixth rule
all_counted : (road : Road) (t none each : ℕ) → IsNumber t road.stages → at_no_stage t none + at_each_stage road t each ≡ each
all_counted road t none each n = let low = n.from_one in let high = n.at_most in grind (arith, nat_tests)

amounts_capped : (road : Road) (plan : Plan) → IsAdmissible road plan → (t place : ℕ) → IsNumber t road.stages → IsNumber place (amount_count road) → IsAmountCapped road plan t place
unfolding Keeps place_count
amounts_capped road plan a zero place stage n = absurd (omega (arith, stage.from_one))
amounts_capped road plan a (suc t) place stage n =
    a.keeps P6 (suc t) place (record { from_one = n.from_one; at_most = omega (arith, n.at_most, all_counted road (suc t) (pit_count road) (amount_count road) stage) })

capped_small : (cap den x : ℤ) → IsCap cap → IsScale den → IsCapped cap den x → unsigned_abs x ≤ 10 ^ 14 * 2 ^ 40
capped_small cap den x c d h =
    let small : unsigned_abs cap ≤ 10 ^ 14 = omega (arith, ints, c.at_least, c.at_most) in
    omega (arith, within_width (pos 0) cap den x (10 ^ 14) d (omega arith) small h)

right_small : (road : Road) (plan : Plan) → IsWellFormed road → Fits road plan → IsAdmissible road plan → (t h : ℕ) → IsNumber t road.stages → IsNumber h (hop_count road)
    → unsigned_abs (amount plan.right t h) ≤ 10 ^ 14 * 2 ^ 40
right_small road plan ok f a t h stage n =
    let m : IsNumber h (section_count road - 1) = rw ok.counted.hops_count at n in
    capped_small (hop road h).right_max plan.den (amount plan.right t h) (ok.hops h n).right_max f.den
    ((amounts_capped road plan a t (right_before road + h) stage (record { from_one = omega (arith, m.from_one); at_most = omega (arith, m.at_most) })).right h refl m)

left_small : (road : Road) (plan : Plan) → IsWellFormed road → Fits road plan → IsAdmissible road plan → (t h : ℕ) → IsNumber t road.stages → IsNumber h (hop_count road)
    → unsigned_abs (amount plan.left t h) ≤ 10 ^ 14 * 2 ^ 40
left_small road plan ok f a t h stage n =
    let m : IsNumber h (section_count road - 1) = rw ok.counted.hops_count at n in
    capped_small (hop road h).left_max plan.den (amount plan.left t h) (ok.hops h n).left_max f.den
    ((amounts_capped road plan a t (left_before road + h) stage (record { from_one = omega (arith, m.from_one); at_most = omega (arith, m.at_most) })).left h refl m)

pub payable_hauls : (road : Road) (plan : Plan) → IsWellFormed road → Fits road plan → IsAdmissible road plan → HasPayableHauls road plan
payable_hauls road plan ok f a = record { right = right_small road plan ok f a; left = left_small road plan ok f a }

-- ---- an ordinate is what the sections before the hop give

counted : (road : Road) (t count : ℕ) → IsNumber t road.stages → at_each_stage road t count ≡ count
counted road t count n = let low = n.from_one in let high = n.at_most in grind (arith, nat_tests)

balanced : (road : Road) (plan : Plan) → IsAdmissible road plan → (t i : ℕ) → IsNumber t road.stages → IsNumber i (section_count road) → IsBalanced road plan t i
unfolding Keeps place_count
balanced road plan a t i stage n =
    a.keeps P7 t i (record { from_one = n.from_one; at_most = omega (arith, n.at_most, counted road t (section_count road) stage) })

pub ordinate_sum : (road : Road) (plan : Plan) → IsAdmissible road plan → (t h : ℕ) → IsNumber t road.stages → h ≤ section_count road → pos 1000 *ℤ ordinate plan t h ≡ sum_to (surplus road plan t) h
ordinate_sum road plan a t zero stage l = refl
ordinate_sum road plan a t (suc h) stage l =
    let before = ordinate_sum road plan a t h stage (omega arith) in
    let same = balanced road plan a t (suc h) stage (record { from_one = omega arith; at_most = l }) in
    let e : suc h - 1 ≡ h = omega arith in
    let right = ap (λ k. amount plan.right t k) e in
    let left = ap (λ k. amount plan.left t k) e in
    omega (arith, ints)

pub few_sections : (road : Road) → IsWellFormed road → (h : ℕ) → IsNumber h (hop_count road) → h ≤ section_count road
few_sections road ok h n = omega (arith, n.at_most, ok.counted.hops_count)

-- ---- widths

pub net_fits : (a b : ℤ) → IsModerate a → IsModerate b → FitsSigned w128 (a -ℤ b)
net_fits a b p q = fits_w128 (a -ℤ b) (omega (arith, ints))

pub net_small : (a b : ℤ) → IsModerate a → IsModerate b → unsigned_abs (a -ℤ b) < 2 ^ 127
net_small a b p q = omega (arith, ints)

pub both_fit : (a b : ℤ) → unsigned_abs a ≤ 10 ^ 14 * 2 ^ 40 → unsigned_abs b ≤ 10 ^ 14 * 2 ^ 40 → FitsSigned w128 (a +ℤ b)
both_fit a b p q = fits_w128 (a +ℤ b) (omega (arith, ints))

pub both_small : (a b : ℤ) → unsigned_abs a ≤ 10 ^ 14 * 2 ^ 40 → unsigned_abs b ≤ 10 ^ 14 * 2 ^ 40 → unsigned_abs (a +ℤ b) ≤ 2 * 10 ^ 14 * 2 ^ 40
both_small a b p q = omega (arith, ints)

next_section : (road : Road) → IsWellFormed road → (h : ℕ) → IsNumber h (hop_count road) → IsNumber (h + 1) (section_count road)
next_section road ok h n = record { from_one = omega arith; at_most = omega (arith, n.at_most, n.from_one, ok.counted.hops_count) }

this_section : (road : Road) → IsWellFormed road → (h : ℕ) → IsNumber h (hop_count road) → IsNumber h (section_count road)
this_section road ok h n = record { from_one = n.from_one; at_most = omega (arith, n.at_most, ok.counted.hops_count) }

pub steps_small : (road : Road) → IsWellFormed road → (h : ℕ) → IsNumber h (hop_count road) → unsigned_abs ((section road (h + 1)).station -ℤ (section road h).station) ≤ 10 ^ 5
steps_small road ok h n =
    let a = (ok.sections (h + 1) (next_section road ok h n)).station in
    let b = (ok.sections h (this_section road ok h n)).station in
    omega (arith, ints, a.at_least, a.at_most, b.at_least, b.at_most)

pub metres_small : (road : Road) → IsWellFormed road → (h : ℕ) → IsNumber h (hop_count road)
    → unsigned_abs (road.step *ℤ ((section road (h + 1)).station -ℤ (section road h).station)) ≤ 10 ^ 8
metres_small road ok h n =
    let step : unsigned_abs road.step ≤ 10 ^ 3 = omega (arith, ints, ok.step.at_least, ok.step.at_most) in
    omega (arith, unsigned_abs_mul_le road.step ((section road (h + 1)).station -ℤ (section road h).station) (10 ^ 3) (10 ^ 5) step (steps_small road ok h n))

pub moment_small : (road : Road) (plan : Plan) → IsWellFormed road → HasPayableHauls road plan → (t h : ℕ) → IsNumber t road.stages → IsNumber h (hop_count road)
    → unsigned_abs (hop_moment road plan t h) ≤ 2 * 10 ^ 22 * 2 ^ 40
moment_small road plan ok paid t h stage n =
    let both = both_small (amount plan.right t h) (amount plan.left t h) (paid.right t h stage n) (paid.left t h stage n) in
    omega (arith, unsigned_abs_mul_le (amount plan.right t h +ℤ amount plan.left t h) (road.step *ℤ ((section road (h + 1)).station -ℤ (section road h).station)) (2 * 10 ^ 14 * 2 ^ 40) (10 ^ 8) both (metres_small road ok h n))

pub few_hops_at_all : (road : Road) → IsWellFormed road → hop_count road ≤ 59
few_hops_at_all road ok = omega (arith, ok.counted.hops_count, ok.counted.sections_to)

-- a peak is the magnitude of a net haul, or 0
pub peak_small : (o : ℕ → ℤ) (most h : ℕ) → ((k : ℕ) → unsigned_abs (o k) < most) → 0 < most → peak_of o h < most
peak_small o most zero each some = some
peak_small o most (suc h) each some =
    chosen_small (same_way (o h) (o (suc h))) most (peak_of o h) (unsigned_abs (o (suc h))) (peak_small o most h each some) (each (suc h))
  where
    chosen_small : (b : Bool) (most peak next : ℕ) → peak < most → next < most → (if b then max peak next else next) < most
    chosen_small true most peak next p q = omega arith
    chosen_small false most peak next p q = q

-- ---- the zones of a stage

past_hops : (road : Road) (plan : Plan) → IsWellFormed road → Fits road plan → (rows : List (List ℤ)) → IsTableOf road.stages (section_count road - 1) rows → (t : ℕ) → IsNumber t road.stages
    → amount rows t (hop_count road + 1) ≡ pos 0
past_hops road plan ok f rows table t stage =
    numbered_past (pos 0) (numbered [] rows t) (hop_count road + 1) (omega (arith, table.each_length t stage, ok.counted.hops_count))

pub zones_of_a_stage : (road : Road) (plan : Plan) → IsWellFormed road → Fits road plan → (t : ℕ) → IsNumber t road.stages
    → AreZones (ordinate plan t) (hop_count road) (zones_of (ordinate plan t) (hop_count road))
zones_of_a_stage road plan ok f t stage =
    are_zones (ordinate plan t) (hop_count road) refl
    (ap₂ (λ a b. a -ℤ b) (past_hops road plan ok f plan.right f.is_plan.right t stage) (past_hops road plan ok f plan.left f.is_plan.left t stage))

-- ---- rows

pub five_cells : (a b c d e : Cell) (s t u v w : List ℕ) (before after : List ℕ) → IsWrittenAs a s → IsWrittenAs b t → IsWrittenAs c u → IsWrittenAs d v → IsWrittenAs e w
    → after ≡ before ++ row_text default_writer (s ∷ t ∷ u ∷ v ∷ w ∷ []) → Adds (row (a ∷ b ∷ c ∷ d ∷ e ∷ []) ∷ []) before after
five_cells a b c d e s t u v w before after p q r k l is = row_added (a ∷ b ∷ c ∷ d ∷ e ∷ []) (s ∷ t ∷ u ∷ v ∷ w ∷ []) before after (p, (q, (r, (k, (l, tt))))) is

map_both : {A B : Type 0} (f : A → B) (xs ys : List A) → map f (xs ++ ys) ≡ map f xs ++ map f ys
map_both f [] ys = refl
map_both f (x ∷ xs) ys = ap (λ zs. f x ∷ zs) (map_both f xs ys)

-- the lines of one more hop's zones
pub more_zones_added : (line : Zone → Line) (o : ℕ → ℤ) (k : ℕ) (before between after : List ℕ) → Adds (map line (zones_of o k)) before between → Adds (map line (zones_at o (k + 1))) between after
    → Adds (map line (zones_of o (k + 1))) before after
more_zones_added line o k before between after h e =
    let next : k + 1 ≡ suc k = omega arith in
    let last = rw next at e in
    rw next (rw (map_both line (zones_of o k) (zones_at o (suc k))) (both_added (map line (zones_of o k)) (map line (zones_at o (suc k))) before between after h last))

-- ---- a run up to the next hop

pub next_first : (o : ℕ → ℤ) (k first new : ℕ) → first ≡ first_of o k → new ≡ (if same_way (o k) (o (k + 1)) then first else k + 1) → new ≡ first_of o (k + 1)
next_first o k first new p q =
    let next : k + 1 ≡ suc k = omega arith in
    let here = rw next at (rw p at q) in
    rw next here

pub next_peak : (o : ℕ → ℤ) (k peak new : ℕ) → peak ≡ peak_of o k → new ≡ (if same_way (o k) (o (k + 1)) then max peak (unsigned_abs (o (k + 1))) else unsigned_abs (o (k + 1)))
    → new ≡ peak_of o (k + 1)
next_peak o k peak new p q =
    let next : k + 1 ≡ suc k = omega arith in
    let here = rw next at (rw p at q) in
    rw next here

pub ordinate_small : (plan : Plan) → HasModerateHauls plan → (t h : ℕ) → unsigned_abs (ordinate plan t h) < 2 ^ 127
ordinate_small plan m t h = net_small (amount plan.right t h) (amount plan.left t h) (m.right t h) (m.left t h)

-- the zones of what was found
pub found_zones : (road : Road) (plan : Option Plan) → IsWellFormed road → IsReportable road plan
    → IfSome plan (λ p. (t : ℕ) → IsNumber t road.stages → AreZones (ordinate p t) (hop_count road) (zones_of (ordinate p t) (hop_count road)))
found_zones road None ok h = tt
found_zones road (Some plan) ok h = λ t stage. zones_of_a_stage road plan ok h.0 t stage

-- the lines of the zone that ends with a hop
pub no_zone_added : (line : Zone → Line) (o : ℕ → ℤ) (h : ℕ) (before : List ℕ) → same_way (o h) (o (h + 1)) ≡ true → Adds (map line (zones_at o h)) before before
no_zone_added line o h before e = rw e (nothing_added before)

pub zone_added : (line : Zone → Line) (o : ℕ → ℤ) (h first peak : ℕ) (before after : List ℕ) → first ≡ first_of o h → peak ≡ peak_of o h → same_way (o h) (o (h + 1)) ≡ false
    → Adds (map line (zone_in (direction_of (o h)) first h peak)) before after → Adds (map line (zones_at o h)) before after
zone_added line o h first peak before after p q e a = rw e (rw (p, q) at a)
