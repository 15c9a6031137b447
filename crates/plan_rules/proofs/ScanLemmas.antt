-- What a scan over rules, stages and places knows on its way.
use Rattle.std.proofs.Common.{◌≡◌, ℕ, zero, suc, ◌+◌, ◌-◌, ◌*◌, ◌^◌, ◌≤◌, ◌<◌, arith, refl, Bool, true, false, cond, List, [], ◌∷◌, get_or}
use Rattle.std.specs.Prelude.{ℤ, pos, unsigned_abs}
use Rattle.std.proofs.lemmas.Int.{ints}
use Rattle.std.proofs.lemmas.Bool.Decides.{nat_tests}
use Rattle.road_types.specs.Numbered.{IsNumber}
use Rattle.road_types.specs.Road.{section, hop, access, segment_count, fixed_count, section_count, pit_count, block_count}
use Rattle.road_types.specs.WellFormed.{IsWellFormed, IsCap}
use Rattle.road_types.specs.declared.road.Road.{Road}
use Rattle.plan_rules.specs.declared.plan.Plan.{Plan}
use Rattle.plan_rules.specs.declared.verdict.Rule.{Rule}
use Rattle.plan_rules.specs.declared.verdict.Rule.TheVariants.{P1, P2, P3, P4, P5, P6, P7, P8, P9}
use Rattle.plan_rules.specs.Plans.{amount}
use Rattle.plan_rules.specs.Fits.{Fits}
use Rattle.plan_rules.specs.Rules.{Keeps, IsPlace, place_count, rule_number, at_no_stage, at_each_stage, amount_count, fill_before, right_before, left_before, roads_before, IsAmountCapped, IsCapped, IsLimited, IsAdmissible, IsFirstBroken}
use Rattle.plan_rules.specs.inside.Scans.{KeepsLesser}
use Rattle.plan_rules.specs.inside.Widths.{IsPayableAmount, IsPayable}
use Rattle.algebra.specs.Scale.{IsScale}
use Rattle.plan_rules.specs.declared.costs.Movement.{Movement}
use Rattle.plan_rules.specs.declared.costs.Movement.TheVariants.{Cut, Fill, Right, Left, Access}
use Rattle.plan_rules.specs.Costs.{amounts_of, entry_count}
use Rattle.plan_rules.proofs.HeightWidths.{within_width}

-- where a rule after the first is tried, every segment's numbers are within the road's limits
pub limited_before : (road : Road) (plan : Plan) (rule : Rule) → 1 < rule_number rule → KeepsLesser road plan rule → IsLimited road plan
unfolding Keeps place_count
limited_before road plan rule l h = record { each = λ g n. h.each P1 0 g l n }

-- so are they in an admissible plan
pub limited_of_admissible : (road : Road) (plan : Plan) → IsAdmissible road plan → IsLimited road plan
unfolding Keeps place_count
limited_of_admissible road plan h = record { each = λ g n. h.keeps P1 0 g n }

-- and in a plan whose first broken rule is a later one
pub limited_of_broken : (road : Road) (plan : Plan) (rule : Rule) (stage place : ℕ) → 1 < rule_number rule → IsFirstBroken road plan rule stage place → IsLimited road plan
limited_of_broken road plan rule stage place l h = limited_before road plan rule l (record { each = h.lesser_rules })

no_stage : (stage count : ℕ) → 1 ≤ at_no_stage stage count → stage ≡ 0
no_stage stage count h = grind (arith, nat_tests)

each_stage : (road : Road) (stage count : ℕ) → 1 ≤ at_each_stage road stage count → stage ≤ road.stages
each_stage road stage count h = grind (arith, nat_tests)

either_stage : (road : Road) (stage none each : ℕ) → 1 ≤ at_no_stage stage none + at_each_stage road stage each → stage ≤ road.stages
either_stage road stage none each h = grind (arith, nat_tests)

-- no rule has a place at a stage that the road doesn't have
pub stage_of_place : (road : Road) (rule : Rule) (s p : ℕ) → IsPlace road rule s p → s ≤ road.stages
unfolding place_count
stage_of_place road P1 s p n = omega (arith, no_stage s (segment_count road) (omega (arith, n.from_one, n.at_most)))
stage_of_place road P2 s p n = omega (arith, no_stage s (segment_count road - 1) (omega (arith, n.from_one, n.at_most)))
stage_of_place road P3 s p n = omega (arith, no_stage s (segment_count road) (omega (arith, n.from_one, n.at_most)))
stage_of_place road P4 s p n = omega (arith, no_stage s (fixed_count road) (omega (arith, n.from_one, n.at_most)))
stage_of_place road P5 s p n = omega (arith, no_stage s (section_count road) (omega (arith, n.from_one, n.at_most)))
stage_of_place road P6 s p n = either_stage road s (pit_count road) (amount_count road) (omega (arith, n.from_one, n.at_most))
stage_of_place road P7 s p n = each_stage road s (section_count road) (omega (arith, n.from_one, n.at_most))
stage_of_place road P8 s p n = omega (arith, no_stage s (block_count road) (omega (arith, n.from_one, n.at_most)))
stage_of_place road P9 s p n = each_stage road s (block_count road) (omega (arith, n.from_one, n.at_most))

chosen : (b : Bool) (count p : ℕ) → IsNumber p (cond b count 0) → IsNumber p count
chosen true count p n = n
chosen false count p n = absurd (omega (arith, n.from_one, n.at_most))

-- a place of a rule without stages, and one in each stage
pub place_at_no_stage : (stage count p : ℕ) → IsNumber p (at_no_stage stage count) → IsNumber p count
place_at_no_stage stage count p n = chosen _ count p n

pub place_at_each_stage : (road : Road) (stage count p : ℕ) → IsNumber p (at_each_stage road stage count) → IsNumber p count
place_at_each_stage road stage count p n = chosen _ count p n

-- the rules in the order of their numbers
abbrev pub all_rules : List Rule
all_rules = P1 ∷ P2 ∷ P3 ∷ P4 ∷ P5 ∷ P6 ∷ P7 ∷ P8 ∷ P9 ∷ []

pub number_in_order : (k : ℕ) (other : Rule) → k < 9 → rule_number (get_or all_rules k other) ≡ k + 1
number_in_order zero other l = refl
number_in_order (suc zero) other l = refl
number_in_order (suc (suc zero)) other l = refl
number_in_order (suc (suc (suc zero))) other l = refl
number_in_order (suc (suc (suc (suc zero)))) other l = refl
number_in_order (suc (suc (suc (suc (suc zero))))) other l = refl
number_in_order (suc (suc (suc (suc (suc (suc zero)))))) other l = refl
number_in_order (suc (suc (suc (suc (suc (suc (suc zero))))))) other l = refl
number_in_order (suc (suc (suc (suc (suc (suc (suc (suc zero)))))))) other l = refl
number_in_order (suc (suc (suc (suc (suc (suc (suc (suc (suc k))))))))) other l = absurd (omega arith)

-- the amounts of a stage are places of the sixth rule

counted : (road : Road) (stage none each : ℕ) → IsNumber stage road.stages → at_no_stage stage none + at_each_stage road stage each ≡ each
counted road stage none each n = let low = n.from_one in let high = n.at_most in grind (arith, nat_tests)

amount_place : (road : Road) (t place : ℕ) → IsNumber t road.stages → IsNumber place (amount_count road) → IsPlace road P6 t place
unfolding place_count
amount_place road t place stage n =
    record { from_one = n.from_one; at_most = omega (arith, n.at_most, counted road t (pit_count road) (amount_count road) stage) }

-- every place of the sixth rule is kept
abbrev pub KeepsAllCaps : Road → Plan → Type 0
KeepsAllCaps road plan = (t place : ℕ) → IsPlace road P6 t place → Keeps road plan P6 t place

amount_kept : (road : Road) (plan : Plan) → KeepsAllCaps road plan → (t place : ℕ) → IsNumber t road.stages → IsNumber place (amount_count road) → IsAmountCapped road plan t place
unfolding Keeps
amount_kept road plan h zero place stage n = absurd (omega (arith, stage.from_one))
amount_kept road plan h (suc t) place stage n = h (suc t) place (amount_place road (suc t) place stage n)

capped_width : (cap den x : ℤ) → IsCap cap → IsScale den → IsCapped cap den x → unsigned_abs x ≤ 10 ^ 14 * 2 ^ 40
capped_width cap den x c d h =
    let small : unsigned_abs cap ≤ 10 ^ 14 = omega (arith, ints, c.at_least, c.at_most) in
    omega (arith, within_width (pos 0) cap den x (10 ^ 14) d (omega arith) small h)

-- where every amount is within its cap, its cost fits
payable_amount : (road : Road) (plan : Plan) → IsWellFormed road → Fits road plan → KeepsAllCaps road plan → (m : Movement) (t i : ℕ) → IsNumber t road.stages → IsNumber i (entry_count road m)
    → IsPayableAmount (amount (amounts_of plan m) t i)
payable_amount road plan ok f h Cut t i stage n =
    capped_width (section road i).cut_max plan.den (amount plan.cut t i) (ok.sections i n).cut_max f.den
    ((amount_kept road plan h t i stage (record { from_one = n.from_one; at_most = omega (arith, n.at_most) })).cut n)
payable_amount road plan ok f h Fill t i stage n =
    capped_width (section road i).fill_max plan.den (amount plan.fill t i) (ok.sections i n).fill_max f.den
    ((amount_kept road plan h t (fill_before road + i) stage (record { from_one = omega (arith, n.from_one); at_most = omega (arith, n.at_most) })).fill i refl n)
payable_amount road plan ok f h Right t i stage n =
    let m : IsNumber i (section_count road - 1) = rw ok.counted.hops_count at n in
    capped_width (hop road i).right_max plan.den (amount plan.right t i) (ok.hops i n).right_max f.den
    ((amount_kept road plan h t (right_before road + i) stage (record { from_one = omega (arith, m.from_one); at_most = omega (arith, m.at_most) })).right i refl m)
payable_amount road plan ok f h Left t i stage n =
    let m : IsNumber i (section_count road - 1) = rw ok.counted.hops_count at n in
    capped_width (hop road i).left_max plan.den (amount plan.left t i) (ok.hops i n).left_max f.den
    ((amount_kept road plan h t (left_before road + i) stage (record { from_one = omega (arith, m.from_one); at_most = omega (arith, m.at_most) })).left i refl m)
payable_amount road plan ok f h Access t q stage n =
    capped_width (access road q).max plan.den (amount plan.roads t q) (ok.roads q n).max f.den
    ((amount_kept road plan h t (roads_before road + q) stage (record { from_one = omega (arith, n.from_one); at_most = omega (arith, n.at_most) })).roads q refl n)

pub payable : (road : Road) (plan : Plan) → IsWellFormed road → Fits road plan → KeepsAllCaps road plan → IsPayable road plan
payable road plan ok f h = record { each = payable_amount road plan ok f h }
