-- How large sums and differences of moderate amounts are.
use Rattle.std.proofs.Common.{ℕ, ◌*◌, ◌^◌, ◌≤◌, arith, Bool, true, false, cond}
use Rattle.std.specs.Prelude.{ℤ, pos, ◌-ℤ◌, unsigned_abs}
use Rattle.std.proofs.lemmas.Int.{ints}
use Rattle.algebra.proofs.SumsLemmas.{unsigned_abs_sum_to}
use Rattle.road_types.specs.declared.road.Road.{Road}
use Rattle.road_types.specs.declared.road.PitKind.{PitKind}
use Rattle.plan_rules.specs.declared.plan.Plan.{Plan}
use Rattle.plan_rules.specs.Plans.{amount}
use Rattle.plan_rules.specs.Fits.{IsModerate}
use Rattle.plan_rules.specs.inside.FitsByParts.{HasModerateAmounts}
use Rattle.plan_rules.specs.Rules.{fill_less_cut, access_share, access_amount, pit_share}

pub moderate_difference : (a b : ℤ) → IsModerate a → IsModerate b → unsigned_abs (a -ℤ b) ≤ 2 * 10 ^ 30
moderate_difference a b p q = omega (arith, ints)

pub fill_less_cut_width : (plan : Plan) → HasModerateAmounts plan → (i t : ℕ) → unsigned_abs (fill_less_cut plan i t) ≤ 2 * 10 ^ 30
fill_less_cut_width plan h i t = moderate_difference (amount plan.fill t i) (amount plan.cut t i) (h.fill t i) (h.cut t i)

choice_width : (b : Bool) (x : ℤ) (n : ℕ) → unsigned_abs x ≤ n → unsigned_abs (cond b x (pos 0)) ≤ n
choice_width true x n h = h
choice_width false x n h = omega arith

pub access_share_width : (road : Road) (plan : Plan) → HasModerateAmounts plan → (kind : PitKind) (t i q : ℕ) → unsigned_abs (access_share road plan kind t i q) ≤ 10 ^ 30
access_share_width road plan h kind t i q = choice_width _ (amount plan.roads t q) (10 ^ 30) (omega (arith, h.roads t q))

pub access_amount_width : (plan : Plan) → HasModerateAmounts plan → (q stages : ℕ) → stages ≤ 4 → unsigned_abs (access_amount plan q stages) ≤ 4 * 10 ^ 30
access_amount_width plan h q stages few =
    omega (arith, unsigned_abs_sum_to (λ t. amount plan.roads t q) (10 ^ 30) stages (λ t _ _. omega (arith, h.roads t q)))

pub pit_share_width : (road : Road) (plan : Plan) → HasModerateAmounts plan → road.stages ≤ 4 → (p q : ℕ) → unsigned_abs (pit_share road plan p q) ≤ 4 * 10 ^ 30
pit_share_width road plan h few p q = choice_width _ (access_amount plan q road.stages) (4 * 10 ^ 30) (access_amount_width plan h q road.stages few)
