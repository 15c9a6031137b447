-- What an admissible plan keeps, fact by fact, and the other way round.
use Rattle.std.proofs.Common.{◌≡◌, ℕ, zero, suc, ◌+◌, ◌-◌, Bool, true, false, cond, arith, ap, sym, refl, subst}
use Rattle.std.specs.Prelude.{nat_le, ◌==◌, ◌&&◌, if◌then◌else◌}
use Rattle.std.proofs.lemmas.Bool.Decides.{nat_tests}
use Rattle.road_types.specs.Numbered.{IsNumber}
use Rattle.road_types.specs.Road.{section, hop, access, section_count, segment_count, fixed_count, pit_count, access_count, block_count}
use Rattle.road_types.specs.declared.road.Road.{Road}
use Rattle.plan_rules.specs.declared.plan.Plan.{Plan}
use Rattle.plan_rules.specs.declared.verdict.Rule.{Rule}
use Rattle.plan_rules.specs.declared.verdict.Rule.TheVariants.{P1, P2, P3, P4, P5, P6, P7, P8, P9}
use Rattle.plan_rules.specs.Plans.{IsPlanOf, amount, opening}
use Rattle.plan_rules.specs.Rules.{IsInLimits, IsContinuous, EndsInGrade, PassesFixedPoint, HasItsVolume, IsCapped, IsAmountCapped, KeepsCaps, IsPitCapped, IsBalanced, IsOpening, RespectsBlock, Keeps, place_count, at_no_stage, at_each_stage, amount_count, fill_before, right_before, left_before, roads_before, IsPlace, IsAdmissible}

pub record PlanFacts (road : Road) (plan : Plan) : Type 0 where
  pub limits : (g : ℕ) → IsNumber g (segment_count road) → IsInLimits road plan g
  pub continuous : (g : ℕ) → IsNumber g (segment_count road - 1) → IsContinuous road plan g
  pub grade_end : (g : ℕ) → IsNumber g (segment_count road) → EndsInGrade road plan g
  pub fixed : (p : ℕ) → IsNumber p (fixed_count road) → PassesFixedPoint road plan p
  pub volume : (i : ℕ) → IsNumber i (section_count road) → HasItsVolume road plan i
  pub cut : (t i : ℕ) → IsNumber t road.stages → IsNumber i (section_count road) → IsCapped (section road i).cut_max plan.den (amount plan.cut t i)
  pub fill : (t i : ℕ) → IsNumber t road.stages → IsNumber i (section_count road) → IsCapped (section road i).fill_max plan.den (amount plan.fill t i)
  pub right : (t h : ℕ) → IsNumber t road.stages → IsNumber h (section_count road - 1) → IsCapped (hop road h).right_max plan.den (amount plan.right t h)
  pub left : (t h : ℕ) → IsNumber t road.stages → IsNumber h (section_count road - 1) → IsCapped (hop road h).left_max plan.den (amount plan.left t h)
  pub roads : (t q : ℕ) → IsNumber t road.stages → IsNumber q (access_count road) → IsCapped (access road q).max plan.den (amount plan.roads t q)
  pub pit : (p : ℕ) → IsNumber p (pit_count road) → IsPitCapped road plan p
  pub balance : (t i : ℕ) → IsNumber t road.stages → IsNumber i (section_count road) → IsBalanced road plan t i
  pub opening : (k : ℕ) → IsNumber k (block_count road) → IsOpening road (opening plan k)
  pub block : (t k : ℕ) → IsNumber t road.stages → IsNumber k (block_count road) → RespectsBlock road plan t k

-- ---- places

stage_test : (road : Road) (t : ℕ) → IsNumber t road.stages → (nat_le 1 t && nat_le t road.stages) ≡ true
stage_test road t n = let low = n.from_one in let high = n.at_most in grind (arith, nat_tests)

number_of_place : (b : Bool) (k n : ℕ) → IsNumber k (if b then n else 0) → (b ≡ true) × IsNumber k n
number_of_place true k n h = (refl, h)
number_of_place false k n h = absurd (omega (arith, h.from_one, h.at_most))

place_at_stage : (road : Road) (t k n : ℕ) → IsNumber t road.stages → IsNumber k n → IsNumber k (at_each_stage road t n)
place_at_stage road t k n s h = subst (λ (b : Bool). IsNumber k (if b then n else 0)) (sym (stage_test road t s)) h

stage_of_place : (road : Road) (t k n : ℕ) → IsNumber k (at_each_stage road t n) → IsNumber t road.stages × IsNumber k n
stage_of_place road t k n h =
    let p = number_of_place (nat_le 1 t && nat_le t road.stages) k n h in
    let test = p.0 in
    (record { from_one = grind (arith, nat_tests); at_most = grind (arith, nat_tests) }, p.1)

not_zero : (t : ℕ) → (suc t == 0) ≡ false
not_zero t = grind (arith, nat_tests)

-- the places of caps: those of pits stand at stage 0, the others at the road's stages
caps_count : (road : Road) (t n m : ℕ) → at_no_stage (suc t) n + at_each_stage road (suc t) m ≡ at_each_stage road (suc t) m
caps_count road t n m = let e = ap (λ b. cond b n 0) (not_zero t) in omega arith

caps_at_zero : (road : Road) (n m : ℕ) → at_no_stage 0 n + at_each_stage road 0 m ≡ n
caps_at_zero road n m = omega arith

-- ---- from an admissible plan

module _ (road : Road) (plan : Plan) where
  amount_capped : IsAdmissible road plan → (t place : ℕ) → IsNumber t road.stages → IsNumber place (amount_count road) → IsAmountCapped road plan t place
  unfolding Keeps place_count
  amount_capped h zero place s n = absurd (omega (arith, s.from_one))
  amount_capped h (suc t) place s n =
      h.keeps P6 (suc t) place
      (subst (λ (c : ℕ). IsNumber place c) (sym (caps_count road t (pit_count road) (amount_count road))) (place_at_stage road (suc t) place (amount_count road) s n))

  pub facts_of_admissible : IsAdmissible road plan → PlanFacts road plan
  unfolding Keeps place_count
  facts_of_admissible h = record {
    limits = λ g n. h.keeps P1 0 g n;
    continuous = λ g n. h.keeps P2 0 g n;
    grade_end = λ g n. h.keeps P3 0 g n;
    fixed = λ p n. h.keeps P4 0 p n;
    volume = λ i n. h.keeps P5 0 i n;
    cut = λ t i s n. (amount_capped h t i s (record { from_one = n.from_one; at_most = omega (arith, n.at_most) })).cut n;
    fill = λ t i s n. (amount_capped h t (fill_before road + i) s (record { from_one = omega (arith, n.from_one); at_most = omega (arith, n.at_most) })).fill i refl n;
    right = λ t i s n. (amount_capped h t (right_before road + i) s (record { from_one = omega (arith, n.from_one); at_most = omega (arith, n.at_most) })).right i refl n;
    left = λ t i s n. (amount_capped h t (left_before road + i) s (record { from_one = omega (arith, n.from_one); at_most = omega (arith, n.at_most) })).left i refl n;
    roads = λ t q s n. (amount_capped h t (roads_before road + q) s (record { from_one = omega (arith, n.from_one); at_most = omega (arith, n.at_most) })).roads q refl n;
    pit = λ p n. h.keeps P6 0 p (subst (λ (c : ℕ). IsNumber p c) (sym (caps_at_zero road (pit_count road) (amount_count road))) n);
    balance = λ t i s n. h.keeps P7 t i (place_at_stage road t i (section_count road) s n);
    opening = λ k n. h.keeps P8 0 k n;
    block = λ t k s n. h.keeps P9 t k (place_at_stage road t k (block_count road) s n);
  }

  -- ---- to an admissible plan

  caps_kept : PlanFacts road plan → (stage place : ℕ) → IsNumber place (at_no_stage stage (pit_count road) + at_each_stage road stage (amount_count road)) → KeepsCaps road plan stage place
  caps_kept f zero place n = f.pit place (subst (λ (c : ℕ). IsNumber place c) (caps_at_zero road (pit_count road) (amount_count road)) n)
  caps_kept f (suc t) place n =
      let s = stage_of_place road (suc t) place (amount_count road) (subst (λ (c : ℕ). IsNumber place c) (caps_count road t (pit_count road) (amount_count road)) n) in
      record {
        cut = λ m. f.cut (suc t) place s.0 m;
        fill = λ i e m. f.fill (suc t) i s.0 m;
        right = λ i e m. f.right (suc t) i s.0 m;
        left = λ i e m. f.left (suc t) i s.0 m;
        roads = λ q e m. f.roads (suc t) q s.0 m;
      }

  kept : PlanFacts road plan → (rule : Rule) (stage place : ℕ) → IsPlace road rule stage place → Keeps road plan rule stage place
  unfolding Keeps place_count
  kept f P1 stage g n = f.limits g (number_of_place (stage == 0) g (segment_count road) n).1
  kept f P2 stage g n = f.continuous g (number_of_place (stage == 0) g (segment_count road - 1) n).1
  kept f P3 stage g n = f.grade_end g (number_of_place (stage == 0) g (segment_count road) n).1
  kept f P4 stage p n = f.fixed p (number_of_place (stage == 0) p (fixed_count road) n).1
  kept f P5 stage i n = f.volume i (number_of_place (stage == 0) i (section_count road) n).1
  kept f P6 stage place n = caps_kept f stage place n
  kept f P7 stage i n = let s = stage_of_place road stage i (section_count road) n in f.balance stage i s.0 s.1
  kept f P8 stage k n = f.opening k (number_of_place (stage == 0) k (block_count road) n).1
  kept f P9 stage k n = let s = stage_of_place road stage k (block_count road) n in f.block stage k s.0 s.1

  pub admissible_of_facts : IsPlanOf road plan → PlanFacts road plan → IsAdmissible road plan
  admissible_of_facts p f = record { is_plan = p; keeps = kept f }
