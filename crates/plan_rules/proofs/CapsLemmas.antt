-- The amount that is counted at a place of a stage, by the group in which the place lies.
use Rattle.std.proofs.Common.{◌≡◌, ℕ, ◌+◌, ◌-◌, ◌≤◌, arith, subst}
use Rattle.road_types.specs.Numbered.{IsNumber}
use Rattle.road_types.specs.Road.{section, hop, access, section_count, access_count}
use Rattle.road_types.specs.declared.road.Road.{Road}
use Rattle.plan_rules.specs.declared.plan.Plan.{Plan}
use Rattle.plan_rules.specs.Plans.{amount}
use Rattle.plan_rules.specs.Rules.{IsAmountCapped, IsCapped, fill_before, right_before, left_before, roads_before}

pub cut_capped : (road : Road) (plan : Plan) (t place : ℕ) → place ≤ section_count road → IsCapped (section road place).cut_max plan.den (amount plan.cut t place) → IsAmountCapped road plan t place
cut_capped road plan t place l h =
    record {
      cut = λ _. h;
      fill = λ i e n. absurd (omega (arith, n.from_one));
      right = λ i e n. absurd (omega (arith, n.from_one));
      left = λ i e n. absurd (omega (arith, n.from_one));
      roads = λ i e n. absurd (omega (arith, n.from_one));
    }

pub fill_capped : (road : Road) (plan : Plan) (t place i : ℕ) → place ≡ fill_before road + i → IsNumber i (section_count road) → IsCapped (section road i).fill_max plan.den (amount plan.fill t i) → IsAmountCapped road plan t place
fill_capped road plan t place i at number h =
    record {
      cut = λ n. absurd (omega (arith, n.at_most, number.from_one));
      fill = λ j e n. let same : i ≡ j = omega arith in subst (λ (k : ℕ). IsCapped (section road k).fill_max plan.den (amount plan.fill t k)) same h;
      right = λ j e n. absurd (omega (arith, n.from_one, number.at_most));
      left = λ j e n. absurd (omega (arith, n.from_one, number.at_most));
      roads = λ j e n. absurd (omega (arith, n.from_one, number.at_most));
    }

pub right_capped : (road : Road) (plan : Plan) (t place i : ℕ) → place ≡ right_before road + i → IsNumber i (section_count road - 1) → IsCapped (hop road i).right_max plan.den (amount plan.right t i) → IsAmountCapped road plan t place
right_capped road plan t place i at number h =
    record {
      cut = λ n. absurd (omega (arith, n.at_most, number.from_one));
      fill = λ j e n. absurd (omega (arith, n.at_most, number.from_one));
      right = λ j e n. let same : i ≡ j = omega arith in subst (λ (k : ℕ). IsCapped (hop road k).right_max plan.den (amount plan.right t k)) same h;
      left = λ j e n. absurd (omega (arith, n.from_one, number.at_most));
      roads = λ j e n. absurd (omega (arith, n.from_one, number.at_most));
    }

pub left_capped : (road : Road) (plan : Plan) (t place i : ℕ) → place ≡ left_before road + i → IsNumber i (section_count road - 1) → IsCapped (hop road i).left_max plan.den (amount plan.left t i) → IsAmountCapped road plan t place
left_capped road plan t place i at number h =
    record {
      cut = λ n. absurd (omega (arith, n.at_most, number.from_one));
      fill = λ j e n. absurd (omega (arith, n.at_most, number.from_one));
      right = λ j e n. absurd (omega (arith, n.at_most, number.from_one));
      left = λ j e n. let same : i ≡ j = omega arith in subst (λ (k : ℕ). IsCapped (hop road k).left_max plan.den (amount plan.left t k)) same h;
      roads = λ j e n. absurd (omega (arith, n.from_one, number.at_most));
    }

pub roads_capped : (road : Road) (plan : Plan) (t place i : ℕ) → place ≡ roads_before road + i → IsNumber i (access_count road) → IsCapped (access road i).max plan.den (amount plan.roads t i) → IsAmountCapped road plan t place
roads_capped road plan t place i at number h =
    record {
      cut = λ n. absurd (omega (arith, n.at_most, number.from_one));
      fill = λ j e n. absurd (omega (arith, n.at_most, number.from_one));
      right = λ j e n. absurd (omega (arith, n.at_most, number.from_one));
      left = λ j e n. absurd (omega (arith, n.at_most, number.from_one));
      roads = λ j e n. let same : i ≡ j = omega arith in subst (λ (k : ℕ). IsCapped (access road k).max plan.den (amount plan.roads t k)) same h;
    }
