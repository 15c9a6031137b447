use Rattle.std.proofs.Common.{◌≡◌, ◌+◌, ◌-◌, ◌*◌, arith}
use Rattle.road_types.specs.Numbered.{IsNumber}
use Rattle.road_types.specs.Road.{section_count, access_count}
use Rattle.plan_rules.specs.Rules.{fill_before, right_before, left_before, roads_before}
use Rattle.plan_rules.proofs.CapsLemmas.{fill_capped, right_capped, left_capped, roads_capped}
use Rattle.plan_rules.proofs.rules.caps.is_amount_capped.Goals as goal

pub returns-then-place-right : goal.returns-then-place-right
returns-then-place-right c =
    let road = c.args.road.now in
    let i = c.args.place - c.len-sections.result in
    let at : c.args.place ≡ fill_before road + i = omega (arith, c.requires.well_formed.counted.hops_count, c.len-sections.ensures, c.len-hops.ensures) in
    let number : IsNumber i (section_count road) = record { from_one = omega (arith, c.requires.well_formed.counted.hops_count, c.len-sections.ensures, c.len-hops.ensures); at_most = omega (arith, c.requires.well_formed.counted.hops_count, c.len-sections.ensures, c.len-hops.ensures, c.requires.place.at_most) } in
    (λ t. fill_capped road c.args.plan.now c.args.stage c.args.place i at number (c.is_fill_capped.ensures.0 t), λ h. c.is_fill_capped.ensures.1 (h.fill i at number))

pub returns-then-place-left : goal.returns-then-place-left
returns-then-place-left c =
    let road = c.args.road.now in
    let i = c.args.place - 2 * c.len-sections.result in
    let at : c.args.place ≡ right_before road + i = omega (arith, c.requires.well_formed.counted.hops_count, c.len-sections.ensures, c.len-hops.ensures) in
    let number : IsNumber i (section_count road - 1) = record { from_one = omega (arith, c.requires.well_formed.counted.hops_count, c.len-sections.ensures, c.len-hops.ensures); at_most = omega (arith, c.requires.well_formed.counted.hops_count, c.len-sections.ensures, c.len-hops.ensures, c.requires.place.at_most) } in
    (λ t. right_capped road c.args.plan.now c.args.stage c.args.place i at number (c.is_right_capped.ensures.0 t), λ h. c.is_right_capped.ensures.1 (h.right i at number))

pub returns-then-place-roads : goal.returns-then-place-roads
returns-then-place-roads c =
    let road = c.args.road.now in
    let i = c.args.place - (2 * c.len-sections.result + c.len-hops.result) in
    let at : c.args.place ≡ left_before road + i = omega (arith, c.requires.well_formed.counted.hops_count, c.len-sections.ensures, c.len-hops.ensures) in
    let number : IsNumber i (section_count road - 1) = record { from_one = omega (arith, c.requires.well_formed.counted.hops_count, c.len-sections.ensures, c.len-hops.ensures); at_most = omega (arith, c.requires.well_formed.counted.hops_count, c.len-sections.ensures, c.len-hops.ensures, c.requires.place.at_most) } in
    (λ t. left_capped road c.args.plan.now c.args.stage c.args.place i at number (c.is_left_capped.ensures.0 t), λ h. c.is_left_capped.ensures.1 (h.left i at number))

pub returns-else-place-roads : goal.returns-else-place-roads
returns-else-place-roads c =
    let road = c.args.road.now in
    let i = c.args.place - (2 * c.len-sections.result + c.len-hops.result + c.len-hops.result) in
    let at : c.args.place ≡ roads_before road + i = omega (arith, c.requires.well_formed.counted.hops_count, c.len-sections.ensures, c.len-hops.ensures) in
    let number : IsNumber i (access_count road) = record { from_one = omega (arith, c.requires.well_formed.counted.hops_count, c.len-sections.ensures, c.len-hops.ensures); at_most = omega (arith, c.requires.well_formed.counted.hops_count, c.len-sections.ensures, c.len-hops.ensures, c.requires.place.at_most) } in
    (λ t. roads_capped road c.args.plan.now c.args.stage c.args.place i at number (c.is_access_capped.ensures.0 t), λ h. c.is_access_capped.ensures.1 (h.roads i at number))
