use Rattle.std.proofs.Common.{FitsSigned, rules, sym, ◌∙◌, ◌+◌}
use Rattle.std.specs.Int.{w128}
use Rattle.std.proofs.lemmas.Int.{to_z-of_z}
use Rattle.report.specs.Mass.{ordinate, same_way, zone_line}
use Rattle.report.proofs.LinesLemmas.{ok_gives}
use Rattle.report.proofs.MassLemmas.{no_zone_added, zone_added}
use Rattle.report.proofs.zones.push_zone_at.Goals as goal

pub returns-then-same_way : goal.returns-then-same_way
returns-then-same_way c =
    let here : FitsSigned w128 c.net_haul-net.result = search rules in
    let next : FitsSigned w128 c.net_haul.result = search rules in
    let way = rw (c.net_haul-net.ensures.value, c.net_haul.ensures.value) at (simp to_z-of_z at c.same_way.ensures) in
    no_zone_added (zone_line c.args.plan.now c.args.stage) (ordinate c.args.plan.now c.args.stage) c.args.hop _ (sym {b = same_way (ordinate c.args.plan.now c.args.stage c.args.hop) (ordinate c.args.plan.now c.args.stage (c.args.hop + 1))} way ∙ c.if-same_way.true)

pub returns : goal.returns
returns c =
    let here : FitsSigned w128 c.net_haul-net.result = search rules in
    let next : FitsSigned w128 c.net_haul.result = search rules in
    let way = rw (c.net_haul-net.ensures.value, c.net_haul.ensures.value) at (simp to_z-of_z at c.same_way.ensures) in
    let direction = rw c.net_haul-net.ensures.value at (simp to_z-of_z at c.direction_of.ensures) in
    ok_gives c.push_zone_in.result c.push_zone_in.ensures
    (λ a. zone_added (zone_line c.args.plan.now c.args.stage) (ordinate c.args.plan.now c.args.stage) c.args.hop c.args.run.first c.args.run.peak _ _ c.requires.first c.requires.peak
    (sym {b = same_way (ordinate c.args.plan.now c.args.stage c.args.hop) (ordinate c.args.plan.now c.args.stage (c.args.hop + 1))} way ∙ c.if-same_way.false) (rw direction at a))
