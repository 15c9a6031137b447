use Rattle.std.proofs.Common.{rules, FitsSigned, arith}
use Rattle.std.specs.Int.{w64, w128}
use Rattle.std.proofs.lemmas.Int.{to_z-of_z}
use Rattle.algebra.proofs.Magnitudes.{fits_w128}
use Rattle.plan_rules.specs.Costs.{entry_cost}
use Rattle.plan_rules.proofs.CostWidths.{entry_cost_width}
use Rattle.plan_rules.proofs.costs.entry_cost.Goals as goal

pub times-requires : goal.times-requires
times-requires c =
    let road = c.args.road.now in
    let plan = c.args.plan.now in
    let width = entry_cost_width road plan c.requires.well_formed c.requires.payable c.args.movement c.args.stage c.args.number c.requires.stage c.requires.number in
    let fits = fits_w128 (entry_cost road plan c.args.movement c.args.stage c.args.number) (omega (arith, width)) in
    let unit : FitsSigned w64 c.entry_unit_cost-unit.result = search rules in
    let amount : FitsSigned w128 c.amount_at.result = search rules in
    let wide : FitsSigned w128 c.from.result = search rules in
    let from = simp to_z-of_z at c.from.ensures in
    simp to_z-of_z (rw (from, c.entry_unit_cost-unit.ensures, c.amount_at.ensures, c.amounts_of.ensures) fits)
