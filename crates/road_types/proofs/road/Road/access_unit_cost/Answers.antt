use Rattle.std.proofs.Common.{◌≡◌, ap, ◌∙◌, FitsSigned, rules, arith}
use Rattle.std.specs.Prelude.{◌+ℤ◌}
use Rattle.std.specs.Int.{w64}
use Rattle.std.proofs.lemmas.Int.{ints, to_z-of_z}
use Rattle.road_types.specs.declared.road.Access.{Access}
use Rattle.road_types.specs.declared.road.Pit.{Pit}
use Rattle.road_types.specs.Road.{access, pit}
use Rattle.road_types.proofs.road.Road.access_unit_cost.Goals as goal

pub returns : goal.returns
returns c =
    let road = c.args.self.now in
    let own : FitsSigned w64 c.access-access.result.cost = search rules in
    let at_pit : FitsSigned w64 c.pit.result.now.cost = search rules in
    let own_is : c.access-access.result.cost ≡ (access road c.args.number).cost = ap (λ (a : Access). a.cost) c.access-access.ensures in
    let pit_is : c.pit.result.now.cost ≡ (pit road (access road c.args.number).pit).cost =
    ap (λ (p : Pit). p.cost) c.pit.ensures ∙ ap (λ (a : Access). (pit road a.pit).cost) c.access-access.ensures in
    let a = c.requires.well_formed.roads c.args.number c.requires.number in
    let p = c.requires.well_formed.pits (access road c.args.number).pit a.pit in
    let total : FitsSigned w64 (c.access-access.result.cost +ℤ c.pit.result.now.cost) = omega (arith, ints, own_is, pit_is, a.cost.at_least, a.cost.at_most, p.cost.at_least, p.cost.at_most) in
    simp to_z-of_z (omega (arith, ints, own_is, pit_is))
