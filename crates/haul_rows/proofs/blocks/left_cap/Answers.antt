use Rattle.std.proofs.Common.{sym, ap, ◌∙◌, FitsSigned, rules}
use Rattle.std.specs.Int.{w64}
use Rattle.std.proofs.lemmas.Int.{to_z-of_z}
use Rattle.road_types.specs.Road.{hop_count}
use Rattle.road_types.specs.declared.road.Hop.{Hop}
use Rattle.road_types.proofs.Acceptance.{number_of_test}
use Rattle.road_types.proofs.WeightReaches.{hop-none}
use Rattle.haul_rows.proofs.blocks.left_cap.Goals as goal

pub hop-requires : goal.hop-requires
hop-requires c = number_of_test c.args.number (hop_count c.args.road.now) (sym c.is_hop.ensures ∙ c.if-is_hop.true)

pub returns-then-is_hop-clause-value : goal.returns-then-is_hop-clause-value
returns-then-is_hop-clause-value c =
    let fits : FitsSigned w64 c.hop.result.left_max = search rules in
    simp to_z-of_z (ap (λ (h : Hop). h.left_max) c.hop.ensures)

pub returns-then-is_hop-clause-from : goal.returns-then-is_hop-clause-from
returns-then-is_hop-clause-from c =
    let fits : FitsSigned w64 c.hop.result.left_max = search rules in
    let number = number_of_test c.args.number (hop_count c.args.road.now) (sym c.is_hop.ensures ∙ c.if-is_hop.true) in
    simp to_z-of_z (rw c.hop.ensures (c.requires.well_formed.hops c.args.number number).left_max.at_least)

pub returns-then-is_hop-clause-to : goal.returns-then-is_hop-clause-to
returns-then-is_hop-clause-to c =
    let fits : FitsSigned w64 c.hop.result.left_max = search rules in
    let number = number_of_test c.args.number (hop_count c.args.road.now) (sym c.is_hop.ensures ∙ c.if-is_hop.true) in
    simp to_z-of_z (rw c.hop.ensures (c.requires.well_formed.hops c.args.number number).left_max.at_most)

pub returns-else-is_hop-clause-value : goal.returns-else-is_hop-clause-value
returns-else-is_hop-clause-value c =
    sym (ap (λ (h : Hop). h.left_max) (hop-none c.args.road.now c.args.number (sym c.is_hop.ensures ∙ c.if-is_hop.false)))
