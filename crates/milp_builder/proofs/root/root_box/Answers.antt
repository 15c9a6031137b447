use Rattle.std.specs.Prelude.{◌≡◌}
use Rattle.std.proofs.Common.{sym, subst}
use Rattle.std.proofs.lemmas.Result.{IfOk-weaker}
use Rattle.road_types.proofs.AcceptedRoad.{IsAccepted-from_fault}
use Rattle.plan_rules.specs.declared.plan.Plan.{Plan}
use Rattle.plan_rules.specs.Rules.{IsAdmissible}
use Rattle.milp_builder.specs.Boxes.{root_box, IsBoxOf, IsInside}
use Rattle.milp_builder.proofs.RootBox.{root_box_fits, root_box_covers}
use Rattle.milp_builder.specs.declared.boxes.BoxRange.{BoxRange}
use Rattle.milp_builder.proofs.root.root_box.Goals as goal

pub whole_box-requires : goal.whole_box-requires
whole_box-requires c = (IsAccepted-from_fault c.args.road.now c.requires).well_formed

pub returns-clause-fits : goal.returns-clause-fits
returns-clause-fits c =
    let road = c.args.road.now in
    IfOk-weaker
    c.whole_box.result
    (λ (r : BoxRange). r ≡ root_box road)
    (λ (r : BoxRange). IsBoxOf road r)
    (λ r e. subst (λ (b : BoxRange). IsBoxOf road b) (sym e) (root_box_fits road (IsAccepted-from_fault road c.requires).well_formed))
    c.whole_box.ensures

pub returns-clause-covers : goal.returns-clause-covers
returns-clause-covers c =
    let road = c.args.road.now in
    IfOk-weaker
    c.whole_box.result
    (λ (r : BoxRange). r ≡ root_box road)
    (λ (r : BoxRange). (plan : Plan) → IsAdmissible road plan → IsInside road plan r)
    (λ r e plan h. subst (λ (b : BoxRange). IsInside road plan b) (sym e) (root_box_covers road plan h))
    c.whole_box.ensures
