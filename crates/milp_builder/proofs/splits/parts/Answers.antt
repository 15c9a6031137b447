use Rattle.std.specs.Prelude.{Option}
use Rattle.std.specs.Prelude.{IfSome}
use Rattle.std.proofs.Common.{rules, FitsSigned}
use Rattle.std.specs.Int.{w64}
use Rattle.std.proofs.lemmas.Int.{to_z-of_z}
use Rattle.std.proofs.lemmas.Result.{IfOk-weaker}
use Rattle.road_types.proofs.AcceptedRoad.{IsAccepted-from_fault}
use Rattle.milp_builder.specs.declared.boxes.BoxRange.{BoxRange}
use Rattle.milp_builder.specs.declared.boxes.Split.TheVariants.{Removal, Height}
use Rattle.milp_builder.specs.Parts.{AreParts, Covers}
use Rattle.milp_builder.proofs.Cover.{found_parts_cover}
use Rattle.milp_builder.proofs.splits.parts.Goals as goal

pub removal_parts-requires-clause-well_formed : goal.removal_parts-requires-clause-well_formed
removal_parts-requires-clause-well_formed c = (IsAccepted-from_fault c.args.road.now c.requires.accepted).well_formed

pub height_parts-requires-clause-well_formed : goal.height_parts-requires-clause-well_formed
height_parts-requires-clause-well_formed c = (IsAccepted-from_fault c.args.road.now c.requires.accepted).well_formed

pub returns-in-Removal-clause-cover : goal.returns-in-Removal-clause-cover
returns-in-Removal-clause-cover c =
    let road = c.args.road.now in
    let box = c.args.range.now in
    let split = Removal c.in-Removal.block c.in-Removal.stage in
    IfOk-weaker
    c.removal_parts.result
    (λ (found : Option (BoxRange × BoxRange)). AreParts road box split found)
    (λ (found : Option (BoxRange × BoxRange)). IfSome found (λ parts. Covers road box parts.0 parts.1))
    (λ found h. found_parts_cover road box c.requires.fits split found h)
    c.removal_parts.ensures

pub returns-in-Height-clause-cover : goal.returns-in-Height-clause-cover
returns-in-Height-clause-cover c =
    let road = c.args.road.now in
    let box = c.args.range.now in
    let at : FitsSigned w64 c.in-Height.at = search rules in
    let split = Height c.in-Height.section c.in-Height.at in
    IfOk-weaker
    c.height_parts.result
    (λ (found : Option (BoxRange × BoxRange)). AreParts road box split found)
    (λ (found : Option (BoxRange × BoxRange)). IfSome found (λ parts. Covers road box parts.0 parts.1))
    (λ found h. found_parts_cover road box c.requires.fits split found h)
    (simp to_z-of_z at c.height_parts.ensures)
