use Rattle.std.proofs.Common.{rules, refl, FitsSigned}
use Rattle.std.specs.Int.{w128}
use Rattle.std.proofs.lemmas.Int.{to_z-of_z}
use Rattle.plan_rules.proofs.rules.volumes.has_its_volume.Goals as goal

pub net_volume-requires-clause-cut : goal.net_volume-requires-clause-cut
net_volume-requires-clause-cut c = rw c.section-section.ensures (c.requires.well_formed.sections c.args.number c.requires.number).cut

pub net_volume-requires-clause-fill : goal.net_volume-requires-clause-fill
net_volume-requires-clause-fill c = rw c.section-section.ensures (c.requires.well_formed.sections c.args.number c.requires.number).fill

pub returns-then-lies_in_slabs : goal.returns-then-lies_in_slabs
returns-then-lies_in_slabs c =
    let den : FitsSigned w128 c.args.plan.now.den = search rules in
    let offset : FitsSigned w128 c.offset_at-offset.result = search rules in
    let moved : FitsSigned w128 c.moved_volume.result = search rules in
    let net : FitsSigned w128 c.net_volume.result = search rules in
    let at = c.offset_at-offset.ensures.value in
    let inside = rw (at, c.section-section.ensures) at (simp to_z-of_z at c.if-lies_in_slabs.ensures.value) in
    let volume = rw (c.moved_volume.ensures, simp to_z-of_z at c.net_volume.ensures, at, c.section-section.ensures) at (simp to_z-of_z at c.same.ensures) in
    (λ t. record { range = inside.0 refl; volume = volume.0 t }, λ h. volume.1 h.volume)

pub returns-else-lies_in_slabs : goal.returns-else-lies_in_slabs
returns-else-lies_in_slabs c =
    let den : FitsSigned w128 c.args.plan.now.den = search rules in
    let offset : FitsSigned w128 c.offset_at-offset.result = search rules in
    let at = c.offset_at-offset.ensures.value in
    let inside = rw (at, c.section-section.ensures) at (simp to_z-of_z at c.if-lies_in_slabs.ensures.value) in
    (λ t. absurd (cc), λ h. inside.1 h.range)

pub lies_in_slabs-requires-clause-cut : goal.lies_in_slabs-requires-clause-cut
lies_in_slabs-requires-clause-cut c = rw c.section-section.ensures (c.requires.well_formed.sections c.args.number c.requires.number).cut

pub lies_in_slabs-requires-clause-fill : goal.lies_in_slabs-requires-clause-fill
lies_in_slabs-requires-clause-fill c = rw c.section-section.ensures (c.requires.well_formed.sections c.args.number c.requires.number).fill

pub net_volume-requires-clause-offset : goal.net_volume-requires-clause-offset
net_volume-requires-clause-offset c =
    let offset : FitsSigned w128 c.offset_at-offset.result = search rules in
    simp to_z-of_z ((simp to_z-of_z at c.if-lies_in_slabs.ensures.width) refl)

pub lies_in_slabs-requires-clause-den : goal.lies_in_slabs-requires-clause-den
lies_in_slabs-requires-clause-den c =
    let den : FitsSigned w128 c.args.plan.now.den = search rules in
    simp to_z-of_z c.requires.fits.den

pub net_volume-requires-clause-den : goal.net_volume-requires-clause-den
net_volume-requires-clause-den c =
    let den : FitsSigned w128 c.args.plan.now.den = search rules in
    simp to_z-of_z c.requires.fits.den
