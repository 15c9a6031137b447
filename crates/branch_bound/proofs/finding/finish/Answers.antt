use Rattle.std.proofs.Common.{◌≡◌, Option, refl, subst}
use Rattle.numbers.specs.Fractions.{Fraction}
use Rattle.cert_tree.specs.Trees.{box_tree_of}
use Rattle.branch_bound.specs.Noted.{tree_of, notes_of}
use Rattle.branch_bound.specs.inside.Grown.{grown_of, noted_of}
use Rattle.branch_bound.proofs.FoundLaw.{found_is}
use Rattle.branch_bound.proofs.finding.finish.Goals as goal

pub returns-in-Ok : goal.returns-in-Ok
returns-in-Ok c =
    let grown = grown_of c.args.finished.search.work in
    let tree = subst (λ (cost : Option Fraction). box_tree_of c.in-Ok.settled.tree ≡ tree_of (noted_of cost grown)) c.apart-priced.ensures.cost c.in-Ok.ensures.tree in
    let notes = subst (λ (cost : Option Fraction). c.in-Ok.settled.notes ≡ notes_of (noted_of cost grown)) c.apart-priced.ensures.cost c.in-Ok.ensures.notes in
    found_is c.args.road.now c.args.finished _ c.requires.accepted c.requires.finished c.apart-priced.ensures.plan c.apart-priced.ensures.cost
    c.requires.bound tree notes refl
