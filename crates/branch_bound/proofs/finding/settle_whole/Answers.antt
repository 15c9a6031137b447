use Rattle.std.proofs.Common.{◌≡◌, ◌++◌, List, subst, ◌∙◌}
use Rattle.branch_bound.specs.Noted.{notes_of}
use Rattle.branch_bound.specs.inside.Grown.{grown_of, noted_of}
use Rattle.branch_bound.specs.declared.notes.NodeNote.{NodeNote}
use Rattle.branch_bound.proofs.finding.settle_whole.Goals as goal

pub returns-clause-notes : goal.returns-clause-notes
returns-clause-notes c =
    let behind : c.new.result ≡ c.new-notes.result.items ++ notes_of (noted_of c.args.cost.now (grown_of c.args.work)) = c.new.ensures ∙ c.in_ok-tree.ensures.notes in
    subst (λ (before : List NodeNote). c.new.result ≡ before ++ notes_of (noted_of c.args.cost.now (grown_of c.args.work))) c.new-notes.ensures.items behind
