use Rattle.std.proofs.Common.{◌==◌, ap, ◌∙◌, length, List, ℕ}
use Rattle.std.proofs.lemmas.List.Splits.{length-slice_split}
use Rattle.text_parts.specs.Words.{space}
use Rattle.text_parts.proofs.line.Line.words.Goals as goal

pub returns-clause-count : goal.returns-clause-count
returns-clause-count c =
    let counted = ap (λ (ws : List (List ℕ)). length ws) c.over.ensures ∙ length-slice_split (λ b. b == space) c.self.inside.bytes.now in
    rw (← c.self.view_is) counted
