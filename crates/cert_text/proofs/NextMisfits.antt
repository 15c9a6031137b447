-- A reader of nodes stops at the first line that isn't of the form due, whatever is due behind its trees.
use Rattle.std.proofs.Common.{◌≡◌, ℕ, ℤ, Some, Result, Ok, Err, IfErr, List, [], ◌∷◌}
use Rattle.std.proofs.lemmas.Result.{MatchResult-at_err}
use Rattle.text_parts.specs.Lines.{Reading}
use Rattle.cert_text.specs.declared.step.Step.{Step}
use Rattle.cert_text.specs.Misfits.{Misfit, tree_or, trees_or, IsMisfitOfTrees}
use Rattle.cert_text.specs.inside.NodeReading.{root_on}
use Rattle.cert_text.specs.inside.StepReading.{Steps}
use Rattle.cert_text.proofs.MisfitLaws.{tree_skips}
use Rattle.cert_text.proofs.ReadLaws.{tree_bad}

tree_misfit : (rows level line : ℕ) (before : Reading) (behind : Misfit) → root_on rows level before ≡ Err line → tree_or rows level behind before.number before.left ≡ Some line
tree_misfit rows level line before behind e =
    MatchResult-at_err _ _ line (tree_bad rows level line before e) ((tree_skips rows level).skips before behind)

pub line_refused : (rows : ℕ) (levels : List ℕ) (before after : Reading) (result : Result Step ℕ) (last mults : List (ℕ × ℤ)) (left : List ℕ) → Steps rows levels before result after last mults left → IfErr result (λ line. IsMisfitOfTrees rows levels before line)
line_refused rows levels before after (Ok step) last mults left h = tt
line_refused rows [] before after (Err line) last mults left h = absurd h
line_refused rows (level ∷ others) before after (Err line) last mults left h =
    λ behind. tree_misfit rows level line before (trees_or rows others behind) h
