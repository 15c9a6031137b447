-- Reading trees and certificates as they are stored.
use Rattle.std.specs.Prelude.{ℕ, ◌≡◌, ⊤, ◌+◌, List, [], ◌∷◌, Result, Ok, Err, ℤ}
use Rattle.text_parts.specs.Lines.{TextLine, Reading}
use Rattle.plan_text.specs.declared.error.TextErr.{TextErr}
use Rattle.plan_text.specs.declared.error.TextErr.TheVariants.{Bad, NoMemory}
use Rattle.cert_tree.specs.declared.tree.Tree.{Tree}
use Rattle.cert_tree.specs.Trees.{BoxTree, box_tree_of}
use Rattle.cert_text.specs.declared.cert.Cert.{Cert}
use Rattle.cert_text.specs.declared.step.Step.{Step}
use Rattle.cert_text.specs.CertText.{Certificate}
use Rattle.cert_text.specs.Certs.{ArePaired, certificate_of}
use Rattle.cert_text.specs.inside.NodeReading.{root_on}
use Rattle.cert_text.specs.inside.StepReading.{TakesNode}

-- the next node on one of so many levels was read, or the line is told that isn't of the form due
abbrev pub GivesNode : ℕ → ℕ → List ℕ → Reading → Result Step TextErr → Reading → List (ℕ × ℤ) → List (ℕ × ℤ) → List ℕ → Type 0
GivesNode rows level others before (Ok step) after last mults levels =
    TakesNode rows level others before after step last mults levels
GivesNode rows level others before (Err (Bad line)) after last mults levels = root_on rows level before ≡ Err line
GivesNode rows level others before (Err NoMemory) after last mults levels = Unit {0}

-- the tree that was due was read, or the line is told that is refused
abbrev pub GivesTree : Result (BoxTree × Reading) ℕ → Result Tree TextErr → Reading → Type 0
GivesTree due (Ok tree) lines = due ≡ Ok (box_tree_of tree, lines)
GivesTree due (Err (Bad line)) lines = due ≡ Err line
GivesTree due (Err NoMemory) lines = Unit {0}

-- no line is left, or the number of the first of these is told
abbrev pub EndsText : Reading → Result ⊤ TextErr → Type 0
EndsText lines (Ok nothing) = lines.left ≡ []
EndsText lines (Err (Bad line)) = (first : TextLine) × (others : List TextLine) × (lines.left ≡ first ∷ others) × (line ≡ lines.number + 1)
EndsText lines (Err NoMemory) = Unit {0}

-- the certificate that was due was read, or the line is told that is refused
abbrev pub GivesCert : Result Certificate ℕ → Result Cert TextErr → Type 0
GivesCert due (Ok cert) = (due ≡ Ok (certificate_of cert)) × ArePaired cert.plan cert.cost
GivesCert due (Err (Bad line)) = due ≡ Err line
GivesCert due (Err NoMemory) = Unit {0}
