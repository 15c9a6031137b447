-- The report of a certificate: of what it states and of the leaves of its tree that were left open, by cause; and the mass diagram of the
-- plan that it states. And what replaying the bytes of a certificate gives, and asking for its mass diagram.
use Rattle.std.specs.Prelude.{◌≡◌, ℕ, ◌+◌, ⊤, Option, Some, None, Result, Ok, Err, List}
use Rattle.road_types.specs.declared.road.Road.{Road}
use Rattle.plan_rules.specs.declared.plan.Plan.{Plan}
use Rattle.cert_tree.specs.declared.tree.Why.{Why}
use Rattle.cert_tree.specs.declared.tree.Why.TheVariants.{Nodes, Pivots, Width}
use Rattle.cert_tree.specs.Trees.{BoxTree, low, dead, fork}
use Rattle.cert_text.specs.declared.heading.PricedPlan.{PricedPlan}
use Rattle.cert_text.specs.CertText.{Certificate}
use Rattle.cert_text.specs.Validity.{IsValidText}
use Rattle.cert_checker.specs.Refusals.{refused, IsFirstRefusal, IsNoValidText}
use Rattle.cert_checker.specs.declared.refusal.CertRule.{CertRule}
use Rattle.cert_checker.specs.declared.refusal.CheckErr.{CheckErr}
use Rattle.cert_checker.specs.declared.refusal.CheckErr.TheVariants.{Refused, NoMemory}
use Rattle.report.specs.declared.findings.OpenLeaves.{OpenLeaves}
use Rattle.report.specs.Lines.{Line, Adds}
use Rattle.report.specs.Mass.{mass_lines}
use Rattle.report.specs.Reports.{report_lines}

-- 1 where a leaf was left open for the cause, else 0

abbrev pub for_nodes : Option Why → ℕ
for_nodes (Some Nodes) = 1
for_nodes _ = 0

abbrev pub for_pivots : Option Why → ℕ
for_pivots (Some Pivots) = 1
for_pivots _ = 0

abbrev pub for_width : Option Why → ℕ
for_width (Some Width) = 1
for_width _ = 0

-- the sum over the low leaves of a tree
abbrev pub leaf_sum : (Option Why → ℕ) → BoxTree → ℕ
leaf_sum count (low scale mults cause) = count cause
leaf_sum count (dead mults) = 0
leaf_sum count (fork split first second) = leaf_sum count first + leaf_sum count second

-- the leaves of a tree that were left open
abbrev pub open_leaves : BoxTree → OpenLeaves
open_leaves tree = record { nodes = leaf_sum for_nodes tree; pivots = leaf_sum for_pivots tree; width = leaf_sum for_width tree }

-- the plan that is stated with a cost
abbrev pub plan_stated : Option PricedPlan → Option Plan
plan_stated None = None
plan_stated (Some priced) = Some priced.plan

-- the report of a certificate
abbrev pub cert_lines : Road → Certificate → List Line
cert_lines road cert = report_lines road (plan_stated cert.planned) cert.bound (open_leaves cert.tree)

-- the mass diagram of a certificate's plan
abbrev pub cert_mass_lines : Road → Certificate → List Line
cert_mass_lines road cert = mass_lines road (plan_stated cert.planned) cert.bound

-- the bytes are the text of a valid certificate, and these lines of it were added
pub record AddsLines (lines : Road → Certificate → List Line) (road : Road) (bytes before after : List ℕ) : Type 0 where
  pub cert : Certificate
  pub valid : IsValidText road bytes cert
  pub adds : Adds (lines road cert) before after

-- its report
abbrev pub AddsReport : Road → List ℕ → List ℕ → List ℕ → Type 0
AddsReport road bytes before after = AddsLines cert_lines road bytes before after

-- its mass diagram
abbrev pub AddsMass : Road → List ℕ → List ℕ → List ℕ → Type 0
AddsMass road bytes before after = AddsLines cert_mass_lines road bytes before after

-- the bytes are the text of no valid certificate, this is first refused, and nothing was added
pub record IsCertRefused (road : Road) (bytes : List ℕ) (rule : CertRule) (line : ℕ) (before after : List ℕ) : Type 0 where
  pub none : IsNoValidText road bytes
  pub first : IsFirstRefusal road bytes (refused rule line)
  pub kept : after ≡ before

-- the lines were added, or the bytes are refused; after want of memory nothing was added
abbrev pub AnswersWith : (Road → Certificate → List Line) → Road → List ℕ → List ℕ → Result ⊤ CheckErr → List ℕ → Type 0
AnswersWith lines road bytes before (Ok nothing) after = AddsLines lines road bytes before after
AnswersWith lines road bytes before (Err (Refused rule line)) after = IsCertRefused road bytes rule line before after
AnswersWith lines road bytes before (Err NoMemory) after = after ≡ before

abbrev pub AnswersReplay : Road → List ℕ → List ℕ → Result ⊤ CheckErr → List ℕ → Type 0
AnswersReplay road bytes before answer after = AnswersWith cert_lines road bytes before answer after

abbrev pub AnswersMass : Road → List ℕ → List ℕ → Result ⊤ CheckErr → List ℕ → Type 0
AnswersMass road bytes before answer after = AnswersWith cert_mass_lines road bytes before answer after
