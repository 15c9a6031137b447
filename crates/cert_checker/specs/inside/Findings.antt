-- What one pass over the bytes finds.
use Rattle.std.specs.Prelude.{ℕ, ◌≡◌, ◌+◌, ◌-◌, ⊤, List, [], ◌∷◌, Option, Some, None, Result, Ok, Err}
use Rattle.text_parts.specs.Lines.{TextLine, Reading}
use Rattle.road_types.specs.declared.road.Road.{Road}
use Rattle.plan_text.specs.declared.error.TextErr.{TextErr}
use Rattle.plan_text.specs.declared.error.TextErr.TheVariants.{Bad, NoMemory}
use Rattle.milp_builder.specs.Boxes.{root_box}
use Rattle.cert_tree.specs.Soundness.{has_low}
use Rattle.cert_text.specs.CertText.{Certificate}
use Rattle.cert_text.specs.Misfits.{refused_line}
use Rattle.cert_text.specs.inside.CertReading.{cert_of_text}
use Rattle.numbers.specs.Fractions.{Fraction}
use Rattle.cert_checker.specs.declared.checking.Findings.{Findings}
use Rattle.cert_checker.specs.declared.checking.Tried.{Tried}
use Rattle.cert_checker.specs.declared.checking.Tried.TheVariants.{Everything, Lasting}
use Rattle.cert_checker.specs.Refusals.{refused, stated_text, EndsAtLine, first_of, IsPlanRefusal, IsTreeRefusal, last_refusal}
use Rattle.cert_checker.specs.Carriable.{IsRuleRefusal, IsFirstCarryRefusal}
use Rattle.cert_text.specs.Validity.{stated_cost}
use Rattle.cert_checker.specs.declared.refusal.Refusal.{Refusal}
use Rattle.cert_checker.specs.declared.refusal.Checked.{Checked}
use Rattle.cert_checker.specs.declared.refusal.CheckErr.{CheckErr}
use Rattle.cert_checker.specs.declared.refusal.CheckErr.TheVariants.{Refused, NoMemory as NoRoom}

-- the bound that the low leaves are tried on
abbrev pub bound_tried : Tried → Option Fraction → Option Fraction
bound_tried Everything bound = bound
bound_tried Lasting bound = None

-- a certificate, the line of its bound, and what is first refused in its tree by what is tried
pub record AreFound (road : Road) (bytes : List ℕ) (tried : Tried) (findings : Findings) : Type 0 where
  pub cert : Certificate
  pub read : cert_of_text road bytes ≡ Ok cert
  pub planned_is : findings.heading.planned ≡ cert.planned
  pub bound_is : findings.heading.bound ≡ cert.bound
  pub bound_line : EndsAtLine bytes (stated_text road cert) findings.bound_line
  pub tree : IsTreeRefusal road (bound_tried tried cert.bound) cert.tree (root_box road) (findings.bound_line + 1) findings.walked.found
  pub low_is : findings.walked.has_low ≡ has_low cert.tree

abbrev pub FindsOrLine : Road → List ℕ → Tried → Result Findings TextErr → Type 0
FindsOrLine road bytes tried (Ok findings) = AreFound road bytes tried findings
FindsOrLine road bytes tried (Err (Bad line)) = refused_line road bytes ≡ Some line
FindsOrLine road bytes tried (Err NoMemory) = Unit {0}

-- no line is left, or the number of the first of these
abbrev pub EndsText : Reading → Result ⊤ TextErr → Type 0
EndsText lines (Ok nothing) = lines.left ≡ []
EndsText lines (Err (Bad line)) = (first : TextLine) × (others : List TextLine) × (lines.left ≡ first ∷ others) × (line ≡ lines.number + 1)
EndsText lines (Err NoMemory) = Unit {0}

-- the first refusal of the plan, of the tree, and of whether a bound stands
pub record IsFirstOfFindings (road : Road) (findings : Findings) (found : Option Refusal) : Type 0 where
  pub plan : Option Refusal
  pub is_plan : IsPlanRefusal road (findings.bound_line - 1) findings.heading.planned plan
  pub found_is : found ≡ first_of plan (first_of findings.walked.found (last_refusal findings.heading.bound findings.walked.has_low findings.bound_line))

-- the first refusal of the plan by the rules, of the tree, and of whether a bound stands
pub record IsFirstLasting (road : Road) (findings : Findings) (found : Option Refusal) : Type 0 where
  pub plan : Option Refusal
  pub is_plan : IsRuleRefusal road findings.heading.planned plan
  pub found_is : found ≡ first_of plan (first_of findings.walked.found (last_refusal findings.heading.bound findings.walked.has_low findings.bound_line))

-- nothing lasting is refused in the bytes, or their first refusal is told
abbrev pub TellsLasting : Road → List ℕ → Result ⊤ CheckErr → Type 0
TellsLasting road bytes (Ok nothing) = IsFirstCarryRefusal road bytes None
TellsLasting road bytes (Err (Refused rule line)) = IsFirstCarryRefusal road bytes (refused rule line)
TellsLasting road bytes (Err NoRoom) = Unit {0}

-- a refusal is told, if there is one
abbrev pub TellsRefusal : Option Refusal → Result ⊤ CheckErr → Type 0
TellsRefusal None (Ok nothing) = Unit {0}
TellsRefusal (Some refusal) (Err (Refused rule line)) = (rule ≡ refusal.rule) × (line ≡ refusal.line)
TellsRefusal _ _ = ⊥

-- the answer by the first refusal, or by what is stated
abbrev pub AnswersBy : Findings → Option Refusal → Result Checked CheckErr → Type 0
AnswersBy findings None (Ok checked) = (checked.cost ≡ stated_cost findings.heading.planned) × (checked.bound ≡ findings.heading.bound)
AnswersBy findings (Some refusal) (Err (Refused rule line)) = (rule ≡ refusal.rule) × (line ≡ refusal.line)
AnswersBy findings _ _ = ⊥
