-- Certificates whose bound can be carried to other costs: what a valid certificate has but for the costs that it states. The plan is
-- admissible, the splits fit, the leaves prove what they can, and a bound stands exactly where some leaf is low; the stated cost and the
-- stated bound may be any. Here stands why bytes are refused as such a certificate: as for a valid one, but without C4 and C7.
use Rattle.std.specs.Prelude.{ℕ, ◌≡◌, ◌+◌, ◌≤◌, List, length, ◌⊎◌, Option, Some, None, Result, Ok, Err}
use Rattle.road_types.specs.declared.road.Road.{Road}
use Rattle.plan_rules.specs.Rules.{IsAdmissible}
use Rattle.milp_builder.specs.Boxes.{root_box}
use Rattle.cert_tree.specs.Soundness.{has_low}
use Rattle.cert_text.specs.declared.cert.Cert.{Cert}
use Rattle.cert_text.specs.declared.heading.PricedPlan.{PricedPlan}
use Rattle.cert_text.specs.CertText.{Certificate, IsCertText}
use Rattle.cert_text.specs.Certs.{certificate_of, IsTextOf}
use Rattle.cert_text.specs.Validity.{longest_text, IsCarriable}
use Rattle.cert_checker.specs.declared.refusal.CertRule.TheVariants.{C3}
use Rattle.cert_checker.specs.declared.refusal.Refusal.{Refusal}
use Rattle.cert_checker.specs.declared.refusal.CheckErr.{CheckErr}
use Rattle.cert_checker.specs.declared.refusal.CheckErr.TheVariants.{Refused, NoMemory}
use Rattle.cert_checker.specs.Refusals.{refused, first_of, IsTreeRefusal, last_refusal, IsFirstRefusalBy}

-- the refusal of a plan that begins on line 2, or none; its stated cost isn't asked
abbrev pub IsRuleRefusal : Road → Option PricedPlan → Option Refusal → Type 0
IsRuleRefusal road None found = found ≡ None
IsRuleRefusal road (Some priced) found =
    ((¬ IsAdmissible road priced.plan) × (found ≡ refused C3 2)) ⊎ (IsAdmissible road priced.plan × (found ≡ None))

-- the first refusal of a certificate whose bound stands on this line, or none; no low leaf is refused for the stated bound
pub record IsCarryRefusal (road : Road) (cert : Certificate) (line : ℕ) (found : Option Refusal) : Type 0 where
  pub plan : Option Refusal
  pub tree : Option Refusal
  pub is_plan : IsRuleRefusal road cert.planned plan
  pub is_tree : IsTreeRefusal road None cert.tree (root_box road) (line + 1) tree
  pub found_is : found ≡ first_of plan (first_of tree (last_refusal cert.bound (has_low cert.tree) line))

-- the first refusal of the bytes, or none
abbrev pub IsFirstCarryRefusal : Road → List ℕ → Option Refusal → Type 0
IsFirstCarryRefusal road bytes found = IsFirstRefusalBy (IsCarryRefusal road) road bytes found

-- the bytes are the text of this certificate, whose bound can be carried
pub record IsCarriableText (road : Road) (bytes : List ℕ) (cert : Certificate) : Type 0 where
  pub short : length bytes ≤ longest_text
  pub text : IsCertText road bytes cert
  pub carriable : IsCarriable road cert

-- the same of a certificate as it is stored
pub record IsCarriableCert (road : Road) (bytes : List ℕ) (cert : Cert) : Type 0 where
  pub short : length bytes ≤ longest_text
  pub text : IsTextOf road bytes cert
  pub carriable : IsCarriable road (certificate_of cert)

-- an answer gives the certificate whose text the bytes are, where its bound can be carried, or refuses the bytes by their first
-- refusal; after want of memory nothing is said
abbrev pub CarriableAnswers : Road → List ℕ → Result Cert CheckErr → Type 0
CarriableAnswers road bytes (Ok cert) = IsCarriableCert road bytes cert
CarriableAnswers road bytes (Err (Refused rule line)) = IsFirstCarryRefusal road bytes (refused rule line)
CarriableAnswers road bytes (Err NoMemory) = Unit {0}

-- the bytes are the text of no certificate whose bound can be carried
abbrev pub IsNoCarriableText : Road → List ℕ → Type 0
IsNoCarriableText road bytes = (cert : Certificate) → IsCarriableText road bytes cert → ⊥

-- what is refused is the text of no such certificate
abbrev pub RefusesUncarriable : Road → List ℕ → Result Cert CheckErr → Type 0
RefusesUncarriable road bytes (Ok cert) = Unit {0}
RefusesUncarriable road bytes (Err (Refused rule line)) = IsNoCarriableText road bytes
RefusesUncarriable road bytes (Err NoMemory) = Unit {0}

-- the first refusal is one
abbrev pub HasOneCarryRefusal : Road → List ℕ → Type 0
HasOneCarryRefusal road bytes = (a b : Option Refusal) → IsFirstCarryRefusal road bytes a → IsFirstCarryRefusal road bytes b → a ≡ b
