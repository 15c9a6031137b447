-- What is made of a certificate that is carried, or of bytes that are refused, is what is due.
use Rattle.std.specs.Prelude.{ℕ, Option, Some, None, List}
use Rattle.std.proofs.Common.{◌≡◌, sym, ap₂, subst, ◌∙◌}
use Rattle.road_types.specs.declared.road.Road.{Road}
use Rattle.road_types.specs.Faults.{road_fault}
use Rattle.cert_checker.specs.declared.refusal.CertRule.{CertRule}
use Rattle.cert_checker.specs.Carriable.{IsCarriableCert, IsNoCarriableText, IsFirstCarryRefusal}
use Rattle.cert_checker.specs.Refusals.{refused}
use Rattle.cert_text.specs.CertText.{cert_text}
use Rattle.cert_text.specs.Certs.{certificate_of, IsSpelledCert}
use Rattle.cert_text.specs.declared.cert.Cert.{Cert}
use Rattle.carried_bounds.specs.Carried.{IsCarried}
use Rattle.roadopt_program.specs.declared.ending.Ending.{Ending}
use Rattle.roadopt_program.specs.declared.ending.Made.{Made}
use Rattle.roadopt_program.specs.declared.ending.Product.{Product}
use Rattle.roadopt_program.specs.declared.ending.Product.TheVariants.{Carried}
use Rattle.roadopt_program.specs.declared.status.Status.TheVariants.{Done, CertRefused}
use Rattle.roadopt_program.specs.Carrying.{CarriesBytes}
use Rattle.roadopt_program.specs.Ends.{End, said}
use Rattle.roadopt_program.specs.Printed.{carried_line, cert_refused_line}
use Rattle.roadopt_program.specs.inside.Outcomes.{end_of, made_end}

-- an end that writes a text to a file
abbrev pub written_end : List ℕ → List ℕ → List ℕ → End
written_end name line text = record { status = Done; output = line; file = Some (record { name = name; bytes = text }) }

pub carried_made : (road : Road) (bytes : List ℕ) (given cert : Cert) (made : Made) (line text : List ℕ) → road_fault road ≡ None → IsCarriableCert road bytes given
    → IsCarried road (certificate_of given) (certificate_of cert) → IsSpelledCert road cert → text ≡ cert_text road (certificate_of cert) → line ≡ carried_line cert.cost cert.bound
    → made.found ≡ Some (Carried cert) → ((name : List ℕ) → made_end name made ≡ written_end name line text)
    → (name : List ℕ) → CarriesBytes road name bytes made.found (made_end name made)
carried_made road bytes given cert made line text accepted carriable carried spelled text_is line_is found is name =
    subst (λ (f : Option Product). CarriesBytes road name bytes f (made_end name made)) (sym found)
    (record { accepted = accepted; given = given; carriable = carriable; carried = carried; spelled = spelled; end_is = is name ∙ ap₂ (λ l t. written_end name l t) line_is text_is })

pub refused_made : (road : Road) (bytes : List ℕ) (rule : CertRule) (number : ℕ) (ending : Ending) (made : Made) → road_fault road ≡ None → IsNoCarriableText road bytes
    → IsFirstCarryRefusal road bytes (refused rule number) → ending.status ≡ CertRefused → ending.output.items ≡ cert_refused_line rule number
    → made.found ≡ None → ((name : List ℕ) → made_end name made ≡ end_of ending)
    → (name : List ℕ) → CarriesBytes road name bytes made.found (made_end name made)
refused_made road bytes rule number ending made accepted none first status line found is name =
    subst (λ (f : Option Product). CarriesBytes road name bytes f (made_end name made)) (sym found)
    (record { accepted = accepted; none = none; rule = rule; number = number; first = first; end_is = is name ∙ ap₂ said status line })
