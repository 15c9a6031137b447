-- What `carry ROAD CERT NEW` answers for an accepted road: the certificate with its bound carried to this road's costs, and the line that is due.
--     CarriesBy road bytes name cert end      this certificate was carried from the one whose text the bytes are
--     RefusesToCarry road bytes end      the bytes are the text of none whose bound can be carried
--     Carries road name given found end      the end for what the certificate's file gives, beside the certificate that was carried, if any
use Rattle.std.specs.Prelude.{◌≡◌, ℕ, Option, Some, None, List}
use Rattle.road_types.specs.declared.road.Road.{Road}
use Rattle.road_types.specs.Faults.{road_fault}
use Rattle.cert_checker.specs.declared.refusal.CertRule.{CertRule}
use Rattle.cert_checker.specs.Carriable.{IsCarriableCert, IsNoCarriableText, IsFirstCarryRefusal}
use Rattle.cert_checker.specs.Refusals.{refused}
use Rattle.cert_text.specs.CertText.{cert_text}
use Rattle.cert_text.specs.Certs.{certificate_of, IsSpelledCert}
use Rattle.cert_text.specs.declared.cert.Cert.{Cert}
use Rattle.carried_bounds.specs.Carried.{IsCarried}
use Rattle.roadopt_program.specs.declared.ending.Product.{Product}
use Rattle.roadopt_program.specs.declared.ending.Product.TheVariants.{Carried}
use Rattle.roadopt_program.specs.declared.status.Status.TheVariants.{Done, CertRefused}
use Rattle.roadopt_program.specs.Ends.{End, said, missing_end}
use Rattle.roadopt_program.specs.Printed.{carried_line, cert_refused_line}

-- the bytes are the text of a certificate whose bound can be carried, this one was carried from it, and its text is written to the named file
pub record CarriesBy (road : Road) (bytes name : List ℕ) (cert : Cert) (end : End) : Type 0 where
  pub accepted : road_fault road ≡ None
  pub given : Cert
  pub carriable : IsCarriableCert road bytes given
  pub carried : IsCarried road (certificate_of given) (certificate_of cert)
  pub spelled : IsSpelledCert road cert
  pub end_is : end ≡ record { status = Done; output = carried_line cert.cost cert.bound; file = Some (record { name = name; bytes = cert_text road (certificate_of cert) }) }

-- the bytes are the text of no certificate whose bound can be carried, and the first broken rule is printed with its line
pub record RefusesToCarry (road : Road) (bytes : List ℕ) (end : End) : Type 0 where
  pub accepted : road_fault road ≡ None
  pub none : IsNoCarriableText road bytes
  pub rule : CertRule
  pub number : ℕ
  pub first : IsFirstCarryRefusal road bytes (refused rule number)
  pub end_is : end ≡ said CertRefused (cert_refused_line rule number)

abbrev pub CarriesBytes : Road → List ℕ → List ℕ → Option Product → End → Type 0
CarriesBytes road name bytes None end = RefusesToCarry road bytes end
CarriesBytes road name bytes (Some (Carried cert)) end = CarriesBy road bytes name cert end
CarriesBytes road name bytes _ end = ⊥

abbrev pub Carries : Road → List ℕ → Option (List ℕ) → Option Product → End → Type 0
Carries road name None found end = (found ≡ None) × (end ≡ missing_end)
Carries road name (Some bytes) found end = CarriesBytes road name bytes found end
