-- What `check ROAD CERT` answers for an accepted road: the status and the line that is due.
--     PrintsValid, PrintsRefusal      what the line says of a valid certificate, and of bytes that are none
--     Checks road given end      the end for what the certificate's file gives
use Rattle.std.specs.Prelude.{◌≡◌, ℕ, Option, Some, None, List}
use Rattle.road_types.specs.declared.road.Road.{Road}
use Rattle.road_types.specs.Faults.{road_fault}
use Rattle.cert_checker.specs.declared.refusal.Checked.{Checked}
use Rattle.cert_checker.specs.declared.refusal.CertRule.{CertRule}
use Rattle.cert_checker.specs.Answered.{IsAnswerOf}
use Rattle.cert_checker.specs.Refusals.{refused, IsFirstRefusal, IsNoValidText}
use Rattle.roadopt_program.specs.declared.status.Status.{Status}
use Rattle.roadopt_program.specs.declared.status.Status.TheVariants.{Done, CertRefused}
use Rattle.roadopt_program.specs.Ends.{End, missing_end}
use Rattle.roadopt_program.specs.Printed.{cert_refused_line, valid_line}

-- the bytes are the text of a valid certificate, and what it states is printed
pub record PrintsValid (road : Road) (bytes line : List ℕ) : Type 0 where
  pub checked : Checked
  pub answer : IsAnswerOf road bytes checked
  pub line_is : line ≡ valid_line checked.cost checked.bound

-- the bytes are the text of no valid certificate, and the first broken rule is printed with its line
pub record PrintsRefusal (road : Road) (bytes line : List ℕ) : Type 0 where
  pub none : IsNoValidText road bytes
  pub rule : CertRule
  pub number : ℕ
  pub first : IsFirstRefusal road bytes (refused rule number)
  pub line_is : line ≡ cert_refused_line rule number

-- the status and the line for the bytes of a certificate's file
abbrev pub OfCertBytes : Road → List ℕ → Status → List ℕ → Type 0
OfCertBytes road bytes Done line = PrintsValid road bytes line
OfCertBytes road bytes CertRefused line = PrintsRefusal road bytes line
OfCertBytes road bytes _ line = ⊥

-- the end for what the certificate's file gives, of a road without a fault, as every accepted road is; no file is written
abbrev pub Checks : Road → Option (List ℕ) → End → Type 0
Checks road None end = end ≡ missing_end
Checks road (Some bytes) end = (road_fault road ≡ None) × (OfCertBytes road bytes end.status end.output × (end.file ≡ None))
