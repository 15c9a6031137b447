-- What `replay ROAD CERT` and `mass ROAD CERT` answer for an accepted road: the status, and the lines of a valid certificate or the line
-- that is due.
--     PrintsLines      what is printed of a valid certificate
--     Reports lines road given end      the end for what the certificate's file gives, where these lines of a valid one are due
--     Replays, Masses      its report, and the mass diagram of its plan
use Rattle.std.specs.Prelude.{◌≡◌, ℕ, Option, Some, None, List}
use Rattle.road_types.specs.declared.road.Road.{Road}
use Rattle.road_types.specs.Faults.{road_fault}
use Rattle.cert_text.specs.CertText.{Certificate}
use Rattle.cert_text.specs.Validity.{IsValidText}
use Rattle.report.specs.Lines.{Line, AreLines}
use Rattle.cert_report.specs.CertReport.{cert_lines, cert_mass_lines}
use Rattle.roadopt_program.specs.declared.status.Status.{Status}
use Rattle.roadopt_program.specs.declared.status.Status.TheVariants.{Done, CertRefused}
use Rattle.roadopt_program.specs.Ends.{End, missing_end}
use Rattle.roadopt_program.specs.CertChecking.{PrintsRefusal}

-- the bytes are the text of a valid certificate, and these lines of it are printed
pub record PrintsLines (lines : Road → Certificate → List Line) (road : Road) (bytes output : List ℕ) : Type 0 where
  pub cert : Certificate
  pub valid : IsValidText road bytes cert
  pub report : AreLines (lines road cert) output

-- the status and the output for the bytes of a certificate's file
abbrev pub OfReported : (Road → Certificate → List Line) → Road → List ℕ → Status → List ℕ → Type 0
OfReported lines road bytes Done output = PrintsLines lines road bytes output
OfReported lines road bytes CertRefused output = PrintsRefusal road bytes output
OfReported lines road bytes _ output = ⊥

-- the end for what the certificate's file gives, of a road without a fault; no file is written
abbrev pub Reports : (Road → Certificate → List Line) → Road → Option (List ℕ) → End → Type 0
Reports lines road None end = end ≡ missing_end
Reports lines road (Some bytes) end = (road_fault road ≡ None) × (OfReported lines road bytes end.status end.output × (end.file ≡ None))

abbrev pub Replays : Road → Option (List ℕ) → End → Type 0
Replays road given end = Reports cert_lines road given end

abbrev pub Masses : Road → Option (List ℕ) → End → Type 0
Masses road given end = Reports cert_mass_lines road given end
