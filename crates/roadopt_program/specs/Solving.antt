-- What `solve ROAD CERT` answers for an accepted road: the status, the report and the certificate that are due for what the search found.
--     HasStatus      `Done` exactly where cost and bound are one, or neither stands; else `Gap`
--     Solves road name found end      the end for what was found; without a search there is none
use Rattle.std.specs.Prelude.{◌≡◌, ◌≢◌, ℕ, Option, Some, None, List}
use Rattle.numbers.specs.Fractions.{Fraction}
use Rattle.road_types.specs.declared.road.Road.{Road}
use Rattle.road_types.specs.Faults.{road_fault}
use Rattle.cert_text.specs.CertText.{cert_text}
use Rattle.cert_text.specs.Certs.{certificate_of}
use Rattle.report.specs.Lines.{AreLines}
use Rattle.cert_report.specs.CertReport.{cert_lines}
use Rattle.branch_bound.specs.Found.{IsFound}
use Rattle.branch_bound.specs.declared.finding.Found.{Found}
use Rattle.roadopt_program.specs.declared.ending.Product.{Product}
use Rattle.roadopt_program.specs.declared.ending.Product.TheVariants.{Searched}
use Rattle.roadopt_program.specs.declared.status.Status.{Status}
use Rattle.roadopt_program.specs.declared.status.Status.TheVariants.{Done, Gap}
use Rattle.roadopt_program.specs.Ends.{End}

-- the end of a search by its cost and bound: they are one, or neither stands; or they differ
abbrev pub HasStatus : Status → Option Fraction → Option Fraction → Type 0
HasStatus Done cost bound = cost ≡ bound
HasStatus Gap cost bound = cost ≢ bound
HasStatus _ cost bound = ⊥

-- a search of the road found this; its certificate is written to the named file, and the report of that certificate is printed
pub record SolvesBy (road : Road) (name : List ℕ) (found : Found) (end : End) : Type 0 where
  pub accepted : road_fault road ≡ None
  pub is_found : IsFound road found
  pub status : HasStatus end.status found.cert.cost found.cert.bound
  pub report : AreLines (cert_lines road (certificate_of found.cert)) end.output
  pub file : end.file ≡ Some (record { name = name; bytes = cert_text road (certificate_of found.cert) })

-- the end of a search of a road without a fault, as every accepted road is
abbrev pub Solves : Road → List ℕ → Option Product → End → Type 0
Solves road name (Some (Searched found)) end = SolvesBy road name found end
Solves road name _ end = ⊥
