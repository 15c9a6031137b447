-- What is read again of the text of a certificate.
use Rattle.std.specs.Prelude.{◌≡◌, ℕ, None, Result, Ok, Err, List}
use Rattle.road_types.specs.declared.road.Road.{Road}
use Rattle.plan_text.specs.declared.error.TextErr.{TextErr}
use Rattle.plan_text.specs.declared.error.TextErr.TheVariants.{Bad, NoMemory}
use Rattle.cert_text.specs.CertText.{Certificate}
use Rattle.cert_text.specs.declared.heading.Heading.{Heading}
use Rattle.cert_text.specs.Validity.{IsValidText}
use Rattle.cert_report.specs.declared.replaying.Stated.{Stated}
use Rattle.cert_report.specs.CertReport.{open_leaves}

-- this is what a certificate states
pub record IsStatedBy (cert : Certificate) (stated : Stated) : Type 0 where
  pub planned_is : stated.heading.planned ≡ cert.planned
  pub bound_is : stated.heading.bound ≡ cert.bound
  pub leaves_are : stated.leaves ≡ open_leaves cert.tree

-- the same of an answer; after want of memory nothing is said
abbrev pub States : Certificate → Result Stated TextErr → Type 0
States cert (Ok stated) = IsStatedBy cert stated
States cert (Err (Bad line)) = ⊥
States cert (Err NoMemory) = Unit {0}

-- the same of what stands before a certificate's tree
pub record IsHeadingOf (cert : Certificate) (heading : Heading) : Type 0 where
  pub planned_is : heading.planned ≡ cert.planned
  pub bound_is : heading.bound ≡ cert.bound

abbrev pub StatesHeading : Certificate → Result Heading TextErr → Type 0
StatesHeading cert (Ok heading) = IsHeadingOf cert heading
StatesHeading cert (Err (Bad line)) = ⊥
StatesHeading cert (Err NoMemory) = Unit {0}

-- the bytes are the text of a valid certificate, which states a plan beside a bound alone
pub record HasReport (road : Road) (bytes : List ℕ) : Type 0 where
  pub cert : Certificate
  pub valid : IsValidText road bytes cert
  pub bounded : cert.bound ≡ None → cert.planned ≡ None
