-- A certificate as it is stored: what it states, and which ones have a text.
use Rattle.std.specs.Prelude.{ℕ, ◌≡◌, List, Option, Some, None}
use Rattle.numbers.specs.Fractions.{Fraction}
use Rattle.road_types.specs.declared.road.Road.{Road}
use Rattle.plan_rules.specs.declared.plan.Plan.{Plan}
use Rattle.cert_tree.specs.Trees.{box_tree_of}
use Rattle.cert_text.specs.declared.cert.Cert.{Cert}
use Rattle.cert_text.specs.declared.heading.PricedPlan.{PricedPlan}
use Rattle.cert_text.specs.CertText.{Certificate, HasCertText, cert_text}

-- a plan at its cost, where both are stated
abbrev pub priced_of : Option Plan → Option Fraction → Option PricedPlan
priced_of (Some plan) (Some cost) = Some (record { plan = plan; cost = cost })
priced_of (Some plan) None = None
priced_of None cost = None

-- a cost is stated exactly where a plan is
abbrev pub ArePaired : Option Plan → Option Fraction → Type 0
ArePaired (Some plan) (Some cost) = Unit {0}
ArePaired (Some plan) None = ⊥
ArePaired None (Some cost) = ⊥
ArePaired None None = Unit {0}

-- what a certificate states
abbrev pub certificate_of : Cert → Certificate
certificate_of cert =
    record { planned = priced_of cert.plan cert.cost; bound = cert.bound; tree = box_tree_of cert.tree }

-- a certificate that has a text for the road
pub record IsSpelledCert (road : Road) (cert : Cert) : Type 0 where
  pub paired : ArePaired cert.plan cert.cost
  pub has_text : HasCertText road (certificate_of cert)

-- the bytes are the text of this certificate for the road
pub record IsTextOf (road : Road) (bytes : List ℕ) (cert : Cert) : Type 0 where
  pub spelled : IsSpelledCert road cert
  pub is_text : bytes ≡ cert_text road (certificate_of cert)
