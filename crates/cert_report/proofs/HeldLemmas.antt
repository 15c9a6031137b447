-- What a valid certificate in memory states.
use Rattle.std.proofs.Common.{◌≡◌, Option, Some, None, refl, sym, ap, subst, ◌∙◌}
use Rattle.numbers.specs.Fractions.{Fraction}
use Rattle.road_types.specs.declared.road.Road.{Road}
use Rattle.road_types.specs.Faults.{road_fault}
use Rattle.road_types.proofs.AcceptedRoad.{IsAccepted-from_fault}
use Rattle.plan_rules.specs.declared.plan.Plan.{Plan}
use Rattle.cert_tree.specs.Trees.{box_tree_of}
use Rattle.cert_text.specs.declared.cert.Cert.{Cert}
use Rattle.cert_text.specs.CertText.{IsPricedOrNone}
use Rattle.cert_text.specs.Certs.{priced_of, ArePaired, certificate_of, IsSpelledCert}
use Rattle.cert_text.specs.Validity.{IsPlannedRight, IsUnbeaten, IsValid}
use Rattle.cert_text.proofs.ValidLaws.{valid_unbeaten}
use Rattle.report.specs.declared.findings.OpenLeaves.{OpenLeaves}
use Rattle.report.specs.Reports.{report_lines, IsReportable}
use Rattle.cert_report.specs.CertReport.{open_leaves, plan_stated, cert_lines}
use Rattle.cert_report.proofs.StatingLemmas.{no_plan}

-- the plan that is stated is the one that is held
pub plan_held : (plan : Option Plan) (cost : Option Fraction) → ArePaired plan cost → plan_stated (priced_of plan cost) ≡ plan
plan_held None cost h = refl
plan_held (Some plan) (Some cost) h = refl
plan_held (Some plan) None h = absurd h

pub reportable : (road : Road) (plan : Option Plan) (cost : Option Fraction) → ArePaired plan cost → IsPricedOrNone road (priced_of plan cost) → IsPlannedRight road (priced_of plan cost) → IsReportable road plan
reportable road None cost h text right = tt
reportable road (Some plan) (Some cost) h text right = (text.0.fits, right.0)
reportable road (Some plan) None h text right = absurd h

-- a plan is held beside a bound alone
pub bounded : (road : Road) (cert : Cert) → road_fault road ≡ None → IsSpelledCert road cert → IsValid road (certificate_of cert) → cert.bound ≡ None → cert.plan ≡ None
bounded road cert accepted spelled valid none =
    let unbeaten = valid_unbeaten road (IsAccepted-from_fault road accepted) (certificate_of cert) spelled.has_text.bound valid in
    let stated = no_plan road (priced_of cert.plan cert.cost) valid.planned (subst (IsUnbeaten road) none unbeaten) in
    sym (plan_held cert.plan cert.cost spelled.paired) ∙ ap plan_stated stated

-- the lines of what is held are those of the certificate that it states
pub lines_held : (road : Road) (cert : Cert) (plan : Option Plan) (bound : Option Fraction) (leaves : OpenLeaves) → IsSpelledCert road cert → plan ≡ cert.plan → bound ≡ cert.bound
    → leaves ≡ open_leaves (box_tree_of cert.tree) → report_lines road plan bound leaves ≡ cert_lines road (certificate_of cert)
lines_held road cert plan bound leaves spelled p b l =
    ap (λ (q : Option Plan). report_lines road q bound leaves) (p ∙ sym (plan_held cert.plan cert.cost spelled.paired))
    ∙ ap (λ (q : Option Fraction). report_lines road (plan_stated (priced_of cert.plan cert.cost)) q leaves) b
    ∙ ap (λ (q : OpenLeaves). report_lines road (plan_stated (priced_of cert.plan cert.cost)) cert.bound q) l
