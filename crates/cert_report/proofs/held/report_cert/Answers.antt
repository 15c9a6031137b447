use Rattle.std.proofs.Common.{IfOk, List, sym, subst}
use Rattle.report.specs.Lines.{Line, Adds}
use Rattle.report.specs.Reports.{IsReportable, plan_found, bound_found}
use Rattle.cert_report.proofs.HeldLemmas.{reportable, bounded, lines_held}
use Rattle.cert_report.proofs.held.report_cert.Goals as goal

pub findings-requires : goal.findings-requires
findings-requires c = bounded c.args.road.now c.args.cert.now c.requires.accepted c.requires.spelled c.requires.valid

pub write_report-requires-clause-reportable : goal.write_report-requires-clause-reportable
write_report-requires-clause-reportable c =
    subst (IsReportable c.args.road.now) (sym c.findings.ensures.plan)
    (reportable c.args.road.now c.args.cert.now.plan c.args.cert.now.cost c.requires.spelled.paired c.requires.spelled.has_text.planned c.requires.valid.planned)

pub returns-clause-adds : goal.returns-clause-adds
returns-clause-adds c =
    let same = lines_held c.args.road.now c.args.cert.now (plan_found c.findings.result) (bound_found c.findings.result) c.open_leaves-leaves.result c.requires.spelled c.findings.ensures.plan c.findings.ensures.bound c.open_leaves-leaves.ensures in
    subst (λ (lines : List Line). IfOk c.write_report.result (λ _. Adds lines c.args.out.now.items c.write_report.new.out.items)) same c.write_report.ensures.report
