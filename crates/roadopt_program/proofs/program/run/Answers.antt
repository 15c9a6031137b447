use Rattle.std.proofs.Common.{sym}
use Rattle.roadopt_program.proofs.RunLaws.{answered, refused, missing, lost, files_kept, nothing_found, no_usage, unreadable, as_due, some_not_none}
use Rattle.roadopt_program.proofs.HeadlineLaws.{keeps_solve, keeps_trial, keeps_carry, solve_answers, carry_answers, trial_answers}
use Rattle.roadopt_program.proofs.DueLaws.{one_end}
use Rattle.roadopt_program.proofs.program.run.Goals as goal

pub returns-clause-usage : goal.returns-clause-usage
returns-clause-usage g c = (
  λ h. absurd (no_usage _ _ _ _ _ _ _ _ _ _ _ _ _ (sym c.in-Some.ensures.value) c.carry_out.ensures.outcome h),
  λ none. absurd (some_not_none _ _ (sym c.in-Some.ensures.value) none),
)

pub returns-clause-usage_line : goal.returns-clause-usage_line
returns-clause-usage_line g c = λ h. absurd (no_usage _ _ _ _ _ _ _ _ _ _ _ _ _ (sym c.in-Some.ensures.value) c.carry_out.ensures.outcome h)

pub returns-clause-usage_reads_nothing : goal.returns-clause-usage_reads_nothing
returns-clause-usage_reads_nothing g c = λ h. absurd (no_usage _ _ _ _ _ _ _ _ _ _ _ _ _ (sym c.in-Some.ensures.value) c.carry_out.ensures.outcome h)

pub returns-clause-missing : goal.returns-clause-missing
returns-clause-missing g c = missing _ _ _ _ _ _ _ _ _ _ _ _ _ (sym c.in-Some.ensures.value) c.carry_out.ensures.outcome

pub returns-clause-read_fault : goal.returns-clause-read_fault
returns-clause-read_fault g c = unreadable _ _ _ _ _ _ _ _ _ _ _ _ _ (sym c.in-Some.ensures.value) c.carry_out.ensures.outcome

pub returns-clause-write_fault : goal.returns-clause-write_fault
returns-clause-write_fault g c = lost _ _ _ _ _ _ _ _ _ _ _ _ _ (sym c.in-Some.ensures.value) c.carry_out.ensures.outcome

pub returns-clause-files : goal.returns-clause-files
returns-clause-files g c = files_kept _ _ _ _ _ _ _ _ _ _ _ _ _ (sym c.in-Some.ensures.value) c.carry_out.ensures.outcome

pub returns-clause-nothing_found : goal.returns-clause-nothing_found
returns-clause-nothing_found g c = nothing_found _ _ _ _ _ _ _ _ _ _ _ _ _ (sym c.in-Some.ensures.value) c.carry_out.ensures.outcome

pub returns-clause-answered : goal.returns-clause-answered
returns-clause-answered g c = answered _ _ _ _ _ _ _ _ _ _ _ _ _ (sym c.in-Some.ensures.value) c.carry_out.ensures.outcome

pub returns-clause-refused : goal.returns-clause-refused
returns-clause-refused g c = refused _ _ _ _ _ _ _ _ _ _ _ _ _ (sym c.in-Some.ensures.value) c.carry_out.ensures.outcome

pub returns-clause-solve : goal.returns-clause-solve
returns-clause-solve g c = keeps_solve _ _ _ _ _ _ _ _ (answered _ _ _ _ _ _ _ _ _ _ _ _ _ (sym c.in-Some.ensures.value) c.carry_out.ensures.outcome)

pub returns-clause-trial : goal.returns-clause-trial
returns-clause-trial g c = keeps_trial _ _ _ _ _ _ _ _ (answered _ _ _ _ _ _ _ _ _ _ _ _ _ (sym c.in-Some.ensures.value) c.carry_out.ensures.outcome)

pub returns-clause-carry : goal.returns-clause-carry
returns-clause-carry g c = keeps_carry _ _ _ _ _ _ _ _ (answered _ _ _ _ _ _ _ _ _ _ _ _ _ (sym c.in-Some.ensures.value) c.carry_out.ensures.outcome)

pub returns-clause-carry_answers : goal.returns-clause-carry_answers
returns-clause-carry_answers g c = carry_answers _ _ _ _ _ _ _ _ _ _ _ _ _ (sym c.in-Some.ensures.value) c.carry_out.ensures.outcome

pub returns-clause-as_due : goal.returns-clause-as_due
returns-clause-as_due g c = as_due _ _ _ _ _ _ _ _ _ _ _ _ _ (sym c.in-Some.ensures.value) c.carry_out.ensures.outcome

pub returns-clause-solve_answers : goal.returns-clause-solve_answers
returns-clause-solve_answers g c = solve_answers _ _ _ _ _ _ _ _ _ _ _ _ _ (sym c.in-Some.ensures.value) c.carry_out.ensures.outcome

pub returns-clause-trial_answers : goal.returns-clause-trial_answers
returns-clause-trial_answers g c = trial_answers _ _ _ _ _ _ _ (sym c.in-Some.ensures.value) c.carry_out.ensures.tries

pub returns-clause-one_end : goal.returns-clause-one_end
returns-clause-one_end g c = one_end _ _
