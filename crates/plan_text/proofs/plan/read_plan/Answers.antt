use Rattle.plan_text.proofs.AnswerLaws as law
use Rattle.plan_text.proofs.plan.read_plan.Goals as goal

pub returns-clause-fits : goal.returns-clause-fits
returns-clause-fits c = law.fits _ _ _ _ c.plan.ensures.due

pub returns-clause-found : goal.returns-clause-found
returns-clause-found c = law.found _ _ _ _ c.plan.ensures.due

pub returns-clause-only : goal.returns-clause-only
returns-clause-only c = law.only _ _ _ _ c.plan.ensures.of_source c.plan.ensures.due

pub returns-clause-exact : goal.returns-clause-exact
returns-clause-exact c = law.exact _ _ _ _ c.plan.ensures.of_source c.plan.ensures.due

pub returns-clause-line : goal.returns-clause-line
returns-clause-line c = law.misfit _ _ _ _ c.plan.ensures.due
