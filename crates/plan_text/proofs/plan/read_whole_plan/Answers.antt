use Rattle.plan_text.proofs.AnswerLaws.{whole_is_found, whole_only, whole_line}
use Rattle.plan_text.proofs.plan.read_whole_plan.Goals as goal

pub returns-clause-found : goal.returns-clause-found
returns-clause-found c = whole_is_found _ _ _ c.whole_plan.ensures

pub returns-clause-only : goal.returns-clause-only
returns-clause-only c = whole_only _ _ _ c.whole_plan.ensures

pub returns-clause-line : goal.returns-clause-line
returns-clause-line c = whole_line _ _ _ c.whole_plan.ensures
