use Rattle.plan_text.proofs.AnswerLaws.{are_apart}
use Rattle.plan_text.proofs.write.write_plan.Goals as goal

pub returns-clause-apart : goal.returns-clause-apart
returns-clause-apart c = are_apart c.args.road.now

pub returns-in_err-text-clause-apart : goal.returns-in_err-text-clause-apart
returns-in_err-text-clause-apart c = are_apart c.args.road.now
