use Rattle.std.proofs.Common.{◌≡◌, ◌++◌, suc, ap, ◌∙◌, append_assoc}
use Rattle.plan_text.specs.PlanText.{stage_text, tables_of}
use Rattle.plan_text.proofs.WriteLemmas.{stages_more}
use Rattle.plan_text.proofs.write.push_stages.Goals as goal

pub loop-t-preserved : goal.loop-t-preserved
loop-t-preserved c =
    let pushed : c.push_row-in-loop-t-4.new.text.items ≡ c.loop-t.text.items ++ stage_text (tables_of c.args.plan.now) (suc c.loop-t.t) =
    rw (c.in_ok-push_row-5.ensures, c.in_ok-push_row-4.ensures, c.in_ok-push_row-3.ensures, c.in_ok-push_row-2.ensures, c.in_ok-push_row.ensures) (simp append_assoc) in
    pushed ∙ ap (λ t. t ++ stage_text (tables_of c.args.plan.now) (suc c.loop-t.t)) c.loop-t.invariant ∙ stages_more c.args.text.now.items (tables_of c.args.plan.now) c.loop-t.t
