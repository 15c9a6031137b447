use Rattle.std.proofs.Common.{◌++◌, ◌∷◌, [], Ok, sym, ap, ◌∙◌}
use Rattle.plan_text.specs.inside.LineReading.{numbers_due}
use Rattle.plan_text.proofs.RepeatLemmas.{last_row_is}
use Rattle.plan_text.proofs.read.row.Goals as goal

pub returns-clause-due : goal.returns-clause-due
returns-clause-due c =
    let last = last_row_is _ _ _ c.in_ok-push.ensures.items in
    ap (λ form. numbers_due form c.args.lines.now) (sym c.short_numbers.ensures)
    ∙ c.in_ok-row.ensures.due
    ∙ ap (λ row. Ok (row, c.read.new.lines)) (sym last)

pub returns-clause-more : goal.returns-clause-more
returns-clause-more c =
    let last = last_row_is _ _ _ c.in_ok-push.ensures.items in
    c.in_ok-push.ensures.items ∙ ap (λ row. c.args.table.now.items ++ (row ∷ [])) (sym last)
